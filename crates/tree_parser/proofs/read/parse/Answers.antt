use Rattle.tree_parser.proofs.Parsed.{numbered_is_tree}
use Rattle.tree_parser.proofs.read.parse.Goals as goal

pub returns-in-Ok-number_nodes-clause-tree : goal.returns-in-Ok-number_nodes-clause-tree
returns-in-Ok-number_nodes-clause-tree c =
    let read = rw c.as_slice.ensures at c.in-Ok.ensures.tree in
    let numbered = c.in-Ok-number_nodes in
    numbered_is_tree c.args.tokens.now c.in-Ok.bare numbered.module read numbered.ensures.bare numbered.ensures.numbered
