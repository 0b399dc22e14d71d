use Rattle.std.proofs.Common.{sym, subst}
use Rattle.parse_blocks.specs.Answers.{HoldsEnd}
use Rattle.tree_parser.proofs.Parsed.{more_hold_end}
use Rattle.tree_parser.proofs.tests.once.parsed_with_more.Goals as goal

pub parse-requires-clause-holds_end : goal.parse-requires-clause-holds_end
parse-requires-clause-holds_end c =
    subst HoldsEnd (sym c.in-Ok-append.ensures) (more_hold_end c.as_bytes.result.now c.in-Ok.tokens c.in-Ok-lex.more c.in-Ok.ensures.tokens)
