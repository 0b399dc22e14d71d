use Rattle.std.proofs.Common.{[], ◌∷◌, arith}
use Rattle.indent_lexer.specs.declared.token.TokenKind.TheVariants.{Indent}
use Rattle.indent_lexer.proofs.States.{indent_is}
use Rattle.indent_lexer.proofs.marks.indent.Goals as goal

pub returns-then-innermost-spaces-clause-ok : goal.returns-then-innermost-spaces-clause-ok
returns-then-innermost-spaces-clause-ok c =
    (Indent ∷ [], indent_is c.args.spaces c.args.columns.now c.push.new.self c.args.at (let a = c.innermost.ensures in let b = c.if-innermost-spaces.true in omega arith) c.in_ok-push.ensures, c.in_ok-push_mark.ensures)
