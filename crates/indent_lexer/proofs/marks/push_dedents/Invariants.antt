use Rattle.std.proofs.Common.{◌≡◌, ◌++◌, replicate}
use Rattle.indent_lexer.specs.declared.token.TokenKind.TheVariants.{Dedent}
use Rattle.indent_lexer.specs.Tokens.{marks}
use Rattle.indent_lexer.proofs.marks.push_dedents.Given as goal

abbrev pub invariant-dedents : goal.invariant-dedents
invariant-dedents l = l.tokens ≡ l.fn.tokens ++ marks l.at (replicate l.n Dedent)
