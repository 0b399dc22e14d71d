use Rattle.std.proofs.Common.{◌≡◌, ◌-◌, ◌∷◌, ◌++◌, []}
use Rattle.parse_laws.specs.Parser.{repeat, row_turn}
use Rattle.parse_laws.specs.Loops.{rest_of, row_test, starts_in}
use Rattle.grammar_rules.specs.Words.{is_comma}
use Rattle.parse_expressions.specs.declared.form.Form.TheVariants.{Whole}
use Rattle.parse_expressions.specs.Forms.{begins}
use Rattle.parse_expressions.specs.Reading.{limit_of, read}
use Rattle.parse_expressions.proofs.reader.Expressions.rest.Given as goal

abbrev pub invariant-turn : goal.invariant-turn
invariant-turn g l =
    rest_of is_comma (begins 3) (limit_of l.limited) (read l.self.room Whole) l.fn.first l.fn.cursor
    ≡ repeat (row_test is_comma (starts_in (limit_of l.limited) (begins 3))) (row_turn is_comma (λ _. read l.self.room Whole) (λ v y. v ++ y ∷ [])) (l._turn-end - l._turn) l.row l.cursor
