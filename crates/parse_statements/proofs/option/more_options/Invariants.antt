use Rattle.std.proofs.Common.{◌≡◌, ◌-◌, ◌∷◌, ◌++◌, ◌&&◌, [], true, false, not, length}
use Rattle.parse_laws.specs.Parser.{repeat, row_turn, and_then, pure, expect, has}
use Rattle.grammar_rules.specs.Words.{is_comma}
use Rattle.parse_statements.specs.Options.{more_options, par_item, takes_option}
use Rattle.parse_statements.proofs.option.more_options.Given as goal

abbrev pub invariant-turn : goal.invariant-turn
invariant-turn l =
    more_options l.fn.first l.fn.cursor
    ≡ repeat (λ p t. takes_option p && is_comma t) (λ p ts. and_then (expect is_comma ts) (λ _. par_item p)) (l._turn-end - l._turn) l.options l.cursor
