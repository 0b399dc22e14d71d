use Rattle.std.proofs.Common.{◌≡◌, ◌-◌, ◌&&◌, not, length}
use Rattle.parse_laws.specs.Parser.{repeat, and_then, expect}
use Rattle.grammar_rules.specs.Words.{is_comma}
use Rattle.parse_statements.specs.Code.{readers}
use Rattle.parse_statements.specs.Prints.{more_printed, print_item, is_whole}
use Rattle.parse_statements.proofs.print.more_printed.Given as goal

abbrev pub invariant-turn : goal.invariant-turn
invariant-turn l =
    more_printed readers l.room l.fn.first l.fn.cursor
    ≡ repeat (λ q t. not (is_whole q.options) && is_comma t) (λ q ts. and_then (expect is_comma ts) (λ _. print_item readers l.room q)) (l._turn-end - l._turn) l.printed l.cursor
