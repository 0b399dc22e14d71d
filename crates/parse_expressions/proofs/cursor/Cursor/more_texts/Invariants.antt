use Rattle.std.proofs.Common.{◌≡◌, ◌-◌, ◌++◌}
use Rattle.parse_laws.specs.Parser.{repeat, take_by, pure, ◌>>=◌}
use Rattle.grammar_rules.specs.Words.{text_of}
use Rattle.parse_expressions.specs.Reading.{more_texts, is_text}
use Rattle.parse_expressions.proofs.cursor.Cursor.more_texts.Given as goal

abbrev pub invariant-turn : goal.invariant-turn
invariant-turn l = more_texts l.fn.first l.fn.self ≡ repeat (λ _. is_text) (λ w. take_by text_of >>= λ value. pure (w ++ value)) (l._turn-end - l._turn) l.text l.self
