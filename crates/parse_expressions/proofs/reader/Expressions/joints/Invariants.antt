use Rattle.std.proofs.Common.{◌≡◌, ◌-◌, ◌∷◌, ◌++◌, []}
use Rattle.parse_laws.specs.Parser.{repeat, within, pure, ◌>>=◌}
use Rattle.grammar_rules.specs.Levels.{word_of}
use Rattle.grammar_rules.specs.Words.{is_keyword}
use Rattle.parse_expressions.specs.Reading.{read, several, joint_after, fits_more}
use Rattle.parse_expressions.proofs.reader.Expressions.joints.Given as goal

abbrev pub invariant-turn : goal.invariant-turn
invariant-turn g l =
    several l.self.room (read l.self.room) (is_keyword (word_of l.junction)) (joint_after l.self.room (read l.self.room) l.junction) l.fn.first l.fn.cursor
    ≡ repeat (λ _. is_keyword (word_of l.junction)) (λ v. within (fits_more l.self.room (read l.self.room) v) (joint_after l.self.room (read l.self.room) l.junction >>= λ y. pure (v.0, v.1 ++ y ∷ []))) (l._turn-end - l._turn) l.beside l.cursor
