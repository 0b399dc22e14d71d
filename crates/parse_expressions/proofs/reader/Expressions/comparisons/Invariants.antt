use Rattle.std.proofs.Common.{◌≡◌, ◌-◌, ◌∷◌, ◌++◌, []}
use Rattle.parse_laws.specs.Parser.{repeat, within, pure, ◌>>=◌}
use Rattle.parse_expressions.specs.Reading.{read, several, compares, comparison, fits_more}
use Rattle.parse_expressions.proofs.reader.Expressions.comparisons.Given as goal

abbrev pub invariant-turn : goal.invariant-turn
invariant-turn g l =
    several l.self.room (read l.self.room) compares (comparison l.self.room (read l.self.room)) l.fn.first l.fn.cursor
    ≡ repeat (λ _. compares) (λ v. within (fits_more l.self.room (read l.self.room) v) (comparison l.self.room (read l.self.room) >>= λ y. pure (v.0, v.1 ++ y ∷ []))) (l._turn-end - l._turn) l.beside l.cursor
