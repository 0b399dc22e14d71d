use Rattle.std.proofs.Common.{◌≡◌, ◌-◌}
use Rattle.parse_laws.specs.Parser.{repeat}
use Rattle.parse_expressions.specs.Reading.{read, trailers, trailer, is_trailer}
use Rattle.parse_expressions.proofs.reader.Expressions.trailers.Given as goal

abbrev pub invariant-turn : goal.invariant-turn
invariant-turn g l = trailers l.self.room (read l.self.room) l.fn.first l.fn.cursor ≡ repeat (λ _. is_trailer) (trailer l.self.room (read l.self.room)) (l._turn-end - l._turn) l.tree l.cursor
