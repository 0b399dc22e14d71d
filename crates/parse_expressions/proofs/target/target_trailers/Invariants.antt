use Rattle.std.proofs.Common.{◌≡◌, ◌-◌}
use Rattle.parse_laws.specs.Parser.{repeat}
use Rattle.parse_expressions.specs.Reading.{is_trailer}
use Rattle.parse_expressions.specs.TargetReading.{target_trailers, target_trailer}
use Rattle.parse_expressions.proofs.target.target_trailers.Given as goal

abbrev pub invariant-turn : goal.invariant-turn
invariant-turn l = target_trailers l.room l.fn.first l.fn.cursor ≡ repeat (λ _. is_trailer) (target_trailer l.room) (l._turn-end - l._turn) l.tree l.cursor
