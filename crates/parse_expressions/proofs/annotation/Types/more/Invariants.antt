use Rattle.std.proofs.Common.{◌≡◌, ◌-◌}
use Rattle.parse_laws.specs.Parser.{repeat}
use Rattle.parse_expressions.specs.TypeReading.{read_type, types_after, more_types, one_more_type}
use Rattle.parse_expressions.proofs.annotation.Types.more.Given as goal

abbrev pub invariant-turn : goal.invariant-turn
invariant-turn g l =
    types_after l.self.room (read_type l.self.room) l.fn.first l.fn.cursor
    ≡ repeat more_types (one_more_type l.self.room (read_type l.self.room)) (l._turn-end - l._turn) l.types l.cursor
