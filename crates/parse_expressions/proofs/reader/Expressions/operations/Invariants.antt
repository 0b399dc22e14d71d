use Rattle.std.proofs.Common.{◌≡◌, ◌-◌}
use Rattle.parse_laws.specs.Parser.{repeat, has, turn}
use Rattle.grammar_rules.specs.Levels.{operators}
use Rattle.grammar_rules.specs.Words.{look_up}
use Rattle.parse_expressions.specs.declared.form.Form.TheVariants.{Operand}
use Rattle.parse_expressions.specs.Reading.{read, operations, operation, fits}
use Rattle.parse_expressions.proofs.reader.Expressions.operations.Given as goal

abbrev pub invariant-turn : goal.invariant-turn
invariant-turn g l =
    operations l.self.room (read l.self.room) l.rank l.fn.first l.fn.cursor
    ≡ repeat (λ _. has (look_up (operators l.rank))) (turn (λ _. look_up (operators l.rank)) (fits l.self.room (read l.self.room)) operation (λ _. read l.self.room (Operand l.rank))) (l._turn-end - l._turn) l.tree l.cursor
