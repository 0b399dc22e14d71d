use Rattle.std.proofs.Common.{arith}
use Rattle.std.proofs.lemmas.Grind.{common_steps}
use Rattle.std.proofs.lemmas.Int.{to_z-of_z}
use Rattle.plain_interpreter.proofs.cursor.next.Goals as goal

pub returns-in-Number : goal.returns-in-Number
returns-in-Number c = grind (arith, common_steps, to_z-of_z, c.number_next.ensures)
