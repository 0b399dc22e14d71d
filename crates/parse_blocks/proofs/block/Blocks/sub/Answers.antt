use Rattle.std.proofs.Common.{◌≤◌, ◌-◌, subst, arith}
use Rattle.parse_expressions.specs.Code.{Reads}
use Rattle.parse_statements.specs.Code.{readers}
use Rattle.parse_blocks.specs.Blocks.{statement}
use Rattle.parse_blocks.proofs.block.Blocks.sub.Goals as goal

pub returns : goal.returns
returns g c =
    let low : c.low.result ≤ c.args.self.now.room - 1 = omega arith in
    subst (λ n. Reads (statement readers n c.args.cursor.now) c.sub.result c.sub.new.arg3) c.low.ensures (c.requires.reads _ _ _ _ _ low c.sub.ensures)
