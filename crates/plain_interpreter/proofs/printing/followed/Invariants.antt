use Rattle.std.proofs.Common.{◌≡◌, drop}
use Rattle.meaning_rules.specs.Iterations.{in_place}
use Rattle.plain_interpreter.specs.Pieces.{followed}
use Rattle.plain_interpreter.specs.Seen.{seen}
use Rattle.plain_interpreter.proofs.printing.followed.Given as goal

abbrev pub invariant-values : goal.invariant-values
invariant-values l = followed in_place l.fn.vs l.between l.fn.text (seen l.fn.state) ≡ followed in_place (drop l.v-index l.vs) l.between l.piece (seen l.state)
