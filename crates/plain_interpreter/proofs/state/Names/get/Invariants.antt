use Rattle.std.proofs.Common.{◌≡◌, drop}
use Rattle.plain_interpreter.specs.Seen.{held_in}
use Rattle.plain_interpreter.proofs.state.Names.get.Given as goal

abbrev pub invariant-look : goal.invariant-look
invariant-look l = held_in l.self.entries.items l.name ≡ held_in (drop l.entry-index l.entry-items) l.name
