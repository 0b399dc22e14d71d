use Rattle.std.proofs.Common.{◌≡◌, ◌++◌, take}
use Rattle.plain_interpreter.proofs.printing.push_bytes.Given as goal

abbrev pub invariant-bytes : goal.invariant-bytes
invariant-bytes l = l.out ≡ l.fn.out ++ take l.byte-index l.bytes
