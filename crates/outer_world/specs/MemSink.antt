-- The exact answers of the sink in memory.
use Rattle.std.specs.Prelude.{◌≡◌, Bool, true, false, Result, Ok, Err}
use Rattle.outer_world.specs.declared.sink.SinkFault.{SinkFault}
use Rattle.outer_world.specs.declared.sink.SinkFault.TheVariants.{Failed, Memory}

-- a put fails exactly where this was planned; want of memory may come only in place of Ok
abbrev pub IsPutAnswer : {A : Type 0} → Bool → Result A SinkFault → Type 0
IsPutAnswer planned (Ok value) = planned ≡ false
IsPutAnswer planned (Err Failed) = planned ≡ true
IsPutAnswer planned (Err Memory) = planned ≡ false
