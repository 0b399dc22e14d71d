-- How flows decide what is run next.
use Rattle.std.specs.Prelude.{Bool, true, false}
use Rattle.meaning_rules.specs.State.{Flow, Next, Continue}

abbrev pub goes_on : Flow → Bool
goes_on Next = true
goes_on Continue = true
goes_on _ = false
