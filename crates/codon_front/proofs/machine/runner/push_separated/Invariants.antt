use Rattle.std.proofs.Common.{◌≡◌, ◌++◌, ℕ, List, Some, drop}
use Rattle.code_module.specs.Machine.{separated, then_text}
use Rattle.codon_front.proofs.machine.runner.push_separated.Given as goal

abbrev pub invariant-loop-value : goal.invariant-loop-value
invariant-loop-value l =
    (text : List ℕ) × (l.piece.items ≡ l.initial.piece.items ++ text)
    × (separated l.separator l.values ≡ then_text (Some text) (separated l.separator (drop l.value-index l.values)))
