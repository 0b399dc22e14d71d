use Rattle.std.proofs.Common.{◌≡◌, ◌-◌, length}
use Rattle.parse_statements.specs.Settings.{turned}
use Rattle.parse_statements.specs.Targets.{targets_of}
use Rattle.parse_statements.proofs.Turned.{behind}
use Rattle.parse_statements.proofs.target.targets_back.Given as goal

abbrev pub invariant-turn : goal.invariant-turn
invariant-turn l = record {
  content : turned (targets_of l.fn.items) ≡ behind l.targets (turned (targets_of l.left));
  count : l._turn-end - l._turn ≡ length l.left;
}
