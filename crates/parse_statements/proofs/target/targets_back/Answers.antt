use Rattle.std.proofs.Common.{rules, arith, ◌≡◌, ◌+◌, ◌∷◌, ◌++◌, [], length, Some, sym, ap, ◌∙◌}
use Rattle.std.proofs.lemmas.List.{length-append}
use Rattle.parse_statements.specs.Settings.{turned}
use Rattle.parse_statements.specs.Targets.{target_of, targets_of}
use Rattle.parse_statements.proofs.Turned.{turn_some, behind}
use Rattle.parse_statements.proofs.target.targets_back.Goals as goal

pub turn-preserved : goal.turn-preserved
turn-preserved c =
    let popped : c.turn.left ≡ c.pop.new.self ++ c.in-Some.tree ∷ [] = c.in-Some.ensures in
    let found : target_of c.in-Some.tree ≡ Some c.in-Some-target_of.target = search rules in
    let size : length c.turn.left ≡ length c.pop.new.self + 1 = ap length popped ∙ length-append c.pop.new.self (c.in-Some.tree ∷ []) in
    let moved = turn_some c.turn.left c.pop.new.self c.in-Some.tree c.in-Some-target_of.target c.turn.targets popped found in
    let put = ap (λ z. behind z (turned (targets_of c.pop.new.self))) (sym c.in_ok-push.ensures.ok) in
    record { content = c.turn.invariant.content ∙ (moved ∙ put); count = omega (arith, size, c.turn.invariant.count) }
