use Rattle.std.proofs.Common.{◌≤◌, [], length, subst, arith}
use Rattle.std.proofs.lemmas.Grind.{common_steps}
use Rattle.straight_lines.proofs.Programs.{Follows, follows_start, step_follows, end_follows, module_compiled}
use Rattle.straight_lines.proofs.compiler.compile.Goals as goal

pub items-init : goal.items-init
items-init c =
    follows_start (record { code = c.new.result; names = c.new-2.result }) c.as_slice-items.result.now c.new-2.ensures.none c.new.ensures.items

pub items-preserved : goal.items-preserved
items-preserved c =
    step_follows c.items.emitter c.emit_item.new.self c.as_slice-items.result.now c.items.item-index c.item-item.result c.items-test.true c.item-item.is c.items.invariant c.in_ok-emit_item.ensures.ok

pub returns-clause-code : goal.returns-clause-code
returns-clause-code c =
    let ended : length c.as_slice-items.result.now ≤ c.items.item-index = grind (arith, common_steps) in
    module_compiled c.args.module.now c.in_ok-code.code c.items.emitter (subst (λ items. Follows c.items.emitter items []) c.as_slice-items.ensures (end_follows c.items.emitter c.as_slice-items.result.now c.items.item-index ended c.items.invariant)) c.in_ok-code.ensures.texts c.in_ok-code.ensures.globals c.in_ok-code.ensures.code
