use Rattle.std.proofs.Common.{◌∙◌, sym}
use Rattle.plain_interpreter.specs.Seen.{names_of}
use Rattle.plain_interpreter.proofs.Held.{held_found, held_not, held_none}
use Rattle.plain_interpreter.proofs.state.Names.get.Goals as goal

pub look-preserved : goal.look-preserved
look-preserved c = held_not c.args.self.now.entries.items c.deref-entry-items.result.now c.args.name.now c.look.entry-index c.entry-item.result c.look.invariant c.look-test.true c.entry-item.is (sym c.same.ensures ∙ c.if-same.false)

pub returns-then-same : goal.returns-then-same
unfolding names_of
returns-then-same c =
    let found = held_found c.args.self.now.entries.items c.deref-entry-items.result.now c.args.name.now c.look.entry-index c.entry-item.result c.look.invariant c.look-test.true c.entry-item.is (sym c.same.ensures ∙ c.if-same.true) in
    rw found c.try_clone.ensures

pub returns : goal.returns
unfolding names_of
returns c = sym (held_none c.args.self.now.entries.items c.deref-entry-items.result.now c.args.name.now c.look.entry-index c.look.invariant c.look-test.false)
