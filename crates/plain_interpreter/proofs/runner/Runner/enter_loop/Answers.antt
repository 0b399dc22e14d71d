use Rattle.std.proofs.Common.{ap, sym, ◌∙◌}
use Rattle.meaning_rules.specs.Loops as loops
use Rattle.plain_interpreter.specs.Seen.{seen, why_of}
use Rattle.plain_interpreter.specs.Steps.{iterable_of, looped}
use Rattle.plain_interpreter.specs.Tasks.{here, consumer_of, consumers_of}
use Rattle.plain_interpreter.specs.declared.iterable.Iterable.{Iterable}
use Rattle.plain_interpreter.proofs.Over.{over_items, over_numbers, over_none}
use Rattle.plain_interpreter.proofs.runner.Runner.enter_loop.Goals as goal

pub returns-in-Items : goal.returns-in-Items
returns-in-Items g c =
    ap (λ (i : Iterable). looped (here c.args.self.now.program.now c.args.self.now.limit c.args.self.now.depth) (consumers_of c.args.consumers.now) (iterable_of i) (consumer_of c.args.consumer) (seen c.args.state.now)) c.in-Items.is
    ∙ over_items (here c.args.self.now.program.now c.args.self.now.limit c.args.self.now.depth) (consumers_of c.args.consumers.now) (consumer_of c.args.consumer) c.in-Items.container (seen c.args.state.now)

pub returns-in-Ok : goal.returns-in-Ok
returns-in-Ok g c =
    ap (λ (i : Iterable). looped (here c.args.self.now.program.now c.args.self.now.limit c.args.self.now.depth) (consumers_of c.args.consumers.now) (iterable_of i) (consumer_of c.args.consumer) (seen c.args.state.now)) c.in-Numbers.is
    ∙ (λ i. looped (here c.args.self.now.program.now c.args.self.now.limit c.args.self.now.depth) (consumers_of c.args.consumers.now) (loops.Numbers (sym c.deref.ensures i).start (sym c.deref-in-Numbers.ensures i).stop (sym c.deref-in-Numbers-2.ensures i).step) (consumer_of c.args.consumer) (seen c.args.state.now))
    ∙ over_numbers (here c.args.self.now.program.now c.args.self.now.limit c.args.self.now.depth) (consumers_of c.args.consumers.now) (consumer_of c.args.consumer) c.deref.result.now.start c.deref-in-Numbers.result.now.stop c.deref-in-Numbers-2.result.now.step (seen c.args.state.now) (seen c.args.state.now) c.in-Ok.from c.in-Ok.ensures c.is_within.ensures

pub returns : goal.returns
returns g c = λ n.
    ap (λ (i : Iterable). looped (here c.args.self.now.program.now c.args.self.now.limit c.args.self.now.depth) (consumers_of c.args.consumers.now) (iterable_of i) (consumer_of c.args.consumer) (seen c.args.state.now)) c.in-Numbers.is
    ∙ (λ i. looped (here c.args.self.now.program.now c.args.self.now.limit c.args.self.now.depth) (consumers_of c.args.consumers.now) (loops.Numbers (sym c.deref.ensures i).start (sym c.deref-in-Numbers.ensures i).stop (sym c.deref-in-Numbers-2.ensures i).step) (consumer_of c.args.consumer) (seen c.args.state.now))
    ∙ over_none (here c.args.self.now.program.now c.args.self.now.limit c.args.self.now.depth) (consumers_of c.args.consumers.now) (consumer_of c.args.consumer) c.deref.result.now.start c.deref-in-Numbers.result.now.stop c.deref-in-Numbers-2.result.now.step (seen c.args.state.now) (seen c.args.state.now) (why_of c.in-Err.why) (c.in-Err.ensures n)
