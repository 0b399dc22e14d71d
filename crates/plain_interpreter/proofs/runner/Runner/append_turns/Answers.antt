use Rattle.std.proofs.Common.{[], sym, ◌∙◌, arith}
use Rattle.meaning_rules.specs.Iterations.{in_place}
use Rattle.plain_interpreter.specs.Cursors.{next_by}
use Rattle.meaning_rules.specs.Meaning.{turn_of}
use Rattle.plain_interpreter.specs.Seen.{seen, flow_of}
use Rattle.meaning_rules.specs.Task.{Gathered}
use Rattle.plain_interpreter.specs.Tasks.{here}
use Rattle.plain_interpreter.proofs.Turns.{loop_begins, turn_next}
use Rattle.plain_interpreter.proofs.runner.Runner.append_turns.Goals as goal

pub turns-init : goal.turns-init
turns-init g c = loop_begins (next_by in_place c.args.self.now.limit) (turn_of (here c.args.self.now.program.now c.args.self.now.limit c.args.self.now.depth) [] (Gathered c.args.list.now)) c.args.self.now.limit c.args.from (seen c.args.state.now) c.left-left.result c.left-left.ensures

pub turns-preserved-else-left-eq0 : goal.turns-preserved-else-left-eq0
turns-preserved-else-left-eq0 g c = c.turns.invariant ∙ turn_next (next_by in_place c.args.self.now.limit) (turn_of (here c.args.self.now.program.now c.args.self.now.limit c.args.self.now.depth) [] (Gathered c.args.list.now)) c.turns.left c.turns.cursor (seen c.turns.state) (seen c.next.new.state) (seen c.append_to.new.state) c.in-Some.item (flow_of c.in_ok-flow.flow) (rw c.in-Some.is at c.in_ok-item.ensures) c.in_ok-flow.ensures (sym c.goes_on.ensures ∙ c.if-not-goes_on.false) (omega arith)

pub turns-preserved-else-left-eq0-2 : goal.turns-preserved-else-left-eq0-2
turns-preserved-else-left-eq0-2 g c = c.turns.invariant ∙ turn_next (next_by in_place c.args.self.now.limit) (turn_of (here c.args.self.now.program.now c.args.self.now.limit c.args.self.now.depth) [] (Gathered c.args.list.now)) c.turns.left c.turns.cursor (seen c.turns.state) (seen c.next.new.state) (seen c.append_to.new.state) c.in-Some.item (flow_of c.in_ok-flow.flow) (rw c.in-Some.is at c.in_ok-item.ensures) c.in_ok-flow.ensures (sym c.goes_on.ensures ∙ c.if-not-goes_on.false) (omega arith)

pub turns-preserved-else-left-eq0-3 : goal.turns-preserved-else-left-eq0-3
turns-preserved-else-left-eq0-3 g c = c.turns.invariant ∙ turn_next (next_by in_place c.args.self.now.limit) (turn_of (here c.args.self.now.program.now c.args.self.now.limit c.args.self.now.depth) [] (Gathered c.args.list.now)) c.turns.left c.turns.cursor (seen c.turns.state) (seen c.next.new.state) (seen c.append_to.new.state) c.in-Some.item (flow_of c.in_ok-flow.flow) (rw c.in-Some.is at c.in_ok-item.ensures) c.in_ok-flow.ensures (sym c.goes_on.ensures ∙ c.if-not-goes_on.false) (omega arith)

pub turns-preserved : goal.turns-preserved
turns-preserved g c = c.turns.invariant ∙ turn_next (next_by in_place c.args.self.now.limit) (turn_of (here c.args.self.now.program.now c.args.self.now.limit c.args.self.now.depth) [] (Gathered c.args.list.now)) c.turns.left c.turns.cursor (seen c.turns.state) (seen c.next.new.state) (seen c.append_to.new.state) c.in-Some.item (flow_of c.in_ok-flow.flow) (rw c.in-Some.is at c.in_ok-item.ensures) c.in_ok-flow.ensures (sym c.goes_on.ensures ∙ c.if-not-goes_on.false) (omega arith)
