use Rattle.std.proofs.Common.{arith, Some}
use Rattle.std.proofs.lemmas.Grind.{common_steps}
use Rattle.meaning_rules.specs.Outcome.{bind, pure}
use Rattle.meaning_rules.specs.Pipelines.{from_head}
use Rattle.plain_interpreter.specs.Seen.{seen, flow_of}
use Rattle.plain_interpreter.specs.Scopes.{scope_of}
use Rattle.plain_interpreter.specs.Tasks.{here, consumers_of, region_of}
use Rattle.plain_interpreter.proofs.Apart.{begins, region_gives}
use Rattle.plain_interpreter.proofs.runner.Runner.pipeline_inside.Goals as goal

pub returns : goal.returns
returns g c = region_gives (from_head (here c.args.self.now.program.now c.args.self.now.limit c.args.self.now.depth) (consumers_of c.args.consumers.now) (scope_of c.args.scope.now) c.args.head.now c.args.stages.now (Some (region_of c.args.region.now))) (seen c.args.state.now) (seen c.start_region-begun.new.state) c.start_region-begun.result.outside c.start_region-begun.result.reached c.start_region-begun.ensures.new c.start_region-begun.ensures.outside c.start_region-begun.ensures.reached (seen c.from_head.new.state) (seen c.finish_region.new.state) (flow_of c.in_ok-flow.flow) c.in_ok-flow.ensures c.in_ok-finish_region.ensures

pub returns-in_err-flow : goal.returns-in_err-flow
unfolding bind pure
returns-in_err-flow g c =
    let next = begins (from_head (here c.args.self.now.program.now c.args.self.now.limit c.args.self.now.depth) (consumers_of c.args.consumers.now) (scope_of c.args.scope.now) c.args.head.now c.args.stages.now (Some (region_of c.args.region.now))) (seen c.args.state.now) (seen c.start_region-begun.new.state) c.start_region-begun.result.outside c.start_region-begun.result.reached c.start_region-begun.ensures.new c.start_region-begun.ensures.outside c.start_region-begun.ensures.reached in
    grind (arith, common_steps, next)

pub returns-in_err-finish_region : goal.returns-in_err-finish_region
unfolding bind pure
returns-in_err-finish_region g c =
    let next = begins (from_head (here c.args.self.now.program.now c.args.self.now.limit c.args.self.now.depth) (consumers_of c.args.consumers.now) (scope_of c.args.scope.now) c.args.head.now c.args.stages.now (Some (region_of c.args.region.now))) (seen c.args.state.now) (seen c.start_region-begun.new.state) c.start_region-begun.result.outside c.start_region-begun.result.reached c.start_region-begun.ensures.new c.start_region-begun.ensures.outside c.start_region-begun.ensures.reached in
    grind (arith, common_steps, next)
