use Rattle.plain_interpreter.specs.Seen.{seen}
use Rattle.plain_interpreter.proofs.Iterating.{outside_seen}
use Rattle.plain_interpreter.proofs.iterations.start_region.Goals as goal

pub returns-clause-outside : goal.returns-clause-outside
unfolding seen
returns-clause-outside c = outside_seen c.args.state.now.store.iterations c.is_empty.result c.is_empty.ensures.0 c.is_empty.ensures.1
