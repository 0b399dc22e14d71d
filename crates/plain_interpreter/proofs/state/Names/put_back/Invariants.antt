use Rattle.std.proofs.Common.{◌≡◌, map}
use Rattle.plain_interpreter.specs.Frames.{put_back}
use Rattle.plain_interpreter.specs.Seen.{names_of}
use Rattle.source_trees.specs.Names.{loop_names}
use Rattle.plain_interpreter.proofs.state.Names.put_back.Given as goal

abbrev pub invariant-values : goal.invariant-values
invariant-values l = put_back (loop_names l.own) l.fn.values.items (names_of l.initial.self) ≡ put_back (map (λ name. name.spelling) l.rest) l.value-iterator.rest.items (names_of l.self)
