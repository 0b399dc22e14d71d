use Rattle.std.proofs.Common.{◌∙◌, ap, sym, map}
use Rattle.std.specs.List.{list_all}
use Rattle.std.proofs.lemmas.List.{drop-map}
use Rattle.meaning_rules.specs.State as meaning
use Rattle.meaning_rules.specs.Iterations.{is_in}
use Rattle.plain_interpreter.specs.Seen.{iteration_of}
use Rattle.plain_interpreter.proofs.sight.is_target.Goals as goal

pub above-init : goal.above-init
above-init c =
    ap (list_all (λ (i : meaning.Iteration). is_in c.args.at i.targets)) (drop-map iteration_of c.args.at.level c.args.iterations.now ∙ ap (map iteration_of) (sym c.above-rest.ensures))
