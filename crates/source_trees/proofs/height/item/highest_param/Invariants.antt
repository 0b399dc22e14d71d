use Rattle.std.proofs.Common.{◌≡◌, map, take}
use Rattle.source_trees.specs.Heights.{capped, highest}
use Rattle.source_trees.specs.Heights.{height_of_param}
use Rattle.source_trees.proofs.height.item.highest_param.Given as goal

abbrev pub invariant-params : goal.invariant-params
invariant-params l = l.highest ≡ capped (highest (map height_of_param (take l.param-index l.param-items)))
