-- Trees with numbers and without.
use Rattle.std.specs.Prelude.{◌≡◌}
use Rattle.source_trees.specs.declared.item.Module.{Module}
use Rattle.source_trees.specs.Bare.{bare_module}
use Rattle.source_trees.specs.Nodes.{IsNumbered}

-- some tree that is the same but for its numbers has the numbers 0, 1, 2 and so on in preorder
abbrev pub HasNumbered : Module → Type 0
HasNumbered m = (w : Module) × (bare_module w ≡ bare_module m) × IsNumbered w
