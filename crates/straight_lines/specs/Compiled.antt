-- What a compiled module does.
use Rattle.std.specs.Prelude.{◌≡◌, ℕ, List, None}
use Rattle.codon_base.specs.declared.fault.Ending.TheVariants as ending
use Rattle.source_trees.specs.declared.item.Module.{Module}
use Rattle.meaning_rules.specs.Meaning.{meaning}
use Rattle.code_module.specs.declared.module.Module.{Module as Code}
use Rattle.code_module.specs.declared.module.Function.{Function}
use Rattle.code_module.specs.declared.instr.Instr.{Instr}
use Rattle.code_module.specs.Machine.{run_of, entry_code, Done}
use Rattle.straight_lines.specs.declared.fault.NotCompiled.{NotCompiled}
use Rattle.straight_lines.specs.Built.{first_unbuilt}
use Rattle.straight_lines.specs.Emitted.{IsUnbuilt}

-- each node of the source is built; the code runs to its end and prints these bytes, and so does the source, which ends by itself on every fuel
pub record Compiles (m : Module) (code : Code) : Type 0 where
  pub built : first_unbuilt m ≡ None
  pub bytes : List ℕ
  pub runs : run_of code ≡ Done bytes
  pub prints : (fuel : ℕ) → (meaning m fuel).bytes ≡ bytes
  pub ends : (fuel : ℕ) → (meaning m fuel).ending ≡ ending.Done

-- a module is refused by its first node that is not built, in preorder
abbrev pub IsNotCompiled : Module → NotCompiled → Type 0
IsNotCompiled m = IsUnbuilt (first_unbuilt m)

-- function 0 has this code
abbrev pub IsEntry : List Function → List Instr → Type 0
IsEntry functions code = entry_code functions ≡ code
