-- What is due for a tree that is compiled and run.
use Rattle.std.proofs.Common.{◌≡◌, ℕ, List, Option, subst, sym, refl, ap, ◌∙◌, inl, inr}
use Rattle.outer_world.specs.Sink.{gained, GainsPrefix}
use Rattle.source_trees.specs.declared.item.Module.{Module}
use Rattle.code_module.specs.declared.module.Module.{Module as Code}
use Rattle.code_module.specs.Machine.{run_of, out_of}
use Rattle.meaning_rules.specs.Meaning.{meaning}
use Rattle.straight_lines.specs.Compiled.{Compiles}
use Rattle.codon_front.specs.Due.{IsDueOfTree, due_of, ended}
use Rattle.codon_front.specs.Answer.{GainsOutFront}
use Rattle.codon_front.specs.Stop.{Finishes}
use Rattle.codon_front.specs.declared.command.Action.TheVariants.{Run}
use Rattle.codon_front.proofs.PlainDues.{ended_out}

module _ (m : Module) (code : Code) (fuel : ℕ) (k : Compiles m code) where
  due_is : IsDueOfTree m (Run fuel) (due_of (meaning m fuel))
  due_is = inl (k.built, refl)

  printed : out_of (run_of code) ≡ (due_of (meaning m fuel)).out
  printed = ap out_of k.runs ∙ sym (ended_out (meaning m fuel).bytes (meaning m fuel).ending ∙ k.prints fuel)

  pub compiled_done : (old new : Option (List ℕ)) → new ≡ gained old (out_of (run_of code)) → Finishes (IsDueOfTree m (Run fuel)) old new
  compiled_done old new e = record {
    due = due_of (meaning m fuel);
    is_due = due_is;
    out = e ∙ ap (gained old) printed;
    err = ap (λ how. (ended (meaning m fuel).bytes how).err) (k.ends fuel);
    status = ap (λ how. (ended (meaning m fuel).bytes how).status) (k.ends fuel);
  }

  pub compiled_front : (old new : Option (List ℕ)) → GainsPrefix old new (out_of (run_of code)) → GainsOutFront (IsDueOfTree m (Run fuel)) old new
  compiled_front old new h = inr (due_of (meaning m fuel), due_is, subst (λ b. GainsPrefix old new b) printed h)
