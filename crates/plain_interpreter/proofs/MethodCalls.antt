-- Calls of methods by what stands at the address of the object.
use Rattle.std.proofs.Common.{◌≡◌, ℕ, List, ◌∷◌, length, Option, Some, None, refl, sym, ap, ◌∙◌}
use Rattle.std.specs.Prelude.{slice_get, option_map, codes}
use Rattle.std.specs.Option.{option_copied}
use Rattle.std.specs.Slice.{IsItemAt}
use Rattle.std.specs.Borrow.{Bor}
use Rattle.std.proofs.lemmas.Option.{slice_get-map, slice_get_past, slice_get_read}
use Rattle.codon_base.specs.declared.fault.FaultKind.TheVariants as fault
use Rattle.source_trees.specs.declared.item.Function.{Function}
use Rattle.source_trees.specs.declared.item.Class.{Class}
use Rattle.codon_base.specs.declared.value.Ref.{Ref}
use Rattle.codon_base.specs.declared.value.Value.{Value, out-Value}
use Rattle.codon_base.specs.declared.object.Object.{Object}
use Rattle.codon_base.specs.declared.object.Object.TheVariants.{List as Listed, Instance}
use Rattle.codon_base.specs.Levels.{object_at}
use Rattle.meaning_rules.specs.State.{Spelling, State, Faulted}
use Rattle.meaning_rules.specs.Outcome.{Outcome, Gives, Stops, Run, and_then, bind, pure, stop, look, wrong, ◌>>=◌}
use Rattle.meaning_rules.specs.Objects.{one_of, ref_in, object, instance_in}
use Rattle.meaning_rules.specs.Operations.{list_method}
use Rattle.meaning_rules.specs.Program.{Known, function_named, methods_of}
use Rattle.meaning_rules.specs.Task.{Setting}
use Rattle.meaning_rules.specs.Calls.{call, method_of}
use Rattle.meaning_rules.specs.Loops.{Items}
use Rattle.meaning_rules.specs.Expressions.{method_on, call_method, iterable_on, iterable_method, generated_by, items_of}
use Rattle.plain_interpreter.specs.Kinds.{kind_of, found_method, told, called_on, goes_over_on}
use Rattle.plain_interpreter.specs.Tasks.{program_of}
use Rattle.plain_interpreter.specs.Callees.{functions_in}
use Rattle.plain_interpreter.specs.declared.prepared.KnownClass.{KnownClass}
use Rattle.plain_interpreter.specs.declared.prepared.Prepared.{Prepared}
use Rattle.plain_interpreter.specs.declared.methods.Kind.{Kind}
use Rattle.plain_interpreter.specs.declared.methods.Kind.TheVariants as kind

pub copied_at : (xs : List KnownClass) (i : ℕ) (r : Option (Bor KnownClass)) → IsItemAt xs i r → option_copied r ≡ slice_get xs i
copied_at xs i None h = sym (slice_get_past xs i h.3)
copied_at xs i (Some x) h = sym (slice_get_read xs (length xs) i x.now refl h.3.0 h.1)

-- the method of a class that is known
abbrev in_class : Spelling → Option Class → Run Known
in_class name o = one_of o >>= λ c. told (function_named name (methods_of c))

pub found_known : (p : Prepared) (class : ℕ) (name : Spelling) (c : KnownClass) (s : State) → slice_get p.classes.items class ≡ Some c → found_method (program_of p) class name s ≡ told (function_named name (functions_in c.methods.items)) s
unfolding bind pure program_of
found_known p class name c s h =
    ap (λ (o : Option Class). in_class name o s) (slice_get-map (λ c. c.class.now) p.classes.items class ∙ ap (option_map (λ c. c.class.now)) h)
    ∙ ap (λ (fs : List Function). told (function_named name fs) s) (sym c.has_methods)

pub found_unknown : (p : Prepared) (class : ℕ) (name : Spelling) (s : State) → slice_get p.classes.items class ≡ None → found_method (program_of p) class name s ≡ Stops (Faulted (record { kind = fault.Runtime; text = codes "wrong kind" })) s
unfolding bind program_of stop
found_unknown p class name s h = ap (λ (o : Option Class). in_class name o s) (slice_get-map (λ c. c.class.now) p.classes.items class ∙ ap (option_map (λ c. c.class.now)) h)

module _ (here : Setting) (v : Value) (at : Ref) (name : Spelling) (given : List Value) (s : State) (is_at : ref_in (out-Value v) s ≡ Gives at s) where
  abbrev there : Option Object
  there = object_at s.shared.levels at

  call_on : call_method here v name given s ≡ method_on here v at name given there s
  unfolding bind look
  call_on = ap (λ (o : Outcome Ref). and_then o (λ at. object at >>= method_on here v at name given)) is_at

  goes_on : iterable_method here v name given s ≡ iterable_on here v at name given there s
  unfolding bind look
  goes_on = ap (λ (o : Outcome Ref). and_then o (λ at. object at >>= iterable_on here v at name given)) is_at

  -- the method of the object
  abbrev by_kind : Kind → Outcome Known
  by_kind kind.List = wrong s
  by_kind (kind.Instance class) = found_method here.program class name s
  by_kind kind.Nothing = wrong s

  found_in : (o : Option Object) → and_then (instance_in o s) (λ instance. found_method here.program instance.class name) ≡ by_kind (kind_of o)
  unfolding pure stop
  found_in (Some (Listed items)) = refl
  found_in (Some (Instance class fields)) = refl
  found_in None = refl

  method_is : method_of here v name s ≡ by_kind (kind_of there)
  unfolding bind look
  method_is = ap (λ (o : Outcome Ref). and_then o (λ at. object at >>= instance_in >>= λ instance. found_method here.program instance.class name)) is_at ∙ found_in there

  pub on_list : kind_of there ≡ kind.List → call_method here v name given s ≡ list_method here.rules name at given s
  on_list h = call_on ∙ by there h
    where
      by : (o : Option Object) → kind_of o ≡ kind.List → method_on here v at name given o s ≡ list_method here.rules name at given s
      by (Some (Listed items)) h = refl
      by (Some (Instance class fields)) h = cc
      by None h = cc

  pub goes_list : kind_of there ≡ kind.List → iterable_method here v name given s ≡ items_of (list_method here.rules name at given) s
  goes_list h = goes_on ∙ by there h
    where
      by : (o : Option Object) → kind_of o ≡ kind.List → iterable_on here v at name given o s ≡ items_of (list_method here.rules name at given) s
      by (Some (Listed items)) h = refl
      by (Some (Instance class fields)) h = cc
      by None h = cc

  pub on_instance : (class : ℕ) → kind_of there ≡ kind.Instance class → call_method here v name given s ≡ called_on here v class name given s
  unfolding bind
  on_instance class h = call_on ∙ by there h ∙ ap (λ (o : Outcome Known). and_then o (λ known. call here known (v ∷ given))) (method_is ∙ ap by_kind h)
    where
      by : (o : Option Object) → kind_of o ≡ kind.Instance class → method_on here v at name given o s ≡ and_then (method_of here v name s) (λ known. call here known (v ∷ given))
      by (Some (Listed items)) h = cc
      by (Some (Instance class fields)) h = refl
      by None h = cc

  pub goes_instance : (class : ℕ) → kind_of there ≡ kind.Instance class → iterable_method here v name given s ≡ goes_over_on here v class name given s
  unfolding bind
  goes_instance class h = goes_on ∙ by there h ∙ ap (λ (o : Outcome Known). and_then o (generated_by here v given)) (method_is ∙ ap by_kind h)
    where
      by : (o : Option Object) → kind_of o ≡ kind.Instance class → iterable_on here v at name given o s ≡ and_then (method_of here v name s) (generated_by here v given)
      by (Some (Listed items)) h = cc
      by (Some (Instance class fields)) h = refl
      by None h = cc

  pub on_nothing : kind_of there ≡ kind.Nothing → call_method here v name given s ≡ Stops (Faulted (record { kind = fault.Runtime; text = codes "wrong kind" })) s
  unfolding bind stop
  on_nothing h = call_on ∙ by there h ∙ ap (λ (o : Outcome Known). and_then o (λ known. call here known (v ∷ given))) (method_is ∙ ap by_kind h)
    where
      by : (o : Option Object) → kind_of o ≡ kind.Nothing → method_on here v at name given o s ≡ and_then (method_of here v name s) (λ known. call here known (v ∷ given))
      by (Some (Listed items)) h = cc
      by (Some (Instance class fields)) h = cc
      by None h = refl

  pub goes_nothing : kind_of there ≡ kind.Nothing → iterable_method here v name given s ≡ Stops (Faulted (record { kind = fault.Runtime; text = codes "wrong kind" })) s
  unfolding bind stop
  goes_nothing h = goes_on ∙ by there h ∙ ap (λ (o : Outcome Known). and_then (and_then o (λ known. call here known (v ∷ given))) (λ container. pure (Items container))) (method_is ∙ ap by_kind h)
    where
      by : (o : Option Object) → kind_of o ≡ kind.Nothing → iterable_on here v at name given o s ≡ and_then (and_then (method_of here v name s) (λ known. call here known (v ∷ given))) (λ container. pure (Items container))
      by (Some (Listed items)) h = cc
      by (Some (Instance class fields)) h = cc
      by None h = refl
