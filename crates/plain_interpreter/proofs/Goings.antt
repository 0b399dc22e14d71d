-- Calls by name that a loop goes over: a value's items, a range's numbers, a generator's items.
use Rattle.std.proofs.Common.{◌≡◌, Bool, true, if◌then◌else◌, List, refl, sym, ap, ◌∙◌}
use Rattle.codon_base.specs.declared.value.Value.{Value}
use Rattle.source_trees.specs.declared.node.Node.{Node}
use Rattle.source_trees.specs.declared.node.Name.{Name}
use Rattle.source_trees.specs.declared.expression.Expr.{Expr}
use Rattle.source_trees.specs.declared.expression.Expr.TheVariants as e
use Rattle.meaning_rules.specs.State.{State}
use Rattle.meaning_rules.specs.Outcome.{Outcome, Gives, and_then, ◌>>=◌, pure, bind}
use Rattle.meaning_rules.specs.Bodies.{yields}
use Rattle.meaning_rules.specs.Calls.{call}
use Rattle.meaning_rules.specs.Loops.{Iterable, Items, Generated}
use Rattle.meaning_rules.specs.Program.{Scope, Known, Builtin, Length, Least, Greatest, ToText, ToInt, ToBool, Code, Character, ToList, Range, Callee, Defined, Constructor, Standard, Variable, Unknown, callee}
use Rattle.meaning_rules.specs.Task.{Setting}
use Rattle.meaning_rules.specs.Expressions.{expr, exprs, iterable, items_of, range_of}
use Rattle.plain_interpreter.specs.Lists as lists
use Rattle.plain_interpreter.specs.Goings.{GivesValue}
use Rattle.plain_interpreter.proofs.Equations.{expr_Call, iterable_Call}

module _ (here : Setting) (scope : Scope) (name : Name) (parts : List Expr) (s : State) where
  standard_goes : (which : Builtin) → GivesValue (Standard which) → lists.standard_goes here scope which parts s ≡ items_of (lists.standard here scope which parts) s
  standard_goes Length h = refl
  standard_goes Least h = refl
  standard_goes Greatest h = refl
  standard_goes ToText h = refl
  standard_goes ToInt h = refl
  standard_goes ToBool h = refl
  standard_goes Code h = refl
  standard_goes Character h = refl
  standard_goes ToList h = refl
  standard_goes Range h = absurd (h refl)

  value_goes : (c : Callee) → GivesValue c → lists.called_goes_by here scope c name.spelling parts s ≡ items_of (lists.called_by here scope c name.spelling parts) s
  value_goes (Defined known) h = ap (λ (b : Bool). (if b then (exprs here scope parts >>= λ vs. pure (Generated known vs)) else items_of (exprs here scope parts >>= call here known)) s) h
  value_goes (Constructor number class) h = refl
  value_goes (Standard which) h = standard_goes which h
  value_goes Variable h = refl
  value_goes Unknown h = refl

  abbrev as_items : Outcome Value → Outcome Iterable
  as_items o = and_then o (λ v t. Gives (Items v) t)

  called_items : items_of (lists.called here scope name.spelling parts) s ≡ as_items (lists.called here scope name.spelling parts s)
  unfolding bind pure
  called_items = refl

  pub value_is : (n : Node) → GivesValue (callee here.program scope name.spelling) → iterable here scope (e.Call n name parts) s ≡ items_of (expr here scope (e.Call n name parts)) s
  unfolding bind pure
  value_is n h = iterable_Call here n name parts scope s ∙ value_goes (callee here.program scope name.spelling) h ∙ ap as_items (sym (expr_Call here n name parts scope s))

  pub range_is : (n : Node) → callee here.program scope name.spelling ≡ Standard Range → iterable here scope (e.Call n name parts) s ≡ (exprs here scope parts >>= range_of) s
  range_is n h = iterable_Call here n name parts scope s ∙ ap (λ (c : Callee). lists.called_goes_by here scope c name.spelling parts s) h

  pub generator_is : (n : Node) (known : Known) → callee here.program scope name.spelling ≡ Defined known → yields known.function.body ≡ true → iterable here scope (e.Call n name parts) s ≡ lists.generated here scope known parts s
  generator_is n known h y =
      iterable_Call here n name parts scope s ∙ ap (λ (c : Callee). lists.called_goes_by here scope c name.spelling parts s) h
      ∙ ap (λ (b : Bool). (if b then (exprs here scope parts >>= λ vs. pure (Generated known vs)) else items_of (exprs here scope parts >>= call here known)) s) y
