-- What the interpreter's loops over expressions compute.
use Rattle.std.specs.Prelude.{ℕ, true, false, not, if◌then◌else◌, List, [], ◌∷◌, codes}
use Rattle.codon_base.specs.declared.value.Value.{Value, out-Value}
use Rattle.codon_base.specs.declared.value.Value.TheVariants as value
use Rattle.codon_base.specs.declared.object.Object.TheVariants.{List as Listed}
use Rattle.source_trees.specs.declared.operator.UnaryOp.{UnaryOp}
use Rattle.source_trees.specs.declared.operator.BinaryOp.{BinaryOp}
use Rattle.source_trees.specs.declared.expression.Expr.{Expr}
use Rattle.meaning_rules.specs.Outcome.{Run, ◌>>=◌, pure, wrong}
use Rattle.meaning_rules.specs.Program.{Scope}
use Rattle.meaning_rules.specs.Task.{Rules, Setting}
use Rattle.std.specs.Prelude.{Option, Some, None}
use Rattle.source_trees.specs.declared.expression.Comparison.{Comparison}
use Rattle.source_trees.specs.declared.operator.Comparator.{Comparator}
use Rattle.source_trees.specs.declared.statement.LoopNames.{LoopNames}
use Rattle.source_trees.specs.declared.item.Class.{Class}
use Rattle.meaning_rules.specs.Bodies.{yields}
use Rattle.source_trees.specs.Names.{loop_names}
use Rattle.meaning_rules.specs.Objects.{operate, truth, allocate, item_at, slice, field}
use Rattle.meaning_rules.specs.Operations.{binary, unary_made, compared_made, builtin}
use Rattle.meaning_rules.specs.Program.{Known, Builtin, ToList, Range, Callee, Defined, Constructor, Standard, Variable, Unknown, callee, with_locals}
use Rattle.meaning_rules.specs.Calls.{call, construct}
use Rattle.meaning_rules.specs.Loops.{Iterable, Generated}
use Rattle.meaning_rules.specs.Expressions.{expr, exprs, condition, iterable, call_method, iterable_method, if_holds, gathered, comprehended, not_set, range_of, items_of}
use Rattle.meaning_rules.specs.Meaning.{condition_of}
use Rattle.meaning_rules.specs.Objects.{if_set}
use Rattle.meaning_rules.specs.State.{Spelling}
use Rattle.meaning_rules.specs.Variables.{held_by, read_name}

abbrev pub some_true : Setting → Scope → List Expr → Run Value
some_true here scope [] = pure (value.Bool false)
some_true here scope (e ∷ more) = condition here scope e >>= λ t. if t then pure (value.Bool true) else some_true here scope more

abbrev pub all_true : Setting → Scope → List Expr → Run Value
all_true here scope [] = pure (value.Bool true)
all_true here scope (e ∷ more) = condition here scope e >>= λ t. if t then all_true here scope more else pure (value.Bool false)

-- the value of a name, by the text alone
abbrev pub named : Scope → Spelling → Run Value
named scope name = held_by scope name >>= if_set (codes "name is not set")

-- the right one of two values that are compared, where the comparison holds
abbrev pub follows : Rules → Comparator → Value → Value → Run (Option Value)
follows rules by v w = operate rules (compared_made by v w) >>= truth rules >>= λ holds. pure (if holds then Some w else None)

module _ (here : Setting) (scope : Scope) where
  -- a bound of a slice
  abbrev pub bound : Option Expr → Run Value
  bound None = pure value.Unit
  bound (Some e) = expr here scope e

  -- ---- expressions by their forms

  abbrev pub tuple : List Expr → Run Value
  tuple parts = exprs here scope parts >>= λ vs. pure (value.Tuple vs)

  abbrev pub list : List Expr → Run Value
  list parts = exprs here scope parts >>= λ vs. allocate (Listed vs)

  abbrev pub conditional : Expr → Expr → Expr → Run Value
  conditional first by other = condition here scope by >>= λ t. if t then expr here scope first else expr here scope other

  abbrev pub negated : Expr → Run Value
  negated e = condition here scope e >>= λ t. pure (value.Bool (not t))

  abbrev pub unary : UnaryOp → Expr → Run Value
  unary by e = expr here scope e >>= λ v. operate here.rules (λ sight. unary_made by (out-Value v))

  abbrev pub binary_of : BinaryOp → Expr → Expr → Run Value
  binary_of by left right = expr here scope left >>= λ v. expr here scope right >>= λ w. binary here.rules by v w

  abbrev pub index : Expr → Expr → Run Value
  index container at = expr here scope container >>= λ v. expr here scope at >>= λ w. item_at here.rules v w

  abbrev pub field_of : Expr → Spelling → Run Value
  field_of object name = expr here scope object >>= λ v. field here.program v name

  abbrev pub method_called : Expr → Spelling → List Expr → Run Value
  method_called object name parts = expr here scope object >>= λ v. exprs here scope parts >>= call_method here v name

  abbrev pub method_iterable : Expr → Spelling → List Expr → Run Iterable
  method_iterable object name parts = expr here scope object >>= λ v. exprs here scope parts >>= iterable_method here v name

  abbrev pub sliced : Expr → Option Expr → Option Expr → Run Value
  sliced part from to = expr here scope part >>= λ v. bound from >>= λ start. bound to >>= λ stop. slice here.rules (out-Value v) start stop

  -- the right operand of a comparison, where it holds
  abbrev pub compares : Comparison → Value → Run (Option Value)
  compares c v = expr here scope c.right >>= follows here.rules c.comparator v

  abbrev pub chained : List Comparison → Value → Run Value
  chained [] v = pure (value.Bool true)
  chained (c ∷ more) v = compares c v >>= λ o. if_holds here o (chained more)

  abbrev pub comparison : Expr → List Comparison → Run Value
  comparison first others = expr here scope first >>= chained others

  -- ---- calls

  abbrev pub standard : Builtin → List Expr → Run Value
  standard ToList (e ∷ []) = iterable here scope e >>= gathered here
  standard which parts = exprs here scope parts >>= builtin here.rules which

  abbrev pub called_by : Callee → Spelling → List Expr → Run Value
  called_by (Defined known) name parts = exprs here scope parts >>= call here known
  called_by (Constructor number class) name parts = exprs here scope parts >>= construct here number class
  called_by (Standard which) name parts = standard which parts
  called_by Variable name parts = read_name here.program scope name >>= λ _. wrong
  called_by Unknown name parts = not_set here

  abbrev pub called : Spelling → List Expr → Run Value
  called name parts = called_by (callee here.program scope name) name parts

  abbrev pub standard_goes : Builtin → List Expr → Run Iterable
  standard_goes Range parts = exprs here scope parts >>= range_of
  standard_goes which parts = items_of (standard which parts)

  abbrev pub function_iterable : Known → List Expr → Run Iterable
  function_iterable known parts =
      if yields known.function.body then (exprs here scope parts >>= λ vs. pure (Generated known vs)) else items_of (exprs here scope parts >>= call here known)

  -- a generator's items
  abbrev pub generated : Known → List Expr → Run Iterable
  generated known parts = exprs here scope parts >>= λ vs. pure (Generated known vs)

  abbrev pub class_iterable : ℕ → Class → List Expr → Run Iterable
  class_iterable number class parts = items_of (exprs here scope parts >>= construct here number class)

  abbrev pub called_goes_by : Callee → Spelling → List Expr → Run Iterable
  called_goes_by (Defined known) name parts = function_iterable known parts
  called_goes_by (Constructor number class) name parts = class_iterable number class parts
  called_goes_by (Standard which) name parts = standard_goes which parts
  called_goes_by other name parts = items_of (called_by other name parts)

  abbrev pub called_iterable : Spelling → List Expr → Run Iterable
  called_iterable name parts = called_goes_by (callee here.program scope name) name parts

  -- ---- comprehensions

  abbrev pub comprehended_of : LoopNames → Iterable → Option Expr → Expr → Run Value
  comprehended_of names goes_over kept item =
      let inner = with_locals (loop_names names) scope in comprehended here inner names goes_over kept (condition_of here inner kept) item (expr here inner item)

  abbrev pub comprehension : LoopNames → Expr → Option Expr → Expr → Run Value
  comprehension names goes kept item = iterable here scope goes >>= λ goes_over. comprehended_of names goes_over kept item
