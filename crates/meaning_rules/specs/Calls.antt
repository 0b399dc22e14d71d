-- Calls of functions, methods and classes (the Python reference, 6.3.4 and 8.7). Each entry into a body takes a tick, after the arguments were evaluated.
use Rattle.std.specs.Prelude.{ℕ, true, false, if◌then◌else◌, List, [], ◌∷◌, map, Option, Some, None, ◌==◌, length, slice_get, codes}
use Rattle.codon_base.specs.declared.fault.FaultKind.TheVariants as kind
use Rattle.codon_base.specs.declared.value.Value.{Value, out-Value}
use Rattle.codon_base.specs.declared.value.Value.TheVariants as value
use Rattle.codon_base.specs.Number.{negation_of}
use Rattle.codon_base.specs.declared.object.Object.TheVariants.{Instance}
use Rattle.source_trees.specs.declared.expression.Expr.{Expr, Expr-F, out-Expr}
use Rattle.source_trees.specs.declared.expression.Comparison.{Comparison}
use Rattle.source_trees.specs.declared.operator.UnaryOp.{UnaryOp}
use Rattle.source_trees.specs.declared.operator.UnaryOp.TheVariants as unary
use Rattle.source_trees.specs.declared.item.Param.{Param}
use Rattle.source_trees.specs.declared.item.Function.{Function}
use Rattle.source_trees.specs.declared.item.Class.{Class}
use Rattle.meaning_rules.specs.State.{Spelling, Names, unset_names, assigned_to, Flow, Return, Left}
use Rattle.meaning_rules.specs.Outcome.{Run, ◌>>=◌, pure, fault, wrong, tick, framed}
use Rattle.meaning_rules.specs.Bodies.{yields, gives_value}
use Rattle.meaning_rules.specs.Objects.{one_of, allocate, ref_in, instance_at}
use Rattle.meaning_rules.specs.Program.{Known, function_scope, function_named, fields_of, methods_of, initializer_name}
use Rattle.meaning_rules.specs.Task.{Enter, Setting}

-- ---- arguments

abbrev pub negative_number : UnaryOp → Expr-F Expr Comparison → Option Value
negative_number unary.Minus (Expr-F.Number n z) = Some (value.Int (negation_of z))
negative_number _ _ = None

-- a default is a number, which may have one minus before it, a text, True, False or None
abbrev pub constant : Expr-F Expr Comparison → Option Value
constant (Expr-F.Number n z) = Some (value.Int z)
constant (Expr-F.Unary n op operand) = negative_number op (out-Expr operand)
constant (Expr-F.Text n text) = Some (value.Text text)
constant (Expr-F.True n) = Some (value.Bool true)
constant (Expr-F.False n) = Some (value.Bool false)
constant (Expr-F.None n) = Some value.Unit
constant _ = None

abbrev pub default_of : Param → Option Expr → Option Value
default_of param None = None
default_of param (Some e) = constant (out-Expr e)

abbrev pub with_first : Option Value → Option (List Value) → Option (List Value)
with_first (Some v) (Some vs) = Some (v ∷ vs)
with_first _ _ = None

-- the values of the parameters: those that are given, and then defaults
abbrev pub arguments : List Param → List Value → Option (List Value)
arguments [] [] = Some []
arguments [] (v ∷ vs) = None
arguments (param ∷ more) (v ∷ vs) = with_first (Some v) (arguments more vs)
arguments (param ∷ more) [] = with_first (default_of param param.default) (arguments more [])

-- the names of a body that begins
abbrev pub parameters : List Param → List Value → Names
parameters (param ∷ more) (v ∷ vs) = assigned_to param.name v (parameters more vs)
parameters _ _ = unset_names

-- ---- bodies of functions

-- what a function gives whose body ended so. A break or continue that no loop takes ends a body as running off its end does
abbrev pub result : Function → Flow → Run Value
result f (Return v) = pure v
result f (Left flow) = result f flow
result f _ = if gives_value f.body then fault kind.Runtime (codes "no value returned") else pure value.Unit

module _ (here : Setting) where
  abbrev pub enter : Known → List Value → Run Value
  enter known vs =
      tick here.limit >>= λ _. framed (parameters known.function.params vs) (here.low [] (Enter (function_scope known.in_prelude known.function) known.function.body)) >>= result known.function

  -- a call of a function that is no generator
  abbrev pub call : Known → List Value → Run Value
  call known given = if yields known.function.body then wrong else (one_of (arguments known.function.params given) >>= enter known)

  -- ---- classes

  abbrev pub initialize : Function → List Value → Value → Run Value
  initialize f given new = call (record { function = f; in_prelude = false }) (new ∷ given) >>= λ _. pure new

  -- without `__init__` the arguments are the fields in order; with it the fields begin without a value
  abbrev pub construct_by : ℕ → Class → Option Function → List Value → Run Value
  construct_by number c None given = if length given == length (fields_of c) then allocate (Instance number given) else wrong
  construct_by number c (Some f) given = allocate (Instance number (map (λ name. value.Unset) (fields_of c))) >>= initialize f given

  abbrev pub construct : ℕ → Class → List Value → Run Value
  construct number c given = construct_by number c (function_named initializer_name (methods_of c)) given

  -- the method of an instance
  abbrev pub method_of : Value → Spelling → Run Known
  method_of v name =
      ref_in (out-Value v) >>= λ at. instance_at at >>= λ instance. one_of (slice_get here.program.classes instance.class) >>= λ c. one_of (function_named name (methods_of c)) >>= λ f. pure (record { function = f; in_prelude = false })
