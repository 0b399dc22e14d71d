-- A module as the run of its statements sees it, and what a name means (the Python reference, 4.2.2): the body's own variable, else the module's variable, else its function or class, else the prelude's function, else the builtin.
use Rattle.std.specs.Prelude.{ℕ, suc, Bool, true, false, ◌||◌, if◌then◌else◌, List, [], ◌∷◌, ◌++◌, map, Option, Some, None, codes}
use Rattle.std.specs.List.{flat_map}
use Rattle.source_trees.specs.declared.item.Param.{Param}
use Rattle.source_trees.specs.declared.item.Function.{Function}
use Rattle.source_trees.specs.declared.item.Member.{Member}
use Rattle.source_trees.specs.declared.item.Member.TheVariants as member
use Rattle.source_trees.specs.declared.item.Class.{Class}
use Rattle.source_trees.specs.declared.item.Item.{Item}
use Rattle.source_trees.specs.declared.item.Item.TheVariants as item
use Rattle.source_trees.specs.declared.item.Module.{Module}
use Rattle.source_trees.specs.declared.statement.Stmt.{Stmt}
use Rattle.source_trees.specs.Prelude.{prelude}
use Rattle.meaning_rules.specs.State.{Spelling, same, is_among}
use Rattle.meaning_rules.specs.Bodies.{assigned, assigned_outside}

-- a function, or a method with the name of its class
pub record Callable : Type 0 where
  pub function : Function
  pub class_name : Option Spelling

-- the functions and classes in order, the functions and methods in the order of the text, the module's variables, and the functions of the prelude
pub record Program : Type 0 where
  pub functions : List Function
  pub classes : List Class
  pub callables : List Callable
  pub variables : List Spelling
  pub prelude : List Function

-- where a text stands: the names that are variables of the body, those that no region of the body has as private ones, and whether it is the prelude's
pub record Scope : Type 0 where
  pub locals : List Spelling
  pub fixed : List Spelling
  pub in_prelude : Bool

-- ---- classes

abbrev pub field_in : Member → List Spelling
field_in (member.Field n name annotation) = name.spelling ∷ []
field_in _ = []

abbrev pub method_in : Member → List Function
method_in (member.Method f) = f ∷ []
method_in _ = []

-- the fields of a class in order
abbrev pub fields_of : Class → List Spelling
fields_of c = flat_map field_in c.members

abbrev pub methods_of : Class → List Function
methods_of c = flat_map method_in c.members

-- ---- modules

abbrev pub function_in : Item → List Function
function_in (item.Function f) = f ∷ []
function_in _ = []

abbrev pub class_in : Item → List Class
class_in (item.Class c) = c ∷ []
class_in _ = []

abbrev pub statement_in : Item → List Stmt
statement_in (item.Stmt s) = s ∷ []
statement_in _ = []

abbrev pub functions_of : Module → List Function
functions_of m = flat_map function_in m.items

abbrev pub classes_of : Module → List Class
classes_of m = flat_map class_in m.items

abbrev pub statements_of : Module → List Stmt
statements_of m = flat_map statement_in m.items

abbrev pub callables_in_class : Class → List Callable
callables_in_class c = map (λ f. record { function = f; class_name = Some c.name.spelling }) (methods_of c)

abbrev pub callables_in : Item → List Callable
callables_in (item.Function f) = (record { function = f; class_name = None }) ∷ []
callables_in (item.Class c) = callables_in_class c
callables_in (item.Stmt s) = []

abbrev pub callables_of : Module → List Callable
callables_of m = flat_map callables_in m.items

abbrev pub program_of : Module → Program
program_of m = record { functions = functions_of m; classes = classes_of m; callables = callables_of m; variables = assigned (statements_of m); prelude = functions_of prelude }

-- the module's statements have variables of the module and none of their own
abbrev pub module_scope : Module → Scope
module_scope m = record { locals = []; fixed = assigned_outside (statements_of m); in_prelude = false }

abbrev pub param_names : List Param → List Spelling
param_names = map (λ param. param.name)

abbrev pub function_scope : Bool → Function → Scope
function_scope in_prelude f = record {
  locals = param_names f.params ++ assigned f.body;
  fixed = param_names f.params ++ assigned_outside f.body;
  in_prelude = in_prelude;
}

-- where names are a text's own, as in a comprehension
abbrev pub with_locals : List Spelling → Scope → Scope
with_locals names scope = record scope { locals = names ++ scope.locals }

-- ---- names among others

abbrev pub function_named : Spelling → List Function → Option Function
function_named name [] = None
function_named name (f ∷ more) = if same name f.name.spelling then Some f else function_named name more

abbrev pub place_after : Option ℕ → Option ℕ
place_after None = None
place_after (Some n) = Some (suc n)

-- the place of a name among others
abbrev pub place_named : Spelling → List Spelling → Option ℕ
place_named name [] = None
place_named name (other ∷ more) = if same name other then Some 0 else place_after (place_named name more)

abbrev pub initializer_name : Spelling
initializer_name = codes "__init__"

-- ---- what a name that is called means

pub data Builtin : Type 0 where
  Length Least Greatest ToText ToInt ToBool Code Character ToList Range : Builtin

-- a function, and whether it is the prelude's
pub record Known : Type 0 where
  pub function : Function
  pub in_prelude : Bool

-- a function, a class with its number, a builtin, a variable, or nothing
pub data Callee : Type 0 where
  Defined : Known → Callee
  Constructor : ℕ → Class → Callee
  Standard : Builtin → Callee
  Variable : Callee
  Unknown : Callee

abbrev pub builtin_named : Spelling → Callee
builtin_named name =
    if same name (codes "len") then Standard Length else
    (if same name (codes "min") then Standard Least else
    (if same name (codes "max") then Standard Greatest else
    (if same name (codes "str") then Standard ToText else
    (if same name (codes "int") then Standard ToInt else
    (if same name (codes "bool") then Standard ToBool else
    (if same name (codes "ord") then Standard Code else
    (if same name (codes "chr") then Standard Character else
    (if same name (codes "list") then Standard ToList else
    (if same name (codes "range") then Standard Range else Unknown)))))))))

abbrev pub defined_or : Bool → Option Function → Callee → Callee
defined_or in_prelude (Some f) other = Defined (record { function = f; in_prelude = in_prelude })
defined_or in_prelude None other = other

abbrev pub in_prelude_or_builtin : Program → Spelling → Callee
in_prelude_or_builtin program name = defined_or true (function_named name program.prelude) (builtin_named name)

abbrev pub class_named : Spelling → ℕ → List Class → Callee → Callee
class_named name number [] other = other
class_named name number (c ∷ more) other = if same name c.name.spelling then Constructor number c else class_named name (suc number) more other

abbrev pub is_variable : Program → Scope → Spelling → Bool
is_variable program scope name = is_among name scope.locals || is_among name program.variables

-- the prelude is resolved by itself
abbrev pub callee : Program → Scope → Spelling → Callee
callee program scope name =
    if scope.in_prelude then in_prelude_or_builtin program name else
    (if is_variable program scope name then Variable else
    defined_or false (function_named name program.functions) (class_named name 0 program.classes (in_prelude_or_builtin program name)))
