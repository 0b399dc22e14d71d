-- What a region is made of when it begins: its private names, the captured names, which are read then, the lists that it lends, and the instances that are its targets. All is read from the tree; no type takes part.
use Rattle.std.specs.Prelude.{ℕ, zero, suc, Bool, true, false, not, ◌&&◌, ◌||◌, if◌then◌else◌, List, [], ◌∷◌, ◌++◌, length, map, Option, Some, None}
use Rattle.std.specs.List.{flat_map, filter, list_any}
use Rattle.codon_base.specs.declared.value.Ref.{Ref}
use Rattle.codon_base.specs.declared.value.Value.{Value, Value-F, out-Value}
use Rattle.codon_base.specs.declared.object.Object.{Object}
use Rattle.codon_base.specs.declared.object.Object.TheVariants.{List as Listed, Instance}
use Rattle.codon_base.specs.Levels.{object_at}
use Rattle.source_trees.specs.declared.item.Function.{Function}
use Rattle.source_trees.specs.declared.item.Class.{Class}
use Rattle.source_trees.specs.declared.statement.LoopNames.{LoopNames}
use Rattle.source_trees.specs.declared.statement.Stmt.{Stmt}
use Rattle.meaning_rules.specs.State.{Spelling, same, is_among}
use Rattle.meaning_rules.specs.Outcome.{Run, ◌>>=◌, pure, look}
use Rattle.meaning_rules.specs.Bodies.{assigned, assigned_outside}
use Rattle.source_trees.specs.Names.{loop_names}
use Rattle.meaning_rules.specs.Mentions.{but_of, Note, Calls, CallsMethod, notes_of_body, mentioned, written_places}
use Rattle.meaning_rules.specs.Program.{Program, Scope, Callable, function_scope, is_variable, initializer_name}
use Rattle.meaning_rules.specs.Task.{Region}
use Rattle.meaning_rules.specs.Variables.{read_name}

-- ---- private names

-- The names that each iteration of a parallel loop has fresh: the loop's names, and the names that its body assigns where every assignment in the body round it stands in such a loop. A name that is fixed there, as a parameter or by an assignment outside, is none of them
abbrev pub private_names : Scope → LoopNames → List Stmt → List Spelling
private_names scope names body = loop_names names ++ filter (λ name. not (is_among name scope.fixed)) (assigned body)

-- where the body of a parallel loop stands: its own names are there as parameters are in a function
abbrev pub body_scope : Scope → LoopNames → List Stmt → Scope
body_scope scope names body = record scope { fixed = scope.fixed ++ loop_names names ++ assigned_outside body }

-- ---- the reach

abbrev pub calls_name : Spelling → Note → Bool
calls_name name (Calls other) = same name other
calls_name name _ = false

abbrev pub calls_method : Spelling → Note → Bool
calls_method name (CallsMethod other) = same name other
calls_method name _ = false

-- a call by name calls that function, or the `__init__` of that class; a call of a method calls each method of that name
abbrev pub calls_of_class : Option Spelling → Spelling → Note → Bool
calls_of_class None name note = calls_name name note
calls_of_class (Some class) name note = calls_method name note || (same name initializer_name && calls_name class note)

abbrev pub is_called_by : Callable → Note → Bool
is_called_by callable = calls_of_class callable.class_name callable.function.name.spelling

abbrev pub called_by : List Note → List Callable → List Callable
called_by notes = filter (λ callable. list_any (is_called_by callable) notes)

abbrev pub notes_of_reached : List Callable → List Note
notes_of_reached = flat_map (λ callable. notes_of_body callable.function.body)

-- what notes call, directly or through at most n others
unfoldable pub reached_within : Program → List Note → ℕ → List Callable
reached_within program notes zero = called_by notes program.callables
reached_within program notes (suc n) = called_by (notes ++ notes_of_reached (reached_within program notes n)) program.callables

-- what notes call, directly or through others
abbrev pub reached : Program → List Note → List Callable
reached program notes = reached_within program notes (length program.callables)

-- ---- captured names

abbrev pub each_new : List Spelling → List Spelling → List Spelling
each_new before [] = []
each_new before (name ∷ more) = if is_among name before then each_new before more else name ∷ each_new (before ++ name ∷ []) more

-- each name once, where it comes first
abbrev pub each_once : List Spelling → List Spelling
each_once = each_new []

-- the notes of a function but for its own names
abbrev pub notes_outside : Callable → List Note
notes_outside callable = but_of (function_scope false callable.function).locals (notes_of_body callable.function.body)

-- the variables round a text that it mentions, but for names of its own
abbrev pub outer_names : Program → Scope → List Spelling → List Note → List Spelling
outer_names program scope own notes = each_once (filter (λ name. is_variable program scope name && not (is_among name own)) (mentioned notes))

-- where the module's variables are read
abbrev pub outside : Scope → Scope
outside scope = record scope { locals = [] }

-- the module's variables that the functions mention that a text reaches, in node order, without those that were read already
abbrev pub module_names : Program → Scope → List Spelling → List Note → List Spelling
module_names program scope outer notes =
    each_once (filter (λ name. is_among name program.variables && not (is_among name outer && not (is_among name scope.locals))) (mentioned (flat_map notes_outside (reached program notes))))

-- ---- the beginning of a region

pub record Captured : Type 0 where
  pub name : Spelling
  pub value : Value

abbrev pub capture : Program → Scope → List Spelling → Run (List Captured)
capture program scope [] = pure []
capture program scope (name ∷ more) =
    read_name program scope name >>= λ v. capture program scope more >>= λ others. pure ((record { name = name; value = v }) ∷ others)

abbrev pub is_list : Option Object → Bool
is_list (Some (Listed items)) = true
is_list _ = false

abbrev pub is_instance : Option Object → Bool
is_instance (Some (Instance class fields)) = true
is_instance _ = false

abbrev pub address_in : Value-F Value → List Ref
address_in (Value-F.Ref at) = at ∷ []
address_in _ = []

-- the objects of one kind that captured names hold
abbrev pub held : (Option Object → Bool) → List (List Object) → List Captured → List Ref
held is levels captured = filter (λ at. is (object_at levels at)) (flat_map (λ each. address_in (out-Value each.value)) captured)

-- private names of the body that runs, or of the module
abbrev pub own_of : Bool → Scope → List Spelling → List Spelling
own_of true scope = filter (λ name. is_among name scope.locals)
own_of false scope = filter (λ name. not (is_among name scope.locals))

abbrev pub region_of : Scope → List Spelling → List Spelling → List (List Object) → List Captured → List Captured → Region
region_of scope own lent levels outer others = record {
  lent = held is_list levels (filter (λ each. is_among each.name lent) outer);
  targets = held is_instance levels (outer ++ others);
  own = own_of true scope own;
  own_globals = own_of false scope own;
}

-- A region with these private names and this text, which lends the lists of these names. The captured names are the outer names that its text mentions, and then the module's variables that its reach mentions
abbrev pub begin : Program → Scope → List Spelling → List Note → List Spelling → Run Region
begin program scope own notes lent =
    let names = outer_names program scope own notes in
    capture program scope names >>= λ outer. capture program (outside scope) (module_names program scope names notes) >>= λ others. look (λ s. region_of scope own lent s.shared.levels outer others)

-- a parallel loop. It lends lists where it goes over a range
abbrev pub begin_loop : Program → Scope → LoopNames → Bool → List Stmt → Run Region
begin_loop program scope names over_range body =
    let notes = notes_of_body body in begin program scope (private_names scope names body) notes (if over_range then written_places notes else [])
