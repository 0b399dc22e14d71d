-- The definitions as the interpreter computes them, part by part.
use Rattle.std.specs.Prelude.{if◌then◌else◌, List, [], ◌∷◌}
use Rattle.codon_base.specs.declared.value.Value.{Value}
use Rattle.source_trees.specs.declared.expression.Expr.{Expr, out-Expr}
use Rattle.source_trees.specs.declared.statement.Stmt.{Stmt}
use Rattle.source_trees.specs.declared.statement.Arm.{Arm}
use Rattle.source_trees.specs.declared.statement.For.{For}
use Rattle.source_trees.specs.declared.statement.LoopNames.{LoopNames}
use Rattle.meaning_rules.specs.State.{Flow}
use Rattle.meaning_rules.specs.Outcome.{Run, ◌>>=◌, pure}
use Rattle.meaning_rules.specs.Objects.{one_of}
use Rattle.meaning_rules.specs.Program.{Scope, Known}
use Rattle.meaning_rules.specs.Task.{Region, Consumer, Body, Parallel, Setting}
use Rattle.meaning_rules.specs.Captures.{begin_loop, body_scope}
use Rattle.meaning_rules.specs.Calls.{arguments}
use Rattle.meaning_rules.specs.Loops as loops
use Rattle.meaning_rules.specs.Loops.{loop, over, generate, while_next, after_loop}
use Rattle.meaning_rules.specs.Expressions.{condition, iterable}
use Rattle.meaning_rules.specs.Statements.{goes_over_range, statements}
use Rattle.meaning_rules.specs.Meaning.{turn_of}
use Rattle.plain_interpreter.specs.Cursors.{next_by}
use Rattle.plain_interpreter.specs.Tasks.{known_of}
use Rattle.plain_interpreter.specs.declared.iterable.Cursor.{Cursor}
use Rattle.plain_interpreter.specs.declared.iterable.Iterable.{Iterable}
use Rattle.plain_interpreter.specs.declared.iterable.Iterable.TheVariants as goes

abbrev pub iterable_of : Iterable → loops.Iterable
iterable_of (goes.Numbers numbers) = loops.Numbers numbers.value.start numbers.value.stop numbers.value.step
iterable_of (goes.Items container) = loops.Items container
iterable_of (goes.Generated called given) = loops.Generated (known_of called) given

module _ (here : Setting) where
  abbrev pub generated : List Consumer → Consumer → Known → List Value → Run Flow
  generated consumers consumer known given = one_of (arguments known.function.params given) >>= generate here consumers consumer known

  -- the turns of a loop from a place on
  abbrev pub turns_from : (Value → Run Flow) → Cursor → Run Flow
  turns_from turn from = loop here.limit (next_by here.rules here.limit) turn from

  module _ (consumers : List Consumer) where
    -- a loop whose turns are what its consumer does
    abbrev pub looped : loops.Iterable → Consumer → Run Flow
    looped goes_over consumer = over here consumers goes_over consumer (turn_of here consumers consumer)

    abbrev pub chosen : Scope → List Arm → List Stmt → Run Flow
    chosen scope [] otherwise = statements here consumers scope otherwise
    chosen scope (arm ∷ more) otherwise = condition here scope arm.condition >>= λ t. if t then statements here consumers scope arm.body else chosen scope more otherwise

    abbrev pub while_of : Scope → Expr → List Stmt → Run Flow
    while_of scope e body = loop here.limit (while_next here.limit (condition here scope e)) (λ _. statements here consumers scope body) tt

    -- a loop in turn, as it is left
    abbrev pub begun_for : Scope → For → Run Flow
    begun_for scope l = iterable here scope l.iterable >>= λ goes_over. looped goes_over (Body scope l.names l.body)

    abbrev pub for_of : Scope → For → Run Flow
    for_of scope l = iterable here scope l.iterable >>= λ goes_over. looped goes_over (Body scope l.names l.body) >>= λ flow. pure (after_loop flow)

    -- a parallel loop that has begun
    abbrev pub parallel_by : Scope → LoopNames → List Stmt → loops.Iterable → Region → Run Flow
    parallel_by scope names body goes_over region = let inner = body_scope scope names body in here.rules.region region (looped goes_over (Parallel region inner names body))

    abbrev pub parallel_left : Scope → For → loops.Iterable → Region → Run Flow
    parallel_left scope l goes_over region = parallel_by scope l.names l.body goes_over region >>= λ flow. pure (after_loop flow)

    abbrev pub parallel_of : Scope → For → Run Flow
    parallel_of scope l =
        iterable here scope l.iterable >>= λ goes_over.
        begin_loop here.program scope l.names (goes_over_range here.program scope (out-Expr l.iterable)) l.body >>= λ region.
        parallel_by scope l.names l.body goes_over region >>= λ flow. pure (after_loop flow)
