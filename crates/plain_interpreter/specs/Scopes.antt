-- What the interpreter's scopes stand for among the definitions.
use Rattle.std.specs.Prelude.{Bool, ◌||◌, ◌++◌}
use Rattle.std.specs.List.{flat_map, list_any}
use Rattle.source_trees.specs.declared.statement.LoopNames.{LoopNames}
use Rattle.source_trees.specs.declared.statement.LoopNames.TheVariants as names
use Rattle.meaning_rules.specs.State.{Spelling, same, is_among}
use Rattle.source_trees.specs.Names.{loop_names}
use Rattle.meaning_rules.specs.Program as program
use Rattle.plain_interpreter.specs.declared.scope.Scope.{Scope}

abbrev pub scope_of : Scope → program.Scope
scope_of s = record { locals = flat_map (λ each. loop_names each.names.now) s.inner.now ++ s.locals.now; fixed = s.fixed.now; in_prelude = s.in_prelude }

abbrev pub sets : Spelling → LoopNames → Bool
sets name (names.One only) = same name only.spelling
sets name (names.Several all) = list_any (λ other. same name other.spelling) all

abbrev pub has_local : Spelling → Scope → Bool
has_local name s = list_any (λ each. sets name each.names.now) s.inner.now || is_among name s.locals.now
