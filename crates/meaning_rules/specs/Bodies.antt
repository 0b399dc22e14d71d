-- Which names a body assigns, and whether it yields or gives a value (the Python reference, 4.2.1, 6.2.9 and 7.6).
use Rattle.std.specs.Prelude.{Bool, true, false, ◌||◌, List, [], ◌∷◌, ◌++◌, map, Option, Some, None}
use Rattle.std.specs.List.{flat_map, list_any}
use Rattle.source_trees.specs.declared.expression.Expr.{Expr}
use Rattle.source_trees.specs.declared.node.Name.{Name}
use Rattle.source_trees.specs.declared.statement.Stmt.{Stmt, Stmt-F}
use Rattle.source_trees.specs.declared.statement.Stmt.TheOpen.{Arm-F, For-F}
use Rattle.source_trees.specs.declared.statement.Stmt.TheFolds.{fold-Stmt}
use Rattle.source_trees.specs.Names.{loop_names, target_names, targets_names}
use Rattle.meaning_rules.specs.State.{Spelling}

-- ---- names that are assigned

-- an annotation without a value assigns nothing
abbrev pub annotated_name : Name → Option Expr → List Spelling
annotated_name name None = []
annotated_name name (Some value) = name.spelling ∷ []

module _ (parallel : List Spelling → List Spelling) where
  abbrev pub assigned_step : Stmt-F (List Spelling) (List Spelling) (List Spelling) → List Spelling
  assigned_step (Stmt-F.Annotated n name annotation value) = annotated_name name value
  assigned_step (Stmt-F.Assign n written value) = targets_names written
  assigned_step (Stmt-F.Update n written op value) = target_names written
  assigned_step (Stmt-F.If n arms otherwise) = flat_map (λ arm. arm) arms ++ flat_map (λ each. each) otherwise
  assigned_step (Stmt-F.While n condition body) = flat_map (λ each. each) body
  assigned_step (Stmt-F.For loop) = loop
  assigned_step (Stmt-F.Par n settings loop) = parallel loop
  assigned_step _ = []

  abbrev pub assigned_in_arm : Arm-F (List Spelling) (List Spelling) (List Spelling) → List Spelling
  assigned_in_arm arm = flat_map (λ each. each) arm.body

  abbrev pub assigned_in_loop : For-F (List Spelling) (List Spelling) (List Spelling) → List Spelling
  assigned_in_loop loop = loop_names loop.names ++ flat_map (λ each. each) loop.body

  unfoldable pub assigned_by : Stmt → List Spelling
  assigned_by = fold-Stmt (List Spelling) (List Spelling) (List Spelling) assigned_step assigned_in_arm assigned_in_loop

-- the names that a body assigns: by targets, by annotations with a value, and as names of loops
abbrev pub assigned : List Stmt → List Spelling
assigned = flat_map (assigned_by (λ names. names))

-- those of them that are assigned outside of the parallel loops in the body
abbrev pub assigned_outside : List Stmt → List Spelling
assigned_outside = flat_map (assigned_by (λ names. []))

-- ---- statements of one form

module _ (is : Stmt-F Bool Bool Bool → Bool) where
  abbrev pub some_step : Stmt-F Bool Bool Bool → Bool
  some_step (Stmt-F.If n arms otherwise) = list_any (λ b. b) arms || list_any (λ b. b) otherwise
  some_step (Stmt-F.While n condition body) = list_any (λ b. b) body
  some_step (Stmt-F.For loop) = loop
  some_step (Stmt-F.Par n settings loop) = loop
  some_step other = is other

  abbrev pub some_in_arm : Arm-F Bool Bool Bool → Bool
  some_in_arm arm = list_any (λ b. b) arm.body

  abbrev pub some_in_loop : For-F Bool Bool Bool → Bool
  some_in_loop loop = list_any (λ b. b) loop.body

  unfoldable pub has_some : Stmt → Bool
  has_some = fold-Stmt Bool Bool Bool some_step some_in_arm some_in_loop

abbrev pub is_yield : Stmt-F Bool Bool Bool → Bool
is_yield (Stmt-F.Yield n value) = true
is_yield _ = false

abbrev pub is_return_of_value : Stmt-F Bool Bool Bool → Bool
is_return_of_value (Stmt-F.Return n (Some value)) = true
is_return_of_value _ = false

-- a function with such a body is a generator
abbrev pub yields : List Stmt → Bool
yields = list_any (has_some is_yield)

-- a function with such a body does not give None where it runs off its end
abbrev pub gives_value : List Stmt → Bool
gives_value = list_any (has_some is_return_of_value)
