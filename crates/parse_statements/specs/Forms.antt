-- The languages of what stands before and after the first token that tells what a simple statement is.
use Rattle.std.specs.Prelude.{◌≡◌, Bool, true, List, [], ◌∷◌, ◌++◌, Option, Some, None, ◌⊎◌}
use Rattle.indent_lexer.specs.declared.token.Token.{Token}
use Rattle.source_trees.specs.declared.expression.Commas.TheVariants.{Bare}
use Rattle.source_trees.specs.declared.expression.Expr.{Expr}
use Rattle.source_trees.specs.declared.expression.Expr.TheVariants as e
use Rattle.source_trees.specs.declared.statement.Stmt.{Stmt}
use Rattle.source_trees.specs.declared.statement.Stmt.TheVariants as stmt
use Rattle.source_trees.specs.declared.statement.Target.{Target}
use Rattle.source_trees.specs.declared.statement.Targets.{Targets}
use Rattle.parse_laws.specs.Language.{Language}
use Rattle.parse_laws.specs.Forms.{Then, Made, Picks, Opens, Either}
use Rattle.parse_laws.specs.Limits.{Nothing}
use Rattle.parse_laws.specs.Loops.{Row}
use Rattle.grammar_rules.specs.Expressions.{node_of, IsExpr}
use Rattle.grammar_rules.specs.Levels.{updates}
use Rattle.grammar_rules.specs.Simple.{node_of_target, node_of_targets, IsItems}
use Rattle.grammar_rules.specs.Words.{look_up, is_comma}
use Rattle.parse_statements.specs.Targets.{targets_of, IsPrintName}
use Rattle.parse_statements.specs.Heads.{is_equals, several_targets, evaluated, is_value, may_follow}

-- an expression, or the name `print`, which can only be a target
abbrev pub IsHead : Language Token Expr
IsHead a x = IsExpr a x ⊎ IsPrintName a x

-- nothing more, where the test holds
abbrev pub Sure : {A : Type 0} → Bool → A → Language Token A
Sure test v a w = (test ≡ true) × (a ≡ []) × (w ≡ v)

-- `=` and what is assigned
abbrev pub AssignTo : Option Targets → Language Token Stmt
AssignTo None = Nothing
AssignTo (Some x) = Opens is_equals (λ _. Made IsItems (λ y. stmt.Assign (node_of_targets x) x y))

-- an operator with `=`, and its right side
abbrev pub UpdateTo : Option Target → Language Token Stmt
UpdateTo None = Nothing
UpdateTo (Some x) = Then (Picks (look_up updates)) (λ o. Made IsItems (λ y. stmt.Update (node_of_target x) x o y))

-- the end of items with commas: they are assigned to, or they are a tuple
abbrev pub RowEnd : Expr → List Expr → Language Token Stmt
RowEnd x s = Either (AssignTo (several_targets (targets_of s))) (Sure (is_value s) (evaluated (e.Tuple (node_of x) Bare s)))

-- items after a first one and a comma, and their end
abbrev pub RowTail : Expr → Language Token Stmt
RowTail x = Opens is_comma (λ _. Then (Row is_comma (λ s b y. IsHead b y × (may_follow s y ≡ true)) (λ s y. s ++ y ∷ []) (x ∷ [], true)) (λ s. RowEnd x s.0))
