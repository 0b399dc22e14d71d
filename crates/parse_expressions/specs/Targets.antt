-- Which expressions an assignment may write to (the Python reference, section 7.2): a name, an index and a field.
use Rattle.std.specs.Prelude.{◌≡◌, Bool, true, Option, Some, None}
use Rattle.indent_lexer.specs.declared.token.Token.{Token}
use Rattle.source_trees.specs.declared.expression.Comparison.{Comparison}
use Rattle.source_trees.specs.declared.expression.Expr.{Expr, Expr-F, out-Expr}
use Rattle.source_trees.specs.declared.statement.Target.{Target}
use Rattle.source_trees.specs.declared.statement.Target.TheVariants as target
use Rattle.parse_laws.specs.Parser.{in_table}
use Rattle.parse_laws.specs.Language.{Language}
use Rattle.grammar_rules.specs.Expressions.{IsPostfix}

abbrev pub target_in : Expr-F Expr Comparison → Option Target
target_in (Expr-F.Name n spelling) = Some (target.Name n spelling)
target_in (Expr-F.Index n object index) = Some (target.Index n object index)
target_in (Expr-F.Field n object spelling) = Some (target.Field n object spelling)
target_in _ = None

-- the target that the expression is, if it is one
unfoldable pub target_of : Expr → Option Target
target_of x = target_in (out-Expr x)

-- the expression is a target
abbrev pub is_pointed : Expr → Bool
is_pointed x = in_table (target_of x)

-- a postfix form that is a target
abbrev pub IsPointed : Language Token Expr
IsPointed a x = IsPostfix a x × (is_pointed x ≡ true)
