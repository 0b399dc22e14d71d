-- Which expressions an assignment may write to (the Python reference, section 7.2): a name, an index and a field. What
-- stands before `=` is read as expressions, and only then it is known for what it is.
use Rattle.std.specs.Prelude.{◌≡◌, Bool, true, false, List, [], ◌∷◌, Option, Some, None, codes}
use Rattle.std.specs.Str.{bytes_eq}
use Rattle.indent_lexer.specs.declared.token.Token.{Token}
use Rattle.source_trees.specs.declared.expression.Comparison.{Comparison}
use Rattle.source_trees.specs.declared.expression.Expr.{Expr, Expr-F, out-Expr}
use Rattle.source_trees.specs.declared.expression.Expr.TheVariants as e
use Rattle.source_trees.specs.declared.statement.Target.{Target}
use Rattle.source_trees.specs.declared.statement.Target.TheVariants as target
use Rattle.parse_laws.specs.Parser.{in_table}
use Rattle.parse_laws.specs.Language.{Language}
use Rattle.grammar_rules.specs.Expressions.{IsPostfix}
use Rattle.grammar_rules.specs.Words.{is_word, node_at}

abbrev pub target_in : Expr-F Expr Comparison → Option Target
target_in (Expr-F.Name n spelling) = Some (target.Name n spelling)
target_in (Expr-F.Index n object index) = Some (target.Index n object index)
target_in (Expr-F.Field n object spelling) = Some (target.Field n object spelling)
target_in _ = None

-- the target that the expression is, if it is one
unfoldable pub target_of : Expr → Option Target
target_of x = target_in (out-Expr x)

abbrev pub both : {A : Type 0} → Option A → Option (List A) → Option (List A)
both (Some x) (Some xs) = Some (x ∷ xs)
both (Some x) None = None
both None xs = None

-- the targets that the expressions are, if each is one
abbrev pub targets_of : List Expr → Option (List Target)
targets_of [] = Some []
targets_of (x ∷ xs) = both (target_of x) (targets_of xs)

-- the expression is a target
abbrev pub is_pointed : Expr → Bool
is_pointed x = in_table (target_of x)

abbrev pub print_in : Expr-F Expr Comparison → Bool
print_in (Expr-F.Name n spelling) = bytes_eq spelling (codes "print")
print_in _ = false

-- the expression is the name `print`
unfoldable pub is_print : Expr → Bool
is_print x = print_in (out-Expr x)

-- a postfix form that is a target
abbrev pub IsPointed : Language Token Expr
IsPointed a x = IsPostfix a x × (is_pointed x ≡ true)

-- the name `print`, which is a target and no expression
abbrev pub IsPrintName : Language Token Expr
IsPrintName a x = (t : Token) × (a ≡ t ∷ []) × (is_word (codes "print") t ≡ true) × (x ≡ e.Name (node_at t) (codes "print"))
