-- How tightly operators bind (the Python reference, section 6.17), and the operators themselves.
use Rattle.std.specs.Prelude.{ℕ, List, [], ◌∷◌, Option, Some, None, codes}
use Rattle.grammar_rules.specs.declared.level.Junction.{Junction}
use Rattle.grammar_rules.specs.declared.level.Junction.TheVariants as junction
use Rattle.grammar_rules.specs.declared.level.Rank.{Rank}
use Rattle.grammar_rules.specs.declared.level.Rank.TheVariants as rank
use Rattle.source_trees.specs.declared.expression.Expr.{Expr}
use Rattle.source_trees.specs.declared.expression.Expr.TheVariants as e
use Rattle.source_trees.specs.declared.node.Node.{Node}
use Rattle.source_trees.specs.declared.operator.BinaryOp.{BinaryOp}
use Rattle.source_trees.specs.declared.operator.BinaryOp.TheVariants as binary
use Rattle.source_trees.specs.declared.operator.UnaryOp.{UnaryOp}
use Rattle.source_trees.specs.declared.operator.UnaryOp.TheVariants as unary
use Rattle.source_trees.specs.declared.operator.Comparator.{Comparator}
use Rattle.source_trees.specs.declared.operator.Comparator.TheVariants as compare

-- the word of a junction, and its node
abbrev pub word_of : Junction → List ℕ
word_of junction.Or = codes "or"
word_of junction.And = codes "and"

abbrev pub joined : Junction → Node → List Expr → Expr
joined junction.Or n operands = e.Or n operands
joined junction.And n operands = e.And n operands

-- the rank whose operators bind tighter by one
abbrev pub tighter : Rank → Option Rank
tighter rank.BitOr = Some rank.BitXor
tighter rank.BitXor = Some rank.BitAnd
tighter rank.BitAnd = Some rank.Shift
tighter rank.Shift = Some rank.Sum
tighter rank.Sum = Some rank.Term
tighter rank.Term = None

-- the operators of a rank
abbrev pub operators : Rank → List (List ℕ × BinaryOp)
operators rank.BitOr = (codes "|", binary.Or) ∷ []
operators rank.BitXor = (codes "^", binary.Xor) ∷ []
operators rank.BitAnd = (codes "&", binary.And) ∷ []
operators rank.Shift = (codes "<<", binary.ShiftLeft) ∷ (codes ">>", binary.ShiftRight) ∷ []
operators rank.Sum = (codes "+", binary.Add) ∷ (codes "-", binary.Subtract) ∷ []
operators rank.Term = (codes "*", binary.Multiply) ∷ (codes "//", binary.FloorDivide) ∷ (codes "%", binary.Modulo) ∷ []

-- the signs that stand before a factor
abbrev pub signs : List (List ℕ × UnaryOp)
signs = (codes "+", unary.Plus) ∷ (codes "-", unary.Minus) ∷ (codes "~", unary.Invert) ∷ []

-- the comparisons that are one operator
abbrev pub comparators : List (List ℕ × Comparator)
comparators =
    (codes "==", compare.Equal) ∷ (codes "!=", compare.NotEqual) ∷ (codes "<", compare.Less) ∷ (codes "<=", compare.LessEqual) ∷
    (codes ">", compare.Greater) ∷ (codes ">=", compare.GreaterEqual) ∷ []

-- the operators of augmented assignments
abbrev pub updates : List (List ℕ × BinaryOp)
updates =
    (codes "+=", binary.Add) ∷ (codes "-=", binary.Subtract) ∷ (codes "*=", binary.Multiply) ∷ (codes "//=", binary.FloorDivide) ∷
    (codes "%=", binary.Modulo) ∷ (codes "**=", binary.Power) ∷ (codes "<<=", binary.ShiftLeft) ∷ (codes ">>=", binary.ShiftRight) ∷
    (codes "&=", binary.And) ∷ (codes "|=", binary.Or) ∷ (codes "^=", binary.Xor) ∷ []
