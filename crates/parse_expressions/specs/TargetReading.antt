-- The parser of targets, as functions on lists of tokens. A target is read as a postfix form. What stands in it and is no
-- target itself has something behind it, and so is at most as high as a part.
use Rattle.std.specs.Prelude.{ℕ, zero, suc, Bool, cond, ◌&&◌, nat_le, length, Option, Some, None}
use Rattle.indent_lexer.specs.declared.token.Token.{Token}
use Rattle.source_trees.specs.declared.expression.Expr.{Expr}
use Rattle.source_trees.specs.Heights.{height_of_expr, highest}
use Rattle.parse_laws.specs.declared.cause.Cause.TheVariants.{Unexpected, TooDeep}
use Rattle.parse_laws.specs.Parser.{Parser, Parsed, Stopped, refuse, choose, within, expect, take_by, has, repeat, ◌>>=◌}
use Rattle.parse_expressions.specs.declared.form.Form.TheVariants as form
use Rattle.parse_expressions.specs.Forms.{begins}
use Rattle.parse_expressions.specs.Reading.{heights, is_square, is_dot, is_colon, is_trailer, plain_at, named_rest, atom, dotted, slice_from, index_at, read}
use Rattle.parse_expressions.specs.Targets.{is_pointed}

-- what begins a form is too deep, and any other token is refused
abbrev pub too_deep : {A : Type 0} → ℕ → Parser Token A
too_deep opening = choose (begins opening) (λ ts. Stopped TooDeep ts) refuse

-- What a target begins with. `room` is the greatest height of its parts.
unfoldable pub target_atom : ℕ → Parser Token Expr
target_atom zero = choose (has plain_at) (take_by plain_at >>= named_rest zero (read zero)) (too_deep 1)
target_atom (suc low) = atom low (read low)

-- a slice of this object from this bound may be a part
abbrev pub slice_fits : ℕ → Expr → Option Expr → Bool
slice_fits low x o = nat_le (height_of_expr x) low && nat_le (highest (heights o)) low

-- What follows the bound, if there is one: a slice, which is no target, or an index, which is one.
unfoldable pub target_bound : ℕ → Expr → Option Expr → Parser Token Expr
target_bound low x o = choose is_colon (within (slice_fits low x o) (slice_from low (read low) x o)) (index_at (suc low) (read (suc low)) x o)

unfoldable pub target_indexed : ℕ → Expr → Parser Token Expr
target_indexed low x =
    expect is_square >>= λ _. choose (begins 3) (read (suc low) form.Whole >>= λ y. target_bound low x (Some y)) (target_bound low x None)

abbrev pub target_after : ℕ → Expr → Parser Token Expr
target_after zero x = refuse
target_after (suc low) x = choose is_dot (dotted low (read low) x) (target_indexed low x)

-- a field, a method's call, an index or a slice
unfoldable pub target_trailer : ℕ → Expr → Parser Token Expr
target_trailer room x = within (nat_le (height_of_expr x) room) (target_after room x)

unfoldable pub target_trailers : ℕ → Expr → Parser Token Expr
target_trailers room x = λ ts. repeat (λ _. is_trailer) (target_trailer room) (length ts) x ts

-- the tree, if it is a target
abbrev pub pointed : Expr → Parser Token Expr
pointed x = λ ts. cond (is_pointed x) (Parsed x ts) (Stopped Unexpected ts)

-- the parser of targets that are at most so high
unfoldable pub read_target : ℕ → Parser Token Expr
read_target zero = too_deep 1
read_target (suc room) = target_atom room >>= λ x. target_trailers room x >>= pointed
