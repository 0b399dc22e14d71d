-- A first operand and what stands beside it, by whether anything does.
use Rattle.std.proofs.Common.{◌≡◌, ◌≢◌, ℕ, true, List, [], ◌∷◌, length, refl, arith}
use Rattle.indent_lexer.specs.declared.token.Token.{Token}
use Rattle.source_trees.specs.declared.expression.Comparison.{Comparison}
use Rattle.source_trees.specs.declared.expression.Expr.{Expr}
use Rattle.source_trees.specs.declared.expression.Expr.TheVariants as e
use Rattle.parse_laws.specs.Parser.{Parser}
use Rattle.grammar_rules.specs.declared.level.Junction.{Junction}
use Rattle.grammar_rules.specs.Expressions.{node_of}
use Rattle.grammar_rules.specs.Levels.{joined}
use Rattle.parse_expressions.specs.declared.form.Form.{Form}
use Rattle.parse_expressions.specs.Reading.{fits, fits_more, compare_all, join_all}

pub compared_none : (x : Expr) (cs : List Comparison) → cs ≡ [] → compare_all (x, cs) ≡ x
compared_none x [] h = refl
compared_none x (c ∷ cs) h = absurd (cc)

pub compared_some : (x : Expr) (cs : List Comparison) → cs ≢ [] → compare_all (x, cs) ≡ e.Compare (node_of x) x cs
compared_some x [] h = absurd (h refl)
compared_some x (c ∷ cs) h = refl

pub joined_none : (j : Junction) (x : Expr) (ys : List Expr) → length ys ≡ 0 → join_all j (x, ys) ≡ x
joined_none j x [] h = refl
joined_none j x (y ∷ ys) h = absurd (omega arith)

pub joined_some : (j : Junction) (x : Expr) (ys : List Expr) → length ys ≢ 0 → join_all j (x, ys) ≡ joined j (node_of x) (x ∷ ys)
joined_some j x [] h = absurd (h refl)
joined_some j x (y ∷ ys) h = refl

module _ (room : ℕ) (sub : Form → Parser Token Expr) where
  pub first_fits : {B : Type 0} (x : Expr) (ys : List B) → ys ≡ [] → fits_more room sub (x, ys) ≡ fits room sub x
  first_fits x [] h = refl
  first_fits x (y ∷ ys) h = absurd (cc)

  pub next_fits : {B : Type 0} (x : Expr) (ys : List B) → ys ≢ [] → fits_more room sub (x, ys) ≡ true
  next_fits x [] h = absurd (h refl)
  next_fits x (y ∷ ys) h = refl

  pub first_joint_fits : (x : Expr) (ys : List Expr) → length ys ≡ 0 → fits_more room sub (x, ys) ≡ fits room sub x
  first_joint_fits x [] h = refl
  first_joint_fits x (y ∷ ys) h = absurd (omega arith)

  pub next_joint_fits : (x : Expr) (ys : List Expr) → length ys ≢ 0 → fits_more room sub (x, ys) ≡ true
  next_joint_fits x [] h = absurd (h refl)
  next_joint_fits x (y ∷ ys) h = refl
