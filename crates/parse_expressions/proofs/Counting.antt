-- A recursion on a count of turns, beside a loop that counts up, and how many items stand.
use Rattle.std.proofs.Common.{◌≡◌, ◌≢◌, ℕ, suc, ◌+◌, ◌-◌, ◌<◌, ◌≤◌, Bool, true, false, refl, sym, nat_lt, List, [], ◌∷◌, length, ap, ◌∙◌, arith}
use Rattle.std.proofs.lemmas.Bool.{lt-ltb}
use Rattle.parse_laws.specs.Loops.{is_several, finished}
use Rattle.indent_lexer.specs.declared.token.Token.{Token}
use Rattle.source_trees.specs.declared.expression.Expr.{Expr}
use Rattle.source_trees.specs.declared.node.Name.{Name}
use Rattle.source_trees.specs.declared.statement.LoopNames.TheVariants.{Several}
use Rattle.grammar_rules.specs.Expressions.{loop_names}
use Rattle.source_trees.specs.declared.expression.Commas.TheVariants.{Bracketed}
use Rattle.source_trees.specs.declared.expression.Expr.TheVariants as e
use Rattle.grammar_rules.specs.Words.{node_at}
use Rattle.parse_expressions.specs.Reading.{round_tree}

pub one_more : {X : Type 0} {x : X} (f : ℕ → X) (n at : ℕ) → at < n → x ≡ f (n - at) → x ≡ f (suc (n - (at + 1)))
one_more f n at below e = let turn : n - at ≡ suc (n - (at + 1)) = omega arith in e ∙ ap f turn

pub no_more : {X : Type 0} {x : X} (f : ℕ → X) (n at : ℕ) → n ≤ at → x ≡ f (n - at) → x ≡ f 0
no_more f n at done e = let none : n - at ≡ 0 = omega arith in e ∙ ap f none

pub round_many : (t : Token) (xs : List Expr) → length xs ≢ 1 → round_tree t (xs, false) ≡ e.Tuple (node_at t) Bracketed xs
round_many t [] h = refl
round_many t (x ∷ []) h = absurd (h refl)
round_many t (x ∷ y ∷ ys) h = refl

pub several_is : {A : Type 0} (xs : List A) → is_several xs ≡ nat_lt 1 (length xs)
several_is [] = refl
several_is (x ∷ []) = refl
several_is (x ∷ y ∷ ys) = sym (lt-ltb 1 (length (x ∷ y ∷ ys)) (omega arith))

pub names_made : (xs : List Name) (more : Bool) → length xs ≢ 1 → loop_names (finished (xs, more)) ≡ Several xs
names_made [] true h = refl
names_made [] false h = refl
names_made (x ∷ []) more h = absurd (h refl)
names_made (x ∷ y ∷ ys) true h = refl
names_made (x ∷ y ∷ ys) false h = refl
