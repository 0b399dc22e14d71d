-- Where a row of arguments may go on with the piped value, that does not stand yet.
use Rattle.std.proofs.Common.{◌≡◌, ℕ, Bool, true, false, not, cond, List, [], ◌∷◌, refl, subst, Option, Some, None}
use Rattle.indent_lexer.specs.declared.token.Token.{Token}
use Rattle.source_trees.specs.declared.expression.Expr.{Expr}
use Rattle.parse_laws.specs.Parser.{Outcome, Parsed, Stopped, sees, and_then, pure, expect}
use Rattle.parse_expressions.specs.Reading.{read}
use Rattle.parse_expressions.specs.declared.form.Form.TheVariants.{Whole}
use Rattle.parse_statements.specs.Code.{readers}
use Rattle.parse_statements.specs.Stages.{is_dots, starts_argument, has_piped, argument}
use Rattle.parse_statements.proofs.Arguments.{starts_tells}

no_value : (o : Outcome Token Expr) (rest : List Token) → and_then o (λ x. pure (Some x)) ≡ Parsed None rest → (P : Type 0) → P
no_value (Parsed x us) rest h P = absurd (cc)
no_value (Stopped k us) rest h P = absurd (cc)

not_true : (x : Bool) → not x ≡ true → x ≡ false
not_true true h = absurd (cc)
not_true false h = refl

pub turn_piped : (n : ℕ) (s : List (Option Expr)) (ts rest : List Token) → sees (starts_argument s) ts ≡ true → argument readers n ts ≡ Parsed None rest → has_piped s ≡ false
unfolding argument
turn_piped n s ts rest h k =
    let P : Bool → Type 0 = λ b. cond b (and_then (expect is_dots ts) (λ _. pure None)) (and_then (read n Whole ts) (λ x. pure (Some x))) ≡ Parsed None rest in
    let go : (x : Bool) → sees is_dots ts ≡ x → has_piped s ≡ false = elim [
      | true ↦ λ e. not_true (has_piped s) ((starts_tells s ts h).0 e)
      | false ↦ λ e. no_value (read n Whole ts) rest (subst P e k) (has_piped s ≡ false)
    ] in
    go (sees is_dots ts) refl
