-- What is read after a first item and a comma, from what the turns behind the comma read.
use Rattle.std.proofs.Common.{◌≡◌, ℕ, Bool, true, cond, List, [], ◌∷◌, ◌++◌, length, sym, ◌∙◌, ap, Option}
use Rattle.indent_lexer.specs.declared.token.Token.{Token}
use Rattle.source_trees.specs.declared.expression.Commas.TheVariants.{Bare}
use Rattle.source_trees.specs.declared.expression.Expr.{Expr}
use Rattle.source_trees.specs.declared.expression.Expr.TheVariants as tree
use Rattle.source_trees.specs.declared.node.Node.{Node}
use Rattle.parse_laws.specs.Parser.{Outcome, Parsed, Stopped, Parser, and_then, pure, expect, repeat, row_turn, sees}
use Rattle.parse_laws.specs.Loops.{row_test, starts_in}
use Rattle.grammar_rules.specs.Expressions.{node_of}
use Rattle.grammar_rules.specs.Words.{is_comma}
use Rattle.parse_expressions.specs.declared.cursor.ParseError.{ParseError}
use Rattle.parse_expressions.specs.declared.cursor.ParseError.TheVariants.{Memory, Refused}
use Rattle.parse_expressions.specs.declared.form.Form.TheVariants.{Whole}
use Rattle.parse_expressions.specs.Reading.{read}
use Rattle.parse_expressions.specs.Code.{IsStop}
use Rattle.parse_statements.specs.Readers.{starts_expr, has_room}
use Rattle.parse_statements.specs.Code.{readers}
use Rattle.parse_statements.specs.Items.{tuple_after}
use Rattle.parse_statements.specs.Stages.{argument, more_arguments, starts_argument}

abbrev turns : ℕ → List Expr → List Token → Outcome Token (List Expr × Bool)
turns n xs ts = repeat (row_test is_comma (starts_in has_room starts_expr)) (row_turn is_comma (λ _. read n Whole) (λ v y. v ++ y ∷ [])) (length ts) (xs, true) ts

abbrev made : Expr → List Expr × Bool → Parser Token Expr
made x s = pure (tree.Tuple (node_of x) Bare s.0)

after_comma : (n : ℕ) (x : Expr) (xs : List Expr) (ts mid : List Token) (t : Token) → expect is_comma ts ≡ Parsed t mid → xs ≡ x ∷ []
    → tuple_after readers n x ts ≡ and_then (turns n xs mid) (made x)
unfolding tuple_after
after_comma n x xs ts mid t e q =
    ap (λ o. and_then o (λ _ us. and_then (turns n (x ∷ []) us) (made x))) e ∙ ap (λ ys. and_then (turns n ys mid) (made x)) (sym q)

pub tuple_read : (n : ℕ) (x : Expr) (xs s : List Expr) (b : Bool) (m : Node) (ts mid rest : List Token) (t : Token) → expect is_comma ts ≡ Parsed t mid → xs ≡ x ∷ [] → m ≡ node_of x
    → turns n xs mid ≡ Parsed (s, b) rest → tuple_after readers n x ts ≡ Parsed (tree.Tuple m Bare s) rest
tuple_read n x xs s b m ts mid rest t e q node h =
    after_comma n x xs ts mid t e q ∙ (ap (λ o. and_then o (made x)) h ∙ ap (λ k. Parsed (tree.Tuple k Bare s) rest) (sym node))

pub tuple_stop : (n : ℕ) (x : Expr) (xs : List Expr) (ts mid rest : List Token) (t : Token) (k : ParseError) → expect is_comma ts ≡ Parsed t mid → xs ≡ x ∷ []
    → IsStop (turns n xs mid) k rest → IsStop (tuple_after readers n x ts) k rest
tuple_stop n x xs ts mid rest t Memory e q h = h
tuple_stop n x xs ts mid rest t (Refused k) e q h = after_comma n x xs ts mid t e q ∙ ap (λ o. and_then o (made x)) h

-- ---- the arguments of a stage

abbrev passes : ℕ → List (Option Expr) → List Token → Outcome Token (List (Option Expr) × Bool)
passes n xs ts = repeat (row_test is_comma starts_argument) (row_turn is_comma (λ _. argument readers n) (λ v z. v ++ z ∷ [])) (length ts) (xs, true) ts

abbrev passed : List (Option Expr) × Bool → Parser Token (List (Option Expr))
passed s = pure s.0

arguments_after : (n : ℕ) (y : Option Expr) (xs : List (Option Expr)) (ts mid : List Token) (t : Token) → sees is_comma ts ≡ true → expect is_comma ts ≡ Parsed t mid → xs ≡ y ∷ []
    → more_arguments readers n y ts ≡ and_then (passes n xs mid) passed
unfolding more_arguments
arguments_after n y xs ts mid t seen e q =
    ap (λ b. cond b (and_then (expect is_comma ts) (λ _ us. and_then (passes n (y ∷ []) us) passed)) (Parsed (y ∷ []) ts)) seen
    ∙ (ap (λ o. and_then o (λ _ us. and_then (passes n (y ∷ []) us) passed)) e ∙ ap (λ ys. and_then (passes n ys mid) passed) (sym q))

pub arguments_read : (n : ℕ) (y : Option Expr) (xs s : List (Option Expr)) (b : Bool) (ts mid rest : List Token) (t : Token) → sees is_comma ts ≡ true → expect is_comma ts ≡ Parsed t mid → xs ≡ y ∷ []
    → passes n xs mid ≡ Parsed (s, b) rest → more_arguments readers n y ts ≡ Parsed s rest
arguments_read n y xs s b ts mid rest t seen e q h = arguments_after n y xs ts mid t seen e q ∙ ap (λ o. and_then o passed) h

pub arguments_stop : (n : ℕ) (y : Option Expr) (xs : List (Option Expr)) (ts mid rest : List Token) (t : Token) (k : ParseError) → sees is_comma ts ≡ true → expect is_comma ts ≡ Parsed t mid → xs ≡ y ∷ []
    → IsStop (passes n xs mid) k rest → IsStop (more_arguments readers n y ts) k rest
arguments_stop n y xs ts mid rest t Memory seen e q h = h
arguments_stop n y xs ts mid rest t (Refused k) seen e q h = arguments_after n y xs ts mid t seen e q ∙ ap (λ o. and_then o passed) h
