-- What is read of an assignment and of a row, from what their parts read.
use Rattle.std.proofs.Common.{◌≡◌, ℕ, ◌-◌, Bool, true, List, [], ◌∷◌, ◌++◌, length, refl, sym, ◌∙◌, ap, subst, Result, Option, Some, None}
use Rattle.indent_lexer.specs.declared.token.Token.{Token}
use Rattle.source_trees.specs.declared.expression.Expr.{Expr}
use Rattle.source_trees.specs.declared.node.Node.{Node}
use Rattle.source_trees.specs.declared.operator.BinaryOp.{BinaryOp}
use Rattle.source_trees.specs.declared.statement.Stmt.{Stmt}
use Rattle.source_trees.specs.declared.statement.Stmt.TheVariants as stmt
use Rattle.source_trees.specs.declared.statement.Target.{Target}
use Rattle.source_trees.specs.declared.statement.Targets.{Targets}
use Rattle.parse_laws.specs.Parser.{Outcome, Parsed, Stopped, and_then, pure, expect, take_by, repeat, row_turn}
use Rattle.parse_laws.specs.Loops.{row_test}
use Rattle.grammar_rules.specs.Levels.{updates}
use Rattle.grammar_rules.specs.Simple.{node_of_target, node_of_targets}
use Rattle.grammar_rules.specs.Words.{is_comma, look_up}
use Rattle.parse_expressions.specs.declared.cursor.ParseError.{ParseError}
use Rattle.parse_expressions.specs.declared.cursor.ParseError.TheVariants.{Memory, Refused}
use Rattle.parse_expressions.specs.Code.{IsStop, Reads}
use Rattle.parse_statements.specs.Code.{readers}
use Rattle.parse_statements.specs.Heads.{is_equals, starts_head, head_item, assign, update, row_end, row_after}
use Rattle.parse_statements.specs.Items.{items}

assign_read : (n k : ℕ) (x : Targets) (y : Expr) (m : Node) (ts mid rest : List Token) (t : Token) → expect is_equals ts ≡ Parsed t mid → k ≡ n - 1
    → items readers k mid ≡ Parsed y rest → m ≡ node_of_targets x → assign readers n (Some x) ts ≡ Parsed (stmt.Assign m x y) rest
unfolding assign
assign_read n k x y m ts mid rest t e w h q =
    ap (λ o. and_then o (λ _ us. and_then (items readers (n - 1) us) (λ z. pure (stmt.Assign (node_of_targets x) x z)))) e
    ∙ (ap (λ j. and_then (items readers j mid) (λ z. pure (stmt.Assign (node_of_targets x) x z))) (sym w)
    ∙ (ap (λ o. and_then o (λ z. pure (stmt.Assign (node_of_targets x) x z))) h ∙ ap (λ j. Parsed (stmt.Assign j x y) rest) (sym q)))

update_read : (n k : ℕ) (x : Target) (b : BinaryOp) (y : Expr) (m : Node) (ts mid rest : List Token) → take_by (look_up updates) ts ≡ Parsed b mid → k ≡ n - 1
    → items readers k mid ≡ Parsed y rest → m ≡ node_of_target x → update readers n (Some x) ts ≡ Parsed (stmt.Update m x b y) rest
unfolding update
update_read n k x b y m ts mid rest e w h q =
    ap (λ o. and_then o (λ c us. and_then (items readers (n - 1) us) (λ z. pure (stmt.Update (node_of_target x) x c z)))) e
    ∙ (ap (λ j. and_then (items readers j mid) (λ z. pure (stmt.Update (node_of_target x) x b z))) (sym w)
    ∙ (ap (λ o. and_then o (λ z. pure (stmt.Update (node_of_target x) x b z))) h ∙ ap (λ j. Parsed (stmt.Update j x b y) rest) (sym q)))

pub assign_done : (n k : ℕ) (x : Targets) (y : Expr) (s : Stmt) (ts mid rest : List Token) (t : Token) → expect is_equals ts ≡ Parsed t mid → k ≡ n - 1
    → items readers k mid ≡ Parsed y rest → s ≡ stmt.Assign (node_of_targets x) x y → assign readers n (Some x) ts ≡ Parsed s rest
assign_done n k x y s ts mid rest t e w h q = assign_read n k x y (node_of_targets x) ts mid rest t e w h refl ∙ ap (λ z. Parsed z rest) (sym q)

pub update_done : (n k : ℕ) (x : Target) (b : BinaryOp) (y : Expr) (s : Stmt) (ts mid rest : List Token) → take_by (look_up updates) ts ≡ Parsed b mid → k ≡ n - 1
    → items readers k mid ≡ Parsed y rest → s ≡ stmt.Update (node_of_target x) x b y → update readers n (Some x) ts ≡ Parsed s rest
update_done n k x b y s ts mid rest e w h q = update_read n k x b y (node_of_target x) ts mid rest e w h refl ∙ ap (λ z. Parsed z rest) (sym q)

abbrev turns : ℕ → List Expr → List Token → Outcome Token (List Expr × Bool)
turns k xs ts = repeat (row_test is_comma starts_head) (row_turn is_comma (head_item readers k) (λ v y. v ++ y ∷ [])) (length ts) (xs, true) ts

abbrev ending : ℕ → Expr → List Expr × Bool → List Token → Outcome Token Stmt
ending n x s = row_end readers n x s.0

after_comma : (n k : ℕ) (x : Expr) (xs : List Expr) (ts mid : List Token) (t : Token) → expect is_comma ts ≡ Parsed t mid → xs ≡ x ∷ [] → k ≡ n - 2
    → row_after readers n x ts ≡ and_then (turns k xs mid) (ending n x)
unfolding row_after
after_comma n k x xs ts mid t e q w =
    ap (λ o. and_then o (λ _ us. and_then (turns (n - 2) (x ∷ []) us) (ending n x))) e
    ∙ (ap (λ ys. and_then (turns (n - 2) ys mid) (ending n x)) (sym q) ∙ ap (λ j. and_then (turns j xs mid) (ending n x)) (sym w))

pub row_read : (n k : ℕ) (x : Expr) (xs s : List Expr) (b : Bool) (ts mid rest last : List Token) (t : Token) (r : Result Stmt ParseError) → expect is_comma ts ≡ Parsed t mid → xs ≡ x ∷ [] → k ≡ n - 2
    → turns k xs mid ≡ Parsed (s, b) rest → Reads (row_end readers n x s rest) r last → Reads (row_after readers n x ts) r last
row_read n k x xs s b ts mid rest last t r e q w h z =
    subst (λ o. Reads o r last) (sym (after_comma n k x xs ts mid t e q w ∙ ap (λ o. and_then o (ending n x)) h)) z

pub row_stop : (n k : ℕ) (x : Expr) (xs : List Expr) (ts mid rest : List Token) (t : Token) (c : ParseError) → expect is_comma ts ≡ Parsed t mid → xs ≡ x ∷ [] → k ≡ n - 2
    → IsStop (turns k xs mid) c rest → IsStop (row_after readers n x ts) c rest
row_stop n k x xs ts mid rest t Memory e q w h = h
row_stop n k x xs ts mid rest t (Refused c) e q w h = after_comma n k x xs ts mid t e q w ∙ ap (λ o. and_then o (ending n x)) h
