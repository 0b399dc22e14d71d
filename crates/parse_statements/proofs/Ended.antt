-- What is read where a row of items ends, and the nodes of tuples and names.
use Rattle.std.proofs.Common.{◌≡◌, ℕ, Bool, true, false, cond, List, sym, ◌∙◌, ap, subst, Result, Option}
use Rattle.indent_lexer.specs.declared.token.Token.{Token}
use Rattle.source_trees.specs.declared.expression.Commas.{Commas}
use Rattle.source_trees.specs.declared.expression.Commas.TheVariants.{Bare}
use Rattle.source_trees.specs.declared.expression.Expr.{Expr, Expr-F}
use Rattle.source_trees.specs.declared.expression.Expr.TheVariants as tree
use Rattle.source_trees.specs.declared.node.Node.{Node}
use Rattle.source_trees.specs.declared.statement.Stmt.{Stmt}
use Rattle.source_trees.specs.declared.statement.Stmt.TheVariants as stmt
use Rattle.source_trees.specs.declared.statement.Targets.{Targets}
use Rattle.parse_laws.specs.Parser.{Parsed, sees}
use Rattle.grammar_rules.specs.Expressions.{node_of}
use Rattle.parse_expressions.specs.declared.cursor.ParseError.{ParseError}
use Rattle.parse_expressions.specs.Code.{Reads}
use Rattle.parse_statements.specs.Code.{readers}
use Rattle.parse_statements.specs.Heads.{is_equals, is_value, several_targets, assign, evaluate, row_end}
use Rattle.parse_statements.specs.Targets.{targets_of}
use Rattle.parse_statements.proofs.Targets.{out_Name, out_Tuple}

-- the node of a form, as the grammar has it
abbrev node_in : {A B : Type 0} → Expr-F A B → Node
node_in (Expr-F.Name n spelling) = n
node_in (Expr-F.Number n value) = n
node_in (Expr-F.Text n value) = n
node_in (Expr-F.True n) = n
node_in (Expr-F.False n) = n
node_in (Expr-F.None n) = n
node_in (Expr-F.Bracketed n x) = n
node_in (Expr-F.Tuple n commas items) = n
node_in (Expr-F.List n items) = n
node_in (Expr-F.Comprehension n item names iterable condition) = n
node_in (Expr-F.Conditional n value condition other) = n
node_in (Expr-F.Or n operands) = n
node_in (Expr-F.And n operands) = n
node_in (Expr-F.Not n operand) = n
node_in (Expr-F.Compare n first comparisons) = n
node_in (Expr-F.Unary n op operand) = n
node_in (Expr-F.Binary n op left right) = n
node_in (Expr-F.Call n name arguments) = n
node_in (Expr-F.MethodCall n method object name arguments) = n
node_in (Expr-F.Index n object index) = n
node_in (Expr-F.Slice n object begin end_at) = n
node_in (Expr-F.Field n object name) = n

pub tuple_node : (m : Node) (c : Commas) (s : List Expr) → node_of (tree.Tuple m c s) ≡ m
unfolding node_of
tuple_node m c s = ap node_in (out_Tuple m c s)

pub name_node : (m : Node) (s : List ℕ) → node_of (tree.Name m s) ≡ m
unfolding node_of
name_node m s = ap node_in (out_Name m s)

pub row_tuple : (m : Node) (s : List Expr) (ts : List Token) → is_value s ≡ true → evaluate readers (is_value s) (tree.Tuple m Bare s) ts ≡ Parsed (stmt.Evaluate m (tree.Tuple m Bare s)) ts
unfolding evaluate
row_tuple m s ts h =
    ap (λ b. evaluate readers b (tree.Tuple m Bare s) ts) h ∙ ap (λ j. Parsed (stmt.Evaluate j (tree.Tuple m Bare s)) ts) (tuple_node m Bare s)

pub row_value : (n : ℕ) (x : Expr) (s : List Expr) (m : Node) (ts rest : List Token) (r : Result Stmt ParseError) → sees is_equals ts ≡ false → node_of x ≡ m
    → Reads (evaluate readers (is_value s) (tree.Tuple m Bare s) ts) r rest → Reads (row_end readers n x s ts) r rest
unfolding row_end
row_value n x s m ts rest r seen q z =
    let whole : row_end readers n x s ts ≡ evaluate readers (is_value s) (tree.Tuple m Bare s) ts =
    ap (λ b. cond b (assign readers n (several_targets (targets_of s)) ts) (evaluate readers (is_value s) (tree.Tuple (node_of x) Bare s) ts)) seen
    ∙ ap (λ j. evaluate readers (is_value s) (tree.Tuple j Bare s) ts) q in
    subst (λ o. Reads o r rest) (sym whole) z

pub row_targets : (n : ℕ) (x : Expr) (s : List Expr) (o : Option Targets) (ts rest : List Token) (r : Result Stmt ParseError) → sees is_equals ts ≡ true → o ≡ several_targets (targets_of s)
    → Reads (assign readers n o ts) r rest → Reads (row_end readers n x s ts) r rest
unfolding row_end
row_targets n x s o ts rest r seen q z =
    let whole : row_end readers n x s ts ≡ assign readers n o ts =
    ap (λ b. cond b (assign readers n (several_targets (targets_of s)) ts) (evaluate readers (is_value s) (tree.Tuple (node_of x) Bare s) ts)) seen
    ∙ ap (λ j. assign readers n j ts) (sym q) in
    subst (λ p. Reads p r rest) (sym whole) z
