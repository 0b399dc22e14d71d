-- How a simple statement is read that begins with an expression or a target: what stands before the first `=`, `:`, `|>` or
-- the statement's end is read as expressions, and the token behind them tells what they are. The name `print`, and a 256th
-- item, can only be targets.
use Rattle.std.specs.Prelude.{ℕ, ◌-◌, Bool, true, false, not, cond, ◌||◌, ◌&&◌, nat_le, List, [], ◌∷◌, ◌++◌, length, Option, Some, None, codes}
use Rattle.std.specs.List.{list_any}
use Rattle.std.specs.Str.{bytes_eq}
use Rattle.indent_lexer.specs.declared.token.Token.{Token}
use Rattle.indent_lexer.specs.declared.token.TokenKind.{TokenKind}
use Rattle.indent_lexer.specs.declared.token.TokenKind.TheVariants as kind
use Rattle.source_trees.specs.declared.expression.Commas.TheVariants.{Bare}
use Rattle.source_trees.specs.declared.expression.Expr.{Expr}
use Rattle.source_trees.specs.declared.expression.Expr.TheVariants as e
use Rattle.source_trees.specs.declared.statement.Stmt.{Stmt}
use Rattle.source_trees.specs.declared.statement.Stmt.TheVariants as stmt
use Rattle.source_trees.specs.declared.statement.Target.{Target}
use Rattle.source_trees.specs.declared.statement.Targets.{Targets}
use Rattle.source_trees.specs.declared.statement.Targets.TheVariants as targets
use Rattle.parse_laws.specs.Parser.{Parser, ◌>>=◌, ◌>>◌, pure, refuse, choose, expect, take_by, in_table, repeat, row_turn}
use Rattle.parse_laws.specs.Loops.{row_test}
use Rattle.grammar_rules.specs.Expressions.{node_of}
use Rattle.grammar_rules.specs.Levels.{updates}
use Rattle.grammar_rules.specs.Simple.{node_of_target, node_of_targets}
use Rattle.grammar_rules.specs.Words.{is_op, is_word, is_comma, look_up, node_at, most_items}
use Rattle.parse_statements.specs.Targets.{targets_of, is_pointed, is_print}
use Rattle.parse_statements.specs.Readers.{Readers, starts_expr, starts_postfix, has_room}
use Rattle.parse_statements.specs.Items.{items}

abbrev pub is_equals : Token → Bool
is_equals = is_op (codes "=")

abbrev pub is_print_word : Token → Bool
is_print_word = is_word (codes "print")

-- ---- what may follow what

-- each of these is a target
abbrev pub all_pointed : List Expr → Bool
all_pointed s = in_table (targets_of s)

-- none of these is the name `print`
abbrev pub no_print : List Expr → Bool
no_print s = not (list_any is_print s)

-- these make a tuple, and one more expression may follow
abbrev pub takes_value : List Expr → Bool
takes_value s = has_room s && no_print s

-- these make a tuple
abbrev pub is_value : List Expr → Bool
is_value s = nat_le (length s) most_items && no_print s

-- the item may follow these, as a value or as a target
abbrev pub may_follow : List Expr → Expr → Bool
may_follow s y = (takes_value s && not (is_print y)) || (all_pointed s && is_pointed y)

-- the token begins an item that may follow these
abbrev pub starts_head : List Expr → Token → Bool
starts_head s t = (takes_value s && starts_expr t) || (all_pointed s && (starts_postfix t || is_print_word t))

-- ---- trees

abbrev pub one_target : Option Target → Option Targets
one_target (Some x) = Some (targets.One x)
one_target None = None

abbrev pub several_targets : Option (List Target) → Option Targets
several_targets (Some (x ∷ xs)) = Some (targets.Several (node_of_target x) (x ∷ xs))
several_targets _ = None

abbrev pub evaluated : Expr → Stmt
evaluated x = stmt.Evaluate (node_of x) x

-- ---- the kinds of the tokens that end what stands before `=`

abbrev pub ends_simple_in : TokenKind → Bool
ends_simple_in (kind.Op spelling) = bytes_eq spelling (codes ";")
ends_simple_in kind.Newline = true
ends_simple_in _ = false

-- the token carries a simple statement on: it does not end it
abbrev pub simple_on : Token → Bool
simple_on t = not (ends_simple_in t.kind)

-- the token carries items before `=` on
abbrev pub row_on : Token → Bool
row_on t = not (is_equals t || ends_simple_in t.kind)

-- ---- the parsers, at the height that the statement may have

module _ (r : Readers) where
  unfoldable pub print_name : Parser Token Expr
  print_name = expect is_print_word >>= λ t. pure (e.Name (node_at t) (codes "print"))

  -- an item after these
  unfoldable pub head_item : ℕ → List Expr → Parser Token Expr
  head_item n s =
      cond (takes_value s) (cond (all_pointed s) (choose is_print_word print_name (r.expr n)) (r.expr n)) (choose is_print_word print_name (r.target n))

  unfoldable pub assign : ℕ → Option Targets → Parser Token Stmt
  assign n None = refuse
  assign n (Some x) = expect is_equals >>= λ _. items r (n - 1) >>= λ y. pure (stmt.Assign (node_of_targets x) x y)

  unfoldable pub update : ℕ → Option Target → Parser Token Stmt
  update n None = refuse
  update n (Some x) = take_by (look_up updates) >>= λ o. items r (n - 1) >>= λ y. pure (stmt.Update (node_of_target x) x o y)

  unfoldable pub evaluate : Bool → Expr → Parser Token Stmt
  evaluate true x = pure (evaluated x)
  evaluate false x = refuse

  -- the end of items with commas
  unfoldable pub row_end : ℕ → Expr → List Expr → Parser Token Stmt
  row_end n x s = choose is_equals (assign n (several_targets (targets_of s))) (evaluate (is_value s) (e.Tuple (node_of x) Bare s))

  -- the items after the first one
  unfoldable pub row_after : ℕ → Expr → Parser Token Stmt
  row_after n x = do
    expect is_comma
    s ← λ ts. repeat (row_test is_comma starts_head) (row_turn is_comma (head_item (n - 2)) (λ v y. v ++ y ∷ [])) (length ts) (x ∷ [], true) ts
    row_end n x s.0
