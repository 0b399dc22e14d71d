-- How a simple statement is read: its first token tells its form, and where it begins with an expression or a target, the
-- token behind that does.
use Rattle.std.specs.Prelude.{◌≡◌, ℕ, ◌+◌, ◌-◌, Bool, true, false, not, cond, nat_le, if◌then◌else◌, List, Option, Some, None, codes}
use Rattle.std.specs.Str.{bytes_eq}
use Rattle.indent_lexer.specs.declared.token.Token.{Token}
use Rattle.indent_lexer.specs.declared.token.TokenKind.{TokenKind}
use Rattle.indent_lexer.specs.declared.token.TokenKind.TheVariants as kind
use Rattle.source_trees.specs.declared.expression.Expr.{Expr}
use Rattle.source_trees.specs.declared.expression.Expr.TheVariants as e
use Rattle.source_trees.specs.declared.item.Annotation.{Annotation}
use Rattle.source_trees.specs.declared.node.Node.{Node}
use Rattle.source_trees.specs.declared.node.Name.{Name}
use Rattle.source_trees.specs.declared.pipeline.Stage.{Stage}
use Rattle.source_trees.specs.declared.statement.Stmt.{Stmt}
use Rattle.source_trees.specs.declared.statement.Stmt.TheVariants as stmt
use Rattle.source_trees.specs.declared.statement.Target.{Target}
use Rattle.source_trees.specs.declared.statement.Target.TheVariants as target
use Rattle.source_trees.specs.Heights.{height_of_expr}
use Rattle.parse_laws.specs.Parser.{Parser, ◌>>=◌, ◌>>◌, pure, refuse, choose, within, sort, expect, take_by, in_table}
use Rattle.parse_laws.specs.Language.{Language}
use Rattle.parse_laws.specs.Forms.{Then, Made, Is, Opens, Closes, Picks, Either}
use Rattle.parse_laws.specs.Limits.{Nothing}
use Rattle.grammar_rules.specs.Expressions.{node_of, IsExpr}
use Rattle.grammar_rules.specs.Levels.{updates}
use Rattle.grammar_rules.specs.Simple.{IsItems, IsPrinted, IsStages, joints}
use Rattle.grammar_rules.specs.Types.{IsType}
use Rattle.grammar_rules.specs.Words.{is_op, is_keyword, is_comma, name_at, entry, node_at}
use Rattle.parse_statements.specs.Targets.{target_of, is_print}
use Rattle.parse_statements.specs.Readers.{Readers, starts_expr}
use Rattle.parse_statements.specs.Items.{items}
use Rattle.parse_statements.specs.Heads.{is_equals, is_print_word, one_target, evaluated, assign, update, evaluate, row_after}
use Rattle.parse_statements.specs.Forms.{Sure, AssignTo, UpdateTo, RowTail}
use Rattle.parse_statements.specs.Prints as print
use Rattle.parse_statements.specs.Prints.{is_bracket_end}
use Rattle.parse_statements.specs.Stages.{is_bracket, stages}

abbrev pub is_colon : Token → Bool
is_colon = is_op (codes ":")

-- ---- the token behind an expression or a target

pub data Follow : Type 0 where
  Comma Equals Augmented Piped Colon Over : Follow

abbrev pub follow_op : List ℕ → Follow
follow_op spelling =
    if bytes_eq spelling (codes ",") then Comma else if bytes_eq spelling (codes "=") then Equals else if bytes_eq spelling (codes ":") then Colon
    else if in_table (entry spelling updates) then Augmented else if in_table (entry spelling joints) then Piped else Over

abbrev pub follow_in : TokenKind → Follow
follow_in (kind.Op spelling) = follow_op spelling
follow_in _ = Over

abbrev pub follow_of : Token → Follow
follow_of t = follow_in t.kind

abbrev pub is_goer : Follow → Bool
is_goer Piped = false
is_goer Over = false
is_goer _ = true

-- the token may follow the name `print` where that is a target
abbrev pub print_goes : Token → Bool
print_goes t = is_goer (follow_of t)

abbrev pub annotation_of : Node → List ℕ → Annotation → Option Expr → Stmt
annotation_of n spelling type value = stmt.Annotated n (record { node = n; spelling = spelling }) type value

-- `=` and a value, or nothing
abbrev pub ValueOf : Node → List ℕ → Annotation → Language Token Stmt
ValueOf n spelling type = Either (Opens is_equals (λ _. Made IsItems (λ y. annotation_of n spelling type (Some y)))) (Is (annotation_of n spelling type None))

abbrev pub AnnotateAs : Option Target → Language Token Stmt
AnnotateAs (Some (target.Name n spelling)) = Opens is_colon (λ _. Then IsType (ValueOf n spelling))
AnnotateAs _ = Nothing

abbrev pub piped_to : Expr → List Stage → Stmt
piped_to x stages = stmt.Pipeline (node_of x) x stages

abbrev pub PipeTo : Expr → Language Token Stmt
PipeTo x a w = (not (is_print x) ≡ true) × Made IsStages (piped_to x) a w

-- what follows, by its first token
abbrev pub TailOf : Expr → Follow → Language Token Stmt
TailOf x Comma = RowTail x
TailOf x Equals = AssignTo (one_target (target_of x))
TailOf x Augmented = UpdateTo (target_of x)
TailOf x Piped = PipeTo x
TailOf x Colon = AnnotateAs (target_of x)
TailOf x Over = Sure (not (is_print x)) (evaluated x)

abbrev pub HeadTail : Expr → Language Token Stmt
HeadTail x a w = (c : Follow) × TailOf x c a w

-- ---- the first token of a simple statement

pub data Lead : Type 0 where
  Pass Break Continue Return Yield Raise Assert Print Value : Lead

abbrev pub lead_word : List ℕ → Lead
lead_word spelling =
    if bytes_eq spelling (codes "pass") then Pass else if bytes_eq spelling (codes "break") then Break else if bytes_eq spelling (codes "continue") then Continue
    else if bytes_eq spelling (codes "return") then Return else if bytes_eq spelling (codes "yield") then Yield else if bytes_eq spelling (codes "raise") then Raise
    else if bytes_eq spelling (codes "assert") then Assert else Value

abbrev pub lead_in : TokenKind → Lead
lead_in (kind.Keyword spelling) = lead_word spelling
lead_in (kind.Name spelling) = if bytes_eq spelling (codes "print") then Print else Value
lead_in _ = Value

abbrev pub lead_of : Token → Lead
lead_of t = lead_in t.kind

abbrev pub print_tree : Token → Expr
print_tree t = e.Name (node_at t) (codes "print")

abbrev pub PrintCall : Token → Language Token Stmt
PrintCall t = Opens is_bracket (λ _. Closes IsPrinted is_bracket_end (λ p. stmt.Print (node_at t) p))

-- the text in the brackets after a fault's name, which may be empty
abbrev pub FaultText : Token → Name → Language Token Stmt
FaultText t name =
    Opens is_bracket (λ _. Closes (Either (Made IsExpr Some) (Is None)) is_bracket_end (λ x. stmt.Raise (node_at t) name x))

abbrev pub Message : Token → Expr → Language Token Stmt
Message t x = Either (Opens is_comma (λ _. Made IsExpr (λ y. stmt.Assert (node_at t) x (Some y)))) (Is (stmt.Assert (node_at t) x None))

abbrev pub LeadOf : Lead → Language Token Stmt
LeadOf Pass = Opens (is_keyword (codes "pass")) (λ t. Is (stmt.Pass (node_at t)))
LeadOf Break = Opens (is_keyword (codes "break")) (λ t. Is (stmt.Break (node_at t)))
LeadOf Continue = Opens (is_keyword (codes "continue")) (λ t. Is (stmt.Continue (node_at t)))
LeadOf Return = Opens (is_keyword (codes "return")) (λ t. Either (Made IsItems (λ x. stmt.Return (node_at t) (Some x))) (Is (stmt.Return (node_at t) None)))
LeadOf Yield = Opens (is_keyword (codes "yield")) (λ t. Made IsItems (λ x. stmt.Yield (node_at t) x))
LeadOf Raise = Opens (is_keyword (codes "raise")) (λ t. Then (Picks name_at) (λ name. Either (FaultText t name) (Is (stmt.Raise (node_at t) name None))))
LeadOf Assert = Opens (is_keyword (codes "assert")) (λ t. Then IsExpr (Message t))
LeadOf Print = Opens is_print_word (λ t. Either (PrintCall t) (HeadTail (print_tree t)))
LeadOf Value = Then IsExpr HeadTail

-- ---- the parsers, at the height that the statement may have

module _ (r : Readers) where
  unfoldable pub annotated_value : ℕ → Node → List ℕ → Annotation → Parser Token Stmt
  annotated_value n m spelling type =
      choose is_equals (expect is_equals >>= λ _. items r (n - 1) >>= λ y. pure (annotation_of m spelling type (Some y))) (pure (annotation_of m spelling type None))

  unfoldable pub annotate : ℕ → Option Target → Parser Token Stmt
  annotate n (Some (target.Name m spelling)) = expect is_colon >>= λ _. r.annotation (n - 1) >>= annotated_value n m spelling
  annotate n _ = refuse

  unfoldable pub pipe : ℕ → Expr → Parser Token Stmt
  pipe n x = cond (is_print x) refuse (stages r (n - 2) >>= λ ss. pure (piped_to x ss))

  unfoldable pub tail_of : ℕ → Expr → Follow → Parser Token Stmt
  tail_of n x Comma = within (nat_le (height_of_expr x + 2) n) (row_after r n x)
  tail_of n x Equals = assign r n (one_target (target_of x))
  tail_of n x Augmented = update r n (target_of x)
  tail_of n x Piped = pipe n x
  tail_of n x Colon = annotate n (target_of x)
  tail_of n x Over = evaluate r (not (is_print x)) x

  -- what follows an expression or a target
  unfoldable pub tail : ℕ → Expr → Parser Token Stmt
  tail n x = sort follow_of Over (tail_of n x)

  unfoldable pub print_call : ℕ → Token → Parser Token Stmt
  print_call n t = expect is_bracket >>= λ _. print.printed r (n - 1) >>= λ p. expect is_bracket_end >> pure (stmt.Print (node_at t) p)

  unfoldable pub fault_text : ℕ → Token → Name → Parser Token Stmt
  fault_text n t name =
      expect is_bracket >>= λ _. choose starts_expr (r.expr (n - 1) >>= λ x. pure (Some x)) (pure None) >>= λ x. expect is_bracket_end >> pure (stmt.Raise (node_at t) name x)

  unfoldable pub message : ℕ → Token → Expr → Parser Token Stmt
  message n t x = choose is_comma (expect is_comma >>= λ _. r.expr (n - 1) >>= λ y. pure (stmt.Assert (node_at t) x (Some y))) (pure (stmt.Assert (node_at t) x None))

  unfoldable pub after_print : ℕ → Token → Parser Token Stmt
  after_print n t = choose is_bracket (print_call n t) (choose print_goes (within (nat_le 2 n) (tail n (print_tree t))) refuse)

  unfoldable pub lead : ℕ → Lead → Parser Token Stmt
  lead n Pass = expect (is_keyword (codes "pass")) >>= λ t. pure (stmt.Pass (node_at t))
  lead n Break = expect (is_keyword (codes "break")) >>= λ t. pure (stmt.Break (node_at t))
  lead n Continue = expect (is_keyword (codes "continue")) >>= λ t. pure (stmt.Continue (node_at t))
  lead n Return = expect (is_keyword (codes "return")) >>= λ t. choose starts_expr (items r (n - 1) >>= λ x. pure (stmt.Return (node_at t) (Some x))) (pure (stmt.Return (node_at t) None))
  lead n Yield = within (nat_le 2 n) (expect (is_keyword (codes "yield")) >>= λ t. items r (n - 1) >>= λ x. pure (stmt.Yield (node_at t) x))
  lead n Raise = within (nat_le 2 n) (expect (is_keyword (codes "raise")) >>= λ t. take_by name_at >>= λ name. choose is_bracket (fault_text n t name) (pure (stmt.Raise (node_at t) name None)))
  lead n Assert = within (nat_le 2 n) (expect (is_keyword (codes "assert")) >>= λ t. r.expr (n - 1) >>= message n t)
  lead n Print = expect is_print_word >>= after_print n
  lead n Value = r.expr (n - 1) >>= tail n

  unfoldable pub simple : ℕ → Parser Token Stmt
  simple n = sort lead_of Value (lead n)
