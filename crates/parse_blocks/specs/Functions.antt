-- How functions and classes are read. A parameter is a node with its type and its default, which stand one level lower.
use Rattle.std.specs.Prelude.{ℕ, ◌-◌, Bool, true, not, ◌||◌, ◌&&◌, nat_lt, List, [], ◌∷◌, ◌++◌, length, Option, Some, None, codes}
use Rattle.indent_lexer.specs.declared.token.Token.{Token}
use Rattle.source_trees.specs.declared.expression.Expr.{Expr}
use Rattle.source_trees.specs.declared.item.Annotation.{Annotation}
use Rattle.source_trees.specs.declared.item.Class.{Class}
use Rattle.source_trees.specs.declared.item.Function.{Function}
use Rattle.source_trees.specs.declared.item.Member.{Member}
use Rattle.source_trees.specs.declared.item.Member.TheVariants as member
use Rattle.source_trees.specs.declared.item.Param.{Param}
use Rattle.source_trees.specs.declared.node.Name.{Name}
use Rattle.source_trees.specs.declared.statement.Stmt.{Stmt}
use Rattle.parse_laws.specs.Parser.{Parser, ◌>>=◌, ◌>>◌, pure, choose, expect, take_by, repeat}
use Rattle.parse_laws.specs.Loops.{listed}
use Rattle.grammar_rules.specs.Modules.{fields_among}
use Rattle.grammar_rules.specs.Words.{is_op, is_keyword, is_comma, is_newline, is_indent, is_dedent, name_at, node_at, most_items}
use Rattle.parse_expressions.specs.Reading.{is_name, is_text, text_at}
use Rattle.parse_statements.specs.Heads.{is_equals}
use Rattle.parse_statements.specs.Prints.{is_bracket_end}
use Rattle.parse_statements.specs.Readers.{Readers, has_room}
use Rattle.parse_statements.specs.Simple.{is_colon}
use Rattle.parse_statements.specs.Stages.{is_bracket}
use Rattle.parse_blocks.specs.Blocks.{block}

abbrev pub is_def : Token → Bool
is_def = is_keyword (codes "def")

abbrev pub is_class : Token → Bool
is_class = is_keyword (codes "class")

abbrev pub is_pass : Token → Bool
is_pass = is_keyword (codes "pass")

-- ---- trees

abbrev pub param_of : Name → Option Annotation → Option Expr → Param
param_of name type value = record { node = name.node; name = name.spelling; annotation = type; default = value }

abbrev pub function_of : Token → Name → List Param → Option Annotation → List Stmt → Function
function_of t name ps result body = record { node = node_at t; name = name; params = ps; result = result; body = body }

abbrev pub class_of_members : Token → Name → List Member → Class
class_of_members t name ms = record { node = node_at t; name = name; members = ms }

-- ---- which member may follow which

-- one more field may follow these
abbrev pub takes_field : List Member → Bool
takes_field ms = nat_lt (fields_among ms) most_items

-- the member may follow these
abbrev pub may_join : List Member → Member → Bool
may_join ms (member.Field n name type) = takes_field ms
may_join ms _ = true

-- the token begins a member that may follow these
abbrev pub starts_member : List Member → Token → Bool
starts_member ms t = (takes_field ms && is_name t) || (is_text t || (is_pass t || is_def t))

-- the token carries the members of a class on: it does not end the class
abbrev pub members_on : Token → Bool
members_on t = not (is_dedent t)

-- ---- the parsers

module _ (r : Readers) where
  -- a type of this height at most, after this operator
  unfoldable pub marked : ℕ → List ℕ → Parser Token (Option Annotation)
  marked n mark = choose (is_op mark) (expect (is_op mark) >>= λ _. r.annotation n >>= λ x. pure (Some x)) (pure None)

  unfoldable pub default : ℕ → Parser Token (Option Expr)
  default n = choose is_equals (expect is_equals >>= λ _. r.expr n >>= λ x. pure (Some x)) (pure None)

  -- a parameter, at the height that it may have
  unfoldable pub param : ℕ → Parser Token Param
  param n = take_by name_at >>= λ name. marked (n - 1) (codes ":") >>= λ type. default (n - 1) >>= λ value. pure (param_of name type value)

  unfoldable pub params : ℕ → Parser Token (List Param)
  params n = choose is_name (listed is_comma is_name has_room (param n) >>= λ row. pure row.0) (pure [])

  -- what follows the parameters
  unfoldable pub function_rest : ℕ → Token → Name → List Param → Parser Token Function
  function_rest n t name ps = marked (n - 1) (codes "->") >>= λ result. block r (n - 1) >>= λ body. pure (function_of t name ps result body)

  -- a function, at the height that it may have
  unfoldable pub function : ℕ → Parser Token Function
  function n =
      expect is_def >>= λ t. take_by name_at >>= λ name. expect is_bracket >>= λ _. params (n - 1) >>= λ ps. expect is_bracket_end >>= λ _. function_rest n t name ps

  unfoldable pub field : ℕ → Parser Token Member
  field n = take_by name_at >>= λ name. expect is_colon >>= λ _. r.annotation (n - 1) >>= λ type. expect is_newline >> pure (member.Field name.node name type)

  -- a member, at the height that it may have
  unfoldable pub one_member : ℕ → Parser Token Member
  one_member n =
      choose is_name (field n)
      (choose is_text (take_by text_at >>= λ p. expect is_newline >>= λ _. pure (member.Text p.0 p.1))
      (choose is_pass (expect is_pass >>= λ t. expect is_newline >>= λ _. pure (member.Pass (node_at t)))
      (function n >>= λ f. pure (member.Method f))))

  unfoldable pub members : ℕ → Parser Token (List Member)
  members n = one_member n >>= λ m. (λ ts. repeat starts_member (λ ms. one_member n >>= λ y. pure (ms ++ y ∷ [])) (length ts) (m ∷ []) ts)

  -- a class, at the height that it may have
  unfoldable pub class : ℕ → Parser Token Class
  class n =
      expect is_class >>= λ t. take_by name_at >>= λ name. expect is_colon >>= λ _. expect is_newline >>= λ _. expect is_indent >>= λ _. members (n - 1) >>= λ ms. expect is_dedent >> pure (class_of_members t name ms)
