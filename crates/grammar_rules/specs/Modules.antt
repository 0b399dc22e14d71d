-- Functions, classes and whole sources (the Python reference, chapters 8 and 9), and the trees that lists of tokens have.
--
--   module  : stmt* END        (def and class stand here alone)
--   def     : 'def' NAME '(' [param (',' param)* [',']] ')' ['->' type] block
--   param   : NAME [':' type] ['=' expr]
--   class   : 'class' NAME ':' NEWLINE INDENT member+ DEDENT
--   member  : NAME ':' type NEWLINE | STRING NEWLINE | 'pass' NEWLINE | def
--
-- A function has at most 255 parameters, and a class at most 255 fields.
use Rattle.std.specs.Prelude.{◌≡◌, ℕ, ◌+◌, ◌≤◌, Bool, true, List, [], ◌∷◌, ◌++◌, length, map, Option, Some, None, codes}
use Rattle.indent_lexer.specs.declared.token.Token.{Token}
use Rattle.indent_lexer.specs.Tokens.{Tokens}
use Rattle.source_trees.specs.declared.expression.Expr.{Expr}
use Rattle.source_trees.specs.declared.item.Annotation.{Annotation}
use Rattle.source_trees.specs.declared.item.Class.{Class}
use Rattle.source_trees.specs.declared.item.Function.{Function}
use Rattle.source_trees.specs.declared.item.Item.{Item}
use Rattle.source_trees.specs.declared.item.Item.TheVariants as item
use Rattle.source_trees.specs.declared.item.Member.{Member}
use Rattle.source_trees.specs.declared.item.Member.TheVariants as member
use Rattle.source_trees.specs.declared.item.Module.{Module}
use Rattle.source_trees.specs.declared.item.Param.{Param}
use Rattle.source_trees.specs.declared.node.Name.{Name}
use Rattle.source_trees.specs.declared.statement.Stmt.{Stmt}
use Rattle.source_trees.specs.Bare.{bare_module}
use Rattle.source_trees.specs.Heights.{height_of}
use Rattle.source_trees.specs.Nodes.{IsNumbered}
use Rattle.parse_laws.specs.Loops.{Listed}
use Rattle.grammar_rules.specs.Expressions.{IsExpr}
use Rattle.grammar_rules.specs.Statements.{IsStmt, IsBlock}
use Rattle.grammar_rules.specs.Types.{IsType}
use Rattle.grammar_rules.specs.Words.{is_op, is_keyword, is_comma, is_newline, is_indent, is_dedent, is_end, name_of, name_at, text_of, node_at, most_items}

-- ---- functions

-- a type after this operator, where it stands
pub data IsMarked (mark : List ℕ) : List Token → Option Annotation → Type 0 where
  unmarked : IsMarked mark [] None
  marked : (t : Token) (a : List Token) (type : Annotation) → is_op mark t ≡ true → IsType a type → IsMarked mark (t ∷ a) (Some type)

pub data IsDefault : List Token → Option Expr → Type 0 where
  no_default : IsDefault [] None
  default : (t : Token) (a : List Token) (x : Expr) → is_op (codes "=") t ≡ true → IsExpr a x → IsDefault (t ∷ a) (Some x)

pub data IsParam : List Token → Param → Type 0 where
  param : (t : Token) (spelling : List ℕ) (a : List Token) (type : Option Annotation) (b : List Token) (value : Option Expr)
      → name_of t ≡ Some spelling → IsMarked (codes ":") a type → IsDefault b value
      → IsParam (t ∷ (a ++ b)) (record { node = node_at t; name = spelling; annotation = type; default = value })

pub data IsParams : List Token → List Param → Type 0 where
  no_params : IsParams [] []
  params : (a : List Token) (ps : List Param) (more : Bool) → Listed is_comma IsParam a (ps, more) → length ps ≤ most_items → IsParams a ps

pub data IsFunction : List Token → Function → Type 0 where
  function : (t u : Token) (name : Name) (open_token : Token) (a : List Token) (params : List Param) (close_token : Token)
      (b : List Token) (result : Option Annotation) (c : List Token) (body : List Stmt)
      → is_keyword (codes "def") t ≡ true → name_at u ≡ Some name → is_op (codes "(") open_token ≡ true → IsParams a params
      → is_op (codes ")") close_token ≡ true → IsMarked (codes "->") b result → IsBlock c body
      → IsFunction (t ∷ u ∷ open_token ∷ (a ++ close_token ∷ (b ++ c)))
      (record { node = node_at t; name = name; params = params; result = result; body = body })

-- ---- classes

pub data IsMember : List Token → Member → Type 0 where
  field : (t : Token) (name : Name) (colon : Token) (a : List Token) (type : Annotation) (newline : Token)
      → name_at t ≡ Some name → is_op (codes ":") colon ≡ true → IsType a type → is_newline newline ≡ true
      → IsMember (t ∷ colon ∷ (a ++ newline ∷ [])) (member.Field (node_at t) name type)
  text : (t : Token) (value : List ℕ) (newline : Token) → text_of t ≡ Some value → is_newline newline ≡ true
      → IsMember (t ∷ newline ∷ []) (member.Text (node_at t) value)
  pass : (t newline : Token) → is_keyword (codes "pass") t ≡ true → is_newline newline ≡ true → IsMember (t ∷ newline ∷ []) (member.Pass (node_at t))
  method : (a : List Token) (f : Function) → IsFunction a f → IsMember a (member.Method f)

-- one member or more
pub data IsMembers : List Token → List Member → Type 0 where
  last : (a : List Token) (m : Member) → IsMember a m → IsMembers a (m ∷ [])
  another : (a : List Token) (m : Member) (b : List Token) (ms : List Member) → IsMember a m → IsMembers b ms → IsMembers (a ++ b) (m ∷ ms)

-- how many of these members are fields
abbrev pub fields_among : List Member → ℕ
fields_among [] = 0
fields_among (member.Field n name type ∷ ms) = fields_among ms + 1
fields_among (_ ∷ ms) = fields_among ms

pub data IsClass : List Token → Class → Type 0 where
  class : (t u : Token) (name : Name) (colon newline indent : Token) (a : List Token) (members : List Member) (dedent : Token)
      → is_keyword (codes "class") t ≡ true → name_at u ≡ Some name → is_op (codes ":") colon ≡ true → is_newline newline ≡ true → is_indent indent ≡ true
      → IsMembers a members → fields_among members ≤ most_items → is_dedent dedent ≡ true
      → IsClass (t ∷ u ∷ colon ∷ newline ∷ indent ∷ (a ++ dedent ∷ [])) (record { node = node_at t; name = name; members = members })

-- ---- sources

-- the statements of a line or one statement, a function or a class
pub data IsTop : List Token → List Item → Type 0 where
  statements : (a : List Token) (body : List Stmt) → IsStmt a body → IsTop a (map item.Stmt body)
  function : (a : List Token) (f : Function) → IsFunction a f → IsTop a (item.Function f ∷ [])
  class : (a : List Token) (c : Class) → IsClass a c → IsTop a (item.Class c ∷ [])

pub data IsTops : List Token → List Item → Type 0 where
  no_more : IsTops [] []
  another : (a : List Token) (items : List Item) (b : List Token) (more : List Item) → IsTop a items → IsTops b more → IsTops (a ++ b) (items ++ more)

-- The list derives the tree without its numbers.
pub data Derives : List Token → Module → Type 0 where
  module_of : (a : List Token) (all : List Item) (t : Token) → IsTops a all → is_end t ≡ true → Derives (a ++ t ∷ []) (record { items = all })

-- The list derives the tree, whose nodes have the numbers 0, 1, 2 and so on in preorder.
abbrev pub Spells : List Token → Module → Type 0
Spells ts m = Derives ts (bare_module m) × IsNumbered m

-- the most height that a statement, function or class at the top of a source may have
abbrev pub most_height : ℕ
most_height = 100

-- The tree of a list of tokens, within the limit of height.
abbrev pub Tree : List Token → Module → Type 0
Tree ts m = Spells ts m × (height_of m ≤ most_height)

-- The tree of a source text.
abbrev pub Source : List ℕ → Module → Type 0
Source bytes m = (ts : List Token) × Tokens bytes ts × Tree ts m
