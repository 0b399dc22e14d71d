-- The parser of types, as functions on lists of tokens.
use Rattle.std.specs.Prelude.{ℕ, ◌≤◌, zero, suc, Bool, true, false, ◌||◌, ◌&&◌, if◌then◌else◌, nat_lt, nat_le, List, [], ◌∷◌, ◌++◌, length, Option, Some, None, codes}
use Rattle.std.specs.Str.{bytes_eq}
use Rattle.indent_lexer.specs.declared.token.Token.{Token}
use Rattle.indent_lexer.specs.declared.token.TokenKind.{TokenKind}
use Rattle.indent_lexer.specs.declared.token.TokenKind.TheVariants as kind
use Rattle.source_trees.specs.declared.item.Annotation.{Annotation}
use Rattle.source_trees.specs.declared.item.Annotation.TheVariants as annotation
use Rattle.source_trees.specs.declared.node.Node.{Node}
use Rattle.source_trees.specs.declared.node.Name.{Name}
use Rattle.source_trees.specs.Heights.{height_of_annotation}
use Rattle.parse_laws.specs.declared.cause.Cause.TheVariants.{TooDeep}
use Rattle.parse_laws.specs.Parser.{Parser, Stopped, pure, refuse, choose, within, expect, take_by, repeat, sort, ◌>>=◌, ◌>>◌}
use Rattle.grammar_rules.specs.Types.{is_list_word, is_tuple_word}
use Rattle.grammar_rules.specs.Words.{is_comma, node_at, name_at, most_items}
use Rattle.parse_expressions.specs.declared.start.TypeStart.{TypeStart}
use Rattle.parse_expressions.specs.declared.start.TypeStart.TheVariants.{Simple, ListWord, TupleWord, Nowhere}
use Rattle.parse_expressions.specs.Reading.{is_square, is_square_close}

-- the type has at most this height
abbrev pub LowType : ℕ → Annotation → Type 0
LowType room x = height_of_annotation x ≤ room

-- ---- what a type begins with

abbrev pub is_list_spelling : List ℕ → Bool
is_list_spelling spelling = bytes_eq spelling (codes "list") || bytes_eq spelling (codes "List")

abbrev pub is_tuple_spelling : List ℕ → Bool
is_tuple_spelling spelling = bytes_eq spelling (codes "tuple") || bytes_eq spelling (codes "Tuple")

abbrev pub type_start_in : TokenKind → TypeStart
type_start_in (kind.Name spelling) = if is_list_spelling spelling then ListWord else if is_tuple_spelling spelling then TupleWord else Simple
type_start_in (kind.Keyword spelling) = if bytes_eq spelling (codes "None") then Simple else Nowhere
type_start_in _ = Nowhere

abbrev pub type_start : Token → TypeStart
type_start t = type_start_in t.kind

abbrev pub named_type : Node → List ℕ → Annotation
named_type n spelling =
    if bytes_eq spelling (codes "int") then annotation.Int n else if bytes_eq spelling (codes "bool") then annotation.Bool n
    else if bytes_eq spelling (codes "str") then annotation.Str n else annotation.Class n spelling

abbrev pub simple_in : Node → TokenKind → Option Annotation
simple_in n (kind.Name spelling) = Some (named_type n spelling)
simple_in n (kind.Keyword spelling) = if bytes_eq spelling (codes "None") then Some (annotation.None n) else None
simple_in n _ = None

-- the type that one token is
abbrev pub simple_type : Token → Option Annotation
simple_type t = simple_in (node_at t) t.kind

abbrev pub type_begins_in : TokenKind → Bool
type_begins_in (kind.Name spelling) = true
type_begins_in (kind.Keyword spelling) = bytes_eq spelling (codes "None")
type_begins_in _ = false

-- the name of a token that passes the test
abbrev pub named_if : (Token → Bool) → Token → Option Name
named_if test t = if test t then name_at t else None

-- the token begins a type
abbrev pub type_begins : Token → Bool
type_begins t = type_begins_in t.kind

-- ---- types

-- one more type may follow these
abbrev pub few_types : List Annotation → Bool
few_types xs = nat_lt (length xs) most_items

abbrev pub more_types : List Annotation → Token → Bool
more_types xs t = few_types xs && is_comma t

abbrev pub class_tree : Name → Annotation
class_tree name = annotation.Class name.node name.spelling

-- `sub` reads the parts of a type, which are at most `room` high; the type is one higher at most.
module _ (room : ℕ) (sub : Parser Token Annotation) where
  unfoldable pub list_rest : Name → Parser Token Annotation
  list_rest name = choose is_square
      (within (nat_le 1 room) (expect is_square >>= λ _. sub >>= λ x. expect is_square_close >> pure (annotation.List name.node x)))
      (pure (class_tree name))

  -- a comma and one more type behind those that stand
  abbrev pub one_more_type : List Annotation → Parser Token (List Annotation)
  one_more_type xs = expect is_comma >>= λ _. sub >>= λ y. pure (xs ++ y ∷ [])

  -- the types behind those that stand
  unfoldable pub types_after : List Annotation → Parser Token (List Annotation)
  types_after xs = λ ts. repeat more_types one_more_type (length ts) xs ts

  unfoldable pub types : Parser Token (List Annotation)
  types = sub >>= λ x. types_after (x ∷ [])

  unfoldable pub tuple_rest : Name → Parser Token Annotation
  tuple_rest name = choose is_square
      (within (nat_le 1 room) (expect is_square >>= λ _. types >>= λ xs. expect is_square_close >> pure (annotation.Tuple name.node xs)))
      (pure (class_tree name))

  unfoldable pub type_from : TypeStart → Parser Token Annotation
  type_from Simple = take_by simple_type
  type_from ListWord = take_by (named_if is_list_word) >>= list_rest
  type_from TupleWord = take_by (named_if is_tuple_word) >>= tuple_rest
  type_from Nowhere = refuse

  unfoldable pub type_at : Parser Token Annotation
  type_at = sort type_start Nowhere type_from

-- The parser of types that are at most `room` high: where there is no room at all, what begins one is too deep.
unfoldable pub read_type : ℕ → Parser Token Annotation
read_type zero = choose type_begins (λ ts. Stopped TooDeep ts) refuse
read_type (suc room) = type_at room (read_type room)
