-- What a token is spelled with, as the grammar asks for it, and the leaves of trees that one token makes.
--
-- Trees stand here without numbers: each node has the number 0 and the place of its first token.
use Rattle.std.specs.Prelude.{ℕ, ℤ, Bool, true, false, cond, List, [], ◌∷◌, Option, Some, None, codes}
use Rattle.std.specs.Str.{bytes_eq}
use Rattle.indent_lexer.specs.declared.token.Token.{Token}
use Rattle.indent_lexer.specs.declared.token.TokenKind.{TokenKind}
use Rattle.indent_lexer.specs.declared.token.TokenKind.TheVariants as kind
use Rattle.source_trees.specs.declared.node.Node.{Node}
use Rattle.source_trees.specs.declared.node.Name.{Name}

-- ---- spellings

abbrev pub op_in : TokenKind → Option (List ℕ)
op_in (kind.Op spelling) = Some spelling
op_in _ = None

abbrev pub keyword_in : TokenKind → Option (List ℕ)
keyword_in (kind.Keyword spelling) = Some spelling
keyword_in _ = None

abbrev pub name_in : TokenKind → Option (List ℕ)
name_in (kind.Name spelling) = Some spelling
name_in _ = None

abbrev pub number_in : TokenKind → Option ℤ
number_in (kind.Number value) = Some value
number_in _ = None

abbrev pub text_in : TokenKind → Option (List ℕ)
text_in (kind.Text value) = Some value
text_in _ = None

-- the spelling of an operator or delimiter
abbrev pub op_of : Token → Option (List ℕ)
op_of t = op_in t.kind

-- the spelling of a keyword
abbrev pub keyword_of : Token → Option (List ℕ)
keyword_of t = keyword_in t.kind

-- the spelling of a name
abbrev pub name_of : Token → Option (List ℕ)
name_of t = name_in t.kind

-- the value of a number
abbrev pub number_of : Token → Option ℤ
number_of t = number_in t.kind

-- the value of a text
abbrev pub text_of : Token → Option (List ℕ)
text_of t = text_in t.kind

abbrev pub is_spelled : Option (List ℕ) → List ℕ → Bool
is_spelled (Some spelling) word = bytes_eq spelling word
is_spelled None word = false

-- the token is this operator or delimiter
abbrev pub is_op : List ℕ → Token → Bool
is_op word t = is_spelled (op_of t) word

-- the token is this keyword
abbrev pub is_keyword : List ℕ → Token → Bool
is_keyword word t = is_spelled (keyword_of t) word

-- the token is a name with this spelling, which has a meaning of its own in some places
abbrev pub is_word : List ℕ → Token → Bool
is_word word t = is_spelled (name_of t) word

-- ---- the other tokens

abbrev pub is_newline_kind : TokenKind → Bool
is_newline_kind kind.Newline = true
is_newline_kind _ = false

abbrev pub is_indent_kind : TokenKind → Bool
is_indent_kind kind.Indent = true
is_indent_kind _ = false

abbrev pub is_dedent_kind : TokenKind → Bool
is_dedent_kind kind.Dedent = true
is_dedent_kind _ = false

abbrev pub is_end_kind : TokenKind → Bool
is_end_kind kind.End = true
is_end_kind _ = false

abbrev pub is_newline : Token → Bool
is_newline t = is_newline_kind t.kind

abbrev pub is_indent : Token → Bool
is_indent t = is_indent_kind t.kind

abbrev pub is_dedent : Token → Bool
is_dedent t = is_dedent_kind t.kind

abbrev pub is_end : Token → Bool
is_end t = is_end_kind t.kind

abbrev pub is_comma : Token → Bool
is_comma = is_op (codes ",")

-- ---- tables of operators

abbrev pub entry : {O : Type 0} → List ℕ → List (List ℕ × O) → Option O
entry spelling [] = None
entry spelling (row ∷ table) = cond (bytes_eq spelling row.0) (Some row.1) (entry spelling table)

abbrev pub entry_of : {O : Type 0} → Option (List ℕ) → List (List ℕ × O) → Option O
entry_of None table = None
entry_of (Some spelling) table = entry spelling table

-- what a table of operators has for the token
abbrev pub look_up : {O : Type 0} → List (List ℕ × O) → Token → Option O
look_up table t = entry_of (op_of t) table

-- ---- leaves

-- a node that begins with this token
abbrev pub node_at : Token → Node
node_at t = record { id = record { 0 = 0 }; at = t.span }

abbrev pub named_by : Token → Option (List ℕ) → Option Name
named_by t None = None
named_by t (Some spelling) = Some (record { node = node_at t; spelling = spelling })

-- a name where it stands
abbrev pub name_at : Token → Option Name
name_at t = named_by t (name_of t)

-- the most items that a tuple, a call, a row of parameters or of printed values may have, and the most fields of a class
abbrev pub most_items : ℕ
most_items = 255
