-- The parser of expressions, as functions on lists of tokens.
use Rattle.std.specs.Str.{bytes_eq}
use Rattle.std.specs.Prelude.{ℕ, zero, suc, ◌+◌, Bool, true, false, ◌||◌, if◌then◌else◌, nat_lt, nat_le, List, [], ◌∷◌, ◌++◌, length, Option, Some, None, codes}
use Rattle.indent_lexer.specs.declared.token.Token.{Token}
use Rattle.indent_lexer.specs.declared.token.TokenKind.{TokenKind}
use Rattle.indent_lexer.specs.declared.token.TokenKind.TheVariants as kind
use Rattle.source_trees.specs.declared.expression.Commas.TheVariants.{Bracketed}
use Rattle.source_trees.specs.declared.expression.Comparison.{Comparison}
use Rattle.source_trees.specs.declared.expression.Expr.{Expr}
use Rattle.source_trees.specs.declared.expression.Expr.TheVariants as e
use Rattle.source_trees.specs.declared.node.Node.{Node}
use Rattle.source_trees.specs.declared.node.Name.{Name}
use Rattle.source_trees.specs.declared.operator.BinaryOp.{BinaryOp}
use Rattle.source_trees.specs.declared.operator.BinaryOp.TheVariants.{Power}
use Rattle.source_trees.specs.declared.operator.Comparator.{Comparator}
use Rattle.source_trees.specs.declared.operator.Comparator.TheVariants.{In, NotIn}
use Rattle.source_trees.specs.declared.operator.UnaryOp.{UnaryOp}
use Rattle.source_trees.specs.declared.statement.LoopNames.{LoopNames}
use Rattle.source_trees.specs.Heights.{height_of_expr}
use Rattle.parse_laws.specs.declared.cause.Cause.TheVariants.{TooDeep}
use Rattle.parse_laws.specs.Parser.{Parser, Stopped, pure, refuse, choose, within, expect, take_by, has, turn, repeat, sort, ◌>>=◌, ◌>>◌}
use Rattle.parse_laws.specs.Limits.{bracket}
use Rattle.parse_laws.specs.Loops.{rest_of, listed}
use Rattle.grammar_rules.specs.declared.level.Junction.{Junction}
use Rattle.grammar_rules.specs.declared.level.Junction.TheVariants as junction
use Rattle.grammar_rules.specs.declared.level.Rank.{Rank}
use Rattle.grammar_rules.specs.declared.level.Rank.TheVariants as rank
use Rattle.grammar_rules.specs.Expressions.{node_of, loop_names}
use Rattle.grammar_rules.specs.Levels.{word_of, joined, operators, signs, comparators}
use Rattle.grammar_rules.specs.Words.{is_op, is_keyword, is_word, is_comma, text_of, name_of, look_up, node_at, name_at, most_items}
use Rattle.parse_expressions.specs.declared.form.Form.{Form}
use Rattle.parse_expressions.specs.declared.start.Start.{Start}
use Rattle.parse_expressions.specs.declared.start.Start.TheVariants.{Named, Leaf, Texts, Round, Square, Nowhere}
use Rattle.parse_expressions.specs.declared.form.Form.TheVariants as form
use Rattle.parse_expressions.specs.Forms.{opening, begins}

-- ---- tokens

abbrev pub is_open : Token → Bool
is_open = is_op (codes "(")

abbrev pub is_close : Token → Bool
is_close = is_op (codes ")")

abbrev pub is_square : Token → Bool
is_square = is_op (codes "[")

abbrev pub is_square_close : Token → Bool
is_square_close = is_op (codes "]")

abbrev pub is_dot : Token → Bool
is_dot = is_op (codes ".")

abbrev pub is_colon : Token → Bool
is_colon = is_op (codes ":")

abbrev pub is_power : Token → Bool
is_power = is_op (codes "**")

abbrev pub is_if : Token → Bool
is_if = is_keyword (codes "if")

abbrev pub is_else : Token → Bool
is_else = is_keyword (codes "else")

abbrev pub is_for : Token → Bool
is_for = is_keyword (codes "for")

abbrev pub is_in : Token → Bool
is_in = is_keyword (codes "in")

abbrev pub is_not : Token → Bool
is_not = is_keyword (codes "not")

-- the token carries an atom on
abbrev pub is_trailer : Token → Bool
is_trailer t = is_dot t || is_square t

abbrev pub is_name : Token → Bool
is_name = has name_at

abbrev pub is_text : Token → Bool
is_text = has text_of

-- ---- what an atom begins with

abbrev pub start_of_op : List ℕ → Start
start_of_op spelling = if bytes_eq spelling (codes "(") then Round else if bytes_eq spelling (codes "[") then Square else Nowhere

abbrev pub start_of_word : List ℕ → Start
start_of_word spelling =
    if bytes_eq spelling (codes "True") || bytes_eq spelling (codes "False") || bytes_eq spelling (codes "None") then Leaf else Nowhere

abbrev pub start_in : TokenKind → Start
start_in (kind.Name spelling) = if bytes_eq spelling (codes "print") then Nowhere else Named
start_in (kind.Number value) = Leaf
start_in (kind.Text value) = Texts
start_in (kind.Op spelling) = start_of_op spelling
start_in (kind.Keyword spelling) = start_of_word spelling
start_in _ = Nowhere

abbrev pub start_of : Token → Start
start_of t = start_in t.kind

abbrev pub constant : Node → List ℕ → Option Expr
constant n spelling =
    if bytes_eq spelling (codes "True") then Some (e.True n) else if bytes_eq spelling (codes "False") then Some (e.False n)
    else if bytes_eq spelling (codes "None") then Some (e.None n) else None

-- a name that is no `print`
abbrev pub plain_at : Token → Option Name
plain_at t = if is_word (codes "print") t then None else name_at t

abbrev pub leaf_in : Node → TokenKind → Option Expr
leaf_in n (kind.Number value) = Some (e.Number n value)
leaf_in n (kind.Keyword spelling) = constant n spelling
leaf_in n _ = None

-- the tree of a number or a constant
abbrev pub leaf_of : Token → Option Expr
leaf_of t = leaf_in (node_at t) t.kind

abbrev pub text_from : Node → Option (List ℕ) → Option (Node × List ℕ)
text_from n None = None
text_from n (Some value) = Some (n, value)

-- a text and where it stands
abbrev pub text_at : Token → Option (Node × List ℕ)
text_at t = text_from (node_at t) (text_of t)

abbrev pub sign_from : Node → Option UnaryOp → Option (Node × UnaryOp)
sign_from n None = None
sign_from n (Some o) = Some (n, o)

-- a sign and where it stands
abbrev pub sign_at : Token → Option (Node × UnaryOp)
sign_at t = sign_from (node_at t) (look_up signs t)

-- ---- trees

abbrev pub name_tree : Name → Expr
name_tree name = e.Name name.node name.spelling

abbrev pub call_tree : Name → List Expr → Expr
call_tree name xs = e.Call name.node name xs

abbrev pub operation : BinaryOp → Expr → Expr → Expr
operation o left right = e.Binary (node_of left) o left right

-- one expression in brackets, or a tuple where a comma stands
abbrev pub round_tree : Token → List Expr × Bool → Expr
round_tree t (xs, true) = e.Tuple (node_at t) Bracketed xs
round_tree t (x ∷ [], false) = e.Bracketed (node_at t) x
round_tree t (xs, false) = e.Tuple (node_at t) Bracketed xs

abbrev pub join_all : Junction → Expr × List Expr → Expr
join_all j (x, []) = x
join_all j (x, y ∷ ys) = joined j (node_of x) (x ∷ y ∷ ys)

abbrev pub compare_all : Expr × List Comparison → Expr
compare_all (x, []) = x
compare_all (x, c ∷ cs) = e.Compare (node_of x) x (c ∷ cs)

-- one more item may follow these
abbrev pub few : List Expr → Bool
few xs = nat_lt (length xs) most_items

abbrev pub any_number : {A : Type 0} → List A → Bool
any_number xs = true

-- the limit of a row, if it has one
abbrev pub limit_of : Bool → List Expr → Bool
limit_of true = few
limit_of false = any_number

-- the height of an expression that may be absent
abbrev pub heights : Option Expr → List ℕ
heights None = []
heights (Some x) = height_of_expr x ∷ []

-- ---- parts that hold no expression

unfoldable pub names : Parser Token LoopNames
names = listed is_comma is_name any_number (take_by name_at) >>= λ row. pure (loop_names row)

unfoldable pub more_texts : List ℕ → Parser Token (List ℕ)
more_texts v = λ ts. repeat (λ _. is_text) (λ w. take_by text_of >>= λ value. pure (w ++ value)) (length ts) v ts

unfoldable pub texts : Parser Token Expr
texts = take_by text_at >>= λ first. more_texts first.1 >>= λ value. pure (e.Text first.0 value)

abbrev pub in_or_symbol : Token → Option Comparator
in_or_symbol t = if is_in t then Some In else look_up comparators t

-- a comparison begins here
abbrev pub compares : Token → Bool
compares t = is_not t || has in_or_symbol t

unfoldable pub comparator : Parser Token Comparator
comparator = choose is_not (expect is_not >>= λ _. expect is_in >>= λ _. pure NotIn) (take_by in_or_symbol)

-- ---- expressions

-- `sub` reads the parts of a tree, which are at most `room` high; the tree is one higher at most.
module _ (room : ℕ) (sub : Form → Parser Token Expr) where
  -- the tree may be a part
  abbrev pub fits : Expr → Bool
  fits x = nat_le (height_of_expr x) room

  -- a tree without parts may be a part
  abbrev pub has_room : Bool
  has_room = nat_le 1 room

  unfoldable pub row : (List Expr → Bool) → Parser Token (List Expr × Bool)
  row limit = listed is_comma (begins 3) limit (sub form.Whole)

  unfoldable pub arguments : Parser Token (List Expr)
  arguments = expect is_open >>= λ _. choose is_close (expect is_close >>= λ _. pure []) (row few >>= λ xs. expect is_close >> pure xs.0)

  unfoldable pub named_rest : Name → Parser Token Expr
  named_rest name = choose is_open (within has_room (arguments >>= λ xs. pure (call_tree name xs))) (pure (name_tree name))

  unfoldable pub round : Parser Token Expr
  round = within has_room (bracket is_open (row few) is_close round_tree)

  unfoldable pub filter : Parser Token (Option Expr)
  filter = choose is_if (expect is_if >>= λ _. sub (form.Joined junction.Or) >>= λ x. pure (Some x)) (pure None)

  unfoldable pub comprehension : Token → Expr → Parser Token Expr
  comprehension t x =
      expect is_for >>= λ _. names >>= λ ns. expect is_in >>= λ _. sub (form.Joined junction.Or) >>= λ y. filter >>= λ z. expect is_square_close >> pure (e.Comprehension (node_at t) x ns y z)

  unfoldable pub items : Token → Expr → Parser Token Expr
  items t x = rest_of is_comma (begins 3) any_number (sub form.Whole) (x ∷ []) >>= λ r. expect is_square_close >> pure (e.List (node_at t) r.0)

  unfoldable pub square : Parser Token Expr
  square = expect is_square >>= λ t. choose is_square_close (expect is_square_close >>= λ _. pure (e.List (node_at t) []))
      (sub form.Whole >>= λ x. choose is_for (comprehension t x) (items t x))

  unfoldable pub atom_from : Start → Parser Token Expr
  atom_from Named = take_by plain_at >>= named_rest
  atom_from Leaf = take_by leaf_of
  atom_from Texts = texts
  atom_from Round = round
  atom_from Square = square
  atom_from Nowhere = refuse

  unfoldable pub atom : Parser Token Expr
  atom = sort start_of Nowhere atom_from

  unfoldable pub optional : Parser Token (Option Expr)
  optional = choose (begins 3) (sub form.Whole >>= λ x. pure (Some x)) (pure None)

  unfoldable pub slice_from : Expr → Option Expr → Parser Token Expr
  slice_from x o = expect is_colon >>= λ _. optional >>= λ p. expect is_square_close >> pure (e.Slice (node_of x) x o p)

  unfoldable pub index_at : Expr → Option Expr → Parser Token Expr
  index_at x None = refuse
  index_at x (Some y) = expect is_square_close >>= λ _. pure (e.Index (node_of x) x y)

  unfoldable pub indexed : Expr → Parser Token Expr
  indexed x = expect is_square >>= λ _. optional >>= λ o. choose is_colon (slice_from x o) (index_at x o)

  unfoldable pub field_rest : Expr → List ℕ → Parser Token Expr
  field_rest x spelling = choose is_open
      (within (nat_le (height_of_expr x + 1) room) (arguments >>= λ xs. pure (e.MethodCall (node_of x) (node_of x) x spelling xs)))
      (pure (e.Field (node_of x) x spelling))

  unfoldable pub dotted : Expr → Parser Token Expr
  dotted x = expect is_dot >>= λ _. take_by name_of >>= field_rest x

  unfoldable pub trailer : Expr → Parser Token Expr
  trailer x = within (fits x) (choose is_dot (dotted x) (indexed x))

  unfoldable pub trailers : Expr → Parser Token Expr
  trailers x = λ ts. repeat (λ _. is_trailer) trailer (length ts) x ts

  unfoldable pub postfix : Parser Token Expr
  postfix = atom >>= trailers

  unfoldable pub power : Expr → Parser Token Expr
  power x = choose is_power (within (fits x) (expect is_power >>= λ _. sub form.Factor >>= λ y. pure (operation Power x y))) (pure x)

  unfoldable pub signed : Parser Token Expr
  signed = within has_room (take_by sign_at >>= λ s. sub form.Factor >>= λ y. pure (e.Unary s.0 s.1 y))

  unfoldable pub factor : Parser Token Expr
  factor = choose (has sign_at) signed (postfix >>= power)

  unfoldable pub operations : Rank → Expr → Parser Token Expr
  operations r x = λ ts. repeat (λ _. has (look_up (operators r))) (turn (λ _. look_up (operators r)) fits operation (λ _. sub (form.Operand r))) (length ts) x ts

  unfoldable pub term : Parser Token Expr
  term = factor >>= operations rank.Term

  unfoldable pub sum : Parser Token Expr
  sum = term >>= operations rank.Sum

  unfoldable pub shift : Parser Token Expr
  shift = sum >>= operations rank.Shift

  unfoldable pub bit_and : Parser Token Expr
  bit_and = shift >>= operations rank.BitAnd

  unfoldable pub bit_xor : Parser Token Expr
  bit_xor = bit_and >>= operations rank.BitXor

  unfoldable pub bit_or : Parser Token Expr
  bit_or = bit_xor >>= operations rank.BitOr

  abbrev pub ranked : Rank → Parser Token Expr
  ranked rank.Term = term
  ranked rank.Sum = sum
  ranked rank.Shift = shift
  ranked rank.BitAnd = bit_and
  ranked rank.BitXor = bit_xor
  ranked rank.BitOr = bit_or

  abbrev pub operand : Rank → Parser Token Expr
  operand rank.Term = factor
  operand rank.Sum = term
  operand rank.Shift = sum
  operand rank.BitAnd = shift
  operand rank.BitXor = bit_and
  operand rank.BitOr = bit_xor

  -- a first operand alone may fill the room, and one with more beside it may not
  abbrev pub fits_more : {B : Type 0} → Expr × List B → Bool
  fits_more (x, []) = fits x
  fits_more (x, y ∷ ys) = true

  -- items beside a first operand, each of which begins with a token that passes the test
  unfoldable pub several : {B : Type 0} → (Token → Bool) → Parser Token B → Expr → Parser Token (Expr × List B)
  several test item x = λ ts. repeat (λ _. test) (λ v. within (fits_more v) (item >>= λ y. pure (v.0, v.1 ++ y ∷ []))) (length ts) (x, []) ts

  unfoldable pub comparison : Parser Token Comparison
  comparison = comparator >>= λ o. sub (form.Ranked rank.BitOr) >>= λ y. pure (record { comparator = o; right = y })

  unfoldable pub compared : Parser Token Expr
  compared = bit_or >>= several compares comparison >>= λ v. pure (compare_all v)

  unfoldable pub negation : Parser Token Expr
  negation = choose is_not (within has_room (expect is_not >>= λ t. sub form.Negation >>= λ y. pure (e.Not (node_at t) y))) compared

  unfoldable pub joint_after : Junction → Parser Token Expr
  joint_after j = expect (is_keyword (word_of j)) >>= λ _. sub (form.Joint j)

  unfoldable pub conjunction : Parser Token Expr
  conjunction = negation >>= several (is_keyword (word_of junction.And)) (joint_after junction.And) >>= λ v. pure (join_all junction.And v)

  unfoldable pub disjunction : Parser Token Expr
  disjunction = conjunction >>= several (is_keyword (word_of junction.Or)) (joint_after junction.Or) >>= λ v. pure (join_all junction.Or v)

  abbrev pub joined_by : Junction → Parser Token Expr
  joined_by junction.Or = disjunction
  joined_by junction.And = conjunction

  abbrev pub joint_of : Junction → Parser Token Expr
  joint_of junction.Or = conjunction
  joint_of junction.And = negation

  unfoldable pub conditional : Expr → Parser Token Expr
  conditional x =
      expect is_if >>= λ _. sub (form.Joined junction.Or) >>= λ c. expect is_else >>= λ _. sub form.Whole >>= λ y. pure (e.Conditional (node_of x) x c y)

  unfoldable pub whole : Parser Token Expr
  whole = disjunction >>= λ x. choose is_if (within (fits x) (conditional x)) (pure x)

  abbrev pub at_form : Form → Parser Token Expr
  at_form form.Whole = whole
  at_form (form.Joined j) = joined_by j
  at_form (form.Joint j) = joint_of j
  at_form form.Negation = negation
  at_form form.Compared = compared
  at_form (form.Ranked r) = ranked r
  at_form (form.Operand r) = operand r
  at_form form.Factor = factor
  at_form form.Postfix = postfix

-- The parser of a form whose trees are at most `room` high: where there is no room at all, what begins one is too deep.
unfoldable pub read : ℕ → Form → Parser Token Expr
read zero f = choose (begins (opening f)) (λ ts. Stopped TooDeep ts) refuse
read (suc room) f = at_form room (read room) f
