-- Expressions (the Python reference, chapter 6).
--
--   expr    : or ['if' or 'else' expr]
--   or      : and ('or' and)*        and : not ('and' not)*
--   not     : 'not' not | cmp
--   cmp     : bor (cop bor)*
--   cop     : == != < <= > >= in | 'not' 'in'
--   bor     : bxor ('|' bxor)*       bxor : band ('^' band)*
--   band    : shift ('&' shift)*     shift : sum (('<<'|'>>') sum)*
--   sum     : term (('+'|'-') term)* term : fac (('*'|'//'|'%') fac)*
--   fac     : ('+'|'-'|'~') fac | postfix ['**' fac]
--   postfix : atom (call | '[' expr ']' | '[' [expr] ':' [expr] ']' | '.' NAME)*    (call after NAME or '.' NAME alone)
--   call    : '(' [expr (',' expr)* [',']] ')'
--   atom    : NAME | NUMBER | STRING+ | True | False | None
--           | '(' expr ')' | '(' expr ',' [items] ')' | '[' [items] ']'
--           | '[' expr 'for' names 'in' or ['if' or] ']'
--   items   : expr (',' expr)* [',']
--   names   : NAME (',' NAME)* [',']
--
-- No expression begins with the name `print`. A node stands at its first token, so that of an operator stands where its
-- left operand does. Tuples and calls have at most 255 parts.
use Rattle.std.specs.Prelude.{◌≡◌, ℕ, ℤ, ◌≤◌, Bool, true, false, List, [], ◌∷◌, ◌++◌, length, Option, Some, None, codes}
use Rattle.indent_lexer.specs.declared.token.Token.{Token}
use Rattle.source_trees.specs.declared.expression.Commas.TheVariants.{Bracketed}
use Rattle.source_trees.specs.declared.expression.Comparison.{Comparison}
use Rattle.source_trees.specs.declared.expression.Expr.{Expr, Expr-F, out-Expr}
use Rattle.source_trees.specs.declared.expression.Expr.TheVariants as e
use Rattle.source_trees.specs.declared.node.Node.{Node}
use Rattle.source_trees.specs.declared.node.Name.{Name}
use Rattle.source_trees.specs.declared.operator.BinaryOp.{BinaryOp}
use Rattle.source_trees.specs.declared.operator.BinaryOp.TheVariants.{Power}
use Rattle.source_trees.specs.declared.operator.Comparator.{Comparator}
use Rattle.source_trees.specs.declared.operator.Comparator.TheVariants.{In, NotIn}
use Rattle.source_trees.specs.declared.operator.UnaryOp.{UnaryOp}
use Rattle.source_trees.specs.declared.statement.LoopNames.{LoopNames}
use Rattle.source_trees.specs.declared.statement.LoopNames.TheVariants.{One, Several}
use Rattle.parse_laws.specs.Forms.{Picks, Made}
use Rattle.parse_laws.specs.Loops.{Listed}
use Rattle.grammar_rules.specs.declared.level.Junction.{Junction}
use Rattle.grammar_rules.specs.declared.level.Junction.TheVariants as junction
use Rattle.grammar_rules.specs.declared.level.Rank.{Rank}
use Rattle.grammar_rules.specs.declared.level.Rank.TheVariants as rank
use Rattle.grammar_rules.specs.Levels.{word_of, joined, tighter, operators, signs, comparators}
use Rattle.grammar_rules.specs.Words.{is_op, is_keyword, is_word, is_comma, name_of, number_of, text_of, look_up, node_at, name_at, most_items}

-- ---- places

abbrev node_in : {A B : Type 0} → Expr-F A B → Node
node_in (Expr-F.Name n spelling) = n
node_in (Expr-F.Number n value) = n
node_in (Expr-F.Text n value) = n
node_in (Expr-F.True n) = n
node_in (Expr-F.False n) = n
node_in (Expr-F.None n) = n
node_in (Expr-F.Bracketed n x) = n
node_in (Expr-F.Tuple n commas items) = n
node_in (Expr-F.List n items) = n
node_in (Expr-F.Comprehension n item names iterable condition) = n
node_in (Expr-F.Conditional n value condition other) = n
node_in (Expr-F.Or n operands) = n
node_in (Expr-F.And n operands) = n
node_in (Expr-F.Not n operand) = n
node_in (Expr-F.Compare n first comparisons) = n
node_in (Expr-F.Unary n op operand) = n
node_in (Expr-F.Binary n op left right) = n
node_in (Expr-F.Call n name arguments) = n
node_in (Expr-F.MethodCall n method object name arguments) = n
node_in (Expr-F.Index n object index) = n
node_in (Expr-F.Slice n object begin end_at) = n
node_in (Expr-F.Field n object name) = n

-- the node that a tree begins with
unfoldable pub node_of : Expr → Node
node_of x = node_in (out-Expr x)

-- ---- parts that hold no expression

-- the names of a loop: several where a comma stands
abbrev pub loop_names : List Name × Bool → LoopNames
loop_names (name ∷ [], false) = One name
loop_names (names, more) = Several names

abbrev pub IsNames : List Token → LoopNames → Type 0
IsNames = Made (Listed is_comma (Picks name_at)) loop_names

-- texts side by side
pub data IsTexts : List Token → List ℕ → Type 0 where
  no_more : IsTexts [] []
  another : (t : Token) (value : List ℕ) (a : List Token) (more : List ℕ) → text_of t ≡ Some value → IsTexts a more → IsTexts (t ∷ a) (value ++ more)

pub data IsComparator : List Token → Comparator → Type 0 where
  symbol : (t : Token) (o : Comparator) → look_up comparators t ≡ Some o → IsComparator (t ∷ []) o
  is_in : (t : Token) → is_keyword (codes "in") t ≡ true → IsComparator (t ∷ []) In
  is_not_in : (t u : Token) → is_keyword (codes "not") t ≡ true → is_keyword (codes "in") u ≡ true → IsComparator (t ∷ u ∷ []) NotIn

-- ---- expressions, from the loosest form to the tightest

mutual
  pub data IsExpr : List Token → Expr → Type 0 where
    plain : (a : List Token) (x : Expr) → IsJoined junction.Or a x → IsExpr a x
    conditional : (a : List Token) (x : Expr) (if_token : Token) (b : List Token) (condition : Expr) (else_token : Token) (c : List Token) (other : Expr)
        → IsJoined junction.Or a x → is_keyword (codes "if") if_token ≡ true → IsJoined junction.Or b condition
        → is_keyword (codes "else") else_token ≡ true → IsExpr c other
        → IsExpr (a ++ if_token ∷ (b ++ else_token ∷ c)) (e.Conditional (node_of x) x condition other)

  -- `or` and `and`: the operands of several words are flat
  pub data IsJoined : Junction → List Token → Expr → Type 0 where
    alone : (j : Junction) (a : List Token) (x : Expr) → IsJoint j a x → IsJoined j a x
    several : (j : Junction) (a : List Token) (x : Expr) (b : List Token) (more : List Expr)
        → IsJoint j a x → IsMore j b more → IsJoined j (a ++ b) (joined j (node_of x) (x ∷ more))

  pub data IsMore : Junction → List Token → List Expr → Type 0 where
    last_joint : (j : Junction) (t : Token) (a : List Token) (x : Expr) → is_keyword (word_of j) t ≡ true → IsJoint j a x → IsMore j (t ∷ a) (x ∷ [])
    another_joint : (j : Junction) (t : Token) (a : List Token) (x : Expr) (b : List Token) (more : List Expr)
        → is_keyword (word_of j) t ≡ true → IsJoint j a x → IsMore j b more → IsMore j (t ∷ (a ++ b)) (x ∷ more)

  pub data IsJoint : Junction → List Token → Expr → Type 0 where
    conjunction : (a : List Token) (x : Expr) → IsJoined junction.And a x → IsJoint junction.Or a x
    negation : (a : List Token) (x : Expr) → IsNot a x → IsJoint junction.And a x

  pub data IsNot : List Token → Expr → Type 0 where
    comparison : (a : List Token) (x : Expr) → IsCompared a x → IsNot a x
    inverse : (t : Token) (a : List Token) (x : Expr) → is_keyword (codes "not") t ≡ true → IsNot a x → IsNot (t ∷ a) (e.Not (node_at t) x)

  -- a chain of comparisons is flat
  pub data IsCompared : List Token → Expr → Type 0 where
    uncompared : (a : List Token) (x : Expr) → IsRanked rank.BitOr a x → IsCompared a x
    compared : (a : List Token) (x : Expr) (b : List Token) (more : List Comparison)
        → IsRanked rank.BitOr a x → IsComparisons b more → IsCompared (a ++ b) (e.Compare (node_of x) x more)

  pub data IsComparisons : List Token → List Comparison → Type 0 where
    last_comparison : (a : List Token) (o : Comparator) (b : List Token) (x : Expr)
        → IsComparator a o → IsRanked rank.BitOr b x → IsComparisons (a ++ b) (record { comparator = o; right = x } ∷ [])
    another_comparison : (a : List Token) (o : Comparator) (b : List Token) (x : Expr) (c : List Token) (more : List Comparison)
        → IsComparator a o → IsRanked rank.BitOr b x → IsComparisons c more → IsComparisons (a ++ (b ++ c)) (record { comparator = o; right = x } ∷ more)

  -- operators that group to the left
  pub data IsRanked : Rank → List Token → Expr → Type 0 where
    single : (r : Rank) (a : List Token) (x : Expr) → IsOperand r a x → IsRanked r a x
    operation : (r : Rank) (a : List Token) (left : Expr) (t : Token) (o : BinaryOp) (b : List Token) (right : Expr)
        → IsRanked r a left → look_up (operators r) t ≡ Some o → IsOperand r b right → IsRanked r (a ++ t ∷ b) (e.Binary (node_of left) o left right)

  pub data IsOperand : Rank → List Token → Expr → Type 0 where
    factor : (a : List Token) (x : Expr) → IsFactor a x → IsOperand rank.Term a x
    ranked : (r next : Rank) (a : List Token) (x : Expr) → tighter r ≡ Some next → IsRanked next a x → IsOperand r a x

  -- a sign binds looser than a power, and tighter than every other operator
  pub data IsFactor : List Token → Expr → Type 0 where
    base : (a : List Token) (x : Expr) → IsPostfix a x → IsFactor a x
    power : (a : List Token) (x : Expr) (t : Token) (b : List Token) (y : Expr)
        → IsPostfix a x → is_op (codes "**") t ≡ true → IsFactor b y → IsFactor (a ++ t ∷ b) (e.Binary (node_of x) Power x y)
    signed : (t : Token) (o : UnaryOp) (a : List Token) (x : Expr) → look_up signs t ≡ Some o → IsFactor a x → IsFactor (t ∷ a) (e.Unary (node_at t) o x)

  pub data IsPostfix : List Token → Expr → Type 0 where
    atom : (a : List Token) (x : Expr) → IsAtom a x → IsPostfix a x
    index : (a : List Token) (x : Expr) (open_token : Token) (b : List Token) (y : Expr) (close_token : Token)
        → IsPostfix a x → is_op (codes "[") open_token ≡ true → IsExpr b y → is_op (codes "]") close_token ≡ true
        → IsPostfix (a ++ open_token ∷ (b ++ close_token ∷ [])) (e.Index (node_of x) x y)
    slice : (a : List Token) (x : Expr) (open_token : Token) (b : List Token) (from : Option Expr) (colon : Token) (c : List Token) (to : Option Expr) (close_token : Token)
        → IsPostfix a x → is_op (codes "[") open_token ≡ true → IsOptional b from → is_op (codes ":") colon ≡ true → IsOptional c to
        → is_op (codes "]") close_token ≡ true
        → IsPostfix (a ++ open_token ∷ (b ++ colon ∷ (c ++ close_token ∷ []))) (e.Slice (node_of x) x from to)
    field : (a : List Token) (x : Expr) (dot t : Token) (spelling : List ℕ)
        → IsPostfix a x → is_op (codes ".") dot ≡ true → name_of t ≡ Some spelling
        → IsPostfix (a ++ dot ∷ t ∷ []) (e.Field (node_of x) x spelling)
    method : (a : List Token) (x : Expr) (dot t : Token) (spelling : List ℕ) (b : List Token) (arguments : List Expr)
        → IsPostfix a x → is_op (codes ".") dot ≡ true → name_of t ≡ Some spelling → IsArguments b arguments
        → IsPostfix (a ++ dot ∷ t ∷ b) (e.MethodCall (node_of x) (node_of x) x spelling arguments)

  pub data IsOptional : List Token → Option Expr → Type 0 where
    absent : IsOptional [] None
    present : (a : List Token) (x : Expr) → IsExpr a x → IsOptional a (Some x)

  pub data IsArguments : List Token → List Expr → Type 0 where
    no_arguments : (open_token close_token : Token) → is_op (codes "(") open_token ≡ true → is_op (codes ")") close_token ≡ true
        → IsArguments (open_token ∷ close_token ∷ []) []
    arguments : (open_token : Token) (a : List Token) (xs : List Expr) (more : Bool) (close_token : Token)
        → is_op (codes "(") open_token ≡ true → IsRow a (xs, more) → length xs ≤ most_items → is_op (codes ")") close_token ≡ true
        → IsArguments (open_token ∷ (a ++ close_token ∷ [])) xs

  -- expressions with commas between, and perhaps one after the last: the expressions, and whether a comma stands at all
  pub data IsRow : List Token → List Expr × Bool → Type 0 where
    last : (a : List Token) (x : Expr) → IsExpr a x → IsRow a (x ∷ [], false)
    trailing : (a : List Token) (x : Expr) (comma : Token) → IsExpr a x → is_comma comma ≡ true → IsRow (a ++ comma ∷ []) (x ∷ [], true)
    another : (a : List Token) (x : Expr) (comma : Token) (b : List Token) (xs : List Expr) (more : Bool)
        → IsExpr a x → is_comma comma ≡ true → IsRow b (xs, more) → IsRow (a ++ comma ∷ b) (x ∷ xs, true)

  pub data IsAtom : List Token → Expr → Type 0 where
    name : (t : Token) (spelling : List ℕ) → name_of t ≡ Some spelling → is_word (codes "print") t ≡ false → IsAtom (t ∷ []) (e.Name (node_at t) spelling)
    call : (t : Token) (callee : Name) (a : List Token) (arguments : List Expr)
        → name_at t ≡ Some callee → is_word (codes "print") t ≡ false → IsArguments a arguments
        → IsAtom (t ∷ a) (e.Call (node_at t) callee arguments)
    number : (t : Token) (value : ℤ) → number_of t ≡ Some value → IsAtom (t ∷ []) (e.Number (node_at t) value)
    texts : (t : Token) (value : List ℕ) (a : List Token) (more : List ℕ)
        → text_of t ≡ Some value → IsTexts a more → IsAtom (t ∷ a) (e.Text (node_at t) (value ++ more))
    yes : (t : Token) → is_keyword (codes "True") t ≡ true → IsAtom (t ∷ []) (e.True (node_at t))
    no : (t : Token) → is_keyword (codes "False") t ≡ true → IsAtom (t ∷ []) (e.False (node_at t))
    nothing : (t : Token) → is_keyword (codes "None") t ≡ true → IsAtom (t ∷ []) (e.None (node_at t))
    bracketed : (open_token : Token) (a : List Token) (x : Expr) (close_token : Token)
        → is_op (codes "(") open_token ≡ true → IsExpr a x → is_op (codes ")") close_token ≡ true
        → IsAtom (open_token ∷ (a ++ close_token ∷ [])) (e.Bracketed (node_at open_token) x)
    tuple : (open_token : Token) (a : List Token) (xs : List Expr) (close_token : Token)
        → is_op (codes "(") open_token ≡ true → IsRow a (xs, true) → length xs ≤ most_items → is_op (codes ")") close_token ≡ true
        → IsAtom (open_token ∷ (a ++ close_token ∷ [])) (e.Tuple (node_at open_token) Bracketed xs)
    empty_list : (open_token close_token : Token) → is_op (codes "[") open_token ≡ true → is_op (codes "]") close_token ≡ true
        → IsAtom (open_token ∷ close_token ∷ []) (e.List (node_at open_token) [])
    list : (open_token : Token) (a : List Token) (xs : List Expr) (more : Bool) (close_token : Token)
        → is_op (codes "[") open_token ≡ true → IsRow a (xs, more) → is_op (codes "]") close_token ≡ true
        → IsAtom (open_token ∷ (a ++ close_token ∷ [])) (e.List (node_at open_token) xs)
    comprehension : (open_token : Token) (a : List Token) (item : Expr) (for_token : Token) (b : List Token) (names : LoopNames) (in_token : Token)
        (c : List Token) (iterable : Expr) (d : List Token) (condition : Option Expr) (close_token : Token)
        → is_op (codes "[") open_token ≡ true → IsExpr a item → is_keyword (codes "for") for_token ≡ true → IsNames b names
        → is_keyword (codes "in") in_token ≡ true → IsJoined junction.Or c iterable → IsFilter d condition → is_op (codes "]") close_token ≡ true
        → IsAtom (open_token ∷ (a ++ for_token ∷ (b ++ in_token ∷ (c ++ (d ++ close_token ∷ []))))) (e.Comprehension (node_at open_token) item names iterable condition)

  -- the condition of a comprehension
  pub data IsFilter : List Token → Option Expr → Type 0 where
    unfiltered : IsFilter [] None
    filtered : (t : Token) (a : List Token) (x : Expr) → is_keyword (codes "if") t ≡ true → IsJoined junction.Or a x → IsFilter (t ∷ a) (Some x)
