-- The law of functions.
use Rattle.std.proofs.Common.{◌≡◌, ℕ, ◌+◌, ◌-◌, ◌≤◌, max, Bool, true, false, not, ◌||◌, List, [], ◌∷◌, ◌++◌, map, refl, sym, ◌∙◌, ap, subst, append_assoc, inl, inr, Option, Some, None, codes, arith}
use Rattle.indent_lexer.specs.declared.token.Token.{Token}
use Rattle.indent_lexer.specs.declared.token.TokenKind.{TokenKind}
use Rattle.indent_lexer.specs.declared.token.TokenKind.TheVariants as kind
use Rattle.source_trees.specs.declared.expression.Expr.{Expr}
use Rattle.source_trees.specs.declared.item.Annotation.{Annotation}
use Rattle.source_trees.specs.declared.item.Function.{Function}
use Rattle.source_trees.specs.declared.item.Param.{Param}
use Rattle.source_trees.specs.declared.node.Name.{Name}
use Rattle.source_trees.specs.Heights.{highest, over_parts, height_of_param, height_of_function}
use Rattle.source_trees.specs.Parts.{of_optional_annotation, of_optional_expr}
use Rattle.source_trees.proofs.HeightForms.{function_height}
use Rattle.source_trees.proofs.Highest.{highest-append}
use Rattle.parse_laws.specs.Parser.{and_then, sees, in_table, pure, expect, take_by, ◌>>=◌}
use Rattle.parse_laws.specs.Language.{Language, Free, Viable, Law}
use Rattle.parse_laws.specs.Forms.{Then, Made, Is, Opens, Picks, Either, never}
use Rattle.parse_laws.specs.Limits.{Limited}
use Rattle.parse_laws.specs.Loops.{Listed, last, trailing, another, ListedWithin, ListItems, listed}
use Rattle.parse_laws.proofs.Forms.{wider_at, free_never}
use Rattle.parse_laws.proofs.Limits.{same_law, join_law, made_limited, open_limited, optional_law, take_limited}
use Rattle.parse_laws.proofs.Lists.{FitEach, listed_law, most_of, grows_of}
use Rattle.parse_laws.proofs.Repeats.{at_head}
use Rattle.parse_laws.proofs.Steps.{wider_law}
use Rattle.grammar_rules.specs.Expressions.{IsExpr}
use Rattle.grammar_rules.specs.Modules as g
use Rattle.grammar_rules.specs.Modules.{IsMarked, IsDefault, IsParam, IsParams, IsFunction}
use Rattle.grammar_rules.specs.Statements.{IsBlock}
use Rattle.grammar_rules.specs.Types.{IsType}
use Rattle.grammar_rules.specs.Words.{is_op, is_comma, is_spelled, op_in, name_in, name_of, named_by, name_at, node_at, most_items}
use Rattle.parse_expressions.specs.Forms.{Low}
use Rattle.parse_expressions.specs.declared.form.Form.TheVariants as form
use Rattle.parse_expressions.specs.Reading.{is_name}
use Rattle.parse_expressions.proofs.Leaves.{Free_of_limit}
use Rattle.parse_expressions.proofs.Least.{least}
use Rattle.parse_expressions.proofs.Lows.{x_low}
use Rattle.parse_expressions.proofs.Opens.{x_token, x_tree, op_token, name_spelling}
use Rattle.parse_expressions.proofs.Tokens.{op_kind, or_first, or_none}
use Rattle.parse_statements.specs.Heads.{is_equals}
use Rattle.parse_statements.specs.Prints.{is_bracket_end, printed_on, print_item_on}
use Rattle.parse_statements.specs.Readers.{Readers, Exact, LowType, type_on, has_room}
use Rattle.parse_statements.specs.Simple.{is_colon}
use Rattle.parse_statements.specs.Stages.{is_bracket}
use Rattle.parse_statements.proofs.Marks.{either_word}
use Rattle.parse_statements.proofs.Prints.{comma_item, printed_item, comma_printed, expr_here}
use Rattle.parse_statements.proofs.Tails.{type_token, type_tree, least_type, type_low}
use Rattle.parse_blocks.specs.Blocks.{block}
use Rattle.parse_blocks.specs.Functions as reading
use Rattle.parse_blocks.specs.Functions.{is_def, param_of, function_of}
use Rattle.parse_blocks.proofs.BlockLaw.{pass_tree, pass_block, least_block, pass_low, block_opens}
use Rattle.parse_blocks.proofs.Heights.{LowBody, body_up, body_down}
use Rattle.parse_blocks.proofs.Marks.{not_it, not_both, false_not, neither}
use Rattle.parse_blocks.proofs.Statements.{whole_block_law}

-- ---- heights

-- a type that may be absent has at most this height
abbrev pub LowMark : ℕ → Option Annotation → Type 0
LowMark n None = Unit {0}
LowMark n (Some x) = LowType n x

abbrev pub LowDefault : ℕ → Option Expr → Type 0
LowDefault n None = Unit {0}
LowDefault n (Some x) = Low n x

mark_up : (n : ℕ) (o : Option Annotation) → LowMark n o → highest (of_optional_annotation over_parts o) ≤ n
mark_up n None f = omega arith
mark_up n (Some x) f = omega arith

mark_down : (n : ℕ) (o : Option Annotation) → highest (of_optional_annotation over_parts o) ≤ n → LowMark n o
mark_down n None f = tt
mark_down n (Some x) f = omega arith

default_up : (n : ℕ) (o : Option Expr) → LowDefault n o → highest (of_optional_expr over_parts o) ≤ n
default_up n None f = omega arith
default_up n (Some x) f = omega arith

default_down : (n : ℕ) (o : Option Expr) → highest (of_optional_expr over_parts o) ≤ n → LowDefault n o
default_down n None f = tt
default_down n (Some x) f = omega arith

-- the parameter has at most this height
abbrev pub LowParam : ℕ → Param → Type 0
LowParam n p = height_of_param p ≤ n

param_height : (p : Param) → height_of_param p ≡ max (highest (of_optional_annotation over_parts p.annotation)) (highest (of_optional_expr over_parts p.default)) + 1
param_height p = ap (λ z. z + 1) (highest-append (of_optional_annotation over_parts p.annotation) (of_optional_expr over_parts p.default))

param_low : (n : ℕ) → 1 ≤ n → (p : Param) → LowMark (n - 1) p.annotation → LowDefault (n - 1) p.default → LowParam n p
param_low n some p f q = let h = param_height p in let i = mark_up (n - 1) p.annotation f in let k = default_up (n - 1) p.default q in omega arith

low_param : (n : ℕ) (p : Param) → LowParam n p → LowMark (n - 1) p.annotation × LowDefault (n - 1) p.default
low_param n p l = let h = param_height p in (mark_down (n - 1) p.annotation (omega arith), default_down (n - 1) p.default (omega arith))

params_up : (n : ℕ) (ps : List Param) → FitEach (LowParam n) ps → highest (map height_of_param ps) ≤ n
params_up n [] f = omega arith
params_up n (p ∷ ps) f = let i = f.0 in let k = params_up n ps f.1 in omega arith

params_down : (n : ℕ) (ps : List Param) → highest (map height_of_param ps) ≤ n → FitEach (LowParam n) ps
params_down n [] f = tt
params_down n (p ∷ ps) f = (omega arith, params_down n ps (omega arith))

-- the function has at most this height
abbrev pub LowFunction : ℕ → Function → Type 0
LowFunction n f = height_of_function f ≤ n

function_low : (n : ℕ) → 2 ≤ n → (f : Function) → FitEach (LowParam (n - 1)) f.params → LowMark (n - 1) f.result → LowBody (n - 1) f.body → LowFunction n f
function_low n two f p q s =
    let h = function_height f in
    let i = params_up (n - 1) f.params p in
    let j = mark_up (n - 1) f.result q in
    let k = body_up (n - 1) f.body s in
    omega arith

low_function : (n : ℕ) (f : Function) → LowFunction n f → FitEach (LowParam (n - 1)) f.params × LowMark (n - 1) f.result × LowBody (n - 1) f.body
low_function n f l =
    let h = function_height f in
    (params_down (n - 1) f.params (omega arith), mark_down (n - 1) f.result (omega arith), body_down (n - 1) f.body (omega arith))

-- ---- tokens

item_type_in : (k : TokenKind) → is_spelled (op_in k) (codes ",") || is_spelled (op_in k) (codes ")") ≡ true → is_spelled (op_in k) (codes "[") ≡ false
item_type_in (kind.Op w) h = either_word w (codes ",") (codes ")") (λ z. is_spelled (op_in (kind.Op z)) (codes "[") ≡ false) h refl refl
item_type_in _ h = absurd (cc)

item_type : (t : Token) → print_item_on t ≡ false → type_on t ≡ false
item_type t h = item_type_in t.kind (false_not _ h)

item_colon_in : (k : TokenKind) → is_spelled (op_in k) (codes ",") || is_spelled (op_in k) (codes ")") ≡ true → is_spelled (op_in k) (codes ":") ≡ false
item_colon_in (kind.Op w) h = either_word w (codes ",") (codes ")") (λ z. is_spelled (op_in (kind.Op z)) (codes ":") ≡ false) h refl refl
item_colon_in _ h = absurd (cc)

item_colon : (t : Token) → print_item_on t ≡ false → is_colon t ≡ false
item_colon t h = item_colon_in t.kind (false_not _ h)

equals_item : (t : Token) → is_equals t ≡ true → print_item_on t ≡ true
equals_item t h = ap (λ k. not (is_spelled (op_in k) (codes ",") || is_spelled (op_in k) (codes ")"))) (op_kind (codes "=") t h)

name_printed_in : (k : TokenKind) → is_spelled (op_in k) (codes ")") ≡ true → in_table (name_in k) ≡ false
name_printed_in (kind.Op w) h = refl
name_printed_in _ h = absurd (cc)

named_table : (t : Token) (o : Option (List ℕ)) → in_table (named_by t o) ≡ in_table o
named_table t None = refl
named_table t (Some s) = refl

name_printed : (t : Token) → is_name t ≡ true → printed_on t ≡ true
name_printed t h = not_it (is_bracket_end t) (not_both (is_bracket_end t) (in_table (name_of t)) (name_printed_in t.kind) (sym (named_table t (name_of t)) ∙ h))

-- the token carries a type after this operator on
abbrev pub marked_on : List ℕ → Token → Bool
marked_on mark t = is_op mark t || type_on t

-- ---- types and defaults that may be absent

abbrev MarkOf : List ℕ → Language Token (Option Annotation)
MarkOf mark = Either (Opens (is_op mark) (λ _. Made IsType Some)) (Is None)

mark_read : (mark : List ℕ) (a : List Token) (w : Option Annotation) → MarkOf mark a w → IsMarked mark a w
mark_read mark a w (inl k) =
    let P : List Token → Type 0 = λ z. IsMarked mark z w in
    let Q : Option Annotation → Type 0 = λ z. IsMarked mark (k.0 ∷ k.1) z in
    subst P (sym k.2) (subst Q (sym k.4.2) (g.marked k.0 k.1 k.4.0 k.3 k.4.1))
mark_read mark a w (inr k) =
    let P : List Token → Type 0 = λ z. IsMarked mark z w in
    let Q : Option Annotation → Type 0 = λ z. IsMarked mark [] z in
    subst P (sym k.0) (subst Q (sym k.1) g.unmarked)

read_mark : (mark : List ℕ) (a : List Token) (w : Option Annotation) → IsMarked mark a w → MarkOf mark a w
read_mark mark _ _ g.unmarked = inr (refl, refl)
read_mark mark _ _ (g.marked t a x h p) = inl (t, a, refl, h, (x, p, refl))

abbrev DefaultOf : Language Token (Option Expr)
DefaultOf = Either (Opens is_equals (λ _. Made IsExpr Some)) (Is None)

default_read : (a : List Token) (w : Option Expr) → DefaultOf a w → IsDefault a w
default_read a w (inl k) =
    let P : List Token → Type 0 = λ z. IsDefault z w in
    let Q : Option Expr → Type 0 = λ z. IsDefault (k.0 ∷ k.1) z in
    subst P (sym k.2) (subst Q (sym k.4.2) (g.default k.0 k.1 k.4.0 k.3 k.4.1))
default_read a w (inr k) =
    let P : List Token → Type 0 = λ z. IsDefault z w in
    let Q : Option Expr → Type 0 = λ z. IsDefault [] z in
    subst P (sym k.0) (subst Q (sym k.1) g.no_default)

read_default : (a : List Token) (w : Option Expr) → IsDefault a w → DefaultOf a w
read_default _ _ g.no_default = inr (refl, refl)
read_default _ _ (g.default t a x h p) = inl (t, a, refl, h, (x, p, refl))

-- ---- parameters

abbrev ParamRest : Name → Option Annotation → Language Token Param
ParamRest name type = Made IsDefault (param_of name type)

abbrev ParamTail : Name → Language Token Param
ParamTail name = Then (IsMarked (codes ":")) (ParamRest name)

abbrev ParamOf : Language Token Param
ParamOf = Then (Picks name_at) ParamTail

param_read : (a : List Token) (w : Param) → ParamOf a w → IsParam a w
param_read a w k =
    let t = k.heads.0 in
    let m = k.tails in
    let d = m.tails in
    let n = name_spelling t k.value (name_of t) refl k.heads.2 in
    let P : List Token → Type 0 = λ z. IsParam z w in
    let Q : Param → Type 0 = λ z. IsParam (t ∷ (m.first ++ m.second)) z in
    subst P (sym (k.joined ∙ ap (λ z. z ++ k.second) k.heads.1 ∙ ap (λ z. t ∷ z) m.joined))
    (subst Q (sym (d.2 ∙ ap (λ z. param_of z m.value d.0) n.2)) (g.param t n.0 m.first m.value m.second d.0 n.1 m.heads d.1))

read_param : (a : List Token) (w : Param) → IsParam a w → ParamOf a w
read_param _ _ (g.param t s a type b value h p q) =
    record {
      first = t ∷ [];
      second = a ++ b;
      value = record { node = node_at t; spelling = s };
      joined = refl;
      heads = (t, refl, ap (named_by t) h);
      tails = record { first = a; second = b; value = type; joined = refl; heads = p; tails = (value, q, refl) };
    }

param_opens : (a : List Token) (w : Param) (s : List Token) → IsParam a w → sees is_name (a ++ s) ≡ true
param_opens _ _ s (g.param t n a type b value h p q) = ap (λ z. in_table (named_by t z)) h

default_apart : (c : List Token) (o : Option Expr) (s : List Token) → IsDefault c o → Free print_item_on s → Free (marked_on (codes ":")) (c ++ s)
default_apart _ _ s g.no_default free = wider_at (marked_on (codes ":")) print_item_on (λ t h. neither (is_colon t) (type_on t) (item_colon t h) (item_type t h)) s free
default_apart _ _ s (g.default t a x h p) free = ap (λ k. is_spelled (op_in k) (codes ":") || is_spelled (op_in k) (codes "[")) (op_kind (codes "=") t h)

rest_apart : (name : Name) (type : Option Annotation) (c : List Token) (w : Param) (s : List Token) → ParamRest name type c w → Free print_item_on s → Free (marked_on (codes ":")) (c ++ s)
rest_apart name type c w s k free = default_apart c k.0 s k.1 free

param_least : (n : ℕ) → 1 ≤ n → (name : Name) → Viable (Limited (ParamTail name) (LowParam n)) []
param_least n some name = (
  [],
  param_of name None None,
  (record { first = []; second = []; value = None; joined = refl; heads = g.unmarked; tails = (None, g.no_default, refl) }, param_low n some (param_of name None None) tt tt),
)

abbrev Listing : Language Token (List Param × Bool)
Listing = ListedWithin is_comma IsParam has_room

abbrev ParamsOf : Language Token (List Param)
ParamsOf = Either (Made Listing (λ row. row.0)) (Is [])

params_read : (a : List Token) (w : List Param) → ParamsOf a w → IsParams a w
params_read a w (inl k) =
    let P : List Param → Type 0 = λ z. IsParams a z in
    let small = most_of most_items [] k.0.0 (omega arith) k.1.1 in
    subst P (sym k.2) (g.params a k.0.0 k.0.1 k.1.0 (omega arith))
params_read a w (inr k) =
    let P : List Token → Type 0 = λ z. IsParams z w in
    let Q : List Param → Type 0 = λ z. IsParams [] z in
    subst P (sym k.0) (subst Q (sym k.1) g.no_params)

read_params : (a : List Token) (w : List Param) → IsParams a w → ParamsOf a w
read_params _ _ g.no_params = inr (refl, refl)
read_params _ _ (g.params a ps more p small) = inl ((ps, more), (p, grows_of most_items [] ps (omega arith)), refl)

list_opens : (a : List Token) (w : List Param × Bool) (s : List Token) → Listed is_comma IsParam a w → sees is_name (a ++ s) ≡ true
list_opens _ _ s (last a y p) = param_opens a y s p
list_opens _ _ s (trailing a y t p h) = ap (sees is_name) (append_assoc a (t ∷ []) s) ∙ param_opens a y ((t ∷ []) ++ s) p
list_opens _ _ s (another a y t b ys more p h rest) = ap (sees is_name) (append_assoc a (t ∷ b) s) ∙ param_opens a y ((t ∷ b) ++ s) p

params_given : ListItems is_comma IsParam is_name print_item_on printed_on
params_given = record { opens = λ b y rest p. param_opens b y rest p; own = name_printed; own_separator = comma_printed; wider = printed_item; ends_before = comma_item }

-- ---- functions

abbrev pub x_name : Name
x_name = record { node = node_at x_token; spelling = codes "x" }

abbrev ResultOf : Token → Name → List Param → Option Annotation → Language Token Function
ResultOf t name ps result = Made IsBlock (function_of t name ps result)

abbrev RestOf : Token → Name → List Param → Language Token Function
RestOf t name ps = Then (IsMarked (codes "->")) (ResultOf t name ps)

abbrev EndOf : Token → Name → List Param → Language Token Function
EndOf t name ps = Opens is_bracket_end (λ _. RestOf t name ps)

abbrev BracketsOf : Token → Name → Language Token Function
BracketsOf t name = Opens is_bracket (λ _. Then IsParams (EndOf t name))

abbrev FunctionOf : Language Token Function
FunctionOf = Opens is_def (λ t. Then (Picks name_at) (BracketsOf t))

function_read : (a : List Token) (w : Function) → FunctionOf a w → IsFunction a w
function_read a w k =
    let m = k.4 in
    let u = m.heads.0 in
    let o = m.tails in
    let p = o.4 in
    let c = p.tails in
    let q = c.4 in
    let b = q.tails in
    let P : List Token → Type 0 = λ z. IsFunction z w in
    let Q : Function → Type 0 = λ z. IsFunction (k.0 ∷ u ∷ o.0 ∷ (p.first ++ c.0 ∷ (q.first ++ q.second))) z in
    subst P
    (sym (k.2 ∙ ap (λ z. k.0 ∷ z) (m.joined ∙ ap (λ z. z ++ m.second) m.heads.1 ∙ ap (λ z. u ∷ z) (o.2 ∙ ap (λ z. o.0 ∷ z) (p.joined ∙ ap (λ z. p.first ++ z) (c.2 ∙ ap (λ z. c.0 ∷ z) q.joined))))))
    (subst Q (sym b.2) (g.function k.0 u m.value o.0 p.first p.value c.0 q.first q.value q.second b.0 k.3 m.heads.2 o.3 p.heads c.3 q.heads b.1))

read_function : (a : List Token) (w : Function) → IsFunction a w → FunctionOf a w
read_function _ _ (g.function t u name o a ps c b result d body h i j p k q l) = (
  t,
  u ∷ o ∷ (a ++ c ∷ (b ++ d)),
  refl,
  h,
  record {
    first = u ∷ [];
    second = o ∷ (a ++ c ∷ (b ++ d));
    value = name;
    joined = refl;
    heads = (u, refl, i);
    tails = (
      o,
      a ++ c ∷ (b ++ d),
      refl,
      j,
      record {
        first = a;
        second = c ∷ (b ++ d);
        value = ps;
        joined = refl;
        heads = p;
        tails = (c, b ++ d, refl, k, record { first = b; second = d; value = result; joined = refl; heads = q; tails = (body, l, refl) });
      },
    );
  },
)

pub function_opens : (a : List Token) (w : Function) (s : List Token) → IsFunction a w → sees is_def (a ++ s) ≡ true
function_opens _ _ s (g.function t u name o a ps c b result d body h i j p k q l) = h

abbrev close_token : Token
close_token = op_token (codes ")")

abbrev open_token : Token
open_token = op_token (codes "(")

abbrev pub plain_function : Token → Name → List Param → Function
plain_function t name ps = function_of t name ps None (pass_tree ∷ [])

least_rest : (t : Token) (name : Name) (ps : List Param) → RestOf t name ps pass_block (plain_function t name ps)
least_rest t name ps = record { first = []; second = pass_block; value = None; joined = refl; heads = g.unmarked; tails = (pass_tree ∷ [], least_block, refl) }

least_end : (t : Token) (name : Name) (ps : List Param) → EndOf t name ps (close_token ∷ pass_block) (plain_function t name ps)
least_end t name ps = (close_token, pass_block, refl, refl, least_rest t name ps)

abbrev brackets_text : List Token
brackets_text = close_token ∷ pass_block

least_params : (t : Token) (name : Name) → Then IsParams (EndOf t name) brackets_text (plain_function t name [])
least_params t name = record { first = []; second = brackets_text; value = []; joined = refl; heads = g.no_params; tails = least_end t name [] }

least_brackets : (t : Token) (name : Name) → BracketsOf t name (open_token ∷ brackets_text) (plain_function t name [])
least_brackets t name = (open_token, brackets_text, refl, refl, least_params t name)

plain_low : (n : ℕ) → 2 ≤ n → (t : Token) (name : Name) (ps : List Param) → FitEach (LowParam (n - 1)) ps → LowFunction n (plain_function t name ps)
plain_low n two t name ps f = function_low n two (plain_function t name ps) f tt (pass_low (n - 1) (omega arith))

result_apart : (t : Token) (name : Name) (ps : List Param) (o : Option Annotation) (c : List Token) (w : Function) (s : List Token) → ResultOf t name ps o c w → Free (marked_on (codes "->")) (c ++ s)
result_apart t name ps o c w s k =
    at_head is_colon (marked_on (codes "->")) false (λ u h. ap (λ z. is_spelled (op_in z) (codes "->") || is_spelled (op_in z) (codes "[")) (op_kind (codes ":") u h)) (c ++ s) (block_opens c k.0 s k.1)

rest_params : (n : ℕ) (t : Token) (name : Name) (ps : List Param) (c : List Token) (w : Function) → RestOf t name ps c w → LowFunction n w → FitEach (LowParam (n - 1)) ps
rest_params n t name ps c w k f =
    let P : Function → Type 0 = λ z. LowFunction n z in
    (low_function n (function_of t name ps k.value k.tails.0) (subst P k.tails.2 f)).0

module _ (r : Readers) (exact : Exact r) where
  marked_law : (n : ℕ) → 1 ≤ n → (mark : List ℕ) → (ts : List Token) → Law (IsMarked mark) (Limited (IsMarked mark) (LowMark n)) (marked_on mark) ts (reading.marked r n mark ts)
  unfolding reading.marked
  marked_law n some mark ts =
      same_law (MarkOf mark) (IsMarked mark) (LowMark n) (marked_on mark) (mark_read mark) (read_mark mark) ts _
      (optional_law (Opens (is_op mark) (λ _. Made IsType Some)) None (LowMark n) tt (marked_on mark) (is_op mark) (λ a w s k. ap (λ z. sees (is_op mark) (z ++ s)) k.2 ∙ k.3) (λ t h. or_first (is_op mark t) (type_on t) h)
      (expect (is_op mark) >>= λ _. r.annotation n >>= λ x. pure (Some x)) ts
      (λ h. open_limited (is_op mark) (λ _. Made IsType Some) (LowMark n) (marked_on mark)
      (λ t i. (type_token ∷ [], Some type_tree, ((type_tree, least_type, refl), type_low n some)))
      ts (λ _. r.annotation n >>= λ x. pure (Some x))
      (λ t us i e. made_limited IsType (marked_on mark) Some (LowType n) (LowMark n) (record { grows = λ x f. f; shrinks = λ x f. f }) us (r.annotation n us)
      (wider_law IsType (Limited IsType (LowType n)) type_on (marked_on mark) (λ u j. or_none (is_op mark u) (type_on u) j) us (r.annotation n us) (exact.annotation_law n us)))))

  default_law : (n : ℕ) → 1 ≤ n → (ts : List Token) → Law IsDefault (Limited IsDefault (LowDefault n)) print_item_on ts (reading.default r n ts)
  unfolding reading.default
  default_law n some ts =
      same_law DefaultOf IsDefault (LowDefault n) print_item_on default_read read_default ts _
      (optional_law (Opens is_equals (λ _. Made IsExpr Some)) None (LowDefault n) tt print_item_on is_equals (λ a w s k. ap (λ z. sees is_equals (z ++ s)) k.2 ∙ k.3) equals_item
      (expect is_equals >>= λ _. r.expr n >>= λ x. pure (Some x)) ts
      (λ h. open_limited is_equals (λ _. Made IsExpr Some) (LowDefault n) print_item_on
      (λ t i. (x_token ∷ [], Some x_tree, ((x_tree, least form.Whole, refl), x_low n some)))
      ts (λ _. r.expr n >>= λ x. pure (Some x))
      (λ t us i e. made_limited IsExpr print_item_on Some (Low n) (LowDefault n) (record { grows = λ x f. f; shrinks = λ x f. f }) us (r.expr n us) (expr_here r exact n us))))

  tail_law : (n : ℕ) → 2 ≤ n → (name : Name) (ts : List Token)
      → Law (ParamTail name) (Limited (ParamTail name) (LowParam n)) print_item_on ts (and_then (reading.marked r (n - 1) (codes ":") ts) (λ type. reading.default r (n - 1) >>= λ value. pure (param_of name type value)))
  tail_law n two name ts =
      join_law (IsMarked (codes ":")) (marked_on (codes ":")) (ParamRest name) print_item_on (LowMark (n - 1)) (LowParam n)
      (record {
        apart = λ a type p c w s k free. rest_apart name type c w s k free;
        ends = λ a type p. ([], param_of name type None, (None, g.no_default, refl));
        ends_within = λ a type p f. ([], param_of name type None, ((None, g.no_default, refl), param_low n (omega arith) (param_of name type None) f tt));
        shrinks = λ a type p c w k f. let P : Param → Type 0 = λ z. LowParam n z in (low_param n (param_of name type k.0) (subst P k.2 f)).0;
      }) ts (reading.marked r (n - 1) (codes ":") ts) (marked_law (n - 1) (omega arith) (codes ":") ts) (λ type. reading.default r (n - 1) >>= λ value. pure (param_of name type value))
      (λ used type us p f e. made_limited IsDefault print_item_on (param_of name type) (LowDefault (n - 1)) (LowParam n)
      (record { grows = λ value k. param_low n (omega arith) (param_of name type value) f k; shrinks = λ value k. (low_param n (param_of name type value) k).1 })
      us (reading.default r (n - 1) us) (default_law (n - 1) (omega arith) us))

  param_law : (n : ℕ) → 2 ≤ n → (ts : List Token) → Law IsParam (Limited IsParam (LowParam n)) print_item_on ts (reading.param r n ts)
  unfolding reading.param
  param_law n two ts =
      same_law ParamOf IsParam (LowParam n) print_item_on param_read read_param ts _
      (join_law (Picks name_at) never ParamTail print_item_on Free_of_limit (LowParam n)
      (record {
        apart = λ a name p c w s k free. free_never (c ++ s);
        ends = λ a name p. let k = param_least n (omega arith) name in (k.0, k.1, k.2.0);
        ends_within = λ a name p f. param_least n (omega arith) name;
        shrinks = λ a name p c w k f. tt;
      }) ts (take_by name_at ts) (take_limited name_at Free_of_limit (λ o. tt) never ts)
      (λ name. reading.marked r (n - 1) (codes ":") >>= λ type. reading.default r (n - 1) >>= λ value. pure (param_of name type value))
      (λ used name us p f e. tail_law n two name us))

  params_law : (n : ℕ) → 2 ≤ n → (ts : List Token) → Law IsParams (Limited IsParams (FitEach (LowParam n))) printed_on ts (reading.params r n ts)
  unfolding reading.params
  params_law n two ts =
      same_law ParamsOf IsParams (FitEach (LowParam n)) printed_on params_read read_params ts _
      (optional_law (Made Listing (λ row. row.0)) [] (FitEach (LowParam n)) tt printed_on is_name
      (λ a w s k. list_opens a k.0 s k.1.0) name_printed (listed is_comma is_name has_room (reading.param r n) >>= λ row. pure row.0) ts
      (λ h. made_limited Listing printed_on (λ row. row.0) (λ row. FitEach (LowParam n) row.0) (FitEach (LowParam n)) (record { grows = λ row f. f; shrinks = λ row f. f }) ts _
      (listed_law is_comma IsParam has_room (LowParam n) is_name print_item_on printed_on params_given (reading.param r n) (param_law n two) refl ts)))

  rest_law : (n : ℕ) → 2 ≤ n → (cont : Token → Bool) (t : Token) (name : Name) (ps : List Param) → FitEach (LowParam (n - 1)) ps → (ts : List Token)
      → Law (RestOf t name ps) (Limited (RestOf t name ps) (LowFunction n)) cont ts (reading.function_rest r n t name ps ts)
  unfolding reading.function_rest
  rest_law n two cont t name ps low ts =
      join_law (IsMarked (codes "->")) (marked_on (codes "->")) (ResultOf t name ps) cont (LowMark (n - 1)) (LowFunction n)
      (record {
        apart = λ a o p c w s k free. result_apart t name ps o c w s k;
        ends = λ a o p. (pass_block, function_of t name ps o (pass_tree ∷ []), (pass_tree ∷ [], least_block, refl));
        ends_within = λ a o p f. (
          pass_block,
          function_of t name ps o (pass_tree ∷ []),
          ((pass_tree ∷ [], least_block, refl), function_low n two (function_of t name ps o (pass_tree ∷ [])) low f (pass_low (n - 1) (omega arith))),
        );
        shrinks = λ a o p c w k f. let P : Function → Type 0 = λ z. LowFunction n z in (low_function n (function_of t name ps o k.0) (subst P k.2 f)).1;
      }) ts (reading.marked r (n - 1) (codes "->") ts) (marked_law (n - 1) (omega arith) (codes "->") ts) (λ result. block r (n - 1) >>= λ body. pure (function_of t name ps result body))
      (λ used o us p f e. made_limited IsBlock cont (function_of t name ps o) (LowBody (n - 1)) (LowFunction n)
      (record { grows = λ body k. function_low n two (function_of t name ps o body) low f k; shrinks = λ body k. (low_function n (function_of t name ps o body) k).2 })
      us (block r (n - 1) us) (whole_block_law r exact (n - 1) (omega arith) cont us))

  brackets_law : (n : ℕ) → 3 ≤ n → (cont : Token → Bool) (t : Token) (name : Name) (ts : List Token)
      → Law (BracketsOf t name) (Limited (BracketsOf t name) (LowFunction n)) cont ts (and_then (expect is_bracket ts) (λ _. reading.params r (n - 1) >>= λ ps. expect is_bracket_end >>= λ _. reading.function_rest r n t name ps))
  brackets_law n three cont t name ts =
      open_limited is_bracket (λ _. Then IsParams (EndOf t name)) (LowFunction n) cont
      (λ u h. (brackets_text, plain_function t name [], (least_params t name, plain_low n (omega arith) t name [] tt)))
      ts (λ _. reading.params r (n - 1) >>= λ ps. expect is_bracket_end >>= λ _. reading.function_rest r n t name ps)
      (λ u us h e. join_law IsParams printed_on (EndOf t name) cont (FitEach (LowParam (n - 1))) (LowFunction n)
      (record {
        apart = λ a ps p c w s k free. ap (λ z. sees printed_on (z ++ s)) k.2 ∙ ap not k.3;
        ends = λ a ps p. (close_token ∷ pass_block, plain_function t name ps, least_end t name ps);
        ends_within = λ a ps p f. (close_token ∷ pass_block, plain_function t name ps, (least_end t name ps, plain_low n (omega arith) t name ps f));
        shrinks = λ a ps p c w k f. rest_params n t name ps k.1 w k.4 f;
      }) us (reading.params r (n - 1) us) (params_law (n - 1) (omega arith) us) (λ ps. expect is_bracket_end >>= λ _. reading.function_rest r n t name ps)
      (λ used ps vs p f i. open_limited is_bracket_end (λ _. RestOf t name ps) (LowFunction n) cont
      (λ v j. (pass_block, plain_function t name ps, (least_rest t name ps, plain_low n (omega arith) t name ps f)))
      vs (λ _. reading.function_rest r n t name ps) (λ v ws j l. rest_law n (omega arith) cont t name ps f ws)))

  pub function_law : (n : ℕ) → 3 ≤ n → (cont : Token → Bool) (ts : List Token) → Law IsFunction (Limited IsFunction (LowFunction n)) cont ts (reading.function r n ts)
  unfolding reading.function
  function_law n three cont ts =
      same_law FunctionOf IsFunction (LowFunction n) cont function_read read_function ts _
      (open_limited is_def (λ t. Then (Picks name_at) (BracketsOf t)) (LowFunction n) cont
      (λ t h. (
        x_token ∷ open_token ∷ brackets_text,
        plain_function t x_name [],
        (
          record { first = x_token ∷ []; second = open_token ∷ brackets_text; value = x_name; joined = refl; heads = (x_token, refl, refl); tails = least_brackets t x_name },
          plain_low n (omega arith) t x_name [] tt,
        ),
      ))
      ts (λ t. take_by name_at >>= λ name. expect is_bracket >>= λ _. reading.params r (n - 1) >>= λ ps. expect is_bracket_end >>= λ _. reading.function_rest r n t name ps)
      (λ t us h e. join_law (Picks name_at) never (BracketsOf t) cont Free_of_limit (LowFunction n)
      (record {
        apart = λ a name p c w s k free. free_never (c ++ s);
        ends = λ a name p. (open_token ∷ brackets_text, plain_function t name [], least_brackets t name);
        ends_within = λ a name p f. (open_token ∷ brackets_text, plain_function t name [], (least_brackets t name, plain_low n (omega arith) t name [] tt));
        shrinks = λ a name p c w k f. tt;
      }) us (take_by name_at us) (take_limited name_at Free_of_limit (λ o. tt) never us)
      (λ name. expect is_bracket >>= λ _. reading.params r (n - 1) >>= λ ps. expect is_bracket_end >>= λ _. reading.function_rest r n t name ps)
      (λ used name vs p f i. brackets_law n three cont t name vs)))
