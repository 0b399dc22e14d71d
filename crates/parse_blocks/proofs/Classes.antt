-- The law of classes.
use Rattle.std.proofs.Common.{◌≡◌, ℕ, ◌+◌, ◌-◌, ◌≤◌, max, Bool, true, false, not, ◌||◌, ◌&&◌, List, [], ◌∷◌, ◌++◌, length, map, refl, sym, ◌∙◌, ap, subst, append_assoc, inl, inr, Option, Some, None, codes, arith}
use Rattle.std.proofs.lemmas.List.{append-nil}
use Rattle.std.proofs.lemmas.Bool.{ltb-true, lt-ltb}
use Rattle.indent_lexer.specs.declared.token.Token.{Token}
use Rattle.indent_lexer.specs.declared.token.TokenKind.{TokenKind}
use Rattle.indent_lexer.specs.declared.token.TokenKind.TheVariants as kind
use Rattle.source_trees.specs.declared.item.Annotation.{Annotation}
use Rattle.source_trees.specs.declared.item.Class.{Class}
use Rattle.source_trees.specs.declared.item.Function.{Function}
use Rattle.source_trees.specs.declared.item.Member.{Member}
use Rattle.source_trees.specs.declared.item.Member.TheVariants as member
use Rattle.source_trees.specs.declared.node.Name.{Name}
use Rattle.source_trees.specs.declared.node.Node.{Node}
use Rattle.source_trees.specs.Heights.{highest, height_of_annotation, height_of_member, height_of_class, height_of_function}
use Rattle.parse_laws.specs.Parser.{Parser, and_then, sees, in_table, pure, expect, take_by, choose, repeat, ◌>>=◌, ◌>>◌}
use Rattle.parse_laws.specs.Language.{Language, Viable, Law}
use Rattle.parse_laws.specs.Forms.{Then, Made, Ends, Opens, Closes, Picks, Either, never}
use Rattle.parse_laws.specs.Limits.{Limited}
use Rattle.parse_laws.specs.Loops.{Turns, done, next, Repeated}
use Rattle.parse_laws.proofs.Forms.{free_never}
use Rattle.parse_laws.proofs.Limits.{same_law, join_law, made_limited, open_limited, close_limited, end_limited, either_law, take_limited}
use Rattle.parse_laws.proofs.Lists.{FitEach}
use Rattle.parse_laws.proofs.Repeats.{at_head, repeat_law}
use Rattle.grammar_rules.specs.Modules as g
use Rattle.grammar_rules.specs.Modules.{IsFunction, IsMember, IsMembers, IsClass, fields_among}
use Rattle.grammar_rules.specs.Types.{IsType}
use Rattle.grammar_rules.specs.Words.{is_newline, is_newline_kind, is_indent, is_dedent, is_dedent_kind, is_spelled, op_in, keyword_in, name_in, text_in, name_of, text_of, named_by, name_at, node_at, most_items}
use Rattle.parse_expressions.specs.Reading.{is_name, is_text, text_at, text_from}
use Rattle.parse_expressions.proofs.Leaves.{Free_of_limit}
use Rattle.parse_expressions.proofs.Opens.{x_token, name_spelling}
use Rattle.parse_expressions.proofs.Tokens.{keyword_kind, or_first, or_second}
use Rattle.parse_statements.specs.Readers.{Readers, Exact, LowType, type_on}
use Rattle.parse_statements.specs.Simple.{is_colon}
use Rattle.parse_statements.proofs.Tails.{type_token, type_tree, least_type, type_low}
use Rattle.parse_blocks.specs.Functions as reading
use Rattle.parse_blocks.specs.Functions.{is_def, is_class, is_pass, class_of_members, takes_field, may_join, starts_member, members_on}
use Rattle.parse_blocks.proofs.BlockLaw.{pass_token, colon_token, newline_token, indent_token, dedent_token}
use Rattle.parse_blocks.proofs.Functions.{LowFunction, function_opens, function_law, x_name}
use Rattle.parse_blocks.proofs.Marks.{not_it, not_both}

-- ---- heights

-- the member has at most this height
abbrev pub LowMember : ℕ → Member → Type 0
LowMember n m = height_of_member m ≤ n

members_up : (n : ℕ) (ms : List Member) → FitEach (LowMember n) ms → highest (map height_of_member ms) ≤ n
members_up n [] f = omega arith
members_up n (m ∷ ms) f = let i = f.0 in let k = members_up n ms f.1 in omega arith

members_down : (n : ℕ) (ms : List Member) → highest (map height_of_member ms) ≤ n → FitEach (LowMember n) ms
members_down n [] f = tt
members_down n (m ∷ ms) f = (omega arith, members_down n ms (omega arith))

-- the class has at most this height
abbrev pub LowClass : ℕ → Class → Type 0
LowClass n c = height_of_class c ≤ n

class_height : (c : Class) → height_of_class c ≡ max 1 (highest (map height_of_member c.members)) + 1
class_height c = refl

class_low : (n : ℕ) → 2 ≤ n → (c : Class) → FitEach (LowMember (n - 1)) c.members → LowClass n c
class_low n two c f = let h = class_height c in let i = members_up (n - 1) c.members f in omega arith

low_class : (n : ℕ) (c : Class) → LowClass n c → FitEach (LowMember (n - 1)) c.members
low_class n c l = let h = class_height c in members_down (n - 1) c.members (omega arith)

field_height : (m : Node) (name : Name) (type : Annotation) → height_of_member (member.Field m name type) ≡ max 1 (max (height_of_annotation type) 0) + 1
field_height m name type = refl

text_height : (m : Node) (value : List ℕ) → height_of_member (member.Text m value) ≡ 1
text_height m value = refl

pass_height : (m : Node) → height_of_member (member.Pass m) ≡ 1
pass_height m = refl

method_height : (f : Function) → height_of_member (member.Method f) ≡ height_of_function f
method_height f = refl

-- ---- members by their first token

abbrev FieldEnd : Name → Language Token Member
FieldEnd name = Opens is_colon (λ _. Closes IsType is_newline (λ type. member.Field name.node name type))

abbrev FieldOf : Language Token Member
FieldOf = Then (Picks name_at) FieldEnd

abbrev TextEnd : Node × List ℕ → Language Token Member
TextEnd p = Ends is_newline (member.Text p.0 p.1)

abbrev TextOf : Language Token Member
TextOf = Then (Picks text_at) TextEnd

abbrev PassOf : Language Token Member
PassOf = Opens is_pass (λ t. Ends is_newline (member.Pass (node_at t)))

abbrev MethodOf : Language Token Member
MethodOf = Made IsFunction member.Method

abbrev FromPass : Language Token Member
FromPass = Either PassOf MethodOf

abbrev FromText : Language Token Member
FromText = Either TextOf FromPass

-- a member that may follow these
abbrev MemberOf : List Member → Language Token Member
MemberOf ms = Either (λ a m. FieldOf a m × (takes_field ms ≡ true)) FromText

abbrev MemberAfter : List Member → Language Token Member
MemberAfter ms a m = IsMember a m × (may_join ms m ≡ true)

member_here : (ms : List Member) (a b : List Token) (w v : Member) → a ≡ b → w ≡ v → IsMember b v → may_join ms v ≡ true → MemberAfter ms a w
member_here ms a b w v e f p h =
    let P : List Token → Type 0 = λ z. MemberAfter ms z w in
    let Q : Member → Type 0 = λ z. MemberAfter ms b z in
    subst P (sym e) (subst Q (sym f) (p, h))

text_value : (t : Token) (p : Node × List ℕ) → text_at t ≡ Some p → (value : List ℕ) × (text_of t ≡ Some value) × (p ≡ (node_at t, value))
text_value t p h =
    let go : (o : Option (List ℕ)) → text_of t ≡ o → text_from (node_at t) o ≡ Some p → (value : List ℕ) × (text_of t ≡ Some value) × (p ≡ (node_at t, value)) = elim [
      | Some value ↦ λ e k. (value, e, let i : Some (node_at t, value) ≡ Some p = k in cc)
      | None ↦ λ e k. absurd (cc)
    ] in
    go (text_of t) refl h

member_read : (ms : List Member) (a : List Token) (w : Member) → MemberOf ms a w → MemberAfter ms a w
member_read ms a w (inl k) =
    let f = k.0 in
    let t = f.heads.0 in
    let c = f.tails in
    let q = c.4 in
    let n = name_spelling t f.value (name_of t) refl f.heads.2 in
    member_here ms a (t ∷ c.0 ∷ (q.0 ++ q.2 ∷ [])) w (member.Field (node_at t) f.value q.1)
    (f.joined ∙ ap (λ z. z ++ f.second) f.heads.1 ∙ ap (λ z. t ∷ z) (c.2 ∙ ap (λ z. c.0 ∷ z) q.3))
    (q.6 ∙ ap (λ z. member.Field z.node f.value q.1) n.2)
    (g.field t f.value c.0 q.0 q.1 q.2 f.heads.2 c.3 q.4 q.5) k.1
member_read ms a w (inr (inl k)) =
    let t = k.heads.0 in
    let e = k.tails in
    let v = text_value t k.value k.heads.2 in
    member_here ms a (t ∷ e.0 ∷ []) w (member.Text (node_at t) v.0)
    (k.joined ∙ ap (λ z. z ++ k.second) k.heads.1 ∙ ap (λ z. t ∷ z) e.1)
    (e.3 ∙ ap (λ z. member.Text z.0 z.1) v.2)
    (g.text t v.0 e.0 v.1 e.2) refl
member_read ms a w (inr (inr (inl k))) =
    let e = k.4 in
    member_here ms a (k.0 ∷ e.0 ∷ []) w (member.Pass (node_at k.0)) (k.2 ∙ ap (λ z. k.0 ∷ z) e.1) e.3 (g.pass k.0 e.0 k.3 e.2) refl
member_read ms a w (inr (inr (inr k))) = member_here ms a a w (member.Method k.0) refl k.2 (g.method a k.0 k.1) refl

read_member : (ms : List Member) (a : List Token) (w : Member) → IsMember a w → may_join ms w ≡ true → MemberOf ms a w
read_member ms _ _ (g.field t name c a type u h i p j) room =
    let n = name_spelling t name (name_of t) refl h in
    inl (
      record {
        first = t ∷ [];
        second = c ∷ (a ++ u ∷ []);
        value = name;
        joined = refl;
        heads = (t, refl, h);
        tails = (c, a ++ u ∷ [], refl, i, (a, type, u, refl, p, j, ap (λ z. member.Field z.node name type) (sym n.2)));
      },
      room,
    )
read_member ms _ _ (g.text t value u h i) room =
    inr (inl (record { first = t ∷ []; second = u ∷ []; value = (node_at t, value); joined = refl; heads = (t, refl, ap (text_from (node_at t)) h); tails = (u, refl, i, refl) }))
read_member ms _ _ (g.pass t u h i) room = inr (inr (inl (t, u ∷ [], refl, h, (u, refl, i, refl))))
read_member ms _ _ (g.method a f p) room = inr (inr (inr (f, p, refl)))

-- ---- tokens

name_keyword : (word : List ℕ) (t : Token) → is_spelled (keyword_in t.kind) word ≡ true → is_name t ≡ false
name_keyword word t h = ap (λ k. in_table (named_by t (name_in k))) (keyword_kind word t h)

text_keyword : (word : List ℕ) (t : Token) → is_spelled (keyword_in t.kind) word ≡ true → is_text t ≡ false
text_keyword word t h = ap (λ k. in_table (text_in k)) (keyword_kind word t h)

def_no_pass : (t : Token) → is_def t ≡ true → is_pass t ≡ false
def_no_pass t h = ap (λ k. is_spelled (keyword_in k) (codes "pass")) (keyword_kind (codes "def") t h)

text_name_in : (t : Token) (k : TokenKind) → in_table (text_in k) ≡ true → in_table (named_by t (name_in k)) ≡ false
text_name_in t (kind.Text s) h = refl
text_name_in t _ h = absurd (cc)

text_no_name : (t : Token) → is_text t ≡ true → is_name t ≡ false
text_no_name t h = text_name_in t t.kind h

dedent_plain_in : (t : Token) (k : TokenKind) → is_dedent_kind k ≡ true
    → in_table (named_by t (name_in k)) || (in_table (text_in k) || (is_spelled (keyword_in k) (codes "pass") || is_spelled (keyword_in k) (codes "def"))) ≡ false
dedent_plain_in t kind.Dedent h = refl
dedent_plain_in t _ h = absurd (cc)

and_weak : (x y z : Bool) → (x && y) || z ≡ true → y || z ≡ true
and_weak true y z h = h
and_weak false true z h = refl
and_weak false false z h = h

member_own : (ms : List Member) (t : Token) → starts_member ms t ≡ true → members_on t ≡ true
member_own ms t h =
    not_it (is_dedent t) (not_both (is_dedent t) (is_name t || (is_text t || (is_pass t || is_def t))) (dedent_plain_in t t.kind)
    (and_weak (takes_field ms) (is_name t) (is_text t || (is_pass t || is_def t)) h))

newline_type_in : (k : TokenKind) → is_newline_kind k ≡ true → is_spelled (op_in k) (codes "[") ≡ false
newline_type_in kind.Newline h = refl
newline_type_in _ h = absurd (cc)

newline_type : (t : Token) → is_newline t ≡ true → type_on t ≡ false
newline_type t h = newline_type_in t.kind h

-- ---- what stands first

field_first : (a : List Token) (w : Member) (s : List Token) → FieldOf a w → sees is_name (a ++ s) ≡ true
field_first a w s k = ap (λ z. sees is_name (z ++ s)) (k.joined ∙ ap (λ z. z ++ k.second) k.heads.1) ∙ ap in_table k.heads.2

text_table : (t : Token) (p : Node × List ℕ) → text_at t ≡ Some p → is_text t ≡ true
text_table t p h = let v = text_value t p h in ap in_table v.1

text_first : (a : List Token) (w : Member) (s : List Token) → TextOf a w → sees is_text (a ++ s) ≡ true
text_first a w s k = ap (λ z. sees is_text (z ++ s)) (k.joined ∙ ap (λ z. z ++ k.second) k.heads.1) ∙ text_table k.heads.0 k.value k.heads.2

pass_first : (a : List Token) (w : Member) (s : List Token) → PassOf a w → sees is_pass (a ++ s) ≡ true
pass_first a w s k = ap (λ z. sees is_pass (z ++ s)) k.2 ∙ k.3

method_first : (a : List Token) (w : Member) (s : List Token) → MethodOf a w → sees is_def (a ++ s) ≡ true
method_first a w s k = function_opens a k.0 s k.1

no_name : (a : List Token) (w : Member) (s : List Token) → FromText a w → sees is_name (a ++ s) ≡ false
no_name a w s (inl k) = at_head is_text is_name false text_no_name (a ++ s) (text_first a w s k)
no_name a w s (inr (inl k)) = at_head is_pass is_name false (name_keyword (codes "pass")) (a ++ s) (pass_first a w s k)
no_name a w s (inr (inr k)) = at_head is_def is_name false (name_keyword (codes "def")) (a ++ s) (method_first a w s k)

no_text : (a : List Token) (w : Member) (s : List Token) → FromPass a w → sees is_text (a ++ s) ≡ false
no_text a w s (inl k) = at_head is_pass is_text false (text_keyword (codes "pass")) (a ++ s) (pass_first a w s k)
no_text a w s (inr k) = at_head is_def is_text false (text_keyword (codes "def")) (a ++ s) (method_first a w s k)

no_pass : (a : List Token) (w : Member) (s : List Token) → MethodOf a w → sees is_pass (a ++ s) ≡ false
no_pass a w s k = at_head is_def is_pass false def_no_pass (a ++ s) (method_first a w s k)

start_name : (ms : List Member) (t : Token) → takes_field ms ≡ true → is_name t ≡ true → starts_member ms t ≡ true
start_name ms t h k = or_first (takes_field ms && is_name t) (is_text t || (is_pass t || is_def t)) (ap (λ z. z && is_name t) h ∙ k)

start_text : (ms : List Member) (t : Token) → is_text t ≡ true → starts_member ms t ≡ true
start_text ms t h = or_second (takes_field ms && is_name t) (is_text t || (is_pass t || is_def t)) (or_first (is_text t) (is_pass t || is_def t) h)

start_pass : (ms : List Member) (t : Token) → is_pass t ≡ true → starts_member ms t ≡ true
start_pass ms t h =
    or_second (takes_field ms && is_name t) (is_text t || (is_pass t || is_def t)) (or_second (is_text t) (is_pass t || is_def t) (or_first (is_pass t) (is_def t) h))

start_def : (ms : List Member) (t : Token) → is_def t ≡ true → starts_member ms t ≡ true
start_def ms t h =
    or_second (takes_field ms && is_name t) (is_text t || (is_pass t || is_def t)) (or_second (is_text t) (is_pass t || is_def t) (or_second (is_pass t) (is_def t) h))

member_opens : (ms : List Member) (a : List Token) (w : Member) (s : List Token) → MemberOf ms a w → sees (starts_member ms) (a ++ s) ≡ true
member_opens ms a w s (inl k) = at_head is_name (starts_member ms) true (λ t h. start_name ms t k.1 h) (a ++ s) (field_first a w s k.0)
member_opens ms a w s (inr (inl k)) = at_head is_text (starts_member ms) true (start_text ms) (a ++ s) (text_first a w s k)
member_opens ms a w s (inr (inr (inl k))) = at_head is_pass (starts_member ms) true (start_pass ms) (a ++ s) (pass_first a w s k)
member_opens ms a w s (inr (inr (inr k))) = at_head is_def (starts_member ms) true (start_def ms) (a ++ s) (method_first a w s k)

-- a field may follow where a name begins a member
plain_name_in : (t : Token) (k : TokenKind) → in_table (named_by t (name_in k)) ≡ true → in_table (text_in k) || (is_spelled (keyword_in k) (codes "pass") || is_spelled (keyword_in k) (codes "def")) ≡ false
plain_name_in t (kind.Name s) h = refl
plain_name_in t _ h = absurd (cc)

room_of : (x n o : Bool) → (n ≡ true → o ≡ false) → (x && n) || o ≡ true → n ≡ true → x ≡ true
room_of true n o f k i = refl
room_of false n o f k i = let a = f i in absurd (cc)

field_room : (ms : List Member) (ts : List Token) → sees (starts_member ms) ts ≡ true → sees is_name ts ≡ true → takes_field ms ≡ true
field_room ms [] h k = absurd (cc)
field_room ms (t ∷ ts) h k = room_of (takes_field ms) (is_name t) (is_text t || (is_pass t || is_def t)) (plain_name_in t t.kind) h k

-- ---- the members of a class

abbrev Step : List Member → Language Token (List Member)
Step ms = Made (MemberAfter ms) (λ m. ms ++ m ∷ [])

fields_one : (v : List Member) (m : Member) → fields_among (v ++ m ∷ []) ≡ fields_among v + fields_among (m ∷ [])
fields_one [] m = omega arith
fields_one (member.Field n name type ∷ v) m = let k = fields_one v m in omega arith
fields_one (member.Text n value ∷ v) m = fields_one v m
fields_one (member.Pass n ∷ v) m = fields_one v m
fields_one (member.Method f ∷ v) m = fields_one v m

fields_cons : (m : Member) (ms : List Member) → fields_among (m ∷ ms) ≡ fields_among (m ∷ []) + fields_among ms
fields_cons (member.Field n name type) ms = omega arith
fields_cons (member.Text n value) ms = omega arith
fields_cons (member.Pass n) ms = omega arith
fields_cons (member.Method f) ms = omega arith

joins_one : (v : List Member) (m : Member) → fields_among v + fields_among (m ∷ []) ≤ most_items → may_join v m ≡ true
joins_one v (member.Field n name type) h = lt-ltb (fields_among v) most_items (omega arith)
joins_one v (member.Text n value) h = refl
joins_one v (member.Pass n) h = refl
joins_one v (member.Method f) h = refl

one_joins : (v : List Member) (m : Member) → fields_among v ≤ most_items → may_join v m ≡ true → fields_among v + fields_among (m ∷ []) ≤ most_items
one_joins v (member.Field n name type) small h = let k = ltb-true (fields_among v) most_items h in omega arith
one_joins v (member.Text n value) small h = omega arith
one_joins v (member.Pass n) small h = omega arith
one_joins v (member.Method f) small h = omega arith

members_turns : (v : List Member) (a : List Token) (ms : List Member) → IsMembers a ms → fields_among v + fields_among ms ≤ most_items → Turns Step v a (v ++ ms)
members_turns v _ _ (g.last a m p) small =
    let P : List Token → Type 0 = λ z. Turns Step v z (v ++ m ∷ []) in
    subst P (append-nil a) (next v a (v ++ m ∷ []) [] (v ++ m ∷ []) (m, (p, joins_one v m small), refl) (done (v ++ m ∷ [])))
members_turns v _ _ (g.another a m b ms p rest) small =
    let P : List Member → Type 0 = λ z. Turns Step v (a ++ b) z in
    let c = fields_cons m ms in
    let o = fields_one v m in
    subst P (append_assoc v (m ∷ []) ms)
    (next v a (v ++ m ∷ []) b ((v ++ m ∷ []) ++ ms) (m, (p, joins_one v m (omega arith)), refl) (members_turns (v ++ m ∷ []) b ms rest (omega arith)))

-- what turns add to the members before
abbrev Added : List Member → List Token → List Member → Type 0
Added v c w = (a : List Token) (m : Member) → IsMember a m → fields_among v ≤ most_items → (ms : List Member) × IsMembers (a ++ c) (m ∷ ms) × (w ≡ v ++ ms) × (fields_among w ≤ most_items)

turns_members : (v : List Member) (c : List Token) (w : List Member) → Turns Step v c w → Added v c w
turns_members _ _ _ (done v) a m p small =
    let P : List Token → Type 0 = λ z. IsMembers z (m ∷ []) in
    ([], subst P (sym (append-nil a)) (g.last a m p), sym (append-nil v), small)
turns_members _ _ _ (next v b u c w k rest) a m p small =
    let y = k.0 in
    let o = fields_one v y in
    let l = one_joins v y small k.1.1 in
    let e : fields_among u ≡ fields_among (v ++ y ∷ []) = ap fields_among k.2 in
    let i = turns_members u c w rest b y k.1.0 (omega arith) in
    (y ∷ i.0, g.another a m (b ++ c) (y ∷ i.0) p i.1, i.2 ∙ ap (λ z. z ++ i.0) k.2 ∙ append_assoc v (y ∷ []) i.0, i.3)

-- members of which at most 255 are fields
abbrev pub MembersWithin : Language Token (List Member)
MembersWithin a ms = IsMembers a ms × (fields_among ms ≤ most_items)

abbrev MembersOf : Language Token (List Member)
MembersOf = Then (MemberAfter []) (λ m. Turns Step (m ∷ []))

first_small : (m : Member) → fields_among (m ∷ []) ≤ most_items
first_small (member.Field n name type) = omega arith
first_small (member.Text n value) = omega arith
first_small (member.Pass n) = omega arith
first_small (member.Method f) = omega arith

members_read : (a : List Token) (w : List Member) → MembersOf a w → MembersWithin a w
members_read a w k =
    let i = turns_members (k.value ∷ []) k.second w k.tails k.first k.value k.heads.0 (first_small k.value) in
    let P : List Token → Type 0 = λ z. IsMembers z w in
    let Q : List Member → Type 0 = λ z. IsMembers (k.first ++ k.second) z in
    (subst P (sym k.joined) (subst Q (sym i.2) i.1), i.3)

read_members : (a : List Token) (w : List Member) → IsMembers a w → fields_among w ≤ most_items → MembersOf a w
read_members _ _ (g.last a m p) small = record { first = a; second = []; value = m; joined = sym (append-nil a); heads = (p, joins_one [] m (let f = first_small m in omega arith)); tails = done (m ∷ []) }
read_members _ _ (g.another a m b ms p rest) small =
    let c = fields_cons m ms in
    record { first = a; second = b; value = m; joined = refl; heads = (p, joins_one [] m (let f = first_small m in omega arith)); tails = members_turns (m ∷ []) b ms rest (omega arith) }

fit_push : (n : ℕ) (ms : List Member) (m : Member) → FitEach (LowMember n) ms → LowMember n m → FitEach (LowMember n) (ms ++ m ∷ [])
fit_push n [] m f l = (l, tt)
fit_push n (x ∷ ms) m f l = (f.0, fit_push n ms m f.1 l)

fit_split : (n : ℕ) (ms : List Member) (m : Member) → FitEach (LowMember n) (ms ++ m ∷ []) → FitEach (LowMember n) ms × LowMember n m
fit_split n [] m f = (tt, f.0)
fit_split n (x ∷ ms) m f = let k = fit_split n ms m f.1 in ((f.0, k.0), k.1)

repeated : (n : ℕ) → Repeated starts_member Step (λ _. never) members_on (FitEach (LowMember n))
repeated n = record {
  opens = λ ms b u s k. member_opens ms b k.0 s (read_member ms b k.0 k.1.0 k.1.1);
  own = λ ms t h. member_own ms t h;
  wider = λ ms t h. refl;
  next = λ ms b u t k h. refl;
  shrinks = λ ms b u k f. let P : List Member → Type 0 = λ z. FitEach (LowMember n) z in (fit_split n ms k.0 (subst P k.2 f)).0;
}

turns_low : (n : ℕ) (v : List Member) (c : List Token) (w : List Member) → Turns Step v c w → FitEach (LowMember n) w → FitEach (LowMember n) v
turns_low n _ _ _ (done v) f = f
turns_low n _ _ _ (next v b u c w k rest) f =
    let P : List Member → Type 0 = λ z. FitEach (LowMember n) z in
    (fit_split n v k.0 (subst P k.2 (turns_low n u c w rest f))).0

-- ---- classes

abbrev IndentOf : Token → Name → Language Token Class
IndentOf t name = Opens is_indent (λ _. Closes MembersWithin is_dedent (class_of_members t name))

abbrev LineOf : Token → Name → Language Token Class
LineOf t name = Opens is_colon (λ _. Opens is_newline (λ _. IndentOf t name))

abbrev ClassOf : Language Token Class
ClassOf = Opens is_class (λ t. Then (Picks name_at) (LineOf t))

class_read : (a : List Token) (w : Class) → ClassOf a w → IsClass a w
class_read a w k =
    let m = k.4 in
    let u = m.heads.0 in
    let c = m.tails in
    let n = c.4 in
    let i = n.4 in
    let d = i.4 in
    let P : List Token → Type 0 = λ z. IsClass z w in
    let Q : Class → Type 0 = λ z. IsClass (k.0 ∷ u ∷ c.0 ∷ n.0 ∷ i.0 ∷ (d.0 ++ d.2 ∷ [])) z in
    subst P
    (sym (k.2 ∙ ap (λ z. k.0 ∷ z) (m.joined ∙ ap (λ z. z ++ m.second) m.heads.1 ∙ ap (λ z. u ∷ z) (c.2 ∙ ap (λ z. c.0 ∷ z) (n.2 ∙ ap (λ z. n.0 ∷ z) (i.2 ∙ ap (λ z. i.0 ∷ z) d.3))))))
    (subst Q (sym d.6) (g.class k.0 u m.value c.0 n.0 i.0 d.0 d.1 d.2 k.3 m.heads.2 c.3 n.3 i.3 d.4.0 d.4.1 d.5))

read_class : (a : List Token) (w : Class) → IsClass a w → ClassOf a w
read_class _ _ (g.class t u name c n i a ms d h j k l o p small q) = (
  t,
  u ∷ c ∷ n ∷ i ∷ (a ++ d ∷ []),
  refl,
  h,
  record {
    first = u ∷ [];
    second = c ∷ n ∷ i ∷ (a ++ d ∷ []);
    value = name;
    joined = refl;
    heads = (u, refl, j);
    tails = (c, n ∷ i ∷ (a ++ d ∷ []), refl, k, (n, i ∷ (a ++ d ∷ []), refl, l, (i, a ++ d ∷ [], refl, o, (a, ms, d, refl, (p, small), q, refl))));
  },
)

pub class_opens : (a : List Token) (w : Class) (s : List Token) → IsClass a w → sees is_class (a ++ s) ≡ true
class_opens _ _ s (g.class t u name c n i a ms d h j k l o p small q) = h

abbrev pass_member : Member
pass_member = member.Pass (node_at pass_token)

abbrev member_text : List Token
member_text = pass_token ∷ newline_token ∷ []

abbrev least_tree : Token → Name → Class
least_tree t name = class_of_members t name (pass_member ∷ [])

abbrev members_text : List Token
members_text = member_text ++ dedent_token ∷ []

least_members : MembersWithin member_text (pass_member ∷ [])
least_members = (g.last member_text pass_member (g.pass pass_token newline_token refl refl), omega arith)

least_closed : (t : Token) (name : Name) → Closes MembersWithin is_dedent (class_of_members t name) members_text (least_tree t name)
least_closed t name = (member_text, pass_member ∷ [], dedent_token, refl, least_members, refl, refl)

least_indent : (t : Token) (name : Name) → IndentOf t name (indent_token ∷ members_text) (least_tree t name)
least_indent t name = (indent_token, members_text, refl, refl, least_closed t name)

abbrev line_text : List Token
line_text = colon_token ∷ newline_token ∷ indent_token ∷ members_text

least_newline : (t : Token) (name : Name) → Opens is_newline (λ _. IndentOf t name) (newline_token ∷ indent_token ∷ members_text) (least_tree t name)
least_newline t name = (newline_token, indent_token ∷ members_text, refl, refl, least_indent t name)

least_line : (t : Token) (name : Name) → LineOf t name line_text (least_tree t name)
least_line t name = (colon_token, newline_token ∷ indent_token ∷ members_text, refl, refl, least_newline t name)

least_low : (n : ℕ) → 2 ≤ n → (t : Token) (name : Name) → LowClass n (least_tree t name)
least_low n two t name = class_low n two (least_tree t name) (let h = pass_height (node_at pass_token) in omega arith, tt)

-- ---- the laws

module _ (r : Readers) (exact : Exact r) where
  field_law : (n : ℕ) → 2 ≤ n → (ts : List Token) → Law FieldOf (Limited FieldOf (LowMember n)) never ts (reading.field r n ts)
  unfolding reading.field
  field_law n two ts =
      let least : (name : Name) → Viable (Limited (FieldEnd name) (LowMember n)) [] = λ name. (
        colon_token ∷ type_token ∷ newline_token ∷ [],
        member.Field name.node name type_tree,
        (
          (colon_token, type_token ∷ newline_token ∷ [], refl, refl, (type_token ∷ [], type_tree, newline_token, refl, least_type, refl, refl)),
          let h = field_height name.node name type_tree in let k = type_low 1 (omega arith) in omega arith,
        ),
      ) in
      join_law (Picks name_at) never FieldEnd never Free_of_limit (LowMember n)
      (record {
        apart = λ a name p c w s k free. free_never (c ++ s);
        ends = λ a name p. let k = least name in (k.0, k.1, k.2.0);
        ends_within = λ a name p f. least name;
        shrinks = λ a name p c w k f. tt;
      }) ts (take_by name_at ts) (take_limited name_at Free_of_limit (λ o. tt) never ts)
      (λ name. expect is_colon >>= λ _. r.annotation (n - 1) >>= λ type. expect is_newline >> pure (member.Field name.node name type))
      (λ used name us p f e. open_limited is_colon (λ _. Closes IsType is_newline (λ type. member.Field name.node name type)) (LowMember n) never
      (λ t h. let k = least name in (type_token ∷ newline_token ∷ [], member.Field name.node name type_tree, (k.2.0.4, k.2.1)))
      us (λ _. r.annotation (n - 1) >>= λ type. expect is_newline >> pure (member.Field name.node name type))
      (λ t vs h i. close_limited is_newline newline_token refl IsType type_on never newline_type (λ type. member.Field name.node name type) (LowType (n - 1)) (LowMember n)
      (record { grows = λ type l. let q = field_height name.node name type in omega arith; shrinks = λ type l. let q = field_height name.node name type in omega arith })
      vs (r.annotation (n - 1) vs) (exact.annotation_law (n - 1) vs)))

  text_law : (n : ℕ) → 1 ≤ n → (ts : List Token) → Law TextOf (Limited TextOf (LowMember n)) never ts (and_then (take_by text_at ts) (λ p. expect is_newline >>= λ _. pure (member.Text p.0 p.1)))
  text_law n some ts =
      let low : (p : Node × List ℕ) → LowMember n (member.Text p.0 p.1) = λ p. let h = text_height p.0 p.1 in omega arith in
      join_law (Picks text_at) never TextEnd never Free_of_limit (LowMember n)
      (record {
        apart = λ a p q c w s k free. free_never (c ++ s);
        ends = λ a p q. (newline_token ∷ [], member.Text p.0 p.1, (newline_token, refl, refl, refl));
        ends_within = λ a p q f. (newline_token ∷ [], member.Text p.0 p.1, ((newline_token, refl, refl, refl), low p));
        shrinks = λ a p q c w k f. tt;
      }) ts (take_by text_at ts) (take_limited text_at Free_of_limit (λ o. tt) never ts) (λ p. expect is_newline >>= λ _. pure (member.Text p.0 p.1))
      (λ used p us q f e. end_limited is_newline (member.Text p.0 p.1) (LowMember n) (low p) never us)

  pass_law : (n : ℕ) → 1 ≤ n → (ts : List Token) → Law PassOf (Limited PassOf (LowMember n)) never ts (and_then (expect is_pass ts) (λ t. expect is_newline >>= λ _. pure (member.Pass (node_at t))))
  pass_law n some ts =
      let low : (t : Token) → LowMember n (member.Pass (node_at t)) = λ t. let h = pass_height (node_at t) in omega arith in
      open_limited is_pass (λ t. Ends is_newline (member.Pass (node_at t))) (LowMember n) never
      (λ t h. (newline_token ∷ [], member.Pass (node_at t), ((newline_token, refl, refl, refl), low t)))
      ts (λ t. expect is_newline >>= λ _. pure (member.Pass (node_at t))) (λ t us h e. end_limited is_newline (member.Pass (node_at t)) (LowMember n) (low t) never us)

  method_law : (n : ℕ) → 3 ≤ n → (ts : List Token) → Law MethodOf (Limited MethodOf (LowMember n)) never ts (and_then (reading.function r n ts) (λ f. pure (member.Method f)))
  method_law n three ts =
      made_limited IsFunction never member.Method (LowFunction n) (LowMember n)
      (record { grows = λ f l. let h = method_height f in omega arith; shrinks = λ f l. let h = method_height f in omega arith })
      ts (reading.function r n ts) (function_law r exact n three never ts)

  field_here : (n : ℕ) → 2 ≤ n → (ms : List Member) → takes_field ms ≡ true → (ts : List Token)
      → let L : Language Token Member = λ a m. FieldOf a m × (takes_field ms ≡ true) in Law L (Limited L (LowMember n)) never ts (reading.field r n ts)
  field_here n two ms room ts =
      same_law FieldOf (λ a m. FieldOf a m × (takes_field ms ≡ true)) (LowMember n) never (λ a m k. (k, room)) (λ a m k. k.0) ts (reading.field r n ts) (field_law n two ts)

  abbrev pass_line : Parser Token Member
  pass_line = expect is_pass >>= λ t. expect is_newline >>= λ _. pure (member.Pass (node_at t))

  member_law : (n : ℕ) → 3 ≤ n → (ms : List Member) (ts : List Token) → (sees is_name ts ≡ true → takes_field ms ≡ true)
      → Law (MemberAfter ms) (Limited (MemberAfter ms) (LowMember n)) never ts (reading.one_member r n ts)
  unfolding reading.one_member
  member_law n three ms ts room =
      same_law (MemberOf ms) (MemberAfter ms) (LowMember n) never (member_read ms) (λ a w k. read_member ms a w k.0 k.1) ts _
      (either_law (λ a m. FieldOf a m × (takes_field ms ≡ true)) FromText (LowMember n) never is_name (λ a w s k. field_first a w s k.0) (λ a w s k free. no_name a w s k) (reading.field r n) (choose is_text (take_by text_at >>= λ p. expect is_newline >>= λ _. pure (member.Text p.0 p.1)) (choose is_pass pass_line (reading.function r n >>= λ f. pure (member.Method f)))) ts
      (λ h. field_here n (omega arith) ms (room h) ts)
      (λ h. either_law TextOf FromPass (LowMember n) never is_text text_first (λ a w s k free. no_text a w s k) (take_by text_at >>= λ p. expect is_newline >>= λ _. pure (member.Text p.0 p.1)) (choose is_pass pass_line (reading.function r n >>= λ f. pure (member.Method f))) ts
      (λ h. text_law n (omega arith) ts)
      (λ h. either_law PassOf MethodOf (LowMember n) never is_pass pass_first (λ a w s k free. no_pass a w s k)
      pass_line (reading.function r n >>= λ f. pure (member.Method f)) ts
      (λ h. pass_law n (omega arith) ts)
      (λ h. method_law n three ts))))

  members_law : (n : ℕ) → 3 ≤ n → (ts : List Token) → Law MembersWithin (Limited MembersWithin (FitEach (LowMember n))) members_on ts (reading.members r n ts)
  unfolding reading.members
  members_law n three ts =
      same_law MembersOf MembersWithin (FitEach (LowMember n)) members_on members_read (λ a w k. read_members a w k.0 k.1) ts _
      (join_law (MemberAfter []) never (λ m. Turns Step (m ∷ [])) members_on (LowMember n) (FitEach (LowMember n))
      (record {
        apart = λ a m p c w s k free. free_never (c ++ s);
        ends = λ a m p. ([], m ∷ [], done (m ∷ []));
        ends_within = λ a m p f. ([], m ∷ [], (done (m ∷ []), (f, tt)));
        shrinks = λ a m p c w k f. (turns_low n (m ∷ []) c w k f).0;
      }) ts (reading.one_member r n ts) (member_law n three [] ts (λ h. refl))
      (λ m. (λ us. repeat starts_member (λ ms. reading.one_member r n >>= λ y. pure (ms ++ y ∷ [])) (length us) (m ∷ []) us))
      (λ used m us p f e. repeat_law starts_member Step (λ _. never) members_on (FitEach (LowMember n)) (repeated n) (λ ms. reading.one_member r n >>= λ y. pure (ms ++ y ∷ []))
      (λ ms low vs h. made_limited (MemberAfter ms) never (λ y. ms ++ y ∷ []) (LowMember n) (FitEach (LowMember n))
      (record { grows = λ y k. fit_push n ms y low k; shrinks = λ y k. (fit_split n ms y k).1 }) vs (reading.one_member r n vs) (member_law n three ms vs (field_room ms vs h)))
      (length us) (m ∷ []) us (omega arith) (f, tt)))

  closed_law : (n : ℕ) → 4 ≤ n → (cont : Token → Bool) (t : Token) (name : Name) (ts : List Token)
      → Law (IndentOf t name) (Limited (IndentOf t name) (LowClass n)) cont ts (and_then (expect is_indent ts) (λ _. reading.members r (n - 1) >>= λ ms. expect is_dedent >> pure (class_of_members t name ms)))
  closed_law n four cont t name ts =
      open_limited is_indent (λ _. Closes MembersWithin is_dedent (class_of_members t name)) (LowClass n) cont
      (λ u h. (members_text, least_tree t name, (least_closed t name, least_low n (omega arith) t name)))
      ts (λ _. reading.members r (n - 1) >>= λ ms. expect is_dedent >> pure (class_of_members t name ms))
      (λ u us h e. close_limited is_dedent dedent_token refl MembersWithin members_on cont (λ v i. ap not i) (class_of_members t name) (FitEach (LowMember (n - 1))) (LowClass n)
      (record { grows = λ ms f. class_low n (omega arith) (class_of_members t name ms) f; shrinks = λ ms f. low_class n (class_of_members t name ms) f })
      us (reading.members r (n - 1) us) (members_law (n - 1) (omega arith) us))

  pub class_law : (n : ℕ) → 4 ≤ n → (cont : Token → Bool) (ts : List Token) → Law IsClass (Limited IsClass (LowClass n)) cont ts (reading.class r n ts)
  unfolding reading.class
  class_law n four cont ts =
      same_law ClassOf IsClass (LowClass n) cont class_read read_class ts _
      (open_limited is_class (λ t. Then (Picks name_at) (LineOf t)) (LowClass n) cont
      (λ t h. (
        x_token ∷ line_text,
        least_tree t x_name,
        (record { first = x_token ∷ []; second = line_text; value = x_name; joined = refl; heads = (x_token, refl, refl); tails = least_line t x_name }, least_low n (omega arith) t x_name),
      ))
      ts (λ t. take_by name_at >>= λ name. expect is_colon >>= λ _. expect is_newline >>= λ _. expect is_indent >>= λ _. reading.members r (n - 1) >>= λ ms. expect is_dedent >> pure (class_of_members t name ms))
      (λ t us h e. join_law (Picks name_at) never (LineOf t) cont Free_of_limit (LowClass n)
      (record {
        apart = λ a name p c w s k free. free_never (c ++ s);
        ends = λ a name p. (line_text, least_tree t name, least_line t name);
        ends_within = λ a name p f. (line_text, least_tree t name, (least_line t name, least_low n (omega arith) t name));
        shrinks = λ a name p c w k f. tt;
      }) us (take_by name_at us) (take_limited name_at Free_of_limit (λ o. tt) never us)
      (λ name. expect is_colon >>= λ _. expect is_newline >>= λ _. expect is_indent >>= λ _. reading.members r (n - 1) >>= λ ms. expect is_dedent >> pure (class_of_members t name ms))
      (λ used name vs p f i. open_limited is_colon (λ _. Opens is_newline (λ _. IndentOf t name)) (LowClass n) cont
      (λ u j. (newline_token ∷ indent_token ∷ members_text, least_tree t name, (least_newline t name, least_low n (omega arith) t name)))
      vs (λ _. expect is_newline >>= λ _. expect is_indent >>= λ _. reading.members r (n - 1) >>= λ ms. expect is_dedent >> pure (class_of_members t name ms))
      (λ u ws j k. open_limited is_newline (λ _. IndentOf t name) (LowClass n) cont
      (λ v l. (indent_token ∷ members_text, least_tree t name, (least_indent t name, least_low n (omega arith) t name)))
      ws (λ _. expect is_indent >>= λ _. reading.members r (n - 1) >>= λ ms. expect is_dedent >> pure (class_of_members t name ms))
      (λ v xs l m. closed_law n four cont t name xs)))))
