-- A source from its bare tree and the numbers of its nodes in preorder: no other source has both.
use Rattle.std.proofs.Common.{◌≡◌, ℕ, zero, suc, ◌≤◌, nat_le, Bool, true, false, List, [], ◌∷◌, ◌++◌, map, length, Option, Some, None, refl, sym, ◌∙◌, ap, arith}
use Rattle.std.specs.Option.{option_map}
use Rattle.std.proofs.lemmas.List.{append-nil}
use Rattle.std.proofs.lemmas.Bool.{leb-true, leb-false}
use Rattle.source_trees.specs.declared.expression.Expr.{Expr}
use Rattle.source_trees.specs.declared.item.Annotation.{Annotation}
use Rattle.source_trees.specs.declared.item.Class.{Class}
use Rattle.source_trees.specs.declared.item.Function.{Function}
use Rattle.source_trees.specs.declared.item.Item.{Item}
use Rattle.source_trees.specs.declared.item.Item.TheVariants as item
use Rattle.source_trees.specs.declared.item.Member.{Member}
use Rattle.source_trees.specs.declared.item.Member.TheVariants as member
use Rattle.source_trees.specs.declared.item.Module.{Module}
use Rattle.source_trees.specs.declared.item.Param.{Param}
use Rattle.source_trees.specs.declared.node.Name.{Name}
use Rattle.source_trees.specs.declared.node.Node.{Node}
use Rattle.source_trees.specs.declared.statement.Stmt.{Stmt}
use Rattle.source_trees.specs.Bare.{bare_name, bare_expr, bare_optional, bare_annotation, bare_stmt, bare_param, bare_function, bare_member, bare_class, bare_item, bare_module}
use Rattle.source_trees.specs.Nodes.{before_parts, nodes_of_annotation, nodes_of_stmt, nodes_of_param, nodes_of_function, nodes_of_member, nodes_of_class, nodes_of_item, nodes_of, numbers_from, IsNumbered}
use Rattle.source_trees.specs.Parts.{of_name, of_optional_annotation, of_optional_expr, of_module}
use Rattle.bare_trees.proofs.Restore.{State, headed, ret, seq, all, opt, ids, Good, Parts, ret_parts, seq_parts, good_headed, all_parts, each_by, restore_name, restore_expr}
use Rattle.bare_trees.proofs.RestoreStatements.{made, good_made, name_one, option_parts, restore_type, type_one, restore_stmt, good_stmt, stmts_parts}

-- ---- functions

mark_parts : (o : Option Annotation) → Parts o (opt (option_map restore_type (bare_optional bare_annotation o))) (of_optional_annotation before_parts o)
mark_parts None = ret_parts None
mark_parts (Some x) = seq_parts Some (ret Some) [] x (restore_type (bare_annotation x)) (nodes_of_annotation x ∷ []) (ret_parts Some) (type_one x)

abbrev param_with : Node → List ℕ → Option Annotation → Option Expr → Param
param_with n s a d = record { node = n; name = s; annotation = a; default = d }

abbrev restore_param : Param → State Param
restore_param p = headed p.node (λ n. seq (seq (ret (param_with n p.name)) (opt (option_map restore_type p.annotation))) (opt (option_map restore_expr p.default)))

good_param : (p : Param) → Good p (restore_param (bare_param p)) (nodes_of_param p)
good_param p =
    let A = opt (option_map restore_type (bare_optional bare_annotation p.annotation)) in
    let D = opt (option_map restore_expr (bare_optional bare_expr p.default)) in
    let As = of_optional_annotation before_parts p.annotation in
    let Ds = of_optional_expr before_parts p.default in
    good_headed p.node p (λ n. seq (seq (ret (param_with n p.name)) A) D) (As ++ Ds)
    (seq_parts (param_with p.node p.name p.annotation) (seq (ret (param_with p.node p.name)) A) As p.default D Ds
    (seq_parts (param_with p.node p.name) (ret (param_with p.node p.name)) [] p.annotation A As (ret_parts (param_with p.node p.name)) (mark_parts p.annotation))
    (option_parts p.default))

abbrev function_with : Node → Name → List Param → Option Annotation → List Stmt → Function
function_with n name ps result body = record { node = n; name = name; params = ps; result = result; body = body }

abbrev restore_function : Function → State Function
restore_function f =
    headed f.node (λ n. seq (seq (seq (seq (ret (function_with n)) (restore_name f.name)) (all (map restore_param f.params))) (opt (option_map restore_type f.result))) (all (map restore_stmt f.body)))

good_function : (f : Function) → Good f (restore_function (bare_function f)) (nodes_of_function f)
good_function f =
    let N = restore_name (bare_name f.name) in
    let P = all (map restore_param (map bare_param f.params)) in
    let R = opt (option_map restore_type (bare_optional bare_annotation f.result)) in
    let B = all (map restore_stmt (map bare_stmt f.body)) in
    let Ns = of_name before_parts f.name ∷ [] in
    let Ps = map nodes_of_param f.params in
    let Rs = of_optional_annotation before_parts f.result in
    let Bs = map nodes_of_stmt f.body in
    let g = function_with f.node in
    good_headed f.node f (λ n. seq (seq (seq (seq (ret (function_with n)) N) P) R) B) (((Ns ++ Ps) ++ Rs) ++ Bs)
    (seq_parts (g f.name f.params f.result) (seq (seq (seq (ret g) N) P) R) ((Ns ++ Ps) ++ Rs) f.body B Bs
    (seq_parts (g f.name f.params) (seq (seq (ret g) N) P) (Ns ++ Ps) f.result R Rs
    (seq_parts (g f.name) (seq (ret g) N) Ns f.params P Ps
    (seq_parts g (ret g) [] f.name N Ns (ret_parts g) (name_one f.name))
    (all_parts restore_param bare_param nodes_of_param f.params (each_by _ good_param f.params)))
    (mark_parts f.result))
    (stmts_parts f.body))

-- ---- classes

abbrev field_with : Node → Name → Annotation → Member
field_with n name type = member.Field n name type

abbrev restore_member : Member → State Member
restore_member (member.Field n name type) = headed n (λ n. seq (seq (ret (field_with n)) (restore_name name)) (restore_type type))
restore_member (member.Text n value) = headed n (λ n. ret (member.Text n value))
restore_member (member.Pass n) = headed n (λ n. ret (member.Pass n))
restore_member (member.Method f) = made member.Method (restore_function f)

good_member : (m : Member) → Good m (restore_member (bare_member m)) (nodes_of_member m)
good_member (member.Field n name type) =
    let N = restore_name (bare_name name) in
    let T = restore_type (bare_annotation type) in
    good_headed n (member.Field n name type) (λ n. seq (seq (ret (field_with n)) N) T) (of_name before_parts name ∷ nodes_of_annotation type ∷ [])
    (seq_parts (field_with n name) (seq (ret (field_with n)) N) (of_name before_parts name ∷ []) type T (nodes_of_annotation type ∷ [])
    (seq_parts (field_with n) (ret (field_with n)) [] name N (of_name before_parts name ∷ []) (ret_parts (field_with n)) (name_one name))
    (type_one type))
good_member (member.Text n value) = good_headed n (member.Text n value) (λ n. ret (member.Text n value)) [] (ret_parts (member.Text n value))
good_member (member.Pass n) = good_headed n (member.Pass n) (λ n. ret (member.Pass n)) [] (ret_parts (member.Pass n))
good_member (member.Method f) = good_made member.Method f (restore_function (bare_function f)) (nodes_of_function f) (good_function f)

abbrev class_with : Node → Name → List Member → Class
class_with n name ms = record { node = n; name = name; members = ms }

abbrev restore_class : Class → State Class
restore_class c = headed c.node (λ n. seq (seq (ret (class_with n)) (restore_name c.name)) (all (map restore_member c.members)))

good_class : (c : Class) → Good c (restore_class (bare_class c)) (nodes_of_class c)
good_class c =
    let N = restore_name (bare_name c.name) in
    let M = all (map restore_member (map bare_member c.members)) in
    let Ns = of_name before_parts c.name ∷ [] in
    let Ms = map nodes_of_member c.members in
    let g = class_with c.node in
    good_headed c.node c (λ n. seq (seq (ret (class_with n)) N) M) (Ns ++ Ms)
    (seq_parts (g c.name) (seq (ret g) N) Ns c.members M Ms
    (seq_parts g (ret g) [] c.name N Ns (ret_parts g) (name_one c.name))
    (all_parts restore_member bare_member nodes_of_member c.members (each_by _ good_member c.members)))

-- ---- sources

abbrev restore_item : Item → State Item
restore_item (item.Stmt s) = made item.Stmt (restore_stmt s)
restore_item (item.Function f) = made item.Function (restore_function f)
restore_item (item.Class c) = made item.Class (restore_class c)

good_item : (i : Item) → Good i (restore_item (bare_item i)) (nodes_of_item i)
good_item (item.Stmt s) = good_made item.Stmt s (restore_stmt (bare_stmt s)) (nodes_of_stmt s) (good_stmt s)
good_item (item.Function f) = good_made item.Function f (restore_function (bare_function f)) (nodes_of_function f) (good_function f)
good_item (item.Class c) = good_made item.Class c (restore_class (bare_class c)) (nodes_of_class c) (good_class c)

abbrev source_with : List Item → Module
source_with all_items = record { items = all_items }

abbrev restore_module : Module → State Module
restore_module m = seq (ret source_with) (all (map restore_item m.items))

good_module : (m : Module) → Parts m (restore_module (bare_module m)) (of_module before_parts m)
good_module m =
    seq_parts source_with (ret source_with) [] m.items (all (map restore_item (map bare_item m.items))) (map nodes_of_item m.items) (ret_parts source_with)
    (all_parts restore_item bare_item nodes_of_item m.items (each_by _ good_item m.items))

-- ---- one tree

restored : (m w : Module) → bare_module m ≡ bare_module w → (more : List ℕ) → ids (nodes_of w) ≡ ids (nodes_of m) ++ more → m ≡ w
restored m w e more d =
    let left : restore_module (bare_module m) (ids (nodes_of m) ++ more) ≡ (m, more) = good_module m more in
    let right : restore_module (bare_module w) (ids (nodes_of w) ++ []) ≡ (w, []) = good_module w [] in
    let lists : ids (nodes_of m) ++ more ≡ ids (nodes_of w) ++ [] = sym d ∙ sym (append-nil (ids (nodes_of w))) in
    let whole : (m, more) ≡ (w, []) = sym left ∙ ap (λ z. restore_module z (ids (nodes_of m) ++ more)) e ∙ ap (restore_module (bare_module w)) lists ∙ right in
    ap (λ z. z.0) whole

front : (k a n : ℕ) → a ≤ n → (rest : List ℕ) × (numbers_from k n ≡ numbers_from k a ++ rest)
front k zero n h = (numbers_from k n, refl)
front k (suc a) zero h = absurd (omega arith)
front k (suc a) (suc n) h = let r = front (suc k) a n (omega arith) in (r.0, ap (λ z. k ∷ z) r.1)

pub one_numbered : (m w : Module) → bare_module m ≡ bare_module w → IsNumbered m → IsNumbered w → m ≡ w
one_numbered m w e p q =
    let a = length (nodes_of m) in
    let b = length (nodes_of w) in
    let go : (x : Bool) → nat_le a b ≡ x → m ≡ w = elim [
      | true ↦ λ h. let f = front 0 a b (leb-true a b h) in restored m w e f.0 (q ∙ f.1 ∙ ap (λ z. z ++ f.0) (sym p))
      | false ↦ λ h. let less = leb-false a b h in let f = front 0 b a (omega arith) in sym (restored w m (sym e) f.0 (p ∙ f.1 ∙ ap (λ z. z ++ f.0) (sym q)))
    ] in
    go (nat_le a b) refl
