-- What a text in quotes is read as, part by part. Bytes of a part that are still to come are passed, and what
-- stands before a place is put before what follows it.
use Rattle.std.proofs.Common.{◌≡◌, ℕ, zero, suc, ◌+◌, ◌-◌, ◌<◌, ◌≤◌, List, [], ◌∷◌, ◌++◌, Bool, drop, length, refl, sym, ◌∙◌, ap, arith, append_assoc}
use Rattle.indent_lexer.specs.declared.text.Part.TheVariants.{Holds, Joins}
use Rattle.indent_lexer.specs.declared.text.Literal.{Literal}
use Rattle.indent_lexer.specs.declared.text.Literal.TheVariants as literal
use Rattle.indent_lexer.specs.Literal.{part, prefixed, inside, from_part}

pub prefixed_none : (x : Literal) → prefixed [] 0 x ≡ x
prefixed_none (literal.Closed v n) = let e : 0 + n ≡ n = omega arith in ap (literal.Closed v) e
prefixed_none literal.Open = refl
prefixed_none (literal.Fault k n) = let e : 0 + n ≡ n = omega arith in ap (literal.Fault k) e

pub prefixed_twice : (a b : List ℕ) (m n : ℕ) (x : Literal) → prefixed a m (prefixed b n x) ≡ prefixed (a ++ b) (m + n) x
prefixed_twice a b m n (literal.Closed v k) = let e = append_assoc a b v in let f : m + (n + k) ≡ (m + n) + k = omega arith in cc
prefixed_twice a b m n literal.Open = refl
prefixed_twice a b m n (literal.Fault kind k) = let f : m + (n + k) ≡ (m + n) + k = omega arith in ap (literal.Fault kind) f

pub inside_drop : (q : ℕ) (l : Bool) (n : ℕ) (text : List ℕ) → n ≤ length text → inside q l n text ≡ prefixed [] n (inside q l 0 (drop n text))
inside_drop q l zero text h = sym (prefixed_none (inside q l 0 text))
inside_drop q l (suc n) [] h = absurd (omega arith)
inside_drop q l (suc n) (c ∷ cs) h =
    let i = inside_drop q l n cs (omega arith) in
    let f : 1 + n ≡ suc n = omega arith in
    ap (prefixed [] 1) i ∙ prefixed_twice [] [] 1 n (inside q l 0 (drop n cs)) ∙ ap (λ k. prefixed [] k (inside q l 0 (drop n cs))) f

-- a part and what follows it, where the part stands for some bytes
with_part : (q : ℕ) (l : Bool) (value : List ℕ) (k : ℕ) (cs : List ℕ) → k ≤ length cs → prefixed value 1 (inside q l (suc k - 1) cs) ≡ prefixed (value ++ []) (suc k) (inside q l 0 (drop k cs))
with_part q l value k cs h =
    let e : suc k - 1 ≡ k = omega arith in
    let f : 1 + k ≡ suc k = omega arith in
    ap (λ n. prefixed value 1 (inside q l n cs)) e ∙ ap (prefixed value 1) (inside_drop q l k cs h)
    ∙ prefixed_twice value [] 1 k (inside q l 0 (drop k cs)) ∙ ap (λ n. prefixed (value ++ []) n (inside q l 0 (drop k cs))) f

inside_holds : (q : ℕ) (l : Bool) (text : List ℕ) (c n : ℕ) → part q l text ≡ Holds c n → 0 < n → n ≤ length text → inside q l 0 text ≡ prefixed (c ∷ []) n (inside q l 0 (drop n text))
inside_holds q l [] c n e z h = absurd (omega arith)
inside_holds q l (b ∷ bs) c zero e z h = absurd (omega arith)
inside_holds q l (b ∷ bs) c (suc k) e z h = ap (λ p. from_part p (λ n. inside q l n bs)) e ∙ with_part q l (c ∷ []) k bs (omega arith)

inside_joins : (q : ℕ) (l : Bool) (text : List ℕ) (n : ℕ) → part q l text ≡ Joins n → 0 < n → n ≤ length text → inside q l 0 text ≡ prefixed [] n (inside q l 0 (drop n text))
inside_joins q l [] n e z h = absurd (omega arith)
inside_joins q l (b ∷ bs) zero e z h = absurd (omega arith)
inside_joins q l (b ∷ bs) (suc k) e z h = ap (λ p. from_part p (λ n. inside q l n bs)) e ∙ with_part q l [] k bs (omega arith)

append_none : (a : List ℕ) → a ++ [] ≡ a
append_none [] = refl
append_none (c ∷ a) = ap (λ z. c ∷ z) (append_none a)

-- one turn: what was read before the part, and then the part
pub read_holds : (q : ℕ) (l : Bool) (whole : Literal) (value more : List ℕ) (len : ℕ) (text rest : List ℕ) (c n : ℕ) → whole ≡ prefixed value len (inside q l 0 text) → part q l text ≡ Holds c n → 0 < n → n ≤ length text → rest ≡ drop n text → more ≡ value ++ c ∷ [] → whole ≡ prefixed more (len + n) (inside q l 0 rest)
read_holds q l whole value more len text rest c n w e z h r m =
    w ∙ ap (prefixed value len) (inside_holds q l text c n e z h) ∙ prefixed_twice value (c ∷ []) len n (inside q l 0 (drop n text))
    ∙ ap (λ t. prefixed (value ++ c ∷ []) (len + n) (inside q l 0 t)) (sym r) ∙ ap (λ v. prefixed v (len + n) (inside q l 0 rest)) (sym m)

pub read_joins : (q : ℕ) (l : Bool) (whole : Literal) (value : List ℕ) (len : ℕ) (text rest : List ℕ) (n : ℕ) → whole ≡ prefixed value len (inside q l 0 text) → part q l text ≡ Joins n → 0 < n → n ≤ length text → rest ≡ drop n text → whole ≡ prefixed value (len + n) (inside q l 0 rest)
read_joins q l whole value len text rest n w e z h r =
    w ∙ ap (prefixed value len) (inside_joins q l text n e z h) ∙ prefixed_twice value [] len n (inside q l 0 (drop n text))
    ∙ ap (λ t. prefixed (value ++ []) (len + n) (inside q l 0 t)) (sym r) ∙ ap (λ v. prefixed v (len + n) (inside q l 0 rest)) (append_none value)
