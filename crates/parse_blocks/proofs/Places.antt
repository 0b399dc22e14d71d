-- A list of tokens has a tree or the place of its first bad token, never both, and one of them at most.
use Rattle.std.proofs.Common.{◌≡◌, ℕ, ◌+◌, ◌-◌, true, List, [], ◌∷◌, ◌++◌, length, take, drop, slice_get, refl, sym, ◌∙◌, ap, subst, ◌⊎◌, inl, inr, Some, arith}
use Rattle.std.proofs.lemmas.List.{append-nil, length-append, take-append-drop}
use Rattle.indent_lexer.specs.declared.token.Token.{Token}
use Rattle.indent_lexer.specs.declared.token.TokenKind.TheVariants as kind
use Rattle.source_trees.specs.declared.item.Module.{Module}
use Rattle.parse_laws.specs.declared.cause.Cause.{Cause}
use Rattle.parse_laws.specs.declared.cause.Cause.TheVariants.{Unexpected, TooDeep}
use Rattle.parse_laws.specs.Parser.{Outcome, Parsed, Stopped, and_then, ended}
use Rattle.parse_laws.specs.Language.{Language, Viable, ViableIfAny, Law}
use Rattle.parse_laws.specs.Forms.{any}
use Rattle.parse_laws.specs.Place.{IsFirstBad}
use Rattle.parse_laws.proofs.Whole.{only_value, no_refusal, first_bad}
use Rattle.grammar_rules.specs.declared.refusal.ParseRefusal.{ParseRefusal}
use Rattle.grammar_rules.specs.Modules.{Derives, module_of, no_more, most_height}
use Rattle.grammar_rules.specs.Refusals.{IsParsePlace, kind_of}
use Rattle.grammar_rules.specs.Words.{is_end}
use Rattle.parse_expressions.proofs.Opens.{sample}
use Rattle.parse_statements.specs.Readers.{Readers, Exact}
use Rattle.parse_blocks.specs.Answers.{HoldsEnd, DerivesLow, HasTree, HasPlace}
use Rattle.parse_blocks.specs.Sources as reading
use Rattle.parse_blocks.proofs.NoEnd.{NoEnd, tops_no}
use Rattle.parse_blocks.proofs.Sources.{source_law}

-- ---- the end of a text stands last

nothing_more : (b more : List Token) → b ++ more ≡ [] → more ≡ []
nothing_more [] more k = k
nothing_more (x ∷ b) more k = absurd (cc)

last_end : (a : List Token) (t : Token) (b more : List Token) (c : List Token) (e : Token) → is_end t ≡ true → NoEnd c → (a ++ t ∷ b) ++ more ≡ c ++ e ∷ [] → more ≡ []
last_end [] t b more [] e h n k = nothing_more b more (let i : b ++ more ≡ [] = cc in i)
last_end [] t b more (x ∷ c) e h n k = let same : t ≡ x = cc in let i : is_end x ≡ true = ap is_end (sym same) ∙ h in let j = n.0 in absurd (cc)
last_end (y ∷ []) t b more [] e h n k = absurd (cc)
last_end (y ∷ z ∷ a) t b more [] e h n k = absurd (cc)
last_end (y ∷ a) t b more (x ∷ c) e h n k = last_end a t b more c e h n.1 (let i : (a ++ t ∷ b) ++ more ≡ c ++ e ∷ [] = cc in i)

derived : (a : List Token) (m : Module) → Derives a m → (c : List Token) × (e : Token) × (a ≡ c ++ e ∷ []) × NoEnd c
derived _ _ (module_of c all e p h) = (c, e, refl, tops_no c all p)

-- nothing follows the end of a text
whole_text : (ts more : List Token) (m : Module) → HoldsEnd ts → Derives (ts ++ more) m → more ≡ []
whole_text ts more m held p =
    let d = derived (ts ++ more) m p in
    last_end held.0 held.2 held.1 more d.0 d.1 held.4 d.3 (ap (λ z. z ++ more) (sym held.3) ∙ d.2)

part : (a : List Token) (m : Module) → DerivesLow a m → Derives a m
part a m k = k.0

-- ---- what the parser answers

ended_rest : (v : Module) (us : List Token) (w : Module) (r : List Token) → ended v us ≡ Parsed w r → r ≡ []
ended_rest v [] w r h = cc
ended_rest v (u ∷ us) w r h = absurd (cc)

after_rest : (o : Outcome Token Module) (w : Module) (r : List Token) → and_then o ended ≡ Parsed w r → r ≡ []
after_rest (Parsed v us) w r h = ended_rest v us w r h
after_rest (Stopped k us) w r h = absurd (cc)

source_rest : (r : Readers) (ts : List Token) (w : Module) (us : List Token) → reading.source r ts ≡ Parsed w us → us ≡ []
unfolding reading.source
source_rest r ts w us h = after_rest (reading.source_at r most_height ts) w us h

nonempty : Viable DerivesLow []
nonempty = (sample kind.End ∷ [], record { items = [] }, (module_of [] [] (sample kind.End) no_more refl, omega arith))

slice_here : (a : List Token) (t : Token) (r : List Token) → slice_get (a ++ t ∷ r) (length a) ≡ Some t
slice_here [] t r = refl
slice_here (x ∷ a) t r = slice_here a t r

not_empty : (a : List Token) (t : Token) (b : List Token) → a ++ t ∷ b ≡ [] → ⊥
not_empty [] t b h = cc
not_empty (x ∷ a) t b h = cc

pub refused_rest : (ts : List Token) → HoldsEnd ts → (k : Cause) → Law Derives DerivesLow any ts (Stopped k []) → ⊥
refused_rest ts held k l =
    let same : ts ≡ l.used = l.whole ∙ append-nil l.used in
    let go : (us : List Token) → ts ≡ us → Viable DerivesLow us → ⊥ = λ us e v.
    let P : List Token → Type 0 = λ z. DerivesLow (z ++ v.0) v.1 in
    let p = subst P (sym e) v.2 in
    let none = whole_text ts v.0 v.1 held p.0 in
    let Q : List Token → Type 0 = λ z. DerivesLow (ts ++ z) v.1 in
    let R : List Token → Type 0 = λ z. DerivesLow z v.1 in
    no_refusal Derives DerivesLow part ts k [] l v.1 (subst R (append-nil ts) (subst Q none p)) in
    let some : (us : List Token) → ts ≡ us → ViableIfAny DerivesLow us → ⊥ = elim [
      | [] ↦ λ e v. not_empty held.0 held.2 held.1 (sym held.3 ∙ e)
      | u ∷ us ↦ λ e v. go (u ∷ us) e v
    ] in
    some l.used same l.viable

pub slice_left : (ts used : List Token) (t : Token) (r : List Token) → ts ≡ used ++ t ∷ r → slice_get ts (length ts - length (t ∷ r)) ≡ Some t
slice_left ts used t r w =
    let e : length ts ≡ length used + length (t ∷ r) = ap length w ∙ length-append used (t ∷ r) in
    let at : length used ≡ length ts - length (t ∷ r) = omega arith in
    ap (slice_get ts) (sym at) ∙ ap (λ z. slice_get z (length used)) w ∙ slice_here used t r

pub place_here : (ts : List Token) (k : Cause) (t : Token) (r : List Token) → Law Derives DerivesLow any ts (Stopped k (t ∷ r))
    → IsParsePlace ts (record { kind = kind_of k t; token = length ts - length (t ∷ r); at = t.span })
place_here ts k t r l =
    let n = length ts - length (t ∷ r) in
    let e : length ts ≡ length l.used + length (t ∷ r) = ap length l.whole ∙ length-append l.used (t ∷ r) in
    let at : length l.used ≡ n = omega arith in
    let f = first_bad Derives DerivesLow nonempty ts k (t ∷ r) (omega arith) l in
    (k, t, slice_left ts l.used t r l.whole, refl, refl, f)

refused_place : (ts : List Token) (k : Cause) (t : Token) (r : List Token) → Law Derives DerivesLow any ts (Stopped k (t ∷ r)) → HasPlace ts
refused_place ts k t r l = (record { kind = kind_of k t; token = length ts - length (t ∷ r); at = t.span }, place_here ts k t r l)

stopped_place : (ts : List Token) → HoldsEnd ts → (k : Cause) (us : List Token) → Law Derives DerivesLow any ts (Stopped k us) → HasTree ts ⊎ HasPlace ts
stopped_place ts held k [] l = absurd (refused_rest ts held k l)
stopped_place ts held k (u ∷ us) l = inr (refused_place ts k u us l)

parsed_tree : (r : Readers) (ts : List Token) (m : Module) (us : List Token) → reading.source r ts ≡ Parsed m us → Law Derives DerivesLow any ts (Parsed m us) → HasTree ts ⊎ HasPlace ts
parsed_tree r ts m us e l =
    let none : us ≡ [] = source_rest r ts m us e in
    let P : List Token → Type 0 = λ z. Law Derives DerivesLow any ts (Parsed m z) in
    inl (m, (only_value Derives DerivesLow ts m (subst P none l)).0)

pub tree_here : (r : Readers) → Exact r → (ts : List Token) (m : Module) (us : List Token) → reading.source r ts ≡ Parsed m us → DerivesLow ts m
tree_here r exact ts m us e =
    let P : Outcome Token Module → Type 0 = λ o. Law Derives DerivesLow any ts o in
    let none : us ≡ [] = source_rest r ts m us e in
    let Q : List Token → Type 0 = λ z. Law Derives DerivesLow any ts (Parsed m z) in
    (only_value Derives DerivesLow ts m (subst Q none (subst P e (source_law r exact ts)))).0

pub decided : (r : Readers) → Exact r → (ts : List Token) → HoldsEnd ts → HasTree ts ⊎ HasPlace ts
decided r exact ts held =
    let go : (o : Outcome Token Module) → reading.source r ts ≡ o → Law Derives DerivesLow any ts o → HasTree ts ⊎ HasPlace ts = elim [
      | Parsed m us ↦ λ e l. parsed_tree r ts m us e l
      | Stopped k us ↦ λ e l. stopped_place ts held k us l
    ] in
    go (reading.source r ts) refl (source_law r exact ts)

-- ---- never both, and one at most

viable_front : (L : Language Token Module) (n : ℕ) (ts : List Token) (m : Module) → L ts m → Viable L (take n ts)
viable_front L n ts m p = let P : List Token → Type 0 = λ z. L z m in (drop n ts, m, subst P (sym (take-append-drop n ts)) p)

no_first_bad : (ts : List Token) (m : Module) → DerivesLow ts m → (k : Cause) (n : ℕ) → IsFirstBad Derives DerivesLow k ts n → ⊥
no_first_bad ts m p Unexpected n f = f.1 (viable_front Derives (n + 1) ts m p.0)
no_first_bad ts m p TooDeep n f = f.1 (viable_front DerivesLow (n + 1) ts m p)

pub apart : (ts : List Token) (m : Module) (p : ParseRefusal) → DerivesLow ts m → IsParsePlace ts p → ⊥
apart ts m p d k = no_first_bad ts m d k.0 p.token k.5

pub one_tree : (r : Readers) → Exact r → (ts : List Token) (m w : Module) → DerivesLow ts m → Derives ts w → w ≡ m
one_tree r exact ts m w d p =
    let go : (o : Outcome Token Module) → reading.source r ts ≡ o → Law Derives DerivesLow any ts o → w ≡ m = elim [
      | Parsed v us ↦ λ e l.
          let none : us ≡ [] = source_rest r ts v us e in
          let P : List Token → Type 0 = λ z. Law Derives DerivesLow any ts (Parsed v z) in
          let only = only_value Derives DerivesLow ts v (subst P none l) in
          only.1 w p ∙ sym (only.1 m d.0)
      | Stopped k us ↦ λ e l. absurd (no_refusal Derives DerivesLow part ts k us l m d)
    ] in
    go (reading.source r ts) refl (source_law r exact ts)
