-- Names that are taken out of a list by a test of their spelling.
use Rattle.std.proofs.Common.{◌≡◌, ℕ, ◌+◌, ◌<◌, ◌≤◌, Bool, true, false, not, ◌||◌, if◌then◌else◌, cond, map, List, [], ◌∷◌, ◌++◌, length, get_or, drop, refl, sym, ap, ◌∙◌, append_assoc, append-nil}
use Rattle.std.specs.List.{filter}
use Rattle.std.specs.Cmp.Lexicographic.{bytes_decides}
use Rattle.codon_base.specs.declared.value.Value.{Value}
use Rattle.codon_base.specs.declared.value.Value.TheVariants.{Unset}
use Rattle.meaning_rules.specs.State.{Spelling, Names, same, is_among, assigned_to, with_names_of}
use Rattle.plain_interpreter.specs.Frames.{put_back}
use Rattle.plain_interpreter.specs.Seen.{held_in}
use Rattle.plain_interpreter.specs.declared.state.Entry.{Entry}
use Rattle.plain_interpreter.proofs.Rest.{drop_next, drop_end}

-- ---- a loop that parts a list

module _ {X : Type 0} (p : X → Bool) where
  pub part_taken : (done all : List X) (i : ℕ) (x : X) → filter p all ≡ done ++ filter p (drop i all) → i < length all → x ≡ get_or all i x → p x ≡ true → filter p all ≡ done ++ x ∷ [] ++ filter p (drop (i + 1) all)
  part_taken done all i x h less e t =
      h ∙ ap (λ l. done ++ filter p l) (drop_next all i x less e) ∙ ap (λ (b : Bool). done ++ cond b (x ∷ filter p (drop (i + 1) all)) (filter p (drop (i + 1) all))) t ∙ sym (append_assoc done (x ∷ []) (filter p (drop (i + 1) all)))

  pub part_passed : (done all : List X) (i : ℕ) (x : X) → filter p all ≡ done ++ filter p (drop i all) → i < length all → x ≡ get_or all i x → p x ≡ false → filter p all ≡ done ++ filter p (drop (i + 1) all)
  part_passed done all i x h less e t =
      h ∙ ap (λ l. done ++ filter p l) (drop_next all i x less e) ∙ ap (λ (b : Bool). done ++ cond b (x ∷ filter p (drop (i + 1) all)) (filter p (drop (i + 1) all))) t

  pub part_end : (done all : List X) (i : ℕ) → filter p all ≡ done ++ filter p (drop i all) → length all ≤ i → done ≡ filter p all
  part_end done all i h more = sym (h ∙ ap (λ l. done ++ filter p l) (drop_end all i more) ∙ append-nil done)

-- ---- what names hold then

held_cond : (b : Bool) (e : Entry) (fs : List Entry) (name : Spelling) → held_in (cond b (e ∷ fs) fs) name ≡ (if b then (if same e.name name then e.value else held_in fs name) else held_in fs name)
held_cond true e fs name = refl
held_cond false e fs name = refl

either_same : (b : Bool) (x : Value) → x ≡ (if b then x else x)
either_same true x = refl
either_same false x = refl

either_or : (b : Bool) (g h : Value) → (b ≡ false → g ≡ h) → g ≡ (if b then g else h)
either_or true g h e = refl
either_or false g h e = e refl

either_turned : (b : Bool) (x y : Value) → (if not b then x else y) ≡ (if b then y else x)
either_turned true x y = refl
either_turned false x y = refl

pick_kept : (b c t : Bool) (x h f u : Value) → (t ≡ true → b ≡ c) → f ≡ (if c then h else u) → (if b then (if t then x else f) else f) ≡ (if c then (if t then x else h) else u)
pick_kept true true true x h f u e i = refl
pick_kept true false true x h f u e i = let wrong : true ≡ false = e refl in cc
pick_kept false true true x h f u e i = let wrong : false ≡ true = e refl in cc
pick_kept false false true x h f u e i = i
pick_kept true true false x h f u e i = i
pick_kept true false false x h f u e i = i
pick_kept false true false x h f u e i = i
pick_kept false false false x h f u e i = i

pick_joined : (b c t : Bool) (x h f g : Value) → (t ≡ true → b ≡ c) → f ≡ (if c then g else h) → (if b then f else (if t then x else f)) ≡ (if c then g else (if t then x else h))
pick_joined true true true x h f g e i = i
pick_joined true false true x h f g e i = let wrong : true ≡ false = e refl in cc
pick_joined false true true x h f g e i = let wrong : false ≡ true = e refl in cc
pick_joined false false true x h f g e i = refl
pick_joined true true false x h f g e i = i
pick_joined true false false x h f g e i = i
pick_joined false true false x h f g e i = i
pick_joined false false false x h f g e i = i

held_or_next : (b : Bool) (e : Entry) (fs gs : List Entry) (name : Spelling) → held_in (cond (not b) (e ∷ fs) fs ++ gs) name ≡ (if b then held_in (fs ++ gs) name else (if same e.name name then e.value else held_in (fs ++ gs) name))
held_or_next true e fs gs name = refl
held_or_next false e fs gs name = refl

module _ (q : Spelling → Bool) where
  alike : (e : Entry) (name : Spelling) → same e.name name ≡ true → q e.name ≡ q name
  alike e name h = ap q ((bytes_decides e.name name).0 h)

  pub kept_held : (es : List Entry) (name : Spelling) → held_in (filter (λ e. q e.name) es) name ≡ (if q name then held_in es name else Unset)
  kept_held [] name = either_same (q name) Unset
  kept_held (e ∷ es) name =
      held_cond (q e.name) e (filter (λ d. q d.name) es) name
      ∙ pick_kept (q e.name) (q name) (same e.name name) e.value (held_in es name) (held_in (filter (λ d. q d.name) es) name) Unset (alike e name) (kept_held es name)

  joined_after : (es gs : List Entry) (name : Spelling) → (q name ≡ false → held_in gs name ≡ Unset) → held_in (filter (λ e. not (q e.name)) es ++ gs) name ≡ (if q name then held_in gs name else held_in es name)
  joined_after [] gs name h = either_or (q name) (held_in gs name) Unset h
  joined_after (e ∷ es) gs name h =
      held_or_next (q e.name) e (filter (λ d. not (q d.name)) es) gs name
      ∙ pick_joined (q e.name) (q name) (same e.name name) e.value (held_in es name) (held_in (filter (λ d. not (q d.name)) es ++ gs) name) (held_in gs name) (alike e name) (joined_after es gs name h)

  none_kept : (fs : List Entry) (name : Spelling) → q name ≡ false → held_in (filter (λ e. q e.name) fs) name ≡ Unset
  none_kept fs name h = kept_held fs name ∙ ap (λ (b : Bool). if b then held_in fs name else Unset) h

  inner_either : (b : Bool) (x u y : Value) → (if b then (if b then x else u) else y) ≡ (if b then x else y)
  inner_either true x u y = refl
  inner_either false x u y = refl

  pub joined_held : (es fs : List Entry) (name : Spelling) → held_in (filter (λ e. not (q e.name)) es ++ filter (λ e. q e.name) fs) name ≡ (if q name then held_in fs name else held_in es name)
  joined_held es fs name =
      joined_after es (filter (λ e. q e.name) fs) name (none_kept fs name)
      ∙ ap (λ (v : Value). if q name then v else held_in es name) (kept_held fs name) ∙ inner_either (q name) (held_in fs name) Unset (held_in es name)

pub others_held : (q : Spelling → Bool) (es : List Entry) (name : Spelling) → held_in (filter (λ e. not (q e.name)) es) name ≡ (if q name then Unset else held_in es name)
others_held q es name = kept_held (λ n. not (q n)) es name ∙ either_turned (q name) (held_in es name) Unset

-- ---- names that get back what they held

pick_given : (b c d : Bool) (x y z : Value) → (c ≡ true → x ≡ y) → (c ≡ true → d ≡ true) → (d ≡ true → c ≡ true) → (if b then y else (if c then x else z)) ≡ (if d || b then y else z)
pick_given true true true x y z e f g = refl
pick_given false true true x y z e f g = e refl
pick_given b true false x y z e f g = let wrong : false ≡ true = f refl in cc
pick_given b false true x y z e f g = let wrong : false ≡ true = g refl in cc
pick_given true false false x y z e f g = refl
pick_given false false false x y z e f g = refl

given_back : (own after : Names) (names : List Spelling) (name : Spelling) → put_back names (map own names) after name ≡ with_names_of own names after name
given_back own after [] name = refl
given_back own after (n ∷ names) name =
    given_back own (assigned_to n (own n) after) names name
    ∙ pick_given (is_among name names) (same n name) (same name n) (own n) (own name) (after name) (λ h. ap own ((bytes_decides n name).0 h)) (λ h. (bytes_decides name n).1 (sym ((bytes_decides n name).0 h))) (λ h. (bytes_decides n name).1 (sym ((bytes_decides name n).0 h)))

pub as_before : (own : Names) (names : List Spelling) (after : Names) → put_back names (map own names) after ≡ with_names_of own names after
as_before own names after = λ i name. given_back own after names name i
