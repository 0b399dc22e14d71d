-- Names with values in a list, and lists of spellings.
use Rattle.std.proofs.Common.{drop, get_or, ◌≡◌, ℕ, suc, ◌+◌, ◌<◌, ◌≤◌, Bool, true, false, not, if◌then◌else◌, cond, List, [], ◌∷◌, ◌++◌, map, length, Some, None, refl, sym, ap, ◌∙◌, arith}
use Rattle.std.specs.Prelude.{◌||◌, nat_lt}
use Rattle.std.specs.List.{flat_map, list_any, position, position_or_len}
use Rattle.std.specs.Cmp.Lexicographic.{bytes_decides}
use Rattle.std.proofs.Math.ListN.{set}
use Rattle.std.proofs.lemmas.Bool.{ltb-true, ltb-false}
use Rattle.std.proofs.lemmas.List.Folds.{list_any-append}
use Rattle.codon_base.specs.declared.value.Value.{Value}
use Rattle.meaning_rules.specs.State.{Spelling, same, is_among, assigned_to}
use Rattle.plain_interpreter.specs.declared.scope.Inner.{Inner}
use Rattle.source_trees.specs.declared.statement.LoopNames.{LoopNames}
use Rattle.source_trees.specs.declared.statement.LoopNames.TheVariants as names
use Rattle.source_trees.specs.Names.{loop_names}
use Rattle.plain_interpreter.specs.Scopes.{sets, has_local, scope_of}
use Rattle.plain_interpreter.specs.declared.scope.Scope.{Scope}
use Rattle.plain_interpreter.specs.Seen.{held_in}
use Rattle.plain_interpreter.specs.declared.state.Entry.{Entry}
use Rattle.plain_interpreter.proofs.Rest.{drop_next, drop_end}

-- ---- tests over lists

either_false : (b : Bool) → (b || false) ≡ b
either_false true = refl
either_false false = refl

pub any_map : {X Y : Type 0} (p : Y → Bool) (f : X → Y) (xs : List X) → list_any p (map f xs) ≡ list_any (λ x. p (f x)) xs
any_map p f [] = refl
any_map p f (x ∷ xs) = ap (λ b. p (f x) || b) (any_map p f xs)

pub any_flat_map : {X Y : Type 0} (p : Y → Bool) (f : X → List Y) (xs : List X) → list_any p (flat_map f xs) ≡ list_any (λ x. list_any p (f x)) xs
any_flat_map p f [] = refl
any_flat_map p f (x ∷ xs) = list_any-append p (f x) (flat_map f xs) ∙ ap (λ b. list_any p (f x) || b) (any_flat_map p f xs)

-- ---- scopes

sets_is : (name : Spelling) (l : LoopNames) → is_among name (loop_names l) ≡ sets name l
sets_is name (names.One only) = either_false (same name only.spelling)
sets_is name (names.Several all) = any_map (same name) (λ n. n.spelling) all

inner_is : (name : Spelling) (inner : List Inner) → is_among name (flat_map (λ l. loop_names l.names.now) inner) ≡ list_any (λ l. sets name l.names.now) inner
inner_is name [] = refl
inner_is name (l ∷ inner) = list_any-append (same name) (loop_names l.names.now) (flat_map (λ l. loop_names l.names.now) inner) ∙ ap (λ (b : Bool). b || is_among name (flat_map (λ l. loop_names l.names.now) inner)) (sets_is name l.names.now) ∙ ap (λ (b : Bool). sets name l.names.now || b) (inner_is name inner)

pub has_is : (name : Spelling) (s : Scope) → has_local name s ≡ is_among name (scope_of s).locals
has_is name s = sym (list_any-append (same name) (flat_map (λ l. loop_names l.names.now) s.inner.now) s.locals.now ∙ ap (λ (b : Bool). b || is_among name s.locals.now) (inner_is name s.inner.now))

-- ---- names

swap : {A : Type 0} (a b : Bool) (x y z : A) → (a ≡ true → b ≡ true → ⊥) → (if a then x else if b then y else z) ≡ (if b then y else if a then x else z)
swap true true x y z h = absurd (h refl refl)
swap true false x y z h = refl
swap false true x y z h = refl
swap false false x y z h = refl

covers : {A : Type 0} (a b : Bool) (x y z : A) → b ≡ a → (if a then x else z) ≡ (if a then x else if b then y else z)
covers true b x y z e = refl
covers false b x y z e = rw e refl

module _ (name : Spelling) (new : Entry) (same_name : same new.name name ≡ true) where
  is_name : new.name ≡ name
  is_name = (bytes_decides new.name name).0 same_name

  abbrev test : Entry → Bool
  test e = same e.name name

  apart : (e : Entry) (other : Spelling) → same e.name name ≡ false → same e.name other ≡ true → same name other ≡ true → ⊥
  apart e other differs a b =
      let one : e.name ≡ other = (bytes_decides e.name other).0 a in
      let two : name ≡ other = (bytes_decides name other).0 b in
      let both : same e.name name ≡ true = (bytes_decides e.name name).1 (one ∙ sym two) in cc

  abbrev found : List Entry → Bool → ℕ
  found es b = cond (not b) (1 + position_or_len test es) 0

  set_by : (e : Entry) (es : List Entry) (other : Spelling) (b : Bool) → same e.name name ≡ b → (position_or_len test es < length es → held_in (set es (position_or_len test es) new) other ≡ assigned_to name new.value (held_in es) other)
      → found es b < length (e ∷ es) → held_in (set (e ∷ es) (found es b) new) other ≡ assigned_to name new.value (held_in (e ∷ es)) other
  set_by e es other true alike rest h =
      let here : e.name ≡ name = (bytes_decides e.name name).0 alike in
      ap (λ (n : Spelling). if same n other then new.value else held_in es other) is_name ∙ covers (same name other) (same e.name other) new.value e.value (held_in es other) (ap (λ (n : Spelling). same n other) here)
  set_by e es other false differs rest h =
      let less : position_or_len test es < length es = omega arith in
      let step : 1 + position_or_len test es ≡ suc (position_or_len test es) = omega arith in
      ap (λ n. held_in (set (e ∷ es) n new) other) step
      ∙ ap (λ (v : Value). if same e.name other then e.value else v) (rest less)
      ∙ swap (same e.name other) (same name other) e.value new.value (held_in es other) (apart e other differs)

  pub held_set : (es : List Entry) (other : Spelling) → position_or_len (λ e. same e.name name) es < length es → held_in (set es (position_or_len (λ e. same e.name name) es) new) other ≡ assigned_to name new.value (held_in es) other
  held_set [] other h = absurd (omega arith)
  held_set (e ∷ es) other h = set_by e es other (same e.name name) refl (held_set es other) h

  push_by : (e : Entry) (es : List Entry) (other : Spelling) (b : Bool) → same e.name name ≡ b → (length es ≤ position_or_len test es → held_in (es ++ new ∷ []) other ≡ assigned_to name new.value (held_in es) other)
      → length (e ∷ es) ≤ found es b → held_in (e ∷ es ++ new ∷ []) other ≡ assigned_to name new.value (held_in (e ∷ es)) other
  push_by e es other true alike rest h = absurd (omega arith)
  push_by e es other false differs rest h =
      let less : length es ≤ position_or_len test es = omega arith in
      ap (λ (v : Value). if same e.name other then e.value else v) (rest less)
      ∙ swap (same e.name other) (same name other) e.value new.value (held_in es other) (apart e other differs)

  pub held_push : (es : List Entry) (other : Spelling) → length es ≤ position_or_len (λ e. same e.name name) es → held_in (es ++ new ∷ []) other ≡ assigned_to name new.value (held_in es) other
  held_push [] other h = ap (λ (n : Spelling). if same n other then new.value else held_in [] other) is_name
  held_push (e ∷ es) other h = push_by e es other (same e.name name) refl (held_push es other) h

-- ---- positions

module _ {X : Type 0} (p : X → Bool) where
  some_by : (xs : List X) (i : ℕ) (b : Bool) → nat_lt (position_or_len p xs) (length xs) ≡ b → Some i ≡ cond b (Some (position_or_len p xs)) None → (i ≡ position_or_len p xs) × (position_or_len p xs < length xs)
  some_by xs i true below h = (cc, ltb-true _ _ below)
  some_by xs i false above h = cc

  pub position_some : (xs : List X) (i : ℕ) → Some i ≡ position p xs → (i ≡ position_or_len p xs) × (position_or_len p xs < length xs)
  position_some xs i h = some_by xs i (nat_lt (position_or_len p xs) (length xs)) refl h

  none_by : (xs : List X) (b : Bool) → nat_lt (position_or_len p xs) (length xs) ≡ b → None ≡ cond b (Some (position_or_len p xs)) None → length xs ≤ position_or_len p xs
  none_by xs true below h = cc
  none_by xs false above h = let apart = ltb-false (position_or_len p xs) (length xs) above in omega arith

  pub position_none : (xs : List X) → None ≡ position p xs → length xs ≤ position_or_len p xs
  position_none xs h = none_by xs (nat_lt (position_or_len p xs) (length xs)) refl h

  abbrev place : Bool → List X → ℕ
  place b xs = cond (not b) (1 + position_or_len p xs) 0

  passes_by : (x : X) (xs : List X) (d : X) (b : Bool) → p x ≡ b → (position_or_len p xs < length xs → p (get_or xs (position_or_len p xs) d) ≡ true) → place b xs < length (x ∷ xs) → p (get_or (x ∷ xs) (place b xs) d) ≡ true
  passes_by x xs d true passed rest h = passed
  passes_by x xs d false failed rest h =
      let less : position_or_len p xs < length xs = omega arith in
      let step : 1 + position_or_len p xs ≡ suc (position_or_len p xs) = omega arith in
      ap (λ n. p (get_or (x ∷ xs) n d)) step ∙ rest less

  pub position_passes : (xs : List X) (d : X) → position_or_len p xs < length xs → p (get_or xs (position_or_len p xs) d) ≡ true
  position_passes [] d h = absurd (omega arith)
  position_passes (x ∷ xs) d h = passes_by x xs d (p x) refl (position_passes xs d) h

-- ---- a loop that looks for a name

pub held_found : (all es : List Entry) (name : Spelling) (i : ℕ) (x : Entry) → held_in all name ≡ held_in (drop i es) name → i < length es → x ≡ get_or es i x → same x.name name ≡ true → held_in all name ≡ x.value
held_found all es name i x h less e alike = h ∙ ap (λ l. held_in l name) (drop_next es i x less e) ∙ ap (λ (b : Bool). if b then x.value else held_in (drop (i + 1) es) name) alike

pub held_not : (all es : List Entry) (name : Spelling) (i : ℕ) (x : Entry) → held_in all name ≡ held_in (drop i es) name → i < length es → x ≡ get_or es i x → same x.name name ≡ false → held_in all name ≡ held_in (drop (i + 1) es) name
held_not all es name i x h less e differs = h ∙ ap (λ l. held_in l name) (drop_next es i x less e) ∙ ap (λ (b : Bool). if b then x.value else held_in (drop (i + 1) es) name) differs

pub held_none : (all es : List Entry) (name : Spelling) (i : ℕ) → held_in all name ≡ held_in (drop i es) name → length es ≤ i → held_in all name ≡ held_in [] name
held_none all es name i h more = h ∙ ap (λ l. held_in l name) (drop_end es i more)
