-- The rounds of the reach: flags pick what a list of callables gives, and once a round adds none, no later one does.
use Rattle.std.proofs.Common.{◌≡◌, ℕ, zero, suc, ◌+◌, ◌-◌, ◌<◌, ◌≤◌, Bool, true, false, if◌then◌else◌, List, [], ◌∷◌, ◌++◌, length, map, drop, get_or, refl, sym, ap, ◌∙◌, arith, zero-add, add-one, append_assoc}
use Rattle.std.proofs.lemmas.List.{length-map}
use Rattle.std.specs.List.{flat_map, list_any}
use Rattle.meaning_rules.specs.Mentions as mentions
use Rattle.meaning_rules.specs.Program as program
use Rattle.meaning_rules.specs.Captures.{called_by, is_called_by, notes_of_reached, notes_outside, reached_within, reached}
use Rattle.plain_interpreter.specs.Reaching.{picked, flagged, one_if, flags_of, flags_within}
use Rattle.plain_interpreter.specs.Tasks.{program_of, callable_of}
use Rattle.plain_interpreter.specs.declared.prepared.Callable.{Callable}
use Rattle.plain_interpreter.specs.declared.prepared.Prepared.{Prepared}
use Rattle.plain_interpreter.proofs.Rest.{drop_next}

one : (b : Bool) (c : program.Callable) (called all : List program.Callable) (flags : List Bool) → called ≡ picked all flags → (if b then c ∷ called else called) ≡ picked (c ∷ all) (b ∷ flags)
one true c called all flags e = ap (λ l. c ∷ l) e
one false c called all flags e = e

pub filter_picked : (notes : List mentions.Note) (all : List program.Callable) → called_by notes all ≡ picked all (flags_of notes all)
filter_picked notes [] = refl
filter_picked notes (c ∷ all) = one (list_any (is_called_by c) notes) c (called_by notes all) all (flags_of notes all) (filter_picked notes all)

reached_are : (p : program.Program) (notes : List mentions.Note) (n : ℕ) → reached_within p notes n ≡ picked p.callables (flags_within p.callables notes n)
unfolding reached_within flags_within
reached_are p notes zero = filter_picked notes p.callables
reached_are p notes (suc n) = ap (λ l. called_by (notes ++ notes_of_reached l) p.callables) (reached_are p notes n) ∙ filter_picked _ p.callables

-- what notes reach, by the flags of the interpreter
pub reached_picked : (p : Prepared) (notes : List mentions.Note) → reached (program_of p) notes ≡ picked (map callable_of p.callables.items) (flags_within (map callable_of p.callables.items) notes (length p.callables.items))
unfolding program_of
reached_picked p notes =
    reached_are (program_of p) notes (length (map callable_of p.callables.items))
    ∙ ap (λ n. picked (map callable_of p.callables.items) (flags_within (map callable_of p.callables.items) notes n)) (length-map p.callables.items callable_of)

-- the notes of what notes reach, as the interpreter collects them
pub outside_of : (p : Prepared) (notes : List mentions.Note) (given all ones shown : List Callable) (flags found : List Bool) (before after : List mentions.Note)
    → given ≡ p.callables.items → found ≡ flags_within (map callable_of given) notes (length given) → all ≡ p.callables.items → flags ≡ found → map callable_of ones ≡ picked (map callable_of all) flags
    → before ≡ [] → shown ≡ ones → after ≡ before ++ flat_map notes_outside (map callable_of shown)
    → after ≡ flat_map notes_outside (reached (program_of p) notes)
outside_of p notes given all ones shown flags found before after a b d e f g h i =
    let these = p.callables.items in
    i ∙ ap (λ l. l ++ flat_map notes_outside (map callable_of shown)) g
    ∙ ap (λ l. flat_map notes_outside (map callable_of l)) h
    ∙ ap (λ l. flat_map notes_outside l) f
    ∙ ap (λ l. flat_map notes_outside (picked (map callable_of l) flags)) d
    ∙ ap (λ l. flat_map notes_outside (picked (map callable_of these) l)) (e ∙ b)
    ∙ ap (λ l. flat_map notes_outside (picked (map callable_of these) (flags_within (map callable_of l) notes (length l)))) a
    ∙ ap (λ l. flat_map notes_outside l) (sym (reached_picked p notes))

first_picked : {A : Type 0} (flag : Bool) (x : A) (xs : List A) (flags : List Bool) → picked (x ∷ xs) (flag ∷ flags) ≡ (if flag then x ∷ picked xs flags else picked xs flags)
first_picked true x xs flags = refl
first_picked false x xs flags = refl

picked_none : {A : Type 0} (xs : List A) → picked xs [] ≡ []
picked_none [] = refl
picked_none (x ∷ xs) = refl

none_left : (i : ℕ) → drop {A = Bool} i [] ≡ []
none_left zero = refl
none_left (suc i) = refl

no_flag : (i : ℕ) → flagged [] i ≡ false
no_flag zero = refl
no_flag (suc i) = refl

none_picked : {A : Type 0} (x : A) (xs : List A) (i : ℕ) → picked (x ∷ xs) (drop i []) ≡ (if flagged [] i then x ∷ picked xs (drop (suc i) []) else picked xs (drop (suc i) []))
none_picked x xs i =
    ap (λ l. picked (x ∷ xs) l) (none_left i) ∙ sym (picked_none xs) ∙ sym (ap (λ l. picked xs l) (none_left (suc i)))
    ∙ sym (ap (λ b. if b then x ∷ picked xs (drop (suc i) []) else picked xs (drop (suc i) [])) (no_flag i))

-- the flagged one at a place, and those after it
pub picked_next : {A : Type 0} (x : A) (xs : List A) (flags : List Bool) (i : ℕ) → picked (x ∷ xs) (drop i flags) ≡ (if flagged flags i then x ∷ picked xs (drop (suc i) flags) else picked xs (drop (suc i) flags))
picked_next x xs [] i = none_picked x xs i
picked_next x xs (flag ∷ flags) zero = first_picked flag x xs flags
picked_next x xs (flag ∷ flags) (suc i) = picked_next x xs flags i

one_first : {A : Type 0} (b : Bool) (x : A) (xs : List A) → (if b then x ∷ xs else xs) ≡ one_if b x ++ xs
one_first true x xs = refl
one_first false x xs = refl

-- those from a place on are the one there, where it is flagged, and those after it
pub picked_more : (all : List Callable) (flags : List Bool) (i place : ℕ) (x : Callable) → place ≡ i → i < length all → x ≡ get_or all i x
    → picked (map callable_of (drop i all)) (drop i flags) ≡ one_if (flagged flags place) (callable_of x) ++ picked (map callable_of (drop (i + 1) all)) (drop (i + 1) flags)
picked_more all flags i place x p h e =
    ap (λ l. picked (map callable_of l) (drop i flags)) (drop_next all i x h e)
    ∙ picked_next (callable_of x) (map callable_of (drop (i + 1) all)) flags i
    ∙ ap (λ n. if flagged flags i then callable_of x ∷ picked (map callable_of (drop (i + 1) all)) (drop n flags) else picked (map callable_of (drop (i + 1) all)) (drop n flags)) (sym (add-one i))
    ∙ one_first (flagged flags i) (callable_of x) (picked (map callable_of (drop (i + 1) all)) (drop (i + 1) flags))
    ∙ ap (λ n. one_if (flagged flags n) (callable_of x) ++ picked (map callable_of (drop (i + 1) all)) (drop (i + 1) flags)) (sym p)

pub joined : {A : Type 0} (whole old new part rest : List A) → whole ≡ old ++ (part ++ rest) → new ≡ old ++ part → whole ≡ new ++ rest
joined whole old new part rest e f = e ∙ sym (append_assoc old part rest) ∙ ap (λ l. l ++ rest) (sym f)

-- once a round adds none, no later one does
pub stays : (all : List program.Callable) (notes : List mentions.Note) (n : ℕ) → flags_within all notes (suc n) ≡ flags_within all notes n → (k : ℕ) → flags_within all notes (k + n) ≡ flags_within all notes n
unfolding flags_within
stays all notes n e zero = ap (flags_within all notes) (zero-add n)
stays all notes n e (suc k) =
    let one_more : suc k + n ≡ suc (k + n) = omega arith in
    ap (flags_within all notes) one_more ∙ ap (λ flags. flags_of (notes ++ notes_of_reached (picked all flags)) all) (stays all notes n e k) ∙ e

-- a round that added none is the last that counts
pub settled : (all : List program.Callable) (notes : List mentions.Note) (n m : ℕ) (flags next : List Bool) → flags ≡ flags_within all notes n → next ≡ flags_of (notes ++ notes_of_reached (picked all flags)) all → next ≡ flags → n ≤ m → flags ≡ flags_within all notes m
unfolding flags_within
settled all notes n m flags next h i j le =
    let round : flags_within all notes (suc n) ≡ flags_within all notes n = ap (λ f. flags_of (notes ++ notes_of_reached (picked all f)) all) (sym h) ∙ sym i ∙ j ∙ h in
    let far : (m - n) + n ≡ m = omega arith in
    h ∙ sym (stays all notes n round (m - n)) ∙ ap (flags_within all notes) far
