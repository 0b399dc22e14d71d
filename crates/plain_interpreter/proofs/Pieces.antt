-- The piece that a `print` writes, value by value.
use Rattle.std.proofs.Common.{◌≡◌, refl, ap, sym, ◌∙◌, ℕ, ◌+◌, ◌<◌, ◌≤◌, List, [], ◌∷◌, ◌++◌, length, drop, get_or, append_assoc}
use Rattle.std.proofs.lemmas.List.{append-nil}
use Rattle.codon_base.specs.declared.value.Value.{Value, out-Value}
use Rattle.meaning_rules.specs.State.{State}
use Rattle.meaning_rules.specs.Outcome.{Outcome, Gives, Stops, Run, and_then, bind, pure, write}
use Rattle.meaning_rules.specs.Task.{Rules}
use Rattle.meaning_rules.specs.Objects.{text_in}
use Rattle.meaning_rules.specs.Printing.{text_of_value, texts_of, separated, print, Ends}
use Rattle.plain_interpreter.proofs.Rest.{drop_next, drop_end}
use Rattle.plain_interpreter.specs.Pieces.{led, followed, separated_texts, joined}

-- what is done with an answer is done with what it gives
bound : {A B C : Type 0} (outcome : Outcome A) (g : A → B) (next : B → Run C) → and_then outcome (λ a. next (g a)) ≡ and_then (and_then outcome (λ a. pure (g a))) next
unfolding pure
bound (Gives a s) g next = refl
bound (Stops why s) g next = refl

chained : {A B C : Type 0} (outcome : Outcome A) (f : A → Run B) (g : B → Run C) → and_then (and_then outcome f) g ≡ and_then outcome (λ a s. and_then (f a s) g)
chained (Gives a s) f g = refl
chained (Stops why s) f g = refl

same_then : {A B : Type 0} (outcome : Outcome A) (f g : A → B) → ((a : A) → f a ≡ g a) → and_then outcome (λ a. pure (f a)) ≡ and_then outcome (λ a. pure (g a))
same_then (Gives a s) f g e = ap (λ b. pure b s) (e a)
same_then (Stops why s) f g e = refl

separated_led : (sep text : List ℕ) (more : List (List ℕ)) → separated sep (text ∷ more) ≡ text ++ led sep more
separated_led sep text [] = sym (append-nil text)
separated_led sep text (next ∷ more) = append_assoc text sep (separated sep (next ∷ more)) ∙ ap (λ t. text ++ t) (ap (λ t. sep ++ t) (separated_led sep next more) ∙ sym (append_assoc sep next (led sep more)))

led_next : (piece sep text : List ℕ) (more : List (List ℕ)) → piece ++ led sep (text ∷ more) ≡ ((piece ++ sep) ++ text) ++ led sep more
led_next piece sep text more = sym (append_assoc piece (sep ++ text) (led sep more)) ∙ ap (λ t. t ++ led sep more) (sym (append_assoc piece sep text))

same_next : {A B : Type 0} (outcome : Outcome A) (f g : A → Run B) → ((a : A) (t : State) → f a t ≡ g a t) → and_then outcome f ≡ and_then outcome g
same_next (Gives a t) f g e = e a t
same_next (Stops why t) f g e = refl

-- the texts of a value and more values: first that of the value
first_by : {B : Type 0} (rules : Rules) (v : Value) (vs : List Value) (f : List (List ℕ) → B) (s : State)
    → bind (texts_of rules (v ∷ vs)) (λ texts. pure (f texts)) s ≡ and_then (text_of_value rules v s) (λ text. bind (texts_of rules vs) (λ more. pure (f (text ∷ more))))
unfolding bind pure
first_by rules v vs f s =
    chained (text_of_value rules v s) (λ text. bind (texts_of rules vs) (λ more. pure (text ∷ more))) (λ texts. pure (f texts))
    ∙ same_next (text_of_value rules v s) (λ text t. and_then (bind (texts_of rules vs) (λ more. pure (text ∷ more)) t) (λ texts. pure (f texts))) (λ text. bind (texts_of rules vs) (λ more. pure (f (text ∷ more))))
    (λ text t. chained (texts_of rules vs t) (λ more. pure (text ∷ more)) (λ texts. pure (f texts)))

followed_by : (rules : Rules) (v : Value) (vs : List Value) (sep piece : List ℕ) (s : State)
    → followed rules (v ∷ vs) sep piece s ≡ and_then (text_of_value rules v s) (λ text. followed rules vs sep ((piece ++ sep) ++ text))
unfolding bind
followed_by rules v vs sep piece s =
    first_by rules v vs (λ texts. piece ++ led sep texts) s
    ∙ same_next (text_of_value rules v s) (λ text. bind (texts_of rules vs) (λ more. pure (piece ++ led sep (text ∷ more)))) (λ text. followed rules vs sep ((piece ++ sep) ++ text))
    (λ text t. same_then (texts_of rules vs t) (λ more. piece ++ led sep (text ∷ more)) (λ more. ((piece ++ sep) ++ text) ++ led sep more) (led_next piece sep text))

separated_by : (rules : Rules) (v : Value) (vs : List Value) (sep : List ℕ) (s : State)
    → separated_texts rules (v ∷ vs) sep s ≡ and_then (text_of_value rules v s) (λ text. followed rules vs sep text)
unfolding bind
separated_by rules v vs sep s =
    first_by rules v vs (separated sep) s
    ∙ same_next (text_of_value rules v s) (λ text. bind (texts_of rules vs) (λ more. pure (separated sep (text ∷ more)))) (λ text. followed rules vs sep text)
    (λ text t. same_then (texts_of rules vs t) (λ more. separated sep (text ∷ more)) (λ more. text ++ led sep more) (separated_led sep text))

-- the same from a place on
pub followed_next : (rules : Rules) (all : List Value) (i : ℕ) (x : Value) (sep piece : List ℕ) (s : State) → i < length all → x ≡ get_or all i x
    → followed rules (drop i all) sep piece s ≡ and_then (text_of_value rules x s) (λ text. followed rules (drop (i + 1) all) sep ((piece ++ sep) ++ text))
followed_next rules all i x sep piece s h e = ap (λ l. followed rules l sep piece s) (drop_next all i x h e) ∙ followed_by rules x (drop (i + 1) all) sep piece s

pub separated_next : (rules : Rules) (all : List Value) (x : Value) (sep : List ℕ) (s : State) → 1 ≤ length all → x ≡ get_or all 0 x
    → separated_texts rules all sep s ≡ and_then (text_of_value rules x s) (λ text. followed rules (drop 1 all) sep text)
separated_next rules all x sep s h e = ap (λ l. separated_texts rules l sep s) (drop_next all 0 x h e) ∙ separated_by rules x (drop 1 all) sep s

followed_none : (rules : Rules) (sep piece : List ℕ) (s : State) → followed rules [] sep piece s ≡ Gives piece s
unfolding bind pure
followed_none rules sep piece s = ap (λ t. Gives t s) (append-nil piece)

pub followed_done : (rules : Rules) (all : List Value) (i : ℕ) (sep piece : List ℕ) (s : State) → length all ≤ i → followed rules (drop i all) sep piece s ≡ Gives piece s
followed_done rules all i sep piece s h = ap (λ l. followed rules l sep piece s) (drop_end all i h) ∙ followed_none rules sep piece s

pub joined_last : (rules : Rules) (vs : List Value) (sep last : List ℕ) (s : State) → joined rules vs sep last s ≡ and_then (separated_texts rules vs sep s) (λ t. pure (t ++ last))
unfolding bind
joined_last rules vs sep last s = bound (texts_of rules vs s) (separated sep) (λ t. pure (t ++ last))

print_joined : (rules : Rules) (vs : List Value) (sep last : List ℕ) (s : State) → bind (texts_of rules vs) (λ texts. write (separated sep texts ++ last)) s ≡ and_then (joined rules vs sep last s) write
unfolding bind
print_joined rules vs sep last s = bound (texts_of rules vs s) (λ texts. separated sep texts ++ last) write

-- what `print` does where both of its ends are texts
pub print_told : (rules : Rules) (vs : List Value) (ends : Ends) (between last piece : List ℕ) (s t : State)
    → text_in (out-Value ends.between) s ≡ Gives between s → text_in (out-Value ends.last) s ≡ Gives last s → joined rules vs between last s ≡ Gives piece t → print rules vs ends s ≡ write piece t
unfolding bind
print_told rules vs ends between last piece s t first then made =
    ap (λ (o : Outcome (List ℕ)). and_then o (λ between. bind (text_in (out-Value ends.last)) (λ last. bind (texts_of rules vs) (λ texts. write (separated between texts ++ last))))) first
    ∙ ap (λ (o : Outcome (List ℕ)). and_then o (λ last. bind (texts_of rules vs) (λ texts. write (separated between texts ++ last)))) then
    ∙ print_joined rules vs between last s
    ∙ ap (λ (o : Outcome (List ℕ)). and_then o write) made
