-- What is left of a list in a loop over it.
use Rattle.std.proofs.Common.{◌≡◌, ℕ, suc, ◌+◌, ◌<◌, ◌≤◌, List, [], ◌∷◌, ◌++◌, length, get_or, drop, refl, sym, ap, ◌∙◌, add-one, drop-cons, append_assoc, append-nil}
use Rattle.std.proofs.lemmas.List.{drop_all}
use Rattle.meaning_rules.specs.State.{State}
use Rattle.meaning_rules.specs.Outcome.{Outcome, Gives, Stops, Run, and_then, bind, pure}
use Rattle.plain_interpreter.specs.Collected.{collect}

pub drop_next : {A : Type 0} (xs : List A) (i : ℕ) (x : A) → i < length xs → x ≡ get_or xs i x → drop i xs ≡ x ∷ drop (i + 1) xs
drop_next xs i x h e = drop-cons xs i x h ∙ ap (λ y. y ∷ drop (suc i) xs) (sym e) ∙ ap (λ n. x ∷ drop n xs) (sym (add-one i))

pub drop_end : {A : Type 0} (xs : List A) (i : ℕ) → length xs ≤ i → drop i xs ≡ []
drop_end xs i h = drop_all i xs h

-- ---- lists of what parts give

abbrev pub after : {A : Type 0} → List A → Outcome (List A) → Outcome (List A)
after done o = and_then o (λ more s. Gives (done ++ more) s)

after_one : {A : Type 0} (done : List A) (a : A) (o : Outcome (List A)) → after done (and_then o (λ more s. Gives (a ∷ more) s)) ≡ after (done ++ a ∷ []) o
after_one done a (Gives more s) = ap (λ l. Gives l s) (sym (append_assoc done (a ∷ []) more))
after_one done a (Stops why s) = refl

after_each : {A : Type 0} (done : List A) (o : Outcome A) (rest : Run (List A)) → after done (and_then o (λ a s. and_then (rest s) (λ more t. Gives (a ∷ more) t))) ≡ and_then o (λ a s. after (done ++ a ∷ []) (rest s))
after_each done (Gives a s) rest = after_one done a (rest s)
after_each done (Stops why s) rest = refl

pub collect_next : {X A : Type 0} (f : X → Run A) (done : List A) (xs : List X) (i : ℕ) (x : X) (s : State) → i < length xs → x ≡ get_or xs i x
    → after done (collect f (drop i xs) s) ≡ and_then (f x s) (λ a t. after (done ++ a ∷ []) (collect f (drop (i + 1) xs) t))
unfolding bind pure
collect_next f done xs i x s h e = ap (λ l. after done (collect f l s)) (drop_next xs i x h e) ∙ after_each done (f x s) (collect f (drop (i + 1) xs))

pub collect_end : {X A : Type 0} (f : X → Run A) (done : List A) (xs : List X) (i : ℕ) (s : State) → length xs ≤ i → after done (collect f (drop i xs) s) ≡ Gives done s
unfolding bind pure
collect_end f done xs i s h = ap (λ l. after done (collect f l s)) (drop_end xs i h) ∙ ap (λ l. Gives l s) (append-nil done)

after_none : {A : Type 0} (o : Outcome (List A)) → o ≡ after [] o
after_none (Gives more s) = refl
after_none (Stops why s) = refl

pub collect_begin : {X A : Type 0} (f : X → Run A) (xs : List X) (s : State) → collect f xs s ≡ after [] (collect f xs s)
collect_begin f xs s = after_none (collect f xs s)
