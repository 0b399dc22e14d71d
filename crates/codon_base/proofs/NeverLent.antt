-- Where no list is lent, no walk that makes a text ends at a list that is lent.
use Rattle.std.proofs.Common.{ℕ, zero, suc, ◌+◌, Bool, true, false, List, [], ◌∷◌, Option, Some, None, Err, codes}
use Rattle.std.specs.Prelude.{nat_lt, if◌then◌else◌}
use Rattle.codon_base.specs.declared.memory.Or.TheVariants.{No}
use Rattle.codon_base.specs.declared.walk.WalkEnd.{WalkEnd}
use Rattle.codon_base.specs.declared.walk.WalkEnd.TheVariants as reason
use Rattle.codon_base.specs.declared.value.Value.{Value, Value-F}
use Rattle.codon_base.specs.declared.value.Value.TheViews.{out-Value}
use Rattle.codon_base.specs.declared.object.Object.{Object}
use Rattle.codon_base.specs.declared.object.Object.TheVariants.{List as Listed, Instance}
use Rattle.codon_base.specs.Levels.{object_at}
use Rattle.codon_base.specs.Walks.{Walked, going, ended, wrong_kind, lent_list, too_large, Walk, and_then, ◌>>=◌, answer, end_by, meet, value_limit, seen_in, seen_object}
use Rattle.codon_base.specs.Printed.{text_of, text_met, tuple_text, tuple_end, list_text, texts, more_texts, ◌then◌}
use Rattle.codon_base.specs.ShowAnswers.{AnswersShown, AnswersWhole, refusal_of}

-- it does not end at a list that is lent
abbrev pub NotLent : {A : Type 0} → Walked A → Type 0
NotLent (ended lent_list n) = ⊥
NotLent _ = Unit {0}

abbrev Clear : {A : Type 0} → Walk A → Type 0
Clear w = (met : ℕ) → NotLent (w met)

then_clear : {A B : Type 0} (w : Walked A) (next : A → Walk B) → NotLent w → ((a : A) → Clear (next a)) → NotLent (and_then w next)
then_clear (going a n) next h k = k a n
then_clear (ended wrong_kind n) next h k = tt
then_clear (ended lent_list n) next h k = h
then_clear (ended too_large n) next h k = tt

joined : (first next : Walk (List ℕ)) → Clear first → Clear next → Clear (first then next)
joined first next h k met = then_clear (first met) _ h' (λ text n. then_clear (next n) _ (k n) (λ more m. tt)) where
  h' : NotLent (first met)
  h' = h met

met_or_not : (b : Bool) (n : ℕ) → NotLent {A = Unit {0}} (if b then going tt n else ended too_large n)
met_or_not true n = tt
met_or_not false n = tt

meets : {A : Type 0} (next : Unit {0} → Walk A) → ((u : Unit {0}) → Clear (next u)) → Clear (meet >>= next)
meets next k met = then_clear (meet met) next (met_or_not (nat_lt met value_limit) (met + 1)) k

more : (text : Value → Walk (List ℕ)) → ((v : Value) → Clear (text v)) → (vs : List Value) → Clear (more_texts text vs)
more text h [] = λ n. tt
more text h (v ∷ vs) = joined (answer (codes ", ") then text v) (more_texts text vs) (joined (answer (codes ", ")) (text v) (λ n. tt) (h v)) (more text h vs)

all : (text : Value → Walk (List ℕ)) → ((v : Value) → Clear (text v)) → (vs : List Value) → Clear (texts text vs)
all text h [] = λ n. tt
all text h (v ∷ vs) = joined (text v) (more_texts text vs) (h v) (more text h vs)

tuple : (enter : List Value → Walk (List ℕ)) → ((vs : List Value) → Clear (enter vs)) → (vs : List Value) → Clear (tuple_text enter vs)
tuple enter h vs = joined (answer (codes "(") then enter vs) (answer (tuple_end vs)) (joined (answer (codes "(")) (enter vs) (λ n. tt) (h vs)) (λ n. tt)

at_object : (enter : List Value → Walk (List ℕ)) → ((vs : List Value) → Clear (enter vs)) → (o : Option Object) → Clear (list_text enter (seen_object o))
at_object enter h (Some (Listed vs)) = joined (answer (codes "[") then enter vs) (answer (codes "]")) (joined (answer (codes "[")) (enter vs) (λ n. tt) (h vs)) (λ n. tt)
at_object enter h (Some (Instance class fields)) = λ n. tt
at_object enter h None = λ n. tt

looked_at : (enter : List Value → Walk (List ℕ)) → ((vs : List Value) → Clear (enter vs)) → (levels : List (List Object)) (inside : Bool) (f : Value-F Value) → Clear (text_met enter (seen_in levels) inside f)
looked_at enter h levels inside (Value-F.Int z) = λ n. tt
looked_at enter h levels inside (Value-F.Bool b) = λ n. tt
looked_at enter h levels inside (Value-F.Text t) = λ n. tt
looked_at enter h levels inside (Value-F.Tuple vs) = tuple enter h vs
looked_at enter h levels inside (Value-F.Ref at) = at_object enter h (object_at levels at)
looked_at enter h levels inside Value-F.Unit = λ n. tt
looked_at enter h levels inside Value-F.Unset = λ n. tt

pub text_of-clear : (levels : List (List Object)) (room : ℕ) (inside : Bool) (v : Value) → Clear (text_of (seen_in levels) room inside v)
unfolding text_of
text_of-clear levels zero inside v = meets _ (λ u. looked_at (λ vs. end_by too_large) (λ vs n. tt) levels inside (out-Value v))
text_of-clear levels (suc room) inside v = meets _ (λ u. looked_at (texts (text_of (seen_in levels) room true)) (all _ (text_of-clear levels room true)) levels inside (out-Value v))

-- so the end of the walk is one of the refusals
pub refused : (end : WalkEnd) (w : Walked (List ℕ)) → NotLent w → AnswersWhole (Err (No end)) w → AnswersShown (Err (refusal_of end)) w
refused reason.WrongKind (going text n) h k = k
refused reason.WrongKind (ended wrong_kind n) h k = tt
refused reason.WrongKind (ended lent_list n) h k = absurd h
refused reason.WrongKind (ended too_large n) h k = k
refused reason.LentList (going text n) h k = k
refused reason.LentList (ended wrong_kind n) h k = absurd k
refused reason.LentList (ended lent_list n) h k = absurd h
refused reason.LentList (ended too_large n) h k = k
refused reason.TooLarge (going text n) h k = k
refused reason.TooLarge (ended wrong_kind n) h k = k
refused reason.TooLarge (ended lent_list n) h k = absurd h
refused reason.TooLarge (ended too_large n) h k = tt
