-- What comes of what operators make.
use Rattle.std.proofs.Common.{◌≡◌, ◌≢◌, refl, ap, sym, subst, ◌∙◌, List, ℕ, false, Result, Ok, Err}
use Rattle.codon_base.specs.declared.value.Value.{Value, out-Value}
use Rattle.codon_base.specs.declared.value.Value.TheVariants as value
use Rattle.codon_base.specs.declared.memory.Or.{Or}
use Rattle.codon_base.specs.declared.memory.Or.TheVariants as or
use Rattle.codon_base.specs.declared.walk.WalkEnd.{WalkEnd}
use Rattle.codon_base.specs.declared.walk.WalkEnd.TheVariants as reason
use Rattle.codon_base.specs.Walks.{Walked, going, ended, wrong_kind, lent_list, too_large, nesting_limit}
use Rattle.codon_base.specs.Printed.{text_of}
use Rattle.codon_base.specs.Operators.{Sight, Made, made, whole, after_walk, truth_of}
use Rattle.codon_base.specs.ShowAnswers.{AnswersWhole}
use denote.Hole.Carrier
use Rattle.meaning_rules.specs.Outcome.{Outcome, Gives, Stops, and_then, bind, look, pure}
use Rattle.meaning_rules.specs.Objects.{operate, settled, truth, one_of, text_in}
use Rattle.meaning_rules.specs.Printing.{text_of_value}
use Rattle.meaning_rules.specs.Iterations.{in_place}
use Rattle.plain_interpreter.specs.Seen.{seen, why_of, Tells}
use Rattle.plain_interpreter.specs.Sights.{sight_of, IsText, IsEnd}
use Rattle.plain_interpreter.specs.declared.state.State.{State as Run}
use Rattle.plain_interpreter.specs.declared.state.Stop.{Stop}
use Rattle.plain_interpreter.specs.declared.state.Stop.TheVariants as stop

-- operators see what the code sees
pub operated : (s : Run) (operator : Sight → Made) → operate in_place operator (seen s) ≡ settled (operator (sight_of s.store)) (seen s)
unfolding seen bind look
operated s operator = refl

-- an operator that makes this comes to what comes of this
pub operated_tells : (s new : Run) (operator : Sight → Made) (m : Made) (result : Result Value Stop) → m ≡ operator (sight_of s.store) → Tells (settled m (seen s)) result new → Tells (operate in_place operator (seen s)) result new
operated_tells s new operator m result e h = subst (λ (o : Outcome Value). Tells o result new) (ap (λ (k : Made). settled k (seen s)) e ∙ sym (operated s operator)) h

-- the truth of a value is what the code sees of it
pub truth_is : (s : Run) (v : Value) → truth in_place v (seen s) ≡ one_of (truth_of (sight_of s.store) (out-Value v)) (seen s)
unfolding seen bind look
truth_is s v = refl

-- what a walk over a value for its text makes
pub text_walked : (r : Result (List ℕ) (Or WalkEnd)) (walked : Walked (List ℕ)) → AnswersWhole r walked → IsText r (after_walk walked (λ text. made (value.Text text)))
text_walked (Ok bytes) (going text met) h = ap (λ t. made (value.Text t)) (sym h)
text_walked (Err (or.No reason.WrongKind)) (ended wrong_kind met) h = refl
text_walked (Err (or.No reason.LentList)) (ended lent_list met) h = refl
text_walked (Err (or.No reason.TooLarge)) (ended too_large met) h = refl
text_walked (Err or.Memory) walked h = tt
text_walked _ _ h = absurd h

pub text_given : (s : Run) (v : Value) (text : List ℕ) → AnswersWhole (Ok text) (text_of (whole (sight_of s.store)) nesting_limit false v 0) → text_of_value in_place v (seen s) ≡ Gives text (seen s)
unfolding seen bind look pure out-Value denote.Hole.Carrier.out
text_given s v text h = ap (λ (m : Made). bind (settled m) (λ t. text_in (out-Value t)) (seen s)) (text_walked (Ok text) (text_of (whole (sight_of s.store)) nesting_limit false v 0) h)

pub text_stops : (s : Run) (v : Value) (why : WalkEnd) (e : Stop) → AnswersWhole (Err (or.No why)) (text_of (whole (sight_of s.store)) nesting_limit false v 0) → IsEnd why e → e ≢ stop.Memory → text_of_value in_place v (seen s) ≡ Stops (why_of e) (seen s)
unfolding seen bind look pure
text_stops s v why e h told wanted =
    ap (λ (m : Made). bind (settled m) (λ t. text_in (out-Value t)) (seen s)) (text_walked (Err (or.No why)) (text_of (whole (sight_of s.store)) nesting_limit false v 0) h)
    ∙ ap (λ (o : Outcome Value). and_then o (λ t. text_in (out-Value t))) (told wanted (seen s))
