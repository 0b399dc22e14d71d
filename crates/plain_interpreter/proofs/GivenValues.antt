-- The values of parameters, one after another.
use Rattle.std.proofs.Common.{◌≡◌, ℕ, ◌+◌, ◌<◌, ◌≤◌, if◌then◌else◌, List, [], ◌∷◌, ◌++◌, length, get_or, drop, Option, Some, None, refl, sym, ap, ◌∙◌, arith, append_assoc}
use Rattle.std.specs.Prelude.{option_map}
use Rattle.codon_base.specs.declared.value.Value.{Value}
use Rattle.source_trees.specs.declared.item.Param.{Param}
use Rattle.meaning_rules.specs.State.{Spelling, Names, same, unset_names, assigned_to}
use Rattle.meaning_rules.specs.Calls.{arguments, parameters, default_of, with_first}
use Rattle.plain_interpreter.specs.Seen.{held_in}
use Rattle.plain_interpreter.specs.declared.state.Entry.{Entry}
use Rattle.plain_interpreter.proofs.Rest.{drop_next, drop_end}

-- ---- values

abbrev pub more : List Value → Option (List Value) → Option (List Value)
more given o = option_map (λ rest. given ++ rest) o

more_none : (o : Option (List Value)) → o ≡ more [] o
more_none None = refl
more_none (Some vs) = refl

first_more : (v : Value) (vs : List Value) (o : Option (List Value)) → with_first (Some v) (more vs o) ≡ more (v ∷ vs) o
first_more v vs None = refl
first_more v vs (Some rest) = refl

more_first : (given : List Value) (v : Value) (o : Option (List Value)) → more given (with_first (Some v) o) ≡ more (given ++ v ∷ []) o
more_first given v None = refl
more_first given v (Some rest) = ap Some (sym (append_assoc given (v ∷ []) rest))

pub given_first : (params : List Param) (given : List Value) → length given ≤ length params → arguments params given ≡ more given (arguments (drop (length given) params) [])
given_first params [] h = more_none (arguments params [])
given_first [] (v ∷ vs) h = absurd (omega arith)
given_first (param ∷ params) (v ∷ vs) h = let less : length vs ≤ length params = omega arith in ap (with_first (Some v)) (given_first params vs less) ∙ first_more v vs (arguments (drop (length vs) params) [])

pub too_many : (params : List Param) (given : List Value) → length params < length given → arguments params given ≡ None
too_many params [] h = absurd (omega arith)
too_many [] (v ∷ vs) h = refl
too_many (param ∷ params) (v ∷ vs) h = let less : length params < length vs = omega arith in ap (with_first (Some v)) (too_many params vs less)

no_first : (o : Option (List Value)) → with_first None o ≡ None
no_first None = refl
no_first (Some vs) = refl

pub default_next : (params : List Param) (i : ℕ) (x : Param) (given : List Value) (v : Value) → i < length params → x ≡ get_or params i x → default_of x x.default ≡ Some v
    → more given (arguments (drop i params) []) ≡ more (given ++ v ∷ []) (arguments (drop (i + 1) params) [])
default_next params i x given v h e d =
    ap (λ l. more given (arguments l [])) (drop_next params i x h e) ∙ ap (λ o. more given (with_first o (arguments (drop (i + 1) params) []))) d ∙ more_first given v (arguments (drop (i + 1) params) [])

pub default_none : (params : List Param) (i : ℕ) (x : Param) (given : List Value) → i < length params → x ≡ get_or params i x → default_of x x.default ≡ None
    → more given (arguments (drop i params) []) ≡ None
default_none params i x given h e d =
    ap (λ l. more given (arguments l [])) (drop_next params i x h e) ∙ ap (λ o. more given (with_first o (arguments (drop (i + 1) params) []))) d ∙ ap (more given) (no_first (arguments (drop (i + 1) params) []))

pub default_end : (params : List Param) (i : ℕ) (given : List Value) → length params ≤ i → more given (arguments (drop i params) []) ≡ Some (given ++ [])
default_end params i given h = ap (λ l. more given (arguments l [])) (drop_end params i h)

-- ---- names

-- what names hold that come after others
abbrev pub held_then : List Entry → Names → Names
held_then [] names other = names other
held_then (e ∷ es) names other = if same e.name other then e.value else held_then es names other

pub then_push : (es : List Entry) (e : Entry) (names : Names) (other : Spelling) → held_then (es ++ e ∷ []) names other ≡ held_then es (assigned_to e.name e.value names) other
then_push [] e names other = refl
then_push (x ∷ es) e names other = ap (λ (v : Value). if same x.name other then x.value else v) (then_push es e names other)

pub then_none : (es : List Entry) (other : Spelling) → held_then es unset_names other ≡ held_in es other
then_none [] other = refl
then_none (x ∷ es) other = ap (λ (v : Value). if same x.name other then x.value else v) (then_none es other)

pub param_next : (params : List Param) (i : ℕ) (x : Param) (es : List Entry) (e : Entry) (v : Value) (vs : List Value) → i < length params → x ≡ get_or params i x → e.name ≡ x.name → e.value ≡ v
    → held_then es (parameters (drop i params) (v ∷ vs)) ≡ held_then (es ++ e ∷ []) (parameters (drop (i + 1) params) vs)
param_next params i x es e v vs h g n w =
    ap (λ l. held_then es (parameters l (v ∷ vs))) (drop_next params i x h g)
    ∙ ap (λ k. held_then es (assigned_to k v (parameters (drop (i + 1) params) vs))) (sym n) ∙ ap (λ k. held_then es (assigned_to e.name k (parameters (drop (i + 1) params) vs))) (sym w)
    ∙ sym (λ j other. then_push es e (parameters (drop (i + 1) params) vs) other j)

no_params : (vs : List Value) → parameters [] vs ≡ unset_names
no_params [] = refl
no_params (v ∷ vs) = refl

no_values : (params : List Param) → parameters params [] ≡ unset_names
no_values [] = refl
no_values (param ∷ params) = refl

pub params_end : (params : List Param) (i : ℕ) (es : List Entry) (vs : List Value) → length params ≤ i → held_then es (parameters (drop i params) vs) ≡ held_in es
params_end params i es vs h = ap (λ l. held_then es (parameters l vs)) (drop_end params i h) ∙ ap (held_then es) (no_params vs) ∙ (λ j other. then_none es other j)

pub values_end : (params : List Param) (es : List Entry) → held_then es (parameters params []) ≡ held_in es
values_end params es = ap (held_then es) (no_values params) ∙ (λ j other. then_none es other j)

-- what the names are after a parameter, by the values that are left
abbrev pub names_after : Param → List Param → List Entry → List Value → Names
names_after param rest es [] = held_then es unset_names
names_after param rest es (v ∷ vs) = held_then (es ++ (record { name = param.name; value = v }) ∷ []) (parameters rest vs)

step_by : (param : Param) (rest : List Param) (es : List Entry) (vs : List Value) → held_then es (parameters (param ∷ rest) vs) ≡ names_after param rest es vs
step_by param rest es [] = refl
step_by param rest es (v ∷ vs) = sym (λ j other. then_push es (record { name = param.name; value = v }) (parameters rest vs) other j)

pub param_step : (params : List Param) (i : ℕ) (x : Param) (es : List Entry) (vs : List Value) → i < length params → x ≡ get_or params i x
    → held_then es (parameters (drop i params) vs) ≡ names_after x (drop (i + 1) params) es vs
param_step params i x es vs h e = ap (λ l. held_then es (parameters l vs)) (drop_next params i x h e) ∙ step_by x (drop (i + 1) params) es vs
