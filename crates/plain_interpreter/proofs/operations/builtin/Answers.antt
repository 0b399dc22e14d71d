use Rattle.std.proofs.Common.{◌≡◌, ◌∙◌, ◌≤◌, ◌<◌, ap, sym, subst, List, [], ◌∷◌, length, get_or, arith}
use Rattle.codon_base.specs.declared.value.Value.{Value}
use Rattle.meaning_rules.specs.Operations as spec
use Rattle.plain_interpreter.specs.Callees.{builtin_of}
use Rattle.meaning_rules.specs.Iterations.{in_place}
use Rattle.plain_interpreter.specs.Seen.{seen, Tells}
use Rattle.plain_interpreter.proofs.operations.builtin.Goals as goal

two_items : {A : Type 0} (xs : List A) (v w : A) → 2 ≤ length xs → length xs < 3 → v ≡ get_or xs 0 v → w ≡ get_or xs 1 w → xs ≡ v ∷ w ∷ []
two_items [] v w least most e f = absurd (omega arith)
two_items (a ∷ []) v w least most e f = absurd (omega arith)
two_items (a ∷ b ∷ []) v w least most e f = ap (λ x. x ∷ b ∷ []) (sym e) ∙ ap (λ y. v ∷ y ∷ []) (sym f)
two_items (a ∷ b ∷ c ∷ more) v w least most e f = absurd (omega arith)

pub returns-in-len2 : goal.returns-in-len2
returns-in-len2 c =
    let two = two_items c.args.given.now c.v-item-then-given-lt3.result c.w-item.result c.in-len2.len_at_least c.in-len2.len_below c.v-item-then-given-lt3.is c.w-item.is in
    subst (λ (vs : List Value). Tells (spec.builtin in_place (builtin_of c.args.which) vs (seen c.args.state.now)) c.builtin_on_two.result c.builtin_on_two.new.state) (sym two) c.builtin_on_two.ensures
