-- Stages in which a region may begin, and stages one by one.
use Rattle.std.proofs.Common.{◌≡◌, ◌<◌, ℕ, ◌+◌, List, [], ◌∷◌, length, drop, get_or, Option, Some, None, refl, ap, ◌∙◌, arith}
use Rattle.std.proofs.lemmas.List.{length-drop}
use Rattle.codon_base.specs.declared.value.Value.{Value}
use Rattle.source_trees.specs.declared.pipeline.Stage.{Stage}
use Rattle.meaning_rules.specs.State.{State, Flow}
use Rattle.meaning_rules.specs.Outcome.{Run, ◌>>=◌}
use Rattle.meaning_rules.specs.Mentions.{notes_of_stages}
use Rattle.meaning_rules.specs.Captures.{begin}
use Rattle.meaning_rules.specs.Program.{Scope}
use Rattle.meaning_rules.specs.Task.{Region, Consumer, Setting}
use Rattle.meaning_rules.specs.Pipelines.{ahead_of, joined, perform, through}
use Rattle.plain_interpreter.proofs.Rest.{drop_next}

module _ (here : Setting) (consumers : List Consumer) (scope : Scope) where
  module _ (run : Option Region → Run Flow) where
    abbrev begun : List Stage → Run Flow
    begun stages = begin here.program scope [] (notes_of_stages stages) [] >>= λ region. here.rules.region region (run (Some region))

    ahead_more : (stages : List Stage) → 0 < length stages → ahead_of here consumers scope stages run ≡ begun stages
    ahead_more [] h = absurd (omega arith)
    ahead_more (stage ∷ more) h = refl

    pub ahead_some : (stages parts : List Stage) (place : ℕ) (s : State) → place < length stages → parts ≡ drop place stages → ahead_of here consumers scope parts run s ≡ begun (drop place stages) s
    ahead_some stages parts place s h e =
        let many = length-drop place stages in
        let some : 0 < length (drop place stages) = omega (arith, many) in
        ap (λ l. ahead_of here consumers scope l run s) e ∙ ap (λ (r : Run Flow). r s) (ahead_more (drop place stages) some)

    pub ahead_none : (parts : List Stage) (s : State) → parts ≡ [] → ahead_of here consumers scope parts run s ≡ run None s
    ahead_none parts s e = ap (λ l. ahead_of here consumers scope l run s) e

  pub through_next : (region : Option Region) (stages : List Stage) (i : ℕ) (x : Stage) (v : Value) (s : State) → i < length stages → x ≡ get_or stages i x
      → through here consumers scope region (drop i stages) v s ≡ joined here consumers scope x.joint region (drop (i + 1) stages) (λ r. perform here consumers scope x.form r (drop (i + 1) stages) (through here consumers scope r (drop (i + 1) stages)) v) v s
  through_next region stages i x v s h e = ap (λ l. through here consumers scope region l v s) (drop_next stages i x h e)
