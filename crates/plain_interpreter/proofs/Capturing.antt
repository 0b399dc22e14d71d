-- Names that are captured in order: what a loop over them does from a place on.
use Rattle.std.proofs.Common.{◌≡◌, ℕ, Bool, if◌then◌else◌, ◌+◌, ◌<◌, ◌≤◌, List, [], ◌∷◌, ◌++◌, length, get_or, drop, refl, sym, ap, ◌∙◌, append_assoc, append-nil}
use Rattle.codon_base.specs.declared.value.Value.{Value}
use Rattle.meaning_rules.specs.State.{Spelling, State}
use Rattle.meaning_rules.specs.Outcome.{Outcome, Gives, Stops, Run, and_then, bind, pure, look, ◌>>=◌}
use Rattle.meaning_rules.specs.Program.{Program, Scope}
use Rattle.plain_interpreter.specs.Lists.{named}
use Rattle.std.specs.List.{filter}
use Rattle.source_trees.specs.declared.statement.LoopNames.{LoopNames}
use Rattle.source_trees.specs.declared.statement.Stmt.{Stmt}
use Rattle.meaning_rules.specs.Mentions.{Note, mentioned, notes_of_body, written_places}
use Rattle.meaning_rules.specs.Task.{Region}
use Rattle.meaning_rules.specs.Captures.{Captured, capture, each_new, each_once, outer_names, module_names, outside, private_names, region_of, begin, begin_loop}
use Rattle.plain_interpreter.proofs.Rest.{after, drop_next, drop_end}

abbrev pub holding : Spelling → Value → Captured
holding name v = record { name = name; value = v }

one_more : (done : List Captured) (c : Captured) (o : Outcome (List Captured)) → after done (and_then o (λ more s. Gives (c ∷ more) s)) ≡ after (done ++ c ∷ []) o
one_more done c (Gives more s) = ap (λ l. Gives l s) (sym (append_assoc done (c ∷ []) more))
one_more done c (Stops why s) = refl

each_more : (done : List Captured) (name : Spelling) (o : Outcome Value) (rest : Run (List Captured)) → after done (and_then o (λ v s. and_then (rest s) (λ more t. Gives (holding name v ∷ more) t))) ≡ and_then o (λ v s. after (done ++ holding name v ∷ []) (rest s))
each_more done name (Gives v s) rest = one_more done (holding name v) (rest s)
each_more done name (Stops why s) rest = refl

none_yet : (o : Outcome (List Captured)) → o ≡ after [] o
none_yet (Gives more s) = refl
none_yet (Stops why s) = refl

module _ (program : Program) (scope : Scope) where
  pub capture_begin : (names : List Spelling) (s : State) → capture program scope names s ≡ after [] (capture program scope names s)
  capture_begin names s = none_yet (capture program scope names s)

  pub capture_next : (done : List Captured) (names : List Spelling) (i : ℕ) (name : Spelling) (s : State) → i < length names → name ≡ get_or names i name
      → after done (capture program scope (drop i names) s) ≡ and_then (named scope name s) (λ v t. after (done ++ holding name v ∷ []) (capture program scope (drop (i + 1) names) t))
  unfolding bind pure
  capture_next done names i name s h e = ap (λ l. after done (capture program scope l s)) (drop_next names i name h e) ∙ each_more done name (named scope name s) (capture program scope (drop (i + 1) names))

  pub capture_end : (done : List Captured) (names : List Spelling) (i : ℕ) (s : State) → length names ≤ i → after done (capture program scope (drop i names) s) ≡ Gives done s
  unfolding bind pure
  capture_end done names i s h = ap (λ l. after done (capture program scope l s)) (drop_end names i h) ∙ ap (λ l. Gives l s) (append-nil done)

  pub capture_goes : (done : List Captured) (names : List Spelling) (i : ℕ) (name : Spelling) (v : Value) (s t : State) → i < length names → name ≡ get_or names i name → named scope name s ≡ Gives v t
      → after done (capture program scope (drop i names) s) ≡ after (done ++ holding name v ∷ []) (capture program scope (drop (i + 1) names) t)
  capture_goes done names i name v s t h e f = capture_next done names i name s h e ∙ ap (λ o. and_then o (λ w u. after (done ++ holding name w ∷ []) (capture program scope (drop (i + 1) names) u))) f

  -- ---- regions

  pub begin_is : (own : List Spelling) (notes : List Note) (lent names more : List Spelling) (outer others : List Captured) (region : Region) (s t u : State)
      → names ≡ outer_names program scope own notes → capture program scope names s ≡ Gives outer t → more ≡ module_names program scope names notes → capture program (outside scope) more t ≡ Gives others u → region ≡ region_of scope own lent u.shared.levels outer others
      → begin program scope own notes lent s ≡ Gives region u
  unfolding bind look
  begin_is own notes lent names more outer others region s t u a b d e f =
      ap (λ (l : List Spelling). (capture program scope l >>= λ xs. capture program (outside scope) (module_names program scope l notes) >>= λ ys. look (λ w. region_of scope own lent w.shared.levels xs ys)) s) (sym a)
      ∙ ap (λ o. and_then o (λ xs v. and_then (capture program (outside scope) (module_names program scope names notes) v) (λ ys w. Gives (region_of scope own lent w.shared.levels xs ys) w))) b
      ∙ ap (λ (l : List Spelling). and_then (capture program (outside scope) l t) (λ ys w. Gives (region_of scope own lent w.shared.levels outer ys) w)) (sym d)
      ∙ ap (λ o. and_then o (λ ys w. Gives (region_of scope own lent w.shared.levels outer ys) w)) e
      ∙ ap (λ r. Gives r u) (sym f)

  pub begin_loop_is : (names : LoopNames) (over_range : Bool) (body : List Stmt) (own : List Spelling) (notes : List Note) (lent : List Spelling) (s : State)
      → own ≡ private_names scope names body → notes ≡ notes_of_body body → lent ≡ (if over_range then written_places (notes_of_body body) else [])
      → begin program scope own notes lent s ≡ begin_loop program scope names over_range body s
  begin_loop_is names over_range body own notes lent s a b d =
      ap (λ (l : List Spelling). begin program scope l notes lent s) a
      ∙ ap (λ (l : List Note). begin program scope (private_names scope names body) l lent s) b
      ∙ ap (λ (l : List Spelling). begin program scope (private_names scope names body) (notes_of_body body) l s) d

-- names that were none before are those, each once
pub named_once : (p : Spelling → Bool) (names before : List Spelling) (notes wanted : List Note) → names ≡ before ++ each_new before (filter p (mentioned notes)) → before ≡ [] → notes ≡ wanted → names ≡ each_once (filter p (mentioned wanted))
named_once p names before notes wanted e f g = e ∙ ap (λ l. l ++ each_new l (filter p (mentioned notes))) f ∙ ap (λ n. each_new [] (filter p (mentioned n))) g
