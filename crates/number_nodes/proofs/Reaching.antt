-- The parts of a list that have their numbers, while those after them wait in turned order.
use Rattle.std.proofs.Common.{◌≡◌, ℕ, List, [], ◌∷◌, ◌++◌, map, reverse, refl, ap, sym, ◌∙◌, subst, append_assoc, arith}
use Rattle.std.proofs.lemmas.List.{append-nil, map-append, reverse-append, reverse-reverse}
use Rattle.source_trees.specs.declared.node.Node.{Node}
use Rattle.source_trees.specs.Nodes.{joined}
use Rattle.number_nodes.specs.Numbers.{Numbers, NumbersAll}
use Rattle.number_nodes.proofs.Taking.{takes, numbers_by, takes_both, takes_same}

module _ {A : Type 0} (bare_part : A → A) (nodes : A → List Node) where
  pub joined_more : (xs : List A) (x : A) → joined (map nodes (xs ++ x ∷ [])) ≡ joined (map nodes xs) ++ nodes x
  joined_more [] x = append-nil (nodes x)
  joined_more (y ∷ xs) x = ap (λ (more : List Node). nodes y ++ more) (joined_more xs x) ∙ sym (append_assoc (nodes y) (joined (map nodes xs)) (nodes x))

  pub same_more : (old new : List A) (x y : A) → map bare_part new ≡ map bare_part old → bare_part y ≡ bare_part x → map bare_part (new ++ y ∷ []) ≡ map bare_part (old ++ x ∷ [])
  same_more old new x y whole last =
      let new_is = map-append bare_part new (y ∷ []) in
      let old_is = map-append bare_part old (x ∷ []) in
      cc

  pub numbers_more : (first : ℕ) (old new : List A) (middle : ℕ) (x y : A) (next : ℕ) → NumbersAll bare_part nodes first old new middle → Numbers bare_part nodes middle x y next → NumbersAll bare_part nodes first (old ++ x ∷ []) (new ++ y ∷ []) next
  numbers_more first old new middle x y next whole last =
      numbers_by (same_more old new x y whole.same last.same) (takes_same (takes_both (takes whole) (takes last)) (joined_more new y))

  -- those in front have their numbers
  pub record Reaches (first : ℕ) (all rest new : List A) (next : ℕ) : Type 0 where
    pub front : List A
    pub whole : front ++ reverse rest ≡ all
    pub done : NumbersAll bare_part nodes first front new next

  pub reaches_start : (first : ℕ) (all rest : List A) → rest ≡ reverse all → Reaches first all rest [] first
  reaches_start first all rest is = record {
    front = [];
    whole = ap reverse is ∙ reverse-reverse all;
    done = record { same = refl; numbered = refl; next_is = omega arith };
  }

  pub reaches_more : {first : ℕ} {all rest new left pushed : List A} {middle next : ℕ} {x y : A}
      → Reaches first all rest new middle → rest ≡ left ++ x ∷ [] → Numbers bare_part nodes middle x y next → pushed ≡ new ++ y ∷ [] → Reaches first all left pushed next
  reaches_more {first} {all} {rest} {new} {left} {pushed} {middle} {next} {x} {y} so_far is last grown = record {
    front = so_far.front ++ x ∷ [];
    whole = append_assoc so_far.front (x ∷ []) (reverse left) ∙ (ap (λ (more : List A). so_far.front ++ more) (sym (ap reverse is ∙ reverse-append left (x ∷ []))) ∙ so_far.whole);
    done = subst (λ (ys : List A). NumbersAll bare_part nodes first (so_far.front ++ x ∷ []) ys next) (sym grown) (numbers_more first so_far.front new middle x y next so_far.done last);
  }

  pub reaches_end : (first : ℕ) (all rest new : List A) (next : ℕ) → Reaches first all rest new next → rest ≡ [] → NumbersAll bare_part nodes first all new next
  reaches_end first all rest new next so_far none =
      let whole : so_far.front ≡ all = sym (append-nil so_far.front) ∙ (ap (λ (left : List A). so_far.front ++ reverse left) (sym none) ∙ so_far.whole) in
      subst (λ (old : List A). NumbersAll bare_part nodes first old new next) whole so_far.done
