-- Nodes that have the next numbers, one after another.
use Rattle.std.proofs.Common.{◌≡◌, ℕ, suc, ◌+◌, List, [], ◌∷◌, ◌++◌, map, length, Option, Some, None, refl, ap, sym, ◌∙◌, subst, arith}
use Rattle.std.proofs.lemmas.List.{append-nil}
use Rattle.std.proofs.lemmas.Grind.{flat_map-append}
use Rattle.std.specs.List.{flat_map}
use Rattle.std.specs.Option.{option_map}
use Rattle.source_trees.specs.declared.node.Node.{Node}
use Rattle.source_trees.specs.declared.expression.Expr.{Expr}
use Rattle.source_trees.specs.declared.statement.Arm.{Arm}
use Rattle.source_trees.specs.Parts.{optional, of_arm}
use Rattle.source_trees.specs.Nodes.{AreNumberedFrom, joined, before_parts, nodes_of_expr, nodes_of_arm}
use Rattle.number_nodes.specs.Numbers.{Numbers, NumbersNode, nodes_of_optional_expr}

pub record Takes (first : ℕ) (nodes : List Node) (next : ℕ) : Type 0 where
  pub numbered : AreNumberedFrom first nodes
  pub next_is : next ≡ first + length nodes

pub takes : {A : Type 0} {bare_part : A → A} {nodes : A → List Node} {first : ℕ} {old new : A} {next : ℕ} → Numbers bare_part nodes first old new next → Takes first (nodes new) next
takes h = record { numbered = h.numbered; next_is = h.next_is }

pub numbers_by : {A : Type 0} {bare_part : A → A} {nodes : A → List Node} {first : ℕ} {old new : A} {next : ℕ}
    → bare_part new ≡ bare_part old → Takes first (nodes new) next → Numbers bare_part nodes first old new next
numbers_by same h = record { same = same; numbered = h.numbered; next_is = h.next_is }

-- a part that was taken out of its place, and put back
pub numbers_at : {A : Type 0} {bare_part : A → A} {nodes : A → List Node} {first : ℕ} {old new old' new' : A} {next : ℕ}
    → Numbers bare_part nodes first old new next → old ≡ old' → new' ≡ new → Numbers bare_part nodes first old' new' next
numbers_at {A} {bare_part} {nodes} {first} {old} {new} {old'} {new'} {next} h before after =
    let moved = subst (λ (part : A). Numbers bare_part nodes first part new next) before h in
    subst (λ (part : A). Numbers bare_part nodes first old' part next) (sym after) moved

pub takes_none : (first : ℕ) → Takes first [] first
takes_none first = record { numbered = refl; next_is = omega arith }

-- a node and those after it
takes_more : (first : ℕ) (n : Node) (nodes : List Node) (next : ℕ) → n.id.0 ≡ first → Takes (suc first) nodes next → Takes first (n ∷ nodes) next
takes_more first n nodes next is h = let e = h.numbered in record { numbered = cc; next_is = let f = h.next_is in omega arith }

pub takes_node : {first middle next : ℕ} {old new : Node} {nodes : List Node} → NumbersNode first old new middle → Takes middle nodes next → Takes first (new ∷ nodes) next
takes_node {first} {middle} {next} {old} {new} {nodes} is h =
    let step : middle ≡ suc first = omega (arith, is.next_is) in
    takes_more first new nodes next is.number (subst (λ (m : ℕ). Takes m nodes next) step h)

both : (first : ℕ) (xs : List Node) (middle : ℕ) (ys : List Node) (next : ℕ) → Takes first xs middle → Takes middle ys next → Takes first (xs ++ ys) next
both first [] middle ys next before after =
    let none : middle ≡ first = omega (arith, before.next_is) in
    subst (λ (m : ℕ). Takes m ys next) none after
both first (x ∷ xs) middle ys next before after =
    let e = before.numbered in
    let is : x.id.0 ≡ first = cc in
    let rest : AreNumberedFrom (suc first) xs = cc in
    let more : Takes (suc first) xs middle = record { numbered = rest; next_is = omega (arith, before.next_is) } in
    takes_more first x (xs ++ ys) next is (both (suc first) xs middle ys next more after)

pub takes_both : {first middle next : ℕ} {xs ys : List Node} → Takes first xs middle → Takes middle ys next → Takes first (xs ++ ys) next
takes_both {first} {middle} {next} {xs} {ys} before after = both first xs middle ys next before after

pub takes_same : {first next : ℕ} {xs ys : List Node} → Takes first xs next → ys ≡ xs → Takes first ys next
takes_same {first} {next} h e = subst (λ (nodes : List Node). Takes first nodes next) (sym e) h

-- the last part of a node
pub takes_last : {first next : ℕ} {xs : List Node} → Takes first xs next → Takes first (xs ++ []) next
takes_last {first} {next} {xs} h = takes_same h (append-nil xs)

-- two lists of parts
pub takes_parts : {first middle next : ℕ} (these those : List (List Node)) → Takes first (joined these) middle → Takes middle (joined those) next → Takes first (joined (these ++ those)) next
takes_parts these those before after = takes_same (takes_both before after) (flat_map-append (λ nodes. nodes) these those)

-- a part that may be absent, as the forms of expressions have it
pub takes_option : {first next : ℕ} (expr : Option Expr) → Takes first (nodes_of_optional_expr expr) next → Takes first (joined (optional (option_map nodes_of_expr expr))) next
takes_option None h = h
takes_option (Some e) h = h

joined_arms : (arms : List Arm) → joined (flat_map (λ arm. arm) (map (of_arm before_parts) arms)) ≡ joined (map nodes_of_arm arms)
joined_arms [] = refl
joined_arms (arm ∷ arms) =
    let front = of_arm before_parts arm in
    let more = flat_map (λ a. a) (map (of_arm before_parts) arms) in
    flat_map-append (λ nodes. nodes) front more ∙ ap (λ (nodes : List Node). joined front ++ nodes) (joined_arms arms)

-- the conditions and statements of arms, which are parts of the `if`
pub takes_arms : {first next : ℕ} (arms : List Arm) → Takes first (joined (map nodes_of_arm arms)) next → Takes first (joined (flat_map (λ arm. arm) (map (of_arm before_parts) arms))) next
takes_arms arms h = takes_same h (joined_arms arms)
