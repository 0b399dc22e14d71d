-- Parallel iterations in place, and which uses of objects they may make. The meaning of a source is sequential: the body of each item runs at once, in the order of the items.
use Rattle.std.specs.Prelude.{ℕ, Bool, true, false, ◌&&◌, if◌then◌else◌, ◌==◌, List, drop, Option, Some, None, pos, codes}
use Rattle.std.specs.List.{list_any, list_all, filter}
use Rattle.codon_base.specs.declared.fault.Fault.{Fault}
use Rattle.codon_base.specs.declared.fault.FaultKind.TheVariants as kind
use Rattle.codon_base.specs.declared.value.Ref.{Ref}
use Rattle.codon_base.specs.declared.value.Value.{Value, Value-F, out-Value}
use Rattle.codon_base.specs.Compared.{int_equal}
use Rattle.meaning_rules.specs.State.{Iteration, Flow}
use Rattle.meaning_rules.specs.Outcome.{Run, ◌>>=◌, in_iteration, counting, item_reached}
use Rattle.meaning_rules.specs.Task.{Region, Access, Place, Whole, Field, Rules}

abbrev pub same_ref : Ref → Ref → Bool
same_ref a b = a.level == b.level && a.place == b.place

abbrev pub is_in : Ref → List Ref → Bool
is_in at = list_any (same_ref at)

-- the iterations whose regions lend a list
abbrev pub lenders : Ref → List Iteration → List Iteration
lenders at = filter (λ iteration. is_in at iteration.lent)

abbrev pub is_lent : List Iteration → Ref → Bool
is_lent iterations at = list_any (λ iteration. is_in at iteration.lent) iterations

abbrev pub is_number : ℕ → Value-F Value → Bool
is_number n (Value-F.Int z) = int_equal z (pos n)
is_number n _ = false

abbrev pub unless : Bool → Fault → Option Fault
unless true fault = None
unless false fault = Some fault

abbrev pub other_place : Fault
other_place = record { kind = kind.ParallelConflict; text = codes "place of another iteration" }

abbrev pub not_captured : Fault
not_captured = record { kind = kind.ParallelConflict; text = codes "object is not captured" }

-- A list that open regions lend is used only at the place that the item of each of these iterations names, and never as a whole. A field of an instance from outside is written only where the instance is a target of every region between it and the iteration; the regions between are those that began when its level was there, so as many as its level counts are round it
abbrev pub judged : List Iteration → Access → Option Fault
judged iterations (Place at place) = unless (list_all (λ iteration. is_number place (out-Value iteration.item)) (lenders at iterations)) other_place
judged iterations (Whole at) = if is_lent iterations at then Some other_place else None
judged iterations (Field at place) = unless (list_all (λ iteration. is_in at iteration.targets) (drop at.level iterations)) not_captured

abbrev pub item_in_place : Region → Value → Run Flow → Run Flow
item_in_place region item body =
    item_reached >>= λ _. in_iteration (record { item = item; lent = region.lent; targets = region.targets }) region.own region.own_globals body

abbrev pub in_place : Rules
in_place = record { judge = judged; region = λ region run. counting run; item = item_in_place }
