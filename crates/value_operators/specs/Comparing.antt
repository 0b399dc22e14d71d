-- The items of two lists or tuples of one length, compared where they may be entered.
use Rattle.std.specs.Prelude.{ℕ, zero, suc, Bool, List}
use Rattle.codon_base.specs.declared.value.Ref.{Ref}
use Rattle.codon_base.specs.declared.value.Value.{Value}
use Rattle.codon_base.specs.Walks.{Walk, end_by, too_large, Seen}
use Rattle.codon_base.specs.Compared.{equal, all_equal}

-- `room` more lists and tuples may be entered one inside the other, these two counted
abbrev pub items_equal : (Ref → Seen) → ℕ → List Value → List Value → Walk Bool
items_equal look zero vs ws = end_by too_large
items_equal look (suc room) vs ws = all_equal (equal look room) vs ws
