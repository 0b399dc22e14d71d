use Rattle.std.proofs.Common.{◌≡◌, ℕ, suc, ◌<◌, true, List, [], ◌∷◌, nat_lt, ◌&&◌, slice_index, refl, ap, ◌∙◌}
use Rattle.std.proofs.lemmas.Bool.{lt-ltb}
use Rattle.std.specs.List.{list_all}
use Rattle.codon_base.proofs.show.Printer.push_number.Goals as goal

-- each byte passes the test, where each index reads one below 128
all_pass : (bytes : List ℕ) → ((i : ℕ) → slice_index bytes i < 128) → list_all (λ b. nat_lt b 128) bytes ≡ true
all_pass [] h = refl
all_pass (b ∷ bs) h = ap (λ t. t && list_all (λ b. nat_lt b 128) bs) (lt-ltb b 128 (h 0)) ∙ all_pass bs (λ i. h (suc i))

pub push-requires : goal.push-requires
push-requires c = rw c.as_bytes.ensures.value (all_pass c.format.result.now c.format.ensures.ascii)
