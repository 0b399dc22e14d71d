use Rattle.std.proofs.Common.{◌≡◌, ◌≢◌, ◌+◌, ℕ, List, Some, arith, rules, refl}
use Rattle.std.specs.Str.{bytes_eq}
use Rattle.std.proofs.lemmas.Map.Text.{text_keys, btree_map_updates_str}
use Rattle.straight_lines.specs.declared.names.Names.{Names}
use Rattle.straight_lines.specs.Names.{number_in}
use Rattle.straight_lines.proofs.Numbered.{numbers_next, other_stays}
use Rattle.straight_lines.proofs.names.Names.number_or_next.Goals as goal

pub returns : goal.returns
returns c =
    let new : Names = record { numbers = c.insert.new.self; count = c.in-Some-checked_add.next } in
    let own : number_in new c.args.name.now ≡ Some c.args.self.now.count = grind (arith, text_keys) in
    let others : (n : List ℕ) → n ≢ c.args.name.now → number_in new n ≡ number_in c.args.self.now n = λ n differs. other_stays (number_in c.args.self.now) c.as_slice.result.now c.args.name.now n (number_in new n) _ (bytes_eq c.as_slice.result.now n) c.as_slice.ensures refl (btree_map_updates_str c.as_slice.result.now c.args.self.now.numbers c.insert.new.self _ c.in_ok-insert.ensures.updates n) differs in
    let next : c.in-Some-checked_add.next ≡ c.args.self.now.count + 1 = search rules in
    numbers_next (number_in c.args.self.now) (number_in new) c.args.name.now c.args.self.now.count c.in-Some-checked_add.next next (own, others) c.requires
