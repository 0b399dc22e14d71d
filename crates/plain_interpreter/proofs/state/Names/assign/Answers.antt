use Rattle.std.proofs.Common.{◌≡◌, ◌∙◌, sym, ap, Some, None, get_or}
use Rattle.std.specs.List.{position, position_or_len}
use Rattle.std.specs.Cmp.Lexicographic.{bytes_decides}
use Rattle.std.proofs.Math.ListN.{set}
use Rattle.meaning_rules.specs.State.{same}
use Rattle.plain_interpreter.specs.Seen.{names_of, held_in}
use Rattle.plain_interpreter.specs.declared.state.Entry.{Entry}
use Rattle.plain_interpreter.proofs.Held.{held_set, held_push, position_some, position_none, position_passes}
use Rattle.plain_interpreter.proofs.state.Names.assign.Goals as goal

pub returns-in-Some : goal.returns-in-Some
unfolding names_of
returns-in-Some c =
    let items = c.args.self.now.entries.items in
    let name = c.args.name.now in
    let test : Entry → _ = λ e. same e.name name in
    let where_is : Some c.in-Some.place ≡ position test items = sym c.in-Some.is ∙ c.place_of.ensures.place ∙ ap (position test) c.deref.ensures.value in
    let there = position_some test items c.in-Some.place where_is in
    let new : Entry = record { name = c.index_mut.result.now.name; value = c.args.value } in
    let is_there : c.index_mut.result.now ≡ get_or items (position_or_len test items) c.index_mut.result.now = c.index_mut.ensures.value ∙ ap (λ n. get_or items n c.index_mut.result.now) there.0 in
    let named = ap test is_there ∙ position_passes test items c.index_mut.result.now there.1 in
    ap (λ n. held_in (set items n new)) there.0 ∙ (λ i other. held_set name new named items other there.1 i)

pub returns-in_ok-push-in-None : goal.returns-in_ok-push-in-None
unfolding names_of
returns-in_ok-push-in-None c =
    let items = c.args.self.now.entries.items in
    let name = c.args.name.now in
    let test : Entry → _ = λ e. same e.name name in
    let where_is : None ≡ position test items = sym c.in-None.is ∙ c.place_of.ensures.place ∙ ap (position test) c.deref.ensures.value in
    let new : Entry = record { name = c.in_ok-name-in-None.name; value = c.args.value } in
    let same_bytes : new.name ≡ name = c.in_ok-name-in-None.ensures ∙ c.as_slice.ensures in
    let named = (bytes_decides new.name name).1 same_bytes in
    ap held_in c.in_ok-push-in-None.ensures.items ∙ (λ i other. held_push name new named items other (position_none test items where_is) i)
