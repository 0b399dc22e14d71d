use Rattle.std.proofs.Common.{w64}
use Rattle.std.proofs.lemmas.Int.{to_z-of_z}
use Rattle.codon_base.specs.Sequences.{place_of}
use Rattle.value_operators.proofs.Characters.{character_at}
use Rattle.value_operators.proofs.place.text_item.Goals as goal

pub returns-in_ok-character-in-Some : goal.returns-in_ok-character-in-Some
returns-in_ok-character-in-Some c = character_at c.args.text.now c.in-Some.place c.len.result (λ size. place_of size c.args.index) c.in_ok-character-in-Some.character c.len.ensures (rw (to_z-of_z w64 c.args.index c.ranges.index) at c.in-Some.ensures.value) c.in-Some.ensures.within c.in_ok-character-in-Some.ensures
