use Rattle.std.proofs.Common.{◌≡◌, ℕ, ◌-◌, ◌<◌, ◌≤◌, length, drop, length-drop, subst, arith}
use Rattle.parse_laws.specs.Place.{IsFirstBad}
use Rattle.parse_laws.proofs.Whole.{first_bad}
use Rattle.parse_laws.proofs.place.bad_token.Goals as goal

pub returns-clause-first : goal.returns-clause-first
returns-clause-first g c =
    let ts = c.args.tokens.now in
    let r = drop (length ts - c.args.left) ts in
    let n : length r ≡ length ts - (length ts - c.args.left) = length-drop (length ts - c.args.left) ts in
    let fits : c.args.left ≤ length ts = c.requires.fits in
    let some : 0 < c.args.left = c.requires.some in
    let e : length r ≡ c.args.left = omega arith in
    let P : ℕ → Type 0 = λ z. IsFirstBad g.G.Grammar.spells g.G.Grammar.spells_within c.args.cause ts (length ts - z) in
    subst P e (first_bad g.G.Grammar.spells g.G.Grammar.spells_within c.requires.nonempty ts c.args.cause r (omega arith) c.requires.refused)
