use Rattle.std.proofs.Common.{rules, arith, ◌∷◌, ◌++◌, []}
use Rattle.std.proofs.lemmas.Grind.{common_steps}
use Rattle.parse_laws.specs.Parser.{repeat, within, pure, ◌>>=◌}
use Rattle.parse_expressions.specs.Reading.{read, several, compares, comparison, fits_more}
use Rattle.parse_expressions.proofs.Counting.{one_more, no_more}
use Rattle.parse_expressions.proofs.reader.Expressions.comparisons.Goals as goal

pub turn-init : goal.turn-init
unfolding several
turn-init g c = first_of (search rules, grind (arith, common_steps))

pub returns-then-not-compares : goal.returns-then-not-compares
unfolding repeat
returns-then-not-compares g c =
    let e = one_more (λ n. repeat (λ _. compares) (λ v. within (fits_more c.args.self.now.room (read c.args.self.now.room) v) (comparison c.args.self.now.room (read c.args.self.now.room) >>= λ y. pure (v.0, v.1 ++ y ∷ []))) n c.turn.beside c.turn.cursor) _ c.turn._turn c.turn-test.true c.turn.invariant in
    first_of (search rules, grind (arith, common_steps))

pub returns-in_err-beside : goal.returns-in_err-beside
unfolding repeat
returns-in_err-beside g c =
    let e = one_more (λ n. repeat (λ _. compares) (λ v. within (fits_more c.args.self.now.room (read c.args.self.now.room) v) (comparison c.args.self.now.room (read c.args.self.now.room) >>= λ y. pure (v.0, v.1 ++ y ∷ []))) n c.turn.beside c.turn.cursor) _ c.turn._turn c.turn-test.true c.turn.invariant in
    first_of (search rules, grind (arith, common_steps))

pub turn-preserved : goal.turn-preserved
unfolding repeat
turn-preserved g c =
    let e = one_more (λ n. repeat (λ _. compares) (λ v. within (fits_more c.args.self.now.room (read c.args.self.now.room) v) (comparison c.args.self.now.room (read c.args.self.now.room) >>= λ y. pure (v.0, v.1 ++ y ∷ []))) n c.turn.beside c.turn.cursor) _ c.turn._turn c.turn-test.true c.turn.invariant in
    first_of (search rules, grind (arith, common_steps))

pub returns : goal.returns
unfolding repeat
returns g c =
    let e = no_more (λ n. repeat (λ _. compares) (λ v. within (fits_more c.args.self.now.room (read c.args.self.now.room) v) (comparison c.args.self.now.room (read c.args.self.now.room) >>= λ y. pure (v.0, v.1 ++ y ∷ []))) n c.turn.beside c.turn.cursor) _ c.turn._turn c.turn-test.false c.turn.invariant in
    first_of (search rules, grind (arith, common_steps))
