use Rattle.std.proofs.Common.{◌≡◌, ◌∙◌, ◌++◌, ap, sym, ℕ, List}
use Rattle.meaning_rules.specs.Iterations.{in_place}
use Rattle.meaning_rules.specs.Outcome.{Gives, write}
use Rattle.plain_interpreter.specs.Pieces.{ends_of}
use Rattle.plain_interpreter.specs.Seen.{seen}
use Rattle.plain_interpreter.proofs.Pieces.{print_told}
use Rattle.plain_interpreter.proofs.printing.print.Goals as goal

pub returns : goal.returns
unfolding write seen
returns c =
    let grown : c.push_bytes.new.out ≡ c.joined.new.state.out ++ c.in_ok-piece.piece = cc (c.in_ok-push_bytes.ensures, c.as_bytes.ensures.value) in
    print_told in_place c.args.vs.now (ends_of c.args.ends) c.in_ok-between.between c.in_ok-last.last c.in_ok-piece.piece (seen c.args.state.now) (seen c.joined.new.state)
    (c.in_ok-between.ensures (seen c.args.state.now)) (c.in_ok-last.ensures (seen c.args.state.now)) c.in_ok-piece.ensures
    ∙ ap (λ (out : List ℕ). Gives tt (seen (record c.joined.new.state { out = out }))) (sym grown)
