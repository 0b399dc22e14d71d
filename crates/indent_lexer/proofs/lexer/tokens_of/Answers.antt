use Rattle.std.proofs.Common.{◌≡◌, ℕ, ◌-◌, length, drop, subst, rules, arith}
use Rattle.indent_lexer.specs.Tokens.{IsState, first_state, mark_len}
use Rattle.indent_lexer.proofs.Reading.{reads_on, fails_on, ends_on, stops_on, stops_at_end}
use Rattle.indent_lexer.proofs.lexer.tokens_of.Goals as goal

pub pieces-preserved : goal.pieces-preserved
pieces-preserved c =
    let b = c.args.bytes.now in
    record {
      reads = reads_on (first_state b) (drop (mark_len b) b) c.pieces.state c.step.new.state c.pieces.rest.now c.after-rest-in-Ok.result.now c.pieces.tokens c.step.new.tokens c.in-Ok.len c.pieces.invariant.reads c.in-Ok.ensures.goes c.after-rest-in-Ok.ensures.value;
      fails = fails_on (first_state b) (drop (mark_len b) b) c.pieces.state c.step.new.state c.pieces.rest.now c.after-rest-in-Ok.result.now c.pieces.tokens c.step.new.tokens c.in-Ok.len c.pieces.invariant.fails c.in-Ok.ensures.goes c.after-rest-in-Ok.ensures.value;
      state =
          let P : ℕ → Type 0 = λ z. IsState c.step.new.state z in
          let e : length c.pieces.rest.now - c.in-Ok.len ≡ length c.after-rest-in-Ok.result.now = omega arith in
          subst P e c.in-Ok.ensures.state;
    }

pub returns-in-Err-clause-refusal : goal.returns-in-Err-clause-refusal
returns-in-Err-clause-refusal c = stops_on c.args.bytes.now c.pieces.state c.pieces.rest.now c.pieces.invariant.fails c.in-Err.fault c.in-Err.ensures.stops

pub returns-in-Ok-finish-clause-tokens : goal.returns-in-Ok-finish-clause-tokens
returns-in-Ok-finish-clause-tokens c =
    let b = c.args.bytes.now in
    ends_on (first_state b) (drop (mark_len b) b) c.pieces.state c.pieces.rest.now c.pieces.tokens c.finish.new.tokens c.pieces.invariant.reads (search rules) c.in-Ok-finish.ensures.ends

pub returns-clause-refusal : goal.returns-clause-refusal
returns-clause-refusal c = stops_at_end c.args.bytes.now c.pieces.state c.pieces.rest.now c.pieces.invariant.fails (search rules) c.in-Err-finish.fault c.in-Err-finish.ensures.stops
