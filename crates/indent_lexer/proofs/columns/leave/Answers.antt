use Rattle.std.proofs.Common.{◌≡◌, ◌<◌, length, drop, arith, ap, ◌∙◌, sym}
use Rattle.indent_lexer.specs.Indentation.{innermost, left_by}
use Rattle.indent_lexer.proofs.Leaving.{left_by_next, length_next, drop_next}
use Rattle.indent_lexer.proofs.columns.leave.Goals as goal

pub overflow_add-count : goal.overflow_add-count
overflow_add-count c =
    let h : c.args.column < innermost c.columns.columns = omega arith in
    let l = length_next c.args.column c.columns.columns h in
    omega arith

pub columns-preserved : goal.columns-preserved
columns-preserved c =
    let cs = c.columns.columns in
    let h : c.args.column < innermost cs = omega arith in
    let a = left_by_next c.args.column cs h in
    let l = length_next c.args.column cs h in
    let d = drop_next c.args.column cs h in
    let e : c.pop.new.self ≡ drop 1 cs = c.pop.ensures in
    record {
      counted = let i = c.columns.invariant.counted in let m = ap (left_by c.args.column) e in omega arith;
      left = c.columns.invariant.left ∙ d ∙ sym (ap (λ z. drop (left_by c.args.column z) z) e);
      passed = let i = c.columns.invariant.passed in let m = ap length e in omega arith;
    }
