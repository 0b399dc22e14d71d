use Rattle.std.proofs.Common.{◌≡◌, ◌+◌, drop, length}
use Rattle.indent_lexer.specs.Indentation.{left_by}
use Rattle.indent_lexer.proofs.columns.leave.Given as goal

abbrev pub invariant-columns : goal.invariant-columns
invariant-columns l = record {
  counted : left_by l.column l.fn.columns ≡ l.count + left_by l.column l.columns;
  left : drop (left_by l.column l.fn.columns) l.fn.columns ≡ drop (left_by l.column l.columns) l.columns;
  passed : l.count + length l.columns ≡ length l.fn.columns;
}

abbrev pub decreases-columns : goal.decreases-columns
decreases-columns l = length l.columns
