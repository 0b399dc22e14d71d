use Rattle.std.proofs.Common.{◌≡◌, ◌≤◌, ◌<◌}
use Rattle.indent_lexer.specs.Name.{first_code, code_after}
use Rattle.indent_lexer.proofs.name.first_code.Given as goal

abbrev pub invariant-bytes : goal.invariant-bytes
invariant-bytes l = record {
  code : code_after l.left l.code l.rest ≡ first_code l.text;
  few : l.left ≤ 3;
  three : 3 ≤ l.left → l.code < 256;
  two : 2 ≤ l.left → l.code < 32768;
  one : 1 ≤ l.left → l.code < 4194304;
}

abbrev pub decreases-bytes : goal.decreases-bytes
decreases-bytes l = l.left
