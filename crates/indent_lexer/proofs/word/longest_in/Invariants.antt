use Rattle.std.proofs.Common.{◌≡◌, ◌≤◌, length, map, max}
use Rattle.indent_lexer.specs.Word.{longest_in}
use Rattle.indent_lexer.proofs.word.longest_in.Given as goal

abbrev pub invariant-entries : goal.invariant-entries
invariant-entries l = record {
  longest : longest_in (map (λ w. w.now) l.table) l.text ≡ max l.longest (longest_in (map (λ w. w.now) l.rest) l.text);
  within : l.longest ≤ length l.text;
}

abbrev pub decreases-entries : goal.decreases-entries
decreases-entries l = length l.rest
