use Rattle.std.proofs.Common.{◌≡◌, length}
use Rattle.std.specs.List.{list_any}
use Rattle.std.specs.Str.{bytes_eq}
use Rattle.indent_lexer.proofs.word.is_among.Given as goal

abbrev pub invariant-entries : goal.invariant-entries
invariant-entries l = list_any (λ w. bytes_eq l.spelling w.now) l.table ≡ list_any (λ w. bytes_eq l.spelling w.now) l.rest

abbrev pub decreases-entries : goal.decreases-entries
decreases-entries l = length l.rest
