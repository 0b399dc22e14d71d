use Rattle.std.proofs.Common.{◌≡◌, ◌++◌, not}
use Rattle.std.specs.List.{filter}
use Rattle.meaning_rules.specs.State.{is_among}
use Rattle.plain_interpreter.proofs.names.parted.Given as goal

abbrev pub invariant-entries : goal.invariant-entries
invariant-entries l =
    (filter (λ entry. is_among entry.name l.own) l.fn.entries.items ≡ l.inside.items ++ filter (λ entry. is_among entry.name l.own) l.entry-iterator.rest.items)
    × (filter (λ entry. not (is_among entry.name l.own)) l.fn.entries.items ≡ l.outside.items ++ filter (λ entry. not (is_among entry.name l.own)) l.entry-iterator.rest.items)
