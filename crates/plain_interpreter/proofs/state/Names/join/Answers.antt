use Rattle.std.proofs.Common.{◌++◌, ◌∙◌, ap, not}
use Rattle.std.specs.List.{filter}
use Rattle.meaning_rules.specs.State.{is_among}
use Rattle.plain_interpreter.specs.Seen.{names_of, held_in}
use Rattle.plain_interpreter.proofs.Private.{joined_held}
use Rattle.plain_interpreter.proofs.state.Names.join.Goals as goal

pub returns : goal.returns
unfolding names_of
returns c =
    let own = c.args.own.now in
    let taken = c.args.taken.entries.items in
    ap held_in (c.in_ok-append.ensures.items ∙ (λ i. c.in_ok-all.ensures.1 i ++ c.in_ok-inside.ensures.0 i) ∙ ap (λ v. filter (λ entry. not (is_among entry.name own)) v.items ++ filter (λ entry. is_among entry.name own) taken) c.replace-entries.ensures.value)
    ∙ (λ i name. joined_held (λ n. is_among n own) c.args.self.now.entries.items taken name i)
