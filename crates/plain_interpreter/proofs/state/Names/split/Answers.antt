use Rattle.std.proofs.Common.{◌∙◌, ap, not}
use Rattle.std.specs.List.{filter}
use Rattle.meaning_rules.specs.State.{is_among}
use Rattle.plain_interpreter.specs.Seen.{names_of, held_in}
use Rattle.plain_interpreter.proofs.Private.{kept_held, others_held}
use Rattle.plain_interpreter.proofs.state.Names.split.Goals as goal

pub returns-clause-kept : goal.returns-clause-kept
unfolding names_of
returns-clause-kept c =
    let own = c.args.own.now in
    ap held_in (c.in_ok-inside.ensures.1 ∙ ap (λ v. filter (λ entry. not (is_among entry.name own)) v.items) c.replace-entries.ensures.value)
    ∙ (λ i name. others_held (λ n. is_among n own) c.args.self.now.entries.items name i)

pub returns-clause-taken : goal.returns-clause-taken
unfolding names_of
returns-clause-taken c =
    let own = c.args.own.now in
    ap held_in (c.in_ok-inside.ensures.0 ∙ ap (λ v. filter (λ entry. is_among entry.name own) v.items) c.replace-entries.ensures.value)
    ∙ (λ i name. kept_held (λ n. is_among n own) c.args.self.now.entries.items name i)
