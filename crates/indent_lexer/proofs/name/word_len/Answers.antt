use Rattle.std.proofs.Common.{ap, ◌∙◌}
use Rattle.indent_lexer.specs.Name.{name_len}
use Rattle.indent_lexer.proofs.Runs.{word_len_is}
use Rattle.indent_lexer.proofs.name.word_len.Goals as goal

pub returns-clause-value : goal.returns-clause-value
returns-clause-value c =
    word_len_is c.args.text.now c.continuation_len.result c.min-size.result c.name_len.result c.in-len1-up.len_at_least c.continuation_len.ensures.value c.min-size.ensures (c.name_len.ensures.value ∙ ap (name_len 0) c.after.ensures.value)
