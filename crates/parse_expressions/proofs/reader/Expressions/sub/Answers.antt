use Rattle.parse_expressions.proofs.reader.Expressions.sub.Goals as goal

pub returns : goal.returns
returns g c = c.requires.reads _ _ _ _ _ c.sub.ensures
