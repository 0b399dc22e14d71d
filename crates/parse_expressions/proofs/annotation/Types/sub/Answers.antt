use Rattle.parse_expressions.proofs.annotation.Types.sub.Goals as goal

pub returns : goal.returns
returns g c = c.requires.reads _ _ _ _ c.sub.ensures
