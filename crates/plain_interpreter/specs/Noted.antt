-- The notes of the parts of expressions and statements, and what the interpreter's notes stand for.
use Rattle.std.specs.Prelude.{List, ◌++◌, map}
use Rattle.source_trees.specs.declared.expression.Comparison.{Comparison, out-Comparison}
use Rattle.source_trees.specs.declared.statement.Arm.{Arm, out-Arm}
use Rattle.source_trees.specs.declared.statement.For.{For, out-For}
use Rattle.source_trees.specs.Names.{loop_names}
use Rattle.meaning_rules.specs.Mentions as mentions
use Rattle.meaning_rules.specs.Mentions.{but_of, notes_of_expr, notes_of_loop_names, notes_of_body}
use Rattle.plain_interpreter.specs.declared.mentions.Note.{Note}
use Rattle.plain_interpreter.specs.declared.mentions.Note.TheVariants as note

abbrev pub notes_of_comparison : Comparison → List mentions.Note
notes_of_comparison k = notes_of_expr (out-Comparison k).right

abbrev pub notes_of_arm : Arm → List mentions.Note
notes_of_arm arm = notes_of_expr (out-Arm arm).condition ++ notes_of_body (out-Arm arm).body

abbrev pub notes_of_for : For → List mentions.Note
notes_of_for l = notes_of_loop_names (out-For l).names ++ notes_of_expr (out-For l).iterable ++ notes_of_body (out-For l).body

-- a parallel loop, whose names are its own
abbrev pub notes_in_parallel : For → List mentions.Note
notes_in_parallel l = notes_of_expr (out-For l).iterable ++ but_of (loop_names (out-For l).names) (notes_of_body (out-For l).body)

abbrev pub note_of : Note → mentions.Note
note_of (note.Mentions name) = mentions.Mentions name.now
note_of (note.Calls name) = mentions.Calls name.now
note_of (note.CallsMethod name) = mentions.CallsMethod name.now
note_of (note.WritesPlace name) = mentions.WritesPlace name.now

abbrev pub noted : List Note → List mentions.Note
noted = map note_of
