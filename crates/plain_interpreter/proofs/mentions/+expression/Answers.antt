use Rattle.plain_interpreter.proofs.ThreeNotes.{comprehension_noted, slice_noted}
use Rattle.plain_interpreter.proofs.mentions.+expression.Goals as goal

pub note_expr-returns-in_ok-note_condition-in-Comprehension :
    goal.note_expr-returns-in_ok-note_condition-in-Comprehension
note_expr-returns-in_ok-note_condition-in-Comprehension t c =
    comprehension_noted _ _ _ _ _ _ _ _ _ _ _ _ c.in-Comprehension.is c.get-in-Comprehension.ensures c.get-in-Comprehension-2.ensures c.in_ok-note_own-in-Comprehension.ensures c.in_ok-note_expr-in-Comprehension.ensures c.in_ok-note_condition-in-Comprehension.ensures

pub note_expr-returns-in_ok-note_bound-in-Slice-2 : goal.note_expr-returns-in_ok-note_bound-in-Slice-2
note_expr-returns-in_ok-note_bound-in-Slice-2 t c =
    slice_noted _ _ _ _ _ _ _ _ _ _ c.in-Slice.is c.get-in-Slice.ensures c.in_ok-note_expr-in-Slice.ensures c.in_ok-note_bound-in-Slice.ensures c.in_ok-note_bound-in-Slice-2.ensures
