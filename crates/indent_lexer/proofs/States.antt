-- Spaces, brackets and columns are at most as many as the bytes before a place.
use Rattle.std.proofs.Common.{◌≡◌, ℕ, ◌+◌, ◌-◌, ◌<◌, ◌≤◌, List, [], ◌∷◌, Bool, true, false, cond, nat_eq, length, refl, ap, arith}
use Rattle.std.proofs.lemmas.Bool.{lt-ltb}
use Rattle.codon_base.specs.declared.source.Span.{Span}
use Rattle.indent_lexer.specs.declared.token.TokenKind.{TokenKind}
use Rattle.indent_lexer.specs.declared.token.TokenKind.TheVariants.{Indent}
use Rattle.indent_lexer.specs.declared.line.Line.{Line}
use Rattle.indent_lexer.specs.declared.line.Line.TheVariants.{Lead, Within}
use Rattle.indent_lexer.specs.declared.lexer.State.{State}
use Rattle.indent_lexer.specs.Place.{IsPlace}
use Rattle.indent_lexer.specs.Indentation.{indentation, innermost}
use Rattle.indent_lexer.specs.Tokens.{passed, after_space, after_tab, after_line_end, depth_after, opens, closes, spaces_of, new_line, IsState, at_column, Stands}

pub passed_state : (s s' : State) (text : List ℕ) (len left : ℕ) (line : Line) → IsState s left → s' ≡ passed s text len line → IsPlace s'.at (left - len) → s'.at.start ≡ s.at.start + len → spaces_of line ≤ s.at.start + len → IsState s' (left - len)
passed_state s s' text len left line i e p a l = record {
  place = p;
  spaces = let f : spaces_of s'.line ≡ spaces_of line = ap (λ z. spaces_of z.line) e in omega arith;
  depth = let f : s'.depth ≡ s.depth = ap (λ z. z.depth) e in let d = i.depth in omega arith;
  columns = let f : length s'.columns ≡ length s.columns = ap (λ z. length z.columns) e in let d = i.columns in omega arith;
}

pub spaces_after_space : (l : Line) → spaces_of (after_space l) ≤ spaces_of l + 1
spaces_after_space (Lead k t) = omega arith
spaces_after_space Within = omega arith

pub spaces_after_tab : (l : Line) (at : Span) → spaces_of (after_tab l at) ≤ spaces_of l
spaces_after_tab (Lead k t) at = omega arith
spaces_after_tab Within at = omega arith

spaces_if : (b : Bool) → spaces_of (cond b new_line Within) ≡ 0
spaces_if true = refl
spaces_if false = refl

pub spaces_after_line_end : (l : Line) (depth : ℕ) → spaces_of (after_line_end l depth) ≡ 0
spaces_after_line_end (Lead k t) depth = refl
spaces_after_line_end Within depth = spaces_if (nat_eq depth 0)

depth_if : (a b : Bool) (d : ℕ) → cond a (d + 1) (cond b (d - 1) d) ≤ d + 1
depth_if true b d = omega arith
depth_if false true d = omega arith
depth_if false false d = omega arith

depth_grows : (k : TokenKind) (depth : ℕ) → depth_after k depth ≤ depth + 1
depth_grows k depth = depth_if (opens k) (closes k) depth

pub token_state : (s s' : State) (columns : List ℕ) (at raised : Span) (k : TokenKind) (len left : ℕ) → IsState s left → 0 < len → s' ≡ record { at = at; line = Within; columns = columns; depth = depth_after k s.depth; raised = raised } → length columns ≤ length s.columns + 1 → IsPlace s'.at (left - len) → s'.at.start ≡ s.at.start + len → IsState s' (left - len)
token_state s s' columns at raised k len left i z e c p a = record {
  place = p;
  spaces = let f : spaces_of s'.line ≡ 0 = ap (λ z. spaces_of z.line) e in omega arith;
  depth = let f : s'.depth ≡ depth_after k s.depth = ap (λ z. z.depth) e in let g = depth_grows k s.depth in let d = i.depth in omega arith;
  columns = let f : length s'.columns ≡ length columns = ap (λ z. length z.columns) e in let d = i.columns in omega arith;
}

pub indent_is : (spaces : ℕ) (columns columns' : List ℕ) (at : Span) → innermost columns < spaces → columns' ≡ spaces ∷ columns → at_column (indentation spaces columns) at ≡ Stands (Indent ∷ []) columns'
indent_is spaces columns columns' at h e = let f = lt-ltb (innermost columns) spaces h in rw (f, e) refl
