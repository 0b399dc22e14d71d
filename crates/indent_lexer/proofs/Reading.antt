-- What is read of a text piece by piece is read of the whole: each step hands on that the tokens after it
-- complete those before it, and that a refusal after it is the whole text's.
use Rattle.std.proofs.Common.{◌≡◌, ℕ, ◌<◌, List, [], ◌∷◌, ◌++◌, drop, length, sym, ◌∙◌, ap, subst, arith, append_assoc}
use Rattle.codon_base.specs.declared.source.Span.{Span}
use Rattle.indent_lexer.specs.declared.token.Token.{Token}
use Rattle.indent_lexer.specs.declared.token.LexKind.{LexKind}
use Rattle.indent_lexer.specs.declared.piece.Piece.{Piece}
use Rattle.indent_lexer.specs.declared.line.Line.{Line}
use Rattle.indent_lexer.specs.declared.lexer.State.{State}
use Rattle.indent_lexer.specs.declared.fault.Fault.{Fault}
use Rattle.indent_lexer.specs.declared.fault.Fault.TheVariants as fault
use Rattle.indent_lexer.specs.Piece.{piece_of}
use Rattle.indent_lexer.specs.Tokens.{Goes, Lexes, ends, goes, Fails, here, later, next, at_end, by_piece, passed, GoesOn, EndsWith, IsStopOf, IsFaultOf, first_state, mark_len}

pub next_of : (s : State) (text : List ℕ) (p : Piece) → 0 < length text → p ≡ piece_of text → next s text ≡ by_piece s text p
next_of s [] p h e = absurd (omega arith)
next_of s (c ∷ cs) p h e = ap (by_piece s (c ∷ cs)) (sym e)

pub goes_passed : (s s' : State) (text : List ℕ) (n len : ℕ) (line line' : Line) → line' ≡ line → s' ≡ passed s text n line' → len ≡ n → let out : List Token = [] in Goes out (passed s text n line) n ≡ Goes out s' len
goes_passed s s' text n len line line' l e f = let g = ap (passed s text n) l in cc

pub reads_on : (w : State) (b : List ℕ) (s s' : State) (text rest : List ℕ) (old new : List Token) (len : ℕ)
    → ((more : List Token) → Lexes s text more → Lexes w b (old ++ more)) → GoesOn (next s text) s' old new len → rest ≡ drop len text
    → (more : List Token) → Lexes s' rest more → Lexes w b (new ++ more)
reads_on w b s s' text rest old new len all g r more l =
    let P : List ℕ → Type 0 = λ z. Lexes s' z more in
    let Q : List Token → Type 0 = λ z. Lexes w b z in
    let i = all (g.0 ++ more) (goes s text g.0 s' len more g.1 (subst P r l)) in
    subst Q (sym (append_assoc old g.0 more) ∙ ap (λ z. z ++ more) (sym g.2)) i

pub fails_on : (w : State) (b : List ℕ) (s s' : State) (text rest : List ℕ) (old new : List Token) (len : ℕ)
    → ((k : LexKind) (at : Span) → Fails s text k at → Fails w b k at) → GoesOn (next s text) s' old new len → rest ≡ drop len text
    → (k : LexKind) (at : Span) → Fails s' rest k at → Fails w b k at
fails_on w b s s' text rest old new len all g r k at f =
    let P : List ℕ → Type 0 = λ z. Fails s' z k at in
    all k at (later s text g.0 s' len k at g.1 (subst P r f))

pub ends_on : (w : State) (b : List ℕ) (s : State) (text : List ℕ) (old new : List Token)
    → ((more : List Token) → Lexes s text more → Lexes w b (old ++ more)) → length text ≡ 0 → EndsWith (at_end s) old new → Lexes w b new
ends_on w b s [] old new all h g =
    let Q : List Token → Type 0 = λ z. Lexes w b z in
    subst Q (sym g.2) (all g.0 (ends s [] g.0 g.1))
ends_on w b s (c ∷ cs) old new all h g = absurd (omega arith)

pub stops_on : (b : List ℕ) (s : State) (text : List ℕ) → ((k : LexKind) (at : Span) → Fails s text k at → Fails (first_state b) (drop (mark_len b) b) k at) → (f : Fault) → IsStopOf (next s text) f → IsFaultOf b f
stops_on b s text all (fault.Refused r) e = all r.kind r.at (here s text r.kind r.at e)
stops_on b s text all fault.Memory e = tt

pub stops_at_end : (b : List ℕ) (s : State) (text : List ℕ) → ((k : LexKind) (at : Span) → Fails s text k at → Fails (first_state b) (drop (mark_len b) b) k at) → length text ≡ 0 → (f : Fault) → IsStopOf (at_end s) f → IsFaultOf b f
stops_at_end b s [] all h f e = stops_on b s [] all f e
stops_at_end b s (c ∷ cs) all h f e = absurd (omega arith)
