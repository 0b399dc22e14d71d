-- The tokens of a source text end with the end of the text; so a source text has a tree or a refusal as its tokens have.
use Rattle.std.proofs.Common.{◌≡◌, ℕ, Bool, true, false, cond, nat_eq, List, [], ◌∷◌, ◌++◌, length, replicate, drop, refl, sym, ◌∙◌, ap, subst, append_assoc, ◌⊎◌, inl, inr}
use Rattle.codon_base.specs.declared.source.Span.{Span}
use Rattle.indent_lexer.specs.declared.lexer.State.{State}
use Rattle.indent_lexer.specs.declared.piece.Piece.{Piece}
use Rattle.indent_lexer.specs.declared.piece.Piece.TheVariants as piece
use Rattle.indent_lexer.specs.declared.token.LexKind.{LexKind}
use Rattle.indent_lexer.specs.declared.token.LexKind.TheVariants.{OpenBracket}
use Rattle.indent_lexer.specs.declared.token.Token.{Token}
use Rattle.indent_lexer.specs.declared.token.TokenKind.{TokenKind}
use Rattle.indent_lexer.specs.declared.token.TokenKind.TheVariants as kind
use Rattle.indent_lexer.specs.Piece.{piece_of}
use Rattle.indent_lexer.specs.Tokens.{Tokens, Ends, Stops, Head, Stands, Refused, head, with_token, with_fault, by_piece, last_newline, at_end, next, Lexes, ends, goes, marks}
use Rattle.indent_lexer.proofs.OneReading.{lists}
use Rattle.source_trees.specs.declared.item.Module.{Module}
use Rattle.grammar_rules.specs.Modules.{Tree, Source}
use Rattle.parse_statements.specs.Readers.{Readers, Exact}
use Rattle.parse_blocks.specs.Answers.{IsText, HoldsEnd, HasPlace, HasSource}
use Rattle.parse_blocks.proofs.Trees.{decided_tree, only_tree}

-- ---- the last tokens

abbrev end_at : Span → Token
end_at at = record { kind = kind.End; span = at; len = 0 }

marks_append : (at : Span) (a c : List TokenKind) → marks at (a ++ c) ≡ marks at a ++ marks at c
marks_append at [] c = refl
marks_append at (k ∷ a) c = ap (λ z. record { kind = k; span = at; len = 0 } ∷ z) (marks_append at a c)

some_end : (at : Span) (a c : List TokenKind) → IsText (marks at (a ++ (c ++ kind.End ∷ [])))
some_end at a c = (
  marks at (a ++ c),
  end_at at,
  ap (marks at) (sym (append_assoc a c (kind.End ∷ []))) ∙ marks_append at (a ++ c) (kind.End ∷ []),
  refl,
)

ends_same : (a c : List Token) → Ends a ≡ Ends c → a ≡ c
ends_same a c h = cc

at_end_text : (s : State) (out : List Token) → at_end s ≡ Ends out → IsText out
at_end_text s out h =
    let last = marks s.at (last_newline s.line ++ (replicate (length s.columns) kind.Dedent ++ kind.End ∷ [])) in
    let go : (x : Bool) → nat_eq s.depth 0 ≡ x → cond x (Ends last) (Stops OpenBracket s.raised) ≡ Ends out → IsText out = elim [
      | true ↦ λ e k. subst IsText (ends_same last out k) (some_end s.at (last_newline s.line) (replicate (length s.columns) kind.Dedent))
      | false ↦ λ e k. absurd (cc)
    ] in
    go (nat_eq s.depth 0) refl h

-- ---- no other piece ends a text

token_goes : (h : Head) (s : State) (text : List ℕ) (k : TokenKind) (len : ℕ) (out : List Token) → with_token h s text k len ≡ Ends out → ⊥
token_goes (Refused k at) s text token len out h = cc
token_goes (Stands kinds columns) s text token len out h = cc

fault_stops : (h : Head) (bad : LexKind) (at : Span) (out : List Token) → with_fault h bad at ≡ Ends out → ⊥
fault_stops (Refused k at) bad place out h = cc
fault_stops (Stands kinds columns) bad place out h = cc

piece_goes : (s : State) (text : List ℕ) (p : Piece) (out : List Token) → by_piece s text p ≡ Ends out → ⊥
piece_goes s text piece.Space out h = cc
piece_goes s text piece.Tab out h = cc
piece_goes s text (piece.Skip len) out h = cc
piece_goes s text (piece.LineEnd len) out h = cc
piece_goes s text (piece.Token token len) out h = token_goes (head s.line s.columns s.at) s text token len out h
piece_goes s text (piece.Bad bad len) out h = fault_stops (head s.line s.columns s.at) bad _ out h

next_text : (s : State) (text : List ℕ) (out : List Token) → next s text ≡ Ends out → IsText out
next_text s [] out h = at_end_text s out h
next_text s (c ∷ cs) out h = absurd (piece_goes s (c ∷ cs) (piece_of (c ∷ cs)) out h)

longer_text : (a ts : List Token) → IsText ts → IsText (a ++ ts)
longer_text a ts k = (a ++ k.0, k.1, ap (λ z. a ++ z) k.2 ∙ sym (append_assoc a k.0 (k.1 ∷ [])), k.3)

lexed : (s : State) (text : List ℕ) (ts : List Token) → Lexes s text ts → IsText ts
lexed _ _ _ (ends s text out h) = next_text s text out h
lexed _ _ _ (goes s text out t len more h rest) = longer_text out more (lexed t (drop len text) more rest)

-- the tokens of a source text end with its end
pub tokens_text : (b : List ℕ) (ts : List Token) → Tokens b ts → IsText ts
tokens_text b ts k = lexed _ _ ts k.tokens

-- a text holds its end
holds : (ts : List Token) → IsText ts → HoldsEnd ts
holds ts k = (k.0, [], k.1, k.2, k.3)

-- ---- sources

pub one_source : (r : Readers) → Exact r → (b : List ℕ) (m w : Module) → Source b m → Source b w → w ≡ m
one_source r exact b m w f g =
    let same : g.0 ≡ f.0 = lists b g.0 f.0 g.1 f.1 in
    let P : List Token → Type 0 = λ z. Tree z w in
    only_tree r exact f.0 m w f.2 (subst P same g.2)

pub decided_source : (r : Readers) → Exact r → (b : List ℕ) (ts : List Token) → Tokens b ts → HasSource b ⊎ HasPlace ts
decided_source r exact b ts k = elim (decided_tree r exact ts (holds ts (tokens_text b ts k))) as (λ _. HasSource b ⊎ HasPlace ts) [ inl t ↦ inl (t.0, (ts, k, t.1)) | inr p ↦ inr p ]
