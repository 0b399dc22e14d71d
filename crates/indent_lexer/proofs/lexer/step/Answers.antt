use Rattle.std.proofs.Common.{◌≡◌, [], length, refl, sym, ◌∙◌, ap, arith}
use Rattle.std.proofs.lemmas.List.{append-nil}
use Rattle.indent_lexer.specs.declared.piece.Piece.TheVariants as piece
use Rattle.indent_lexer.specs.Tokens.{after_space, after_tab, after_line_end, spaces_of}
use Rattle.indent_lexer.proofs.Reading.{next_of, goes_passed}
use Rattle.indent_lexer.proofs.States.{passed_state, spaces_after_space, spaces_after_tab, spaces_after_line_end}
use Rattle.indent_lexer.proofs.lexer.step.Goals as goal

pub returns-in-Space-clause-goes : goal.returns-in-Space-clause-goes
returns-in-Space-clause-goes c =
    let s = c.args.state.now in (
      [],
      next_of s c.args.rest.now piece.Space c.requires.some (sym c.in-Space.is ∙ c.in_ok-piece_of.ensures.value)
          ∙ goes_passed s c.pass.new.state c.args.rest.now 1 1 (after_space s.line) c.after_space-line.result c.after_space-line.ensures c.pass.ensures.state refl,
      sym (append-nil c.args.tokens.now),
    )

pub returns-in-Space-clause-state : goal.returns-in-Space-clause-state
returns-in-Space-clause-state c =
    let s = c.args.state.now in
    let l = spaces_after_space s.line in
    let e : spaces_of c.after_space-line.result ≡ spaces_of (after_space s.line) = ap spaces_of c.after_space-line.ensures in
    let i = c.requires.state.spaces in
    passed_state s c.pass.new.state c.args.rest.now 1 (length c.args.rest.now) c.after_space-line.result c.requires.state c.pass.ensures.state c.pass.ensures.place c.pass.ensures.start (omega arith)

pub returns-in-Tab-clause-goes : goal.returns-in-Tab-clause-goes
returns-in-Tab-clause-goes c =
    let s = c.args.state.now in (
      [],
      next_of s c.args.rest.now piece.Tab c.requires.some (sym c.in-Tab.is ∙ c.in_ok-piece_of.ensures.value)
          ∙ goes_passed s c.pass-in-Tab.new.state c.args.rest.now 1 1 (after_tab s.line s.at) c.after_tab-line.result c.after_tab-line.ensures c.pass-in-Tab.ensures.state refl,
      sym (append-nil c.args.tokens.now),
    )

pub returns-in-Tab-clause-state : goal.returns-in-Tab-clause-state
returns-in-Tab-clause-state c =
    let s = c.args.state.now in
    let l = spaces_after_tab s.line s.at in
    let e : spaces_of c.after_tab-line.result ≡ spaces_of (after_tab s.line s.at) = ap spaces_of c.after_tab-line.ensures in
    let i = c.requires.state.spaces in
    passed_state s c.pass-in-Tab.new.state c.args.rest.now 1 (length c.args.rest.now) c.after_tab-line.result c.requires.state c.pass-in-Tab.ensures.state c.pass-in-Tab.ensures.place c.pass-in-Tab.ensures.start (omega arith)

pub returns-in-Skip-clause-goes : goal.returns-in-Skip-clause-goes
returns-in-Skip-clause-goes c =
    let s = c.args.state.now in (
      [],
      next_of s c.args.rest.now (piece.Skip c.in-Skip.len) c.requires.some (sym c.in-Skip.is ∙ c.in_ok-piece_of.ensures.value)
          ∙ goes_passed s c.pass-in-Skip.new.state c.args.rest.now c.in-Skip.len c.in-Skip.len s.line s.line refl c.pass-in-Skip.ensures.state refl,
      sym (append-nil c.args.tokens.now),
    )

pub returns-in_ok-end_line-in-LineEnd-clause-state : goal.returns-in_ok-end_line-in-LineEnd-clause-state
returns-in_ok-end_line-in-LineEnd-clause-state c =
    let s = c.args.state.now in
    let e = c.in_ok-end_line-in-LineEnd.ensures in
    let l = spaces_after_line_end s.line s.depth in
    passed_state s c.end_line.new.state c.args.rest.now c.in-LineEnd.len (length c.args.rest.now) (after_line_end s.line s.depth) c.requires.state e.state e.place e.start (omega arith)
