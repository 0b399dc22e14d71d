-- What a list derives has no numbers; so a numbered tree that is the same but for the numbers is the tree of the list. And the tokens of a text hold its end, also where more follows.
use Rattle.std.proofs.Common.{◌≡◌, ℕ, ◌≤◌, List, [], ◌∷◌, ◌++◌, ap, sym, ◌∙◌, subst, append_assoc}
use Rattle.indent_lexer.specs.declared.token.Token.{Token}
use Rattle.indent_lexer.specs.Tokens.{Tokens}
use Rattle.source_trees.specs.declared.item.Module.{Module}
use Rattle.source_trees.specs.Bare.{bare_module}
use Rattle.source_trees.specs.Heights.{height_of}
use Rattle.source_trees.specs.Nodes.{IsNumbered}
use Rattle.grammar_rules.specs.Modules.{Derives, Tree, most_height}
use Rattle.bare_trees.proofs.BareHeights.{same_module}
use Rattle.bare_trees.proofs.Derived.{derived_bare}
use Rattle.parse_blocks.specs.Answers.{HoldsEnd, DerivesLow}
use Rattle.parse_blocks.proofs.Texts.{tokens_text}

pub numbered_is_tree : (ts : List Token) (m w : Module) → DerivesLow ts m → bare_module w ≡ bare_module m → IsNumbered w → Tree ts w
numbered_is_tree ts m w low same numbered =
    let P : Module → Type 0 = λ z. Derives ts z in
    let Q : ℕ → Type 0 = λ z. z ≤ most_height in
    let high : height_of w ≡ height_of m = sym (same_module w) ∙ (ap height_of same ∙ same_module m) in
    ((subst P (sym (same ∙ derived_bare ts m low.0)) low.0, numbered), subst Q (sym high) low.1)

pub lexed_hold_end : (b : List ℕ) (ts : List Token) → Tokens b ts → HoldsEnd ts
lexed_hold_end b ts k = let n = tokens_text b ts k in (n.0, [], n.1, n.2, n.3)

pub more_hold_end : (b : List ℕ) (ts more : List Token) → Tokens b ts → HoldsEnd (ts ++ more)
more_hold_end b ts more k =
    let n = tokens_text b ts k in
    let P : List Token → Type 0 = λ z. z ++ more ≡ n.0 ++ n.1 ∷ more in
    (n.0, more, n.1, subst P (sym n.2) (append_assoc n.0 (n.1 ∷ []) more), n.3)
