-- What the code answers about a whole source.
use Rattle.std.proofs.Common.{◌≡◌, ◌-◌, List, [], ◌∷◌, length, slice_get, sym, subst, Some}
use Rattle.indent_lexer.specs.declared.token.Token.{Token}
use Rattle.source_trees.specs.declared.item.Module.{Module}
use Rattle.parse_laws.specs.declared.cause.Cause.{Cause}
use Rattle.parse_laws.specs.Forms.{any}
use Rattle.parse_laws.specs.Language.{Law}
use Rattle.parse_laws.specs.Parser.{Outcome, Parsed, Stopped}
use Rattle.grammar_rules.specs.declared.refusal.ParseRefusal.{ParseRefusal}
use Rattle.grammar_rules.specs.Modules.{Derives}
use Rattle.grammar_rules.specs.Refusals.{IsParsePlace}
use Rattle.parse_statements.specs.Code.{readers}
use Rattle.parse_blocks.specs.Answers.{HoldsEnd, DerivesLow}
use Rattle.parse_blocks.specs.Code.{refusal_at}
use Rattle.parse_blocks.specs.Sources.{source}
use Rattle.parse_blocks.proofs.ExactReaders.{exact_readers}
use Rattle.parse_blocks.proofs.Places.{place_here, slice_left, refused_rest, tree_here}
use Rattle.parse_blocks.proofs.Sources.{source_law}

law_of : (ts : List Token) (o : Outcome Token Module) → source readers ts ≡ o → Law Derives DerivesLow any ts o
law_of ts o e = subst (λ z. Law Derives DerivesLow any ts z) e (source_law readers exact_readers ts)

pub tree_is : (ts : List Token) (m : Module) (rest : List Token) → source readers ts ≡ Parsed m rest → DerivesLow ts m
tree_is ts m rest e = tree_here readers exact_readers ts m rest e

pub place_is : (ts : List Token) → HoldsEnd ts → (k : Cause) (rest : List Token) (p : ParseRefusal) → source readers ts ≡ Stopped k rest
    → ((t : Token) → slice_get ts (length ts - length rest) ≡ Some t → p ≡ refusal_at (length ts - length rest) k t) → IsParsePlace ts p
place_is ts held k [] p e f = absurd (refused_rest ts held k (law_of ts (Stopped k []) e))
place_is ts held k (t ∷ r) p e f =
    let l = law_of ts (Stopped k (t ∷ r)) e in
    subst (IsParsePlace ts) (sym (f t (slice_left ts l.used t r l.whole))) (place_here ts k t r l)
