-- Where and why a list of tokens is refused: at the first token such that the tokens up to it begin no list of the
-- grammar within the limit of height. It is too deep where they begin a list of the grammar at all; else it is a word
-- that this language leaves out, or else just unexpected.
use Rattle.std.specs.Prelude.{◌≡◌, ℕ, ◌≤◌, Bool, ◌||◌, if◌then◌else◌, List, [], ◌∷◌, slice_get, Some, codes}
use Rattle.std.specs.List.{list_any}
use Rattle.indent_lexer.specs.declared.token.Token.{Token}
use Rattle.source_trees.specs.declared.item.Module.{Module}
use Rattle.source_trees.specs.Heights.{height_of}
use Rattle.parse_laws.specs.declared.cause.Cause.{Cause}
use Rattle.parse_laws.specs.declared.cause.Cause.TheVariants.{Unexpected, TooDeep}
use Rattle.parse_laws.specs.Limits.{Limited}
use Rattle.parse_laws.specs.Place.{IsFirstBad}
use Rattle.grammar_rules.specs.declared.refusal.ParseKind.{ParseKind}
use Rattle.grammar_rules.specs.declared.refusal.ParseKind.TheVariants as refused
use Rattle.grammar_rules.specs.declared.refusal.ParseRefusal.{ParseRefusal}
use Rattle.grammar_rules.specs.Modules.{Derives, most_height}
use Rattle.grammar_rules.specs.Words.{is_op, is_keyword}

-- the keywords of Python that this language leaves out, with `class` and `def`, which stand at the top alone
abbrev pub left_out : List (List ℕ)
left_out =
    codes "as" ∷ codes "async" ∷ codes "await" ∷ codes "class" ∷ codes "def" ∷ codes "del" ∷ codes "except" ∷ codes "finally" ∷
    codes "from" ∷ codes "global" ∷ codes "import" ∷ codes "is" ∷ codes "lambda" ∷ codes "nonlocal" ∷ codes "try" ∷ codes "with" ∷ []

-- one of these, or the bracket of dictionaries and sets
abbrev pub is_left_out : Token → Bool
is_left_out t = is_op (codes "{") t || list_any (λ word. is_keyword word t) left_out

abbrev pub kind_of : Cause → Token → ParseKind
kind_of TooDeep t = refused.TooDeep
kind_of Unexpected t = if is_left_out t then refused.NotInProfile else refused.Unexpected

abbrev pub IsLow : Module → Type 0
IsLow m = height_of m ≤ most_height

abbrev pub IsParsePlace : List Token → ParseRefusal → Type 0
IsParsePlace ts r =
    (cause : Cause) × (t : Token) × (slice_get ts r.token ≡ Some t) × (r.at ≡ t.span) × (r.kind ≡ kind_of cause t)
    × IsFirstBad Derives (Limited Derives IsLow) cause ts r.token
