-- What a token does at the beginning of a list, by its class.
use Rattle.std.proofs.Common.{◌≡◌, Bool, true, false, ◌||◌, ◌&&◌, List, [], ◌∷◌, refl}
use Rattle.indent_lexer.specs.declared.token.Token.{Token}
use Rattle.parse_laws.specs.Parser.{sees, class_of}
use Rattle.parse_statements.specs.Lines.{is_led, starts_simple}
use Rattle.parse_statements.specs.Readers.{starts_expr}
use Rattle.parse_statements.specs.Simple.{Over, Value, is_goer, follow_of, lead_of, print_goes}

pub sees_goes : (ts : List Token) → sees print_goes ts ≡ is_goer (class_of follow_of Over ts)
sees_goes [] = refl
sees_goes (t ∷ ts) = refl

pub sees_led : (ts : List Token) → sees starts_simple ts ≡ (is_led (class_of lead_of Value ts) || sees starts_expr ts)
sees_led [] = refl
sees_led (t ∷ ts) = refl

pub sees_when : (b : Bool) (test : Token → Bool) (ts : List Token) → sees (λ t. b && test t) ts ≡ (b && sees test ts)
sees_when true test ts = refl
sees_when false test [] = refl
sees_when false test (t ∷ ts) = refl
