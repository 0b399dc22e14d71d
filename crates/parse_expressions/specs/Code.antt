-- What a function of the parser's code ensures: it answers as a function on lists of tokens does, and the cursor stands
-- where that one ended, at the refused token where one is refused. Want of memory says nothing.
use Rattle.std.specs.Prelude.{◌≡◌, ℕ, List, Result, Ok, Err}
use Rattle.std.specs.declared.alloc.Global.{Global}
use Rattle.indent_lexer.specs.declared.token.Token.{Token}
use Rattle.parse_laws.specs.Parser.{Outcome, Parsed, Stopped}
use Rattle.parse_expressions.specs.declared.cursor.ParseError.{ParseError}
use Rattle.parse_expressions.specs.declared.cursor.ParseError.TheVariants.{Memory, Refused}
use denote.Ref.{Bor, MutBor}
use Rattle.source_trees.specs.declared.expression.Expr.{Expr}
use Rattle.source_trees.specs.declared.item.Annotation.{Annotation}
use Rattle.parse_expressions.specs.declared.form.Form.{Form}
use Rattle.parse_expressions.specs.Reading.{read}
use Rattle.parse_expressions.specs.TypeReading.{read_type}

abbrev pub IsStop : {A : Type 0} → Outcome Token A → ParseError → List Token → Type 0
IsStop out Memory rest = Unit {0}
IsStop out (Refused cause) rest = out ≡ Stopped cause rest

abbrev pub Reads : {A : Type 0} → Outcome Token A → Result A ParseError → List Token → Type 0
Reads out (Ok v) rest = out ≡ Parsed v rest
Reads out (Err e) rest = IsStop out e rest

-- the same for a token that is lent
abbrev pub ReadsToken : Outcome Token Token → Result (Bor Token) ParseError → List Token → Type 0
ReadsToken out (Ok t) rest = out ≡ Parsed t.now rest
ReadsToken out (Err e) rest = IsStop out e rest

-- a function value that reads the forms whose trees are at most `room` high
pub record Subs (room : ℕ) (pre : Global → MutBor (List Token) → ℕ → Form → Type 0)
    (post : Global → MutBor (List Token) → ℕ → Form → Result Expr ParseError → MutBor (List Token) → Type 0) : Type 0 where
  pub callable : (alloc : Global) (old : MutBor (List Token)) (f : Form) → pre alloc old room f
  pub reads : (alloc : Global) (old new : MutBor (List Token)) (f : Form) (r : Result Expr ParseError) → post alloc old room f r new
      → Reads (read room f old.now) r new.now

-- a function value that reads the types that are at most `room` high
pub record TypeSubs (room : ℕ) (pre : Global → MutBor (List Token) → ℕ → Type 0)
    (post : Global → MutBor (List Token) → ℕ → Result Annotation ParseError → MutBor (List Token) → Type 0) : Type 0 where
  pub callable : (alloc : Global) (old : MutBor (List Token)) → pre alloc old room
  pub reads : (alloc : Global) (old new : MutBor (List Token)) (r : Result Annotation ParseError) → post alloc old room r new
      → Reads (read_type room old.now) r new.now
