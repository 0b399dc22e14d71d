-- Items one after the other, any number of them.
use Rattle.std.specs.Prelude.{Bool, List, [], ◌∷◌, ◌++◌, length}
use Rattle.parse_laws.specs.Parser.{Parser, ◌>>=◌, pure, repeat}
use Rattle.parse_laws.specs.Language.{Language}
use Rattle.parse_laws.specs.Forms.{Then, Made}

pub data Many {K B : Type 0} (Item : Language K B) : List K → List B → Type 0 where
  none : Many Item [] []
  more : (a : List K) (y : B) (b : List K) (ys : List B) → Item a y → Many Item b ys → Many Item (a ++ b) (y ∷ ys)

-- items as long as the next token begins one
unfoldable pub many : {K B : Type 0} → (K → Bool) → Parser K B → Parser K (List B)
many starts item = λ ts. repeat (λ _. starts) (λ ys. item >>= λ y. pure (ys ++ y ∷ [])) (length ts) [] ts

-- one item or more
abbrev pub OneOrMore : {K B : Type 0} → Language K B → Language K (List B)
OneOrMore Item = Then Item (λ y. Made (Many Item) (λ ys. y ∷ ys))

unfoldable pub one_or_more : {K B : Type 0} → (K → Bool) → Parser K B → Parser K (List B)
one_or_more starts item = item >>= λ y. many starts item >>= λ ys. pure (y ∷ ys)
