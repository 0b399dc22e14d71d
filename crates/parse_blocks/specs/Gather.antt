-- Items one after the other, each of which is a list: all of them in one list.
use Rattle.std.specs.Prelude.{Bool, List, [], ◌++◌, length}
use Rattle.parse_laws.specs.Parser.{Parser, ◌>>=◌, pure, repeat}
use Rattle.parse_laws.specs.Language.{Language}

pub data Gathered {K B : Type 0} (Item : Language K (List B)) : List K → List B → Type 0 where
  none : Gathered Item [] []
  more : (a : List K) (ys : List B) (b : List K) (zs : List B) → Item a ys → Gathered Item b zs → Gathered Item (a ++ b) (ys ++ zs)

-- what stands, and items after it as long as the next token begins one
unfoldable pub gather : {K B : Type 0} → (K → Bool) → Parser K (List B) → List B → Parser K (List B)
gather starts item v = λ ts. repeat (λ _. starts) (λ xs. item >>= λ ys. pure (xs ++ ys)) (length ts) v ts
