-- Types as they are written.
--
--   type : int | bool | str | None | NAME | (list|List) '[' type ']'
--        | (tuple|Tuple) '[' type (',' type)* ']'
--
-- The words `int`, `bool`, `str` are forms of their own, and so are `list`, `List`, `tuple` and `Tuple` before a bracket;
-- every other name is that of a class. A tuple has at most 255 types. The forms are those of annotations in the typing
-- documentation of Python.
use Rattle.std.specs.Prelude.{◌≡◌, ℕ, ◌≤◌, Bool, true, false, ◌||◌, List, [], ◌∷◌, ◌++◌, length, Some, codes}
use Rattle.indent_lexer.specs.declared.token.Token.{Token}
use Rattle.source_trees.specs.declared.item.Annotation.{Annotation}
use Rattle.source_trees.specs.declared.item.Annotation.TheVariants as annotation
use Rattle.grammar_rules.specs.Words.{is_op, is_keyword, is_word, is_comma, name_of, node_at, most_items}

abbrev pub is_list_word : Token → Bool
is_list_word t = is_word (codes "list") t || is_word (codes "List") t

abbrev pub is_tuple_word : Token → Bool
is_tuple_word t = is_word (codes "tuple") t || is_word (codes "Tuple") t

-- a word that is a type by itself
abbrev pub is_type_word : Token → Bool
is_type_word t = is_word (codes "int") t || is_word (codes "bool") t || is_word (codes "str") t

mutual
  pub data IsType : List Token → Annotation → Type 0 where
    int : (t : Token) → is_word (codes "int") t ≡ true → IsType (t ∷ []) (annotation.Int (node_at t))
    bool : (t : Token) → is_word (codes "bool") t ≡ true → IsType (t ∷ []) (annotation.Bool (node_at t))
    str : (t : Token) → is_word (codes "str") t ≡ true → IsType (t ∷ []) (annotation.Str (node_at t))
    none : (t : Token) → is_keyword (codes "None") t ≡ true → IsType (t ∷ []) (annotation.None (node_at t))
    class : (t : Token) (spelling : List ℕ) → name_of t ≡ Some spelling → is_type_word t ≡ false → IsType (t ∷ []) (annotation.Class (node_at t) spelling)
    list : (t open_token : Token) (a : List Token) (item : Annotation) (close_token : Token)
        → is_list_word t ≡ true → is_op (codes "[") open_token ≡ true → IsType a item → is_op (codes "]") close_token ≡ true
        → IsType (t ∷ open_token ∷ (a ++ close_token ∷ [])) (annotation.List (node_at t) item)
    tuple : (t open_token : Token) (a : List Token) (items : List Annotation) (close_token : Token)
        → is_tuple_word t ≡ true → is_op (codes "[") open_token ≡ true → IsTypes a items → length items ≤ most_items → is_op (codes "]") close_token ≡ true
        → IsType (t ∷ open_token ∷ (a ++ close_token ∷ [])) (annotation.Tuple (node_at t) items)

  -- types with commas between
  pub data IsTypes : List Token → List Annotation → Type 0 where
    last : (a : List Token) (x : Annotation) → IsType a x → IsTypes a (x ∷ [])
    another : (a : List Token) (x : Annotation) (comma : Token) (b : List Token) (xs : List Annotation)
        → IsType a x → is_comma comma ≡ true → IsTypes b xs → IsTypes (a ++ comma ∷ b) (x ∷ xs)
