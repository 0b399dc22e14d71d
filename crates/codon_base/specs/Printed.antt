-- The text of a value, as `print` and `str` write it.
use Rattle.std.specs.Prelude.{ℕ, suc, zero, ◌+◌, ◌/◌, ◌%◌, ◌==◌, Bool, true, not, ◌&&◌, ◌||◌, if◌then◌else◌, nat_lt, List, [], ◌∷◌, ◌++◌, codes}
use Rattle.std.specs.List.{flat_map, list_any}
use Rattle.std.specs.Fmt.{signed_decimal}
use Rattle.codon_base.specs.declared.value.Ref.{Ref}
use Rattle.codon_base.specs.declared.value.Value.{Value, Value-F, out-Value}
use Rattle.codon_base.specs.declared.object.Object.{Object}
use Rattle.codon_base.specs.Walks.{Walked, Walk, ◌>>=◌, answer, end_by, wrong_kind, too_large, meet, nesting_limit, Seen, items, barred, seen_in}

-- ---- texts inside a list or a tuple

-- the quote round a text: `"` where the text holds `'` and no `"`, and else `'`
abbrev pub quote_of : List ℕ → ℕ
quote_of text = if list_any (λ b. b == 39) text && not (list_any (λ b. b == 34) text) then 34 else 39

-- a digit of base 16
abbrev pub hex_digit : ℕ → ℕ
hex_digit n = if nat_lt n 10 then 48 + n else 87 + n

-- how a byte stands between quotes: the quote and `\` after a backslash, line ends and tabs by a letter, other bytes that do not print by two digits
abbrev pub escaped : ℕ → ℕ → List ℕ
escaped quote b =
    if b == quote || b == 92 then 92 ∷ b ∷ [] else
    (if b == 10 then 92 ∷ 110 ∷ [] else
    (if b == 13 then 92 ∷ 114 ∷ [] else
    (if b == 9 then 92 ∷ 116 ∷ [] else
    (if nat_lt b 32 || b == 127 then 92 ∷ 120 ∷ hex_digit (b / 16) ∷ hex_digit (b % 16) ∷ [] else b ∷ []))))

abbrev pub quoted : List ℕ → List ℕ
quoted text = let quote = quote_of text in quote ∷ flat_map (escaped quote) text ++ quote ∷ []

-- ---- walks that make a text

-- one text after another
infixl 2 ◌then◌
abbrev pub ◌then◌ : Walk (List ℕ) → Walk (List ℕ) → Walk (List ℕ)
first then next = first >>= λ text. next >>= λ more. answer (text ++ more)

-- the texts of values, with `, ` before each
abbrev pub more_texts : (Value → Walk (List ℕ)) → List Value → Walk (List ℕ)
more_texts text [] = answer []
more_texts text (v ∷ vs) = answer (codes ", ") then text v then more_texts text vs

-- the texts of values, with `, ` between them
abbrev pub texts : (Value → Walk (List ℕ)) → List Value → Walk (List ℕ)
texts text [] = answer []
texts text (v ∷ vs) = text v then more_texts text vs

-- a tuple of one item has a comma after it
abbrev pub tuple_end : List Value → List ℕ
tuple_end (v ∷ []) = codes ",)"
tuple_end _ = codes ")"

-- the text of a tuple, where `enter` makes the texts of its items
abbrev pub tuple_text : (List Value → Walk (List ℕ)) → List Value → Walk (List ℕ)
tuple_text enter values = answer (codes "(") then enter values then answer (tuple_end values)

-- the text of what was found at an address
abbrev pub list_text : (List Value → Walk (List ℕ)) → Seen → Walk (List ℕ)
list_text enter (items values) = answer (codes "[") then enter values then answer (codes "]")
list_text enter (barred why) = end_by why

-- the text of a value that was met, where `enter` makes the texts of the items of a list or a tuple
abbrev pub text_met : (List Value → Walk (List ℕ)) → (Ref → Seen) → Bool → Value-F Value → Walk (List ℕ)
text_met enter look inside (Value-F.Int z) = answer (signed_decimal z)
text_met enter look inside (Value-F.Bool b) = answer (if b then codes "True" else codes "False")
text_met enter look inside (Value-F.Text t) = answer (if inside then quoted t else t)
text_met enter look inside (Value-F.Tuple values) = tuple_text enter values
text_met enter look inside (Value-F.Ref at) = list_text enter (look at)
text_met enter look inside Value-F.Unit = answer (codes "None")
text_met enter look inside Value-F.Unset = end_by wrong_kind

-- the text of a value, where `room` more lists and tuples may be entered one inside the other
unfoldable pub text_of : (Ref → Seen) → ℕ → Bool → Value → Walk (List ℕ)
text_of look zero inside v = meet >>= λ _. text_met (λ values. end_by too_large) look inside (out-Value v)
text_of look (suc room) inside v = meet >>= λ _. text_met (texts (text_of look room true)) look inside (out-Value v)

-- the texts of the items of a list or a tuple, where `room` more of them may be entered
abbrev pub entered : (Ref → Seen) → ℕ → List Value → Walk (List ℕ)
entered look zero values = end_by too_large
entered look (suc room) values = texts (text_of look room true) values

-- the text of a value on a heap of which no list is lent, or the place where its walk ends without one
abbrev pub shown : List (List Object) → Value → Bool → Walked (List ℕ)
shown levels v inside = text_of (seen_in levels) nesting_limit inside v 0
