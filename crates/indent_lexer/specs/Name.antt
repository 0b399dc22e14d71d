-- Names and the characters that they are made of (Python reference, 2.3).
use Rattle.std.specs.Prelude.{ℕ, zero, suc, ◌+◌, ◌-◌, ◌*◌, List, [], ◌∷◌, Bool, ◌&&◌, ◌||◌, if◌then◌else◌, nat_eq}
use Rattle.std.specs.Str.{continuation_len, lead_bits}
use lib.Utf8.{scalar}
use Rattle.unicode_ident.specs.Ident.{is_xid_start, is_xid_continue}

-- the code of a character in UTF-8, of which n bytes are still to come, and c is what the bytes before give
abbrev pub code_after : ℕ → ℕ → List ℕ → ℕ
code_after zero c bs = c
code_after (suc n) c [] = c
code_after (suc n) c (b ∷ bs) = code_after n (c * 64 + (b - 128)) bs

-- the code of the character that the text begins with
abbrev pub first_code : List ℕ → ℕ
first_code [] = 0
first_code (b ∷ bs) = code_after (continuation_len b) (lead_bits b) bs

-- The character that the text begins with may begin a name, or go on with one. (Each character of a text in
-- UTF-8 is a scalar value.)
abbrev pub starts_name : List ℕ → Bool
starts_name text = nat_eq (first_code text) 95 || (scalar (first_code text) && is_xid_start (first_code text))

abbrev pub continues_name : List ℕ → Bool
continues_name text = scalar (first_code text) && is_xid_continue (first_code text)

-- How many bytes the longest front of the text takes whose characters all go on with a name. The text begins
-- with n bytes that belong to the character before it.
abbrev pub name_len : ℕ → List ℕ → ℕ
name_len n [] = 0
name_len zero (b ∷ bs) = if continues_name (b ∷ bs) then suc (name_len (continuation_len b) bs) else 0
name_len (suc n) (b ∷ bs) = suc (name_len n bs)

-- the first character of the text, and the name characters after it
abbrev pub word_len : List ℕ → ℕ
word_len [] = 0
word_len (b ∷ bs) = suc (name_len (continuation_len b) bs)
