-- The law of the options of `@par`.
use Rattle.std.proofs.Common.{◌≡◌, ℕ, ℤ, pos, ◌+◌, ◌≤◌, nat_le, Bool, true, false, not, cond, ◌||◌, ◌&&◌, List, [], ◌∷◌, ◌++◌, length, refl, sym, ◌∙◌, ap, subst, append_assoc, ◌⊎◌, inl, inr, Option, Some, None, codes, arith}
use Rattle.std.specs.Str.{bytes_eq}
use Rattle.std.proofs.lemmas.Slice.Eq.{bytes_eq-Decides}
use Rattle.std.proofs.lemmas.List.{append-nil}
use Rattle.std.proofs.lemmas.Bool.{leb-true, le-leb}
use Rattle.indent_lexer.specs.declared.token.Token.{Token}
use Rattle.indent_lexer.specs.declared.token.TokenKind.TheVariants as kind
use Rattle.source_trees.specs.declared.statement.ParOptions.{ParOptions}
use Rattle.source_trees.specs.declared.statement.Schedule.{Schedule}
use Rattle.source_trees.specs.declared.statement.Schedule.TheVariants.{Static}
use Rattle.parse_laws.specs.Parser.{Parser, and_then, sees, pure, in_table, expect, take_by, repeat, choose, ◌>>=◌, ◌>>◌}
use Rattle.parse_laws.specs.Language.{Language, Free, Viable, Law}
use Rattle.parse_laws.specs.Forms.{Then, Is, Opens, Closes, Picks, Either, never}
use Rattle.parse_laws.specs.Limits.{Limited}
use Rattle.parse_laws.specs.Loops.{Turns, done, next, Repeated}
use Rattle.parse_laws.proofs.Forms.{wider_at, free_never}
use Rattle.parse_laws.proofs.Limits.{same_law, join_law, open_limited, close_limited, optional_law, take_limited}
use Rattle.parse_laws.proofs.Repeats.{repeat_law}
use Rattle.grammar_rules.specs.Statements as g
use Rattle.grammar_rules.specs.Statements.{IsParOption, IsParRow, IsParOptions, no_options, schedules}
use Rattle.grammar_rules.specs.Words.{is_word, is_comma, is_spelled, name_of, number_of, text_of, entry_of}
use Rattle.parse_expressions.proofs.Opens.{sample, op_token}
use Rattle.parse_statements.specs.Heads.{is_equals}
use Rattle.parse_statements.specs.Options as reading
use Rattle.parse_statements.specs.Options.{counted, with_threads, with_chunk, with_schedule, unset, setting, setting_by, setting_at, ParItem, takes_option}
use Rattle.parse_statements.specs.Prints.{is_bracket_end, printed_on, print_item_on}
use Rattle.parse_statements.specs.Stages.{is_bracket}
use Rattle.parse_statements.proofs.Printed.{word_name, name_word}
use Rattle.parse_statements.proofs.Prints.{comma_item, printed_item, comma_printed}
use Rattle.parse_statements.proofs.States.{and_both, some_same}

abbrev Any : {A : Type 0} → A → Type 0
Any x = Unit {0}

-- ---- one option

unset_none : {A : Type 0} (x : Option A) → unset x ≡ true → x ≡ None
unset_none None h = refl
unset_none (Some x) h = absurd (cc)

none_unset : {A : Type 0} (x : Option A) → x ≡ None → unset x ≡ true
none_unset x h = ap unset h

-- The three ways to set one more option.
setting_cases : (o : ParOptions) (w : List ℕ) (f : Token → Option ParOptions) → setting o w ≡ Some f → (P : (Token → Option ParOptions) → Type 0)
    → (w ≡ codes "num_threads" → o.num_threads ≡ None → P (λ u. with_threads o (counted None (number_of u))))
    → (w ≡ codes "chunk_size" → o.chunk_size ≡ None → P (λ u. with_chunk o (counted (Some 65536) (number_of u))))
    → (w ≡ codes "schedule" → o.schedule ≡ None → P (λ u. with_schedule o (entry_of (text_of u) schedules)))
    → P f
setting_cases o w f h P a b c =
    let A = bytes_eq w (codes "num_threads") && unset o.num_threads in
    let B = bytes_eq w (codes "chunk_size") && unset o.chunk_size in
    let C = bytes_eq w (codes "schedule") && unset o.schedule in
    let go : (x y z : Bool) → A ≡ x → B ≡ y → C ≡ z
    → cond x (Some (λ u. with_threads o (counted None (number_of u)))) (cond y (Some (λ u. with_chunk o (counted (Some 65536) (number_of u)))) (cond z (Some (λ u. with_schedule o (entry_of (text_of u) schedules))) None)) ≡ Some f
    → P f = elim [
      | true ↦ λ y z i j k e. let m = and_both (bytes_eq w (codes "num_threads")) (unset o.num_threads) i in subst P (some_same _ _ e) (a ((bytes_eq-Decides w (codes "num_threads")).0 m.0) (unset_none o.num_threads m.1))
      | false ↦ elim [
        | true ↦ λ z i j k e. let m = and_both (bytes_eq w (codes "chunk_size")) (unset o.chunk_size) j in subst P (some_same _ _ e) (b ((bytes_eq-Decides w (codes "chunk_size")).0 m.0) (unset_none o.chunk_size m.1))
        | false ↦ elim [
          | true ↦ λ i j k e. let m = and_both (bytes_eq w (codes "schedule")) (unset o.schedule) k in subst P (some_same _ _ e) (c ((bytes_eq-Decides w (codes "schedule")).0 m.0) (unset_none o.schedule m.1))
          | false ↦ λ i j k e. absurd (cc)
        ]
      ]
    ] in
    go A B C refl refl refl h

named_setting : (o : ParOptions) (t : Token) (f : Token → Option ParOptions) → setting_at o t ≡ Some f → (w : List ℕ) × (name_of t ≡ Some w) × (setting o w ≡ Some f)
named_setting o t f h =
    let go : (m : Option (List ℕ)) → name_of t ≡ m → setting_by o m ≡ Some f → (w : List ℕ) × (name_of t ≡ Some w) × (setting o w ≡ Some f) = elim [
      | Some w ↦ λ i k. (w, i, k)
      | None ↦ λ i k. absurd (cc)
    ] in
    go (name_of t) refl h

counted_in : (most : Option ℕ) (z : Option ℤ) (n : ℕ) → counted most z ≡ Some n → (z ≡ Some (pos n)) × (1 ≤ n)
counted_in (Some most) (Some (pos m)) n h =
    let go : (x : Bool) → nat_le 1 m && nat_le m most ≡ x → cond x (Some m) None ≡ Some n → (Some (pos m) ≡ Some (pos n)) × (1 ≤ n) = elim [
      | true ↦ λ e k. let same : m ≡ n = some_same m n k in let l = leb-true 1 m (and_both (nat_le 1 m) (nat_le m most) e).0 in (ap (λ v. Some (pos v)) same, omega arith)
      | false ↦ λ e k. absurd (cc)
    ] in
    go (nat_le 1 m && nat_le m most) refl h
counted_in None (Some (pos m)) n h =
    let go : (x : Bool) → nat_le 1 m ≡ x → cond x (Some m) None ≡ Some n → (Some (pos m) ≡ Some (pos n)) × (1 ≤ n) = elim [
      | true ↦ λ e k. let same : m ≡ n = some_same m n k in let l = leb-true 1 m e in (ap (λ v. Some (pos v)) same, omega arith)
      | false ↦ λ e k. absurd (cc)
    ] in
    go (nat_le 1 m) refl h
counted_in (Some most) None n h = absurd (cc)
counted_in None None n h = absurd (cc)
counted_in (Some most) (Some _) n h = absurd (cc)
counted_in None (Some _) n h = absurd (cc)

counted_most : (most : ℕ) (z : Option ℤ) (n : ℕ) → counted (Some most) z ≡ Some n → n ≤ most
counted_most most (Some (pos m)) n h =
    let go : (x : Bool) → nat_le 1 m && nat_le m most ≡ x → cond x (Some m) None ≡ Some n → n ≤ most = elim [
      | true ↦ λ e k. let same : m ≡ n = some_same m n k in let l = leb-true m most (and_both (nat_le 1 m) (nat_le m most) e).1 in omega arith
      | false ↦ λ e k. absurd (cc)
    ] in
    go (nat_le 1 m && nat_le m most) refl h
counted_most most None n h = absurd (cc)
counted_most most (Some _) n h = absurd (cc)

threads_parts : (o : ParOptions) (z : Option ℤ) (p : ParOptions) → with_threads o (counted None z) ≡ Some p → (n : ℕ) × (z ≡ Some (pos n)) × (1 ≤ n) × (p ≡ record o { num_threads = Some n })
threads_parts o z p h =
    let go : (m : Option ℕ) → counted None z ≡ m → with_threads o m ≡ Some p → (n : ℕ) × (z ≡ Some (pos n)) × (1 ≤ n) × (p ≡ record o { num_threads = Some n }) = elim [
      | Some n ↦ λ i k. let q = counted_in None z n i in (n, q.0, q.1, some_same _ _ (sym k))
      | None ↦ λ i k. absurd (cc)
    ] in
    go (counted None z) refl h

chunk_parts : (o : ParOptions) (z : Option ℤ) (p : ParOptions) → with_chunk o (counted (Some 65536) z) ≡ Some p → (n : ℕ) × (z ≡ Some (pos n)) × (1 ≤ n) × (n ≤ 65536) × (p ≡ record o { chunk_size = Some n })
chunk_parts o z p h =
    let go : (m : Option ℕ) → counted (Some 65536) z ≡ m → with_chunk o m ≡ Some p → (n : ℕ) × (z ≡ Some (pos n)) × (1 ≤ n) × (n ≤ 65536) × (p ≡ record o { chunk_size = Some n }) = elim [
      | Some n ↦ λ i k. let q = counted_in (Some 65536) z n i in (n, q.0, q.1, counted_most 65536 z n i, some_same _ _ (sym k))
      | None ↦ λ i k. absurd (cc)
    ] in
    go (counted (Some 65536) z) refl h

schedule_parts : (o : ParOptions) (m : Option Schedule) (p : ParOptions) → with_schedule o m ≡ Some p → (s : Schedule) × (m ≡ Some s) × (p ≡ record o { schedule = Some s })
schedule_parts o (Some s) p h = (s, refl, some_same _ _ (sym h))
schedule_parts o None p h = absurd (cc)

item_option : (o : ParOptions) (a : List Token) (p : ParOptions) → ParItem o a p → IsParOption o a p
item_option o a p k =
    let t = k.heads.0 in
    let n = named_setting o t k.value k.heads.2 in
    let m = k.tails in
    let e = m.0 in
    let u = m.4.0 in
    let tokens : a ≡ t ∷ e ∷ u ∷ [] = k.joined ∙ ap (λ z. z ++ k.second) k.heads.1 ∙ ap (λ z. t ∷ z) (m.2 ∙ ap (λ z. e ∷ z) m.4.1) in
    let T : List Token → Type 0 = λ z. IsParOption o z p in
    let V : ParOptions → Type 0 = λ z. IsParOption o (t ∷ e ∷ u ∷ []) z in
    subst T (sym tokens)
    (setting_cases o n.0 k.value n.2 (λ f. f u ≡ Some p → IsParOption o (t ∷ e ∷ u ∷ []) p)
    (λ w i h. let q = threads_parts o (number_of u) p h in subst V (sym q.3) (g.num_threads t e u q.0 (name_word (codes "num_threads") t (n.1 ∙ ap (λ z. Some z) w)) i m.3 q.1 q.2))
    (λ w i h. let q = chunk_parts o (number_of u) p h in subst V (sym q.4) (g.chunk_size t e u q.0 (name_word (codes "chunk_size") t (n.1 ∙ ap (λ z. Some z) w)) i m.3 q.1 q.2 q.3))
    (λ w i h. let q = schedule_parts o (entry_of (text_of u) schedules) p h in subst V (sym q.2) (g.schedule t e u q.0 (name_word (codes "schedule") t (n.1 ∙ ap (λ z. Some z) w)) i m.3 q.1))
    m.4.2)

set_here : (o : ParOptions) (t e u : Token) (w : List ℕ) (f : Token → Option ParOptions) (p : ParOptions) → is_word w t ≡ true → setting o w ≡ Some f → is_equals e ≡ true → f u ≡ Some p → ParItem o (t ∷ e ∷ u ∷ []) p
set_here o t e u w f p h i j k =
    record { first = t ∷ []; second = e ∷ u ∷ []; value = f; joined = refl; heads = (t, refl, ap (setting_by o) (word_name w t h) ∙ i); tails = (e, u ∷ [], refl, j, (u, refl, k)) }

threads_at : (o : ParOptions) → o.num_threads ≡ None → setting o (codes "num_threads") ≡ Some (λ u. with_threads o (counted None (number_of u)))
threads_at o h = ap (λ x. cond x (Some (λ u. with_threads o (counted None (number_of u)))) None) (none_unset o.num_threads h)

chunk_at : (o : ParOptions) → o.chunk_size ≡ None → setting o (codes "chunk_size") ≡ Some (λ u. with_chunk o (counted (Some 65536) (number_of u)))
chunk_at o h = ap (λ x. cond x (Some (λ u. with_chunk o (counted (Some 65536) (number_of u)))) None) (none_unset o.chunk_size h)

schedule_at : (o : ParOptions) → o.schedule ≡ None → setting o (codes "schedule") ≡ Some (λ u. with_schedule o (entry_of (text_of u) schedules))
schedule_at o h = ap (λ x. cond x (Some (λ u. with_schedule o (entry_of (text_of u) schedules))) None) (none_unset o.schedule h)

counted_threads : (z : Option ℤ) (n : ℕ) → z ≡ Some (pos n) → 1 ≤ n → counted None z ≡ Some n
counted_threads z n h l = ap (counted None) h ∙ ap (λ x. cond x (Some n) None) (le-leb 1 n l)

both_true : (x y : Bool) → x ≡ true → y ≡ true → x && y ≡ true
both_true true y h k = k
both_true false y h k = absurd (cc)

counted_chunk : (z : Option ℤ) (n : ℕ) → z ≡ Some (pos n) → 1 ≤ n → n ≤ 65536 → counted (Some 65536) z ≡ Some n
counted_chunk z n h l m = ap (counted (Some 65536)) h ∙ ap (λ x. cond x (Some n) None) (both_true (nat_le 1 n) (nat_le n 65536) (le-leb 1 n l) (le-leb n 65536 m))

option_item : (o : ParOptions) (a : List Token) (p : ParOptions) → IsParOption o a p → ParItem o a p
option_item o _ _ (g.num_threads t e u n h i j k l) =
    set_here o t e u (codes "num_threads") _ _ h (threads_at o i) j (ap (with_threads o) (counted_threads (number_of u) n k l))
option_item o _ _ (g.chunk_size t e u n h i j k l m) =
    set_here o t e u (codes "chunk_size") _ _ h (chunk_at o i) j (ap (with_chunk o) (counted_chunk (number_of u) n k l m))
option_item o _ _ (g.schedule t e u s h i j k) =
    set_here o t e u (codes "schedule") _ _ h (schedule_at o i) j (ap (with_schedule o) k)

-- ---- one option at least

setting_some : (o : ParOptions) (w : List ℕ) (f : Token → Option ParOptions) → setting o w ≡ Some f → (u : Token) × (p : ParOptions) × (f u ≡ Some p)
setting_some o w f h =
    setting_cases o w f h (λ f. (u : Token) × (p : ParOptions) × (f u ≡ Some p))
    (λ e i. (sample (kind.Number (pos 1)), record o { num_threads = Some 1 }, refl))
    (λ e i. (sample (kind.Number (pos 1)), record o { chunk_size = Some 1 }, refl))
    (λ e i. (sample (kind.Text (codes "static")), record o { schedule = Some Static }, refl))

open_first : (x y z : Bool) → x ≡ true → not (not x && not y && not z) ≡ true
open_first true y z h = refl
open_first false y z h = absurd (cc)

open_second : (x y z : Bool) → y ≡ true → not (not x && not y && not z) ≡ true
open_second true true z h = refl
open_second false true z h = refl
open_second x false z h = absurd (cc)

open_third : (x y z : Bool) → z ≡ true → not (not x && not y && not z) ≡ true
open_third true y true h = refl
open_third false true true h = refl
open_third false false true h = refl
open_third x y false h = absurd (cc)

setting_open : (o : ParOptions) (w : List ℕ) (f : Token → Option ParOptions) → setting o w ≡ Some f → takes_option o ≡ true
setting_open o w f h =
    setting_cases o w f h (λ f. takes_option o ≡ true)
    (λ e i. open_first (unset o.num_threads) (unset o.chunk_size) (unset o.schedule) (none_unset o.num_threads i))
    (λ e i. open_second (unset o.num_threads) (unset o.chunk_size) (unset o.schedule) (none_unset o.chunk_size i))
    (λ e i. open_third (unset o.num_threads) (unset o.chunk_size) (unset o.schedule) (none_unset o.schedule i))

item_open : (o : ParOptions) (a : List Token) (p : ParOptions) → ParItem o a p → takes_option o ≡ true
item_open o a p k = let n = named_setting o k.heads.0 k.value k.heads.2 in setting_open o n.0 k.value n.2

named_some : (o : ParOptions) (w : List ℕ) (f : Token → Option ParOptions) → setting o w ≡ Some f → bytes_eq w w ≡ true → Viable (ParItem o) []
named_some o w f h i =
    let k = setting_some o w f h in
    (sample (kind.Name w) ∷ op_token (codes "=") ∷ k.0 ∷ [], k.1, set_here o (sample (kind.Name w)) (op_token (codes "=")) k.0 w f k.1 i h refl k.2)

item_some : (o : ParOptions) → takes_option o ≡ true → Viable (ParItem o) []
item_some o h =
    let go : (x : Option ℕ) (y : Option ℕ) (z : Option Schedule) → o.num_threads ≡ x → o.chunk_size ≡ y → o.schedule ≡ z → not (not (unset x) && not (unset y) && not (unset z)) ≡ true → Viable (ParItem o) [] = elim [
      | None ↦ λ y z i j k e. named_some o (codes "num_threads") _ (threads_at o i) refl
      | Some n ↦ elim [
        | None ↦ λ z i j k e. named_some o (codes "chunk_size") _ (chunk_at o j) refl
        | Some m ↦ elim [
          | None ↦ λ i j k e. named_some o (codes "schedule") _ (schedule_at o k) refl
          | Some s ↦ λ i j k e. absurd (cc)
        ]
      ]
    ] in
    go o.num_threads o.chunk_size o.schedule refl refl refl h

item_law : (o : ParOptions) (ts : List Token) → Law (ParItem o) (Limited (ParItem o) Any) print_item_on ts (reading.par_item o ts)
unfolding reading.par_item
item_law o ts =
    join_law (Picks (setting_at o)) never (λ f. Opens is_equals (λ _. Picks f)) print_item_on Any Any
    (record {
      apart = λ a f k c w s h free. free_never (c ++ s);
      ends = λ a f k. let n = named_setting o k.0 f k.2 in let m = setting_some o n.0 f n.2 in (op_token (codes "=") ∷ m.0 ∷ [], m.1, (op_token (codes "="), m.0 ∷ [], refl, refl, (m.0, refl, m.2)));
      ends_within = λ a f k l. let n = named_setting o k.0 f k.2 in let m = setting_some o n.0 f n.2 in (op_token (codes "=") ∷ m.0 ∷ [], m.1, ((op_token (codes "="), m.0 ∷ [], refl, refl, (m.0, refl, m.2)), tt));
      shrinks = λ a f k c w h l. tt;
    }) ts (take_by (setting_at o) ts) (take_limited (setting_at o) Any (λ f. tt) never ts) (λ f. expect is_equals >>= λ _. take_by f)
    (λ used f us k l e. let n = named_setting o k.0 f k.2 in let m = setting_some o n.0 f n.2 in
    open_limited is_equals (λ _. Picks f) Any print_item_on (λ t h. (m.0 ∷ [], m.1, ((m.0, refl, m.2), tt))) us (λ _. take_by f)
    (λ t vs h i. take_limited f Any (λ p. tt) print_item_on vs))

-- ---- options with commas

abbrev Step : ParOptions → Language Token ParOptions
Step o = Opens is_comma (λ _. ParItem o)

abbrev goes_on : ParOptions → Token → Bool
goes_on o t = takes_option o && is_comma t

sees_comma : (x : Bool) → x ≡ true → (ts : List Token) → sees is_comma ts ≡ true → sees (λ t. x && is_comma t) ts ≡ true
sees_comma false e ts h = absurd (cc)
sees_comma true e [] h = absurd (cc)
sees_comma true e (t ∷ ts) h = h

goes_true : (x : Bool) (ts : List Token) → sees (λ t. x && is_comma t) ts ≡ true → x ≡ true
goes_true true ts h = refl
goes_true false [] h = absurd (cc)
goes_true false (t ∷ ts) h = absurd (cc)

repeated : Repeated goes_on Step (λ o. print_item_on) printed_on Any
repeated = record {
  opens = λ o b p s k. sees_comma (takes_option o) (item_open o k.1 p k.4) (b ++ s) (ap (λ z. sees is_comma (z ++ s)) k.2 ∙ k.3);
  own = λ o t h. comma_printed t (and_both (takes_option o) (is_comma t) h).1;
  wider = λ o t h. printed_item t h;
  next = λ o b p t k h. comma_item t (and_both (takes_option p) (is_comma t) h).1;
  shrinks = λ o b p k f. tt;
}

more_law : (o : ParOptions) (ts : List Token) → Law (Turns Step o) (Limited (Turns Step o) Any) printed_on ts (reading.more_options o ts)
unfolding reading.more_options
more_law o ts =
    repeat_law goes_on Step (λ o. print_item_on) printed_on Any repeated (λ p. expect is_comma >>= λ _. reading.par_item p)
    (λ p f us h. open_limited is_comma (λ _. ParItem p) Any print_item_on (λ t i. let k = item_some p (goes_true (takes_option p) us h) in (k.0, k.1, (k.2, tt))) us (λ _. reading.par_item p)
    (λ t vs i e. item_law p vs))
    (length ts) o ts (omega arith) tt

abbrev Row : ParOptions → Language Token ParOptions
Row o = Then (ParItem o) (Turns Step)

row_read : (o : ParOptions) (a : List Token) (q : ParOptions) → IsParRow o a q → Row o a q
row_read _ _ _ (g.last o a p k) = record { first = a; second = []; value = p; joined = sym (append-nil a); heads = option_item o a p k; tails = done p }
row_read _ _ _ (g.another o a p c b q k h rest) =
    let m = row_read p b q rest in
    record {
      first = a;
      second = c ∷ b;
      value = p;
      joined = refl;
      heads = option_item o a p k;
      tails = let P : List Token → Type 0 = λ z. Turns Step p (c ∷ z) q in subst P (sym m.joined) (next p (c ∷ m.first) m.value m.second q (c, m.first, refl, h, m.heads) m.tails);
    }

turns_row : (p : ParOptions) (c : List Token) (q : ParOptions) → Turns Step p c q → (o : ParOptions) (a : List Token) → IsParOption o a p → IsParRow o (a ++ c) q
turns_row _ _ _ (done p) o a k = let P : List Token → Type 0 = λ z. IsParRow o z p in subst P (sym (append-nil a)) (g.last o a p k)
turns_row _ _ _ (next p b u c q s rest) o a k =
    let m = turns_row u c q rest p s.1 (item_option p s.1 u s.4) in
    let P : List Token → Type 0 = λ z. IsParRow o (a ++ (z ++ c)) q in
    subst P (sym s.2) (g.another o a p s.0 (s.1 ++ c) q k s.3 m)

read_row : (o : ParOptions) (a : List Token) (q : ParOptions) → Row o a q → IsParRow o a q
read_row o a q k = let P : List Token → Type 0 = λ z. IsParRow o z q in subst P (sym k.joined) (turns_row k.value k.second q k.tails o k.first (item_option o k.first k.value k.heads))

turns_apart : (o : ParOptions) (c : List Token) (q : ParOptions) (s : List Token) → Turns Step o c q → Free printed_on s → Free print_item_on (c ++ s)
turns_apart _ _ _ s (done o) free = wider_at print_item_on printed_on printed_item s free
turns_apart _ _ _ s (next o b u c q k rest) free = ap (λ z. sees print_item_on ((z ++ c) ++ s)) k.2 ∙ comma_item k.0 k.3

row_law : (ts : List Token) → Law (IsParRow no_options) (Limited (IsParRow no_options) Any) printed_on ts (and_then (reading.par_item no_options ts) reading.more_options)
row_law ts =
    same_law (Row no_options) (IsParRow no_options) Any printed_on (read_row no_options) (row_read no_options) ts _
    (join_law (ParItem no_options) print_item_on (Turns Step) printed_on Any Any
    (record {
      apart = λ a o k c w s h free. turns_apart o c w s h free;
      ends = λ a o k. ([], o, done o);
      ends_within = λ a o k f. ([], o, (done o, tt));
      shrinks = λ a o k c w h f. tt;
    }) ts (reading.par_item no_options ts) (item_law no_options ts) reading.more_options (λ used o us k f e. more_law o us))

abbrev Written : Language Token ParOptions
Written = Opens is_bracket (λ _. Closes (IsParRow no_options) is_bracket_end (λ o. o))

options_up : (a : List Token) (o : ParOptions) → Either Written (Is no_options) a o → IsParOptions a o
options_up a o (inl k) =
    let m = k.4 in
    let T : List Token → Type 0 = λ z. IsParOptions z o in
    let V : ParOptions → Type 0 = λ z. IsParOptions (k.0 ∷ (m.0 ++ m.2 ∷ [])) z in
    subst T (sym (k.2 ∙ ap (λ z. k.0 ∷ z) m.3)) (subst V (sym m.6) (g.written k.0 m.0 m.1 m.2 k.3 m.4 m.5))
options_up a o (inr k) =
    let T : List Token → Type 0 = λ z. IsParOptions z o in
    let V : ParOptions → Type 0 = λ z. IsParOptions [] z in
    subst T (sym k.0) (subst V (sym k.1) g.absent)

options_down : (a : List Token) (o : ParOptions) → IsParOptions a o → Either Written (Is no_options) a o
options_down _ _ g.absent = inr (refl, refl)
options_down _ _ (g.written t a o c h k i) = inl (t, a ++ c ∷ [], refl, h, (a, o, c, refl, k, i, refl))

pub par_options_law : (ts : List Token) → Law IsParOptions (Limited IsParOptions Any) is_bracket ts (reading.par_options ts)
unfolding reading.par_options
par_options_law ts =
    same_law (Either Written (Is no_options)) IsParOptions Any is_bracket options_up options_down ts _
    (optional_law Written no_options Any tt is_bracket is_bracket (λ a w s k. ap (λ z. sees is_bracket (z ++ s)) k.2 ∙ k.3) (λ t h. h)
    (λ us. and_then (expect is_bracket us) (λ _. reading.par_item no_options >>= reading.more_options >>= λ o. expect is_bracket_end >> pure o)) ts
    (λ h. let k = item_some no_options refl in
    open_limited is_bracket (λ _. Closes (IsParRow no_options) is_bracket_end (λ o. o)) Any is_bracket
    (λ t i. (k.0 ++ op_token (codes ")") ∷ [], k.1, ((k.0, k.1, op_token (codes ")"), refl, g.last no_options k.0 k.1 (item_option no_options k.0 k.1 k.2), refl, refl), tt)))
    ts (λ _. reading.par_item no_options >>= reading.more_options >>= λ o. expect is_bracket_end >> pure o)
    (λ t us i e. close_limited is_bracket_end (op_token (codes ")")) refl (IsParRow no_options) printed_on is_bracket (λ u j. ap not j) (λ o. o) Any Any
    (record { grows = λ o f. tt; shrinks = λ o f. tt }) us _ (row_law us))))
