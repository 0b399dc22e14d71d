-- One thing is due for a text and a command, and one only.
use Rattle.std.proofs.Common.{◌≡◌, ◌⊎◌, ℕ, ◌≤◌, List, Some, None, length, subst, sym, ap, ◌∙◌, inl, inr, arith}
use Rattle.outer_world.specs.Files.{Told, Absent, Held, MayHold, IsLonger}
use Rattle.outer_world.specs.declared.status.Status.TheVariants as status
use Rattle.indent_lexer.specs.declared.token.Token.{Token}
use Rattle.indent_lexer.proofs.OneReading.{lists, apart, refusals}
use Rattle.source_trees.specs.declared.item.Module.{Module}
use Rattle.grammar_rules.specs.Modules.{Source, Tree}
use Rattle.grammar_rules.specs.Refusals.{IsParsePlace}
use Rattle.meaning_rules.specs.State.{TooDeep}
use Rattle.meaning_rules.specs.Outcome.{Stops}
use Rattle.codon_front.specs.Command.{Command}
use Rattle.codon_front.specs.Refusals.{lex_line, parse_line, unbuilt_line, too_long_line}
use Rattle.codon_front.specs.Due.{Due, IsPlainDue, EntersMore, IsDueOfTree, IsRefusedWith, IsDueOfText, IsDue, deep_line, refused, source_limit}
use Rattle.codon_front.proofs.Parsing.{apart_tree, only_tree, one_place}
use Rattle.codon_front.specs.declared.command.Action.{Action}
use Rattle.codon_front.specs.declared.command.Action.TheVariants.{Run, Plain, Check}

-- ---- trees

abbrev deep : List ℕ → Due
deep bytes = record { out = bytes; err = deep_line; status = status.Deep }

same_bytes : (m : Module) (fuel : ℕ) (a b : List ℕ) → EntersMore m fuel a → EntersMore m fuel b → a ≡ b
same_bytes m fuel a b h g =
    let both : Stops TooDeep h.0 ≡ Stops TooDeep g.0 = sym h.1 ∙ g.1 in
    let state : h.0 ≡ g.0 = cc in
    h.2 ∙ ap (λ s. s.shared.out) state ∙ sym g.2

one_plain : (m : Module) (fuel : ℕ) (d e : Due) → IsPlainDue m fuel d → IsPlainDue m fuel e → d ≡ e
one_plain m fuel d e (inl h) (inl g) = h.1 ∙ sym g.1
one_plain m fuel d e (inl h) (inr g) = absurd (h.0 g.0 g.2)
one_plain m fuel d e (inr h) (inl g) = absurd (g.0 h.0 h.2)
one_plain m fuel d e (inr h) (inr g) = h.4 ∙ ap deep (same_bytes m fuel h.0 g.0 h.2 g.2) ∙ sym g.4

one_run : (m : Module) (fuel : ℕ) (d e : Due) → IsDueOfTree m (Run fuel) d → IsDueOfTree m (Run fuel) e → d ≡ e
one_run m fuel d e (inl h) (inl g) = h.1 ∙ sym g.1
one_run m fuel d e (inl h) (inr g) = let both : None ≡ Some g.0 = sym h.0 ∙ g.1 in absurd (cc)
one_run m fuel d e (inr h) (inl g) = let both : None ≡ Some h.0 = sym g.0 ∙ h.1 in absurd (cc)
one_run m fuel d e (inr h) (inr g) =
    let both : Some h.0 ≡ Some g.0 = sym h.1 ∙ g.1 in
    let place : h.0 ≡ g.0 = cc in
    h.2 ∙ ap (λ at. refused (unbuilt_line at)) place ∙ sym g.2

one_of_tree : (m : Module) (action : Action) (d e : Due) → IsDueOfTree m action d → IsDueOfTree m action e → d ≡ e
one_of_tree m (Plain fuel) d e h g = one_plain m fuel d e h g
one_of_tree m Check d e h g = h ∙ sym g
one_of_tree m (Run fuel) d e h g = one_run m fuel d e h g

-- ---- texts

same_tokens : (text : List ℕ) (m w : Module) → Source text m → Source text w → m ≡ w
same_tokens text m w h g =
    let tokens : h.0 ≡ g.0 = lists text h.0 g.0 h.1 g.1 in
    let P : List Token → Type 0 = λ ts. Tree ts m in
    only_tree g.0 w m g.2 (subst P tokens h.2)

same_line : (text line other : List ℕ) → IsRefusedWith text line → IsRefusedWith text other → line ≡ other
same_line text line other (inl h) (inl g) = h.2 ∙ ap lex_line (refusals text h.0 g.0 h.1 g.1) ∙ sym g.2
same_line text line other (inl h) (inr g) = absurd (apart text g.0 h.0 g.2 h.1)
same_line text line other (inr h) (inl g) = absurd (apart text h.0 g.0 h.2 g.1)
same_line text line other (inr h) (inr g) =
    let tokens : h.0 ≡ g.0 = lists text h.0 g.0 h.2 g.2 in
    let P : List Token → Type 0 = λ ts. IsParsePlace ts h.1 in
    let place : h.1 ≡ g.1 = one_place g.0 h.1 g.1 (subst P tokens h.3) g.3 in
    h.4 ∙ ap (λ ts. parse_line text ts h.1) tokens ∙ ap (parse_line text g.0) place ∙ sym g.4

not_both : (text line : List ℕ) (m : Module) → IsRefusedWith text line → Source text m → ⊥
not_both text line m (inl h) g = apart text g.0 h.0 g.1 h.1
not_both text line m (inr h) g =
    let P : List Token → Type 0 = λ ts. IsParsePlace ts h.1 in
    apart_tree g.0 m h.1 g.2 (subst P (lists text h.0 g.0 h.2 g.1) h.3)

pub one_of_text : (action : Action) (text : List ℕ) (d e : Due) → IsDueOfText action text d → IsDueOfText action text e → d ≡ e
one_of_text action text d e (inl h) (inl g) = h.2 ∙ ap refused (same_line text h.0 g.0 h.1 g.1) ∙ sym g.2
one_of_text action text d e (inl h) (inr g) = absurd (not_both text h.0 g.0 h.1 g.1)
one_of_text action text d e (inr h) (inl g) = absurd (not_both text g.0 h.0 g.1 h.1)
one_of_text action text d e (inr h) (inr g) =
    let P : Module → Type 0 = λ m. IsDueOfTree m action d in
    one_of_tree g.0 action d e (subst P (same_tokens text h.0 g.0 h.1 g.1) h.2) g.2

-- ---- files

abbrev OfTold : Told → Action → Due → Type 0
OfTold told action d =
    (IsLonger told source_limit × (d ≡ refused too_long_line))
    ⊎ ((text : List ℕ) × (MayHold told text × (length text ≤ source_limit)) × IsDueOfText action text d)

told_of : (told : List ℕ → Told) (c : Command) (d : Due) → IsDue told (Some c) d → OfTold (told c.file) c.action d
told_of told c d (inl h) = inl h
told_of told c d (inr h) = inr (h.0, (h.1.held, h.1.short), h.2)

too_long : (held text : List ℕ) → IsLonger (Held held) source_limit → text ≡ held → length text ≤ source_limit → ⊥
too_long held text long same short = omega (arith, ap length same, long, short)

one_held : (held : List ℕ) (action : Action) (d e : Due) → OfTold (Held held) action d → OfTold (Held held) action e → d ≡ e
one_held held action d e (inl h) (inl g) = h.1 ∙ sym g.1
one_held held action d e (inl h) (inr g) = absurd (too_long held g.0 h.0 g.1.0 g.1.1)
one_held held action d e (inr h) (inl g) = absurd (too_long held h.0 g.0 h.1.0 h.1.1)
one_held held action d e (inr h) (inr g) =
    let P : List ℕ → Type 0 = λ t. IsDueOfText action t d in
    let Q : List ℕ → Type 0 = λ t. IsDueOfText action t e in
    one_of_text action held d e (subst P h.1.0 h.2) (subst Q g.1.0 g.2)

-- where the store tells what the file holds, one thing is due
pub one_of_file : (told : List ℕ → Told) (c : Command) (held : List ℕ) (d e : Due) → told c.file ≡ Held held → IsDue told (Some c) d → IsDue told (Some c) e → d ≡ e
one_of_file told c held d e same h g =
    let P : Told → Type 0 = λ t. OfTold t c.action d in
    let Q : Told → Type 0 = λ t. OfTold t c.action e in
    one_held held c.action d e (subst P same (told_of told c d h)) (subst Q same (told_of told c e g))

-- where it tells that the file is not there, nothing is due for a text
pub none_of_absent : (action : Action) (d : Due) → OfTold Absent action d → ⊥
none_of_absent action d (inl h) = h.0
none_of_absent action d (inr h) = h.1.0

pub not_absent : (told : List ℕ → Told) (c : Command) (d : Due) → told c.file ≡ Absent → IsDue told (Some c) d → ⊥
not_absent told c d same h =
    let P : Told → Type 0 = λ t. OfTold t c.action d in
    none_of_absent c.action d (subst P same (told_of told c d h))
