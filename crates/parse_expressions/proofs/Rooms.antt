-- The parsers at a limit of height: where there is no room, and where the parts have one level less.
use Rattle.std.proofs.Common.{◌≡◌, ℕ, zero, suc, ◌-◌, ◌<◌, List, refl, ap, arith}
use Rattle.indent_lexer.specs.declared.token.Token.{Token}
use Rattle.source_trees.specs.declared.expression.Expr.{Expr}
use Rattle.parse_laws.specs.Parser.{Stopped, refuse, choose, ◌>>=◌}
use Rattle.parse_laws.specs.declared.cause.Cause.TheVariants.{TooDeep}
use Rattle.parse_expressions.specs.declared.form.Form.{Form}
use Rattle.parse_expressions.specs.Forms.{opening, begins}
use Rattle.parse_expressions.specs.Reading.{is_dot, atom, dotted, at_form, read}
use Rattle.parse_expressions.specs.TypeReading.{type_begins, type_at, read_type}
use Rattle.parse_expressions.specs.TargetReading.{too_deep, target_atom, target_after, target_indexed, target_trailers, pointed, read_target}

one_less : (n : ℕ) → n ≡ suc n - 1
one_less n = omega arith

pub read_none : (room : ℕ) (f : Form) (ts : List Token) → room ≡ 0 → read room f ts ≡ choose (begins (opening f)) (λ us. Stopped TooDeep us) refuse ts
unfolding read
read_none zero f ts h = refl
read_none (suc n) f ts h = absurd (omega arith)

pub read_some : (room : ℕ) (f : Form) (ts : List Token) → 0 < room → read room f ts ≡ at_form (room - 1) (read (room - 1)) f ts
unfolding read
read_some zero f ts h = absurd (omega arith)
read_some (suc n) f ts h = ap (λ k. at_form k (read k) f ts) (one_less n)

pub type_none : (room : ℕ) (ts : List Token) → room ≡ 0 → read_type room ts ≡ choose type_begins (λ us. Stopped TooDeep us) refuse ts
unfolding read_type
type_none zero ts h = refl
type_none (suc n) ts h = absurd (omega arith)

pub type_some : (room : ℕ) (ts : List Token) → 0 < room → read_type room ts ≡ type_at (room - 1) (read_type (room - 1)) ts
unfolding read_type
type_some zero ts h = absurd (omega arith)
type_some (suc n) ts h = ap (λ k. type_at k (read_type k) ts) (one_less n)

pub target_none : (room : ℕ) (ts : List Token) → room ≡ 0 → read_target room ts ≡ too_deep 1 ts
unfolding read_target
target_none zero ts h = refl
target_none (suc n) ts h = absurd (omega arith)

pub target_some : (room : ℕ) (ts : List Token) → 0 < room → read_target room ts ≡ (target_atom (room - 1) >>= λ x. target_trailers (room - 1) x >>= pointed) ts
unfolding read_target
target_some zero ts h = absurd (omega arith)
target_some (suc n) ts h = ap (λ k. (target_atom k >>= λ x. target_trailers k x >>= pointed) ts) (one_less n)

pub atom_none : (room : ℕ) (ts : List Token) → room ≡ 0 → target_atom room ts ≡ target_atom 0 ts
atom_none room ts h = ap (λ k. target_atom k ts) h

pub atom_some : (room : ℕ) (ts : List Token) → 0 < room → target_atom room ts ≡ atom (room - 1) (read (room - 1)) ts
unfolding target_atom
atom_some zero ts h = absurd (omega arith)
atom_some (suc n) ts h = ap (λ k. atom k (read k) ts) (one_less n)

pub after_none : (room : ℕ) (x : Expr) (ts : List Token) → room ≡ 0 → target_after room x ts ≡ refuse ts
after_none zero x ts h = refl
after_none (suc n) x ts h = absurd (omega arith)

pub after_some : (room : ℕ) (x : Expr) (ts : List Token) → 0 < room → target_after room x ts ≡ choose is_dot (dotted (room - 1) (read (room - 1)) x) (target_indexed (room - 1) x) ts
after_some zero x ts h = absurd (omega arith)
after_some (suc n) x ts h = ap (λ k. choose is_dot (dotted k (read k) x) (target_indexed k x) ts) (one_less n)
