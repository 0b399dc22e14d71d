-- What the name of a stage makes where no bracket follows it.
use Rattle.std.proofs.Common.{◌≡◌, ℕ, Bool, true, false, cond, if◌then◌else◌, List, [], ap, codes}
use Rattle.std.specs.Str.{bytes_eq}
use Rattle.indent_lexer.specs.declared.token.Token.{Token}
use Rattle.source_trees.specs.declared.pipeline.StageForm.{StageForm}
use Rattle.source_trees.specs.declared.pipeline.StageForm.TheVariants as form
use Rattle.parse_laws.specs.Parser.{Outcome, Parsed, Parser, choose, pure, sees}
use Rattle.parse_statements.specs.Code.{readers}
use Rattle.parse_statements.specs.Prints.{nothing}
use Rattle.parse_statements.specs.Stages.{is_bracket, call_stage, print_stage, stage_after}
use Rattle.parse_statements.specs.Views.{bare_stage}

unbracketed : (b c : Bool) (p q : Parser Token StageForm) (s : List ℕ) (ts : List Token) → sees is_bracket ts ≡ false
    → (if b then choose is_bracket p (pure (form.Print nothing)) else choose is_bracket q (pure (if c then form.Iter else form.Call s [] []))) ts
    ≡ Parsed (if b then form.Print nothing else if c then form.Iter else form.Call s [] []) ts
unbracketed true c p q s ts h = ap (λ x. cond x (p ts) (Parsed (form.Print nothing) ts)) h
unbracketed false c p q s ts h = ap (λ x. cond x (q ts) (Parsed (if c then form.Iter else form.Call s [] []) ts)) h

pub stage_bare : (n : ℕ) (s : List ℕ) (ts : List Token) → sees is_bracket ts ≡ false → stage_after readers n s ts ≡ Parsed (bare_stage s) ts
unfolding stage_after
stage_bare n s ts h = unbracketed (bytes_eq s (codes "print")) (bytes_eq s (codes "iter")) (print_stage readers n) (call_stage readers n s) s ts h
