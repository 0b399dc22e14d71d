use Rattle.std.proofs.Common.{rules, arith, ◌≡◌, ◌-◌, length, slice_get, Some, subst}
use Rattle.std.proofs.lemmas.Grind.{common_steps}
use Rattle.indent_lexer.specs.declared.token.Token.{Token}
use Rattle.parse_laws.specs.Parser.{Stopped}
use Rattle.parse_statements.specs.Code.{readers}
use Rattle.parse_blocks.specs.Code.{refusal_at}
use Rattle.parse_blocks.specs.Sources.{source}
use Rattle.parse_blocks.proofs.Answered.{place_is}
use Rattle.parse_blocks.proofs.source.read_source.Goals as goal

pub returns-in-Err-Refused-clause-refusal : goal.returns-in-Err-Refused-clause-refusal
returns-in-Err-Refused-clause-refusal c = λ held short.
    let ts = c.args.tokens.now in
    let rest = c.read_all.new.cursor in
    let k = c.in-Err-Refused.cause in
    let stopped : source readers ts ≡ Stopped k rest = first_of (search rules, grind (arith, common_steps)) in
    let told : (t : Token) → slice_get ts (length ts - length rest) ≡ Some t → c.refusal.result ≡ refusal_at (length ts - length rest) k t =
    λ t h. subst (λ n. slice_get ts (length ts - n) ≡ Some t → c.refusal.result ≡ refusal_at (length ts - n) k t) c.left.ensures (λ s. c.refusal.ensures t s short) h in
    place_is ts held k rest c.refusal.result stopped told
