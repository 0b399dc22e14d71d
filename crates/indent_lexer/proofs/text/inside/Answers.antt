use Rattle.std.proofs.Common.{◌≡◌, ℕ, ◌<◌, List, ◌++◌, [], ◌∷◌, arith, sym, ◌∙◌, ap}
use Rattle.std.proofs.lemmas.Grind.{common_steps}
use Rattle.codon_base.specs.Ascii.{IsAsciiText}
use Rattle.indent_lexer.specs.Literal.{inside, prefixed}
use Rattle.indent_lexer.proofs.Inside.{inside_drop, read_holds, read_joins}
use Rattle.indent_lexer.proofs.text.inside.Goals as goal

no_ascii : (v : List ℕ) → v ≡ [] → IsAsciiText v
no_ascii v e = rw e (λ k d h. absurd (omega arith))

ascii_more : (v w : List ℕ) (c : ℕ) → w ≡ v ++ c ∷ [] → c < 128 → IsAsciiText v → IsAsciiText w
ascii_more v w c e h a = rw e (grind (arith, common_steps, a))

pub parts-init : goal.parts-init
parts-init c = record {
  read =
      inside_drop c.args.quote c.args.long c.args.opening c.args.text.now c.requires
      ∙ ap (λ t. prefixed [] c.args.opening (inside c.args.quote c.args.long 0 t)) (sym c.after-rest.ensures.value)
      ∙ ap (λ v. prefixed v c.args.opening (inside c.args.quote c.args.long 0 c.after-rest.result.now)) (sym c.new-value.ensures.items);
  passed = omega arith;
  ascii = no_ascii c.new-value.result.items c.new-value.ensures.items;
}

pub parts-preserved-in-Holds : goal.parts-preserved-in-Holds
parts-preserved-in-Holds c = record {
  read =
      read_holds c.args.quote c.args.long (inside c.args.quote c.args.long c.args.opening c.args.text.now) c.parts.value.items c.push.new.self.items c.parts.len
      c.parts.rest.now c.after-rest-in-Holds.result.now c.in-Holds.byte c.in-Holds.size c.parts.invariant.read (sym c.in-Holds.ensures.value)
      c.in-Holds.ensures.within.1 c.in-Holds.ensures.within.2 c.after-rest-in-Holds.ensures.value c.in_ok-push-in-Holds.ensures.items;
  passed = omega arith;
  ascii = ascii_more c.parts.value.items c.push.new.self.items c.in-Holds.byte c.in_ok-push-in-Holds.ensures.items c.in-Holds.ensures.within.0 c.parts.invariant.ascii;
}

pub parts-preserved : goal.parts-preserved
parts-preserved c = record {
  read =
      read_joins c.args.quote c.args.long (inside c.args.quote c.args.long c.args.opening c.args.text.now) c.parts.value.items c.parts.len
      c.parts.rest.now c.after-rest-in-Joins.result.now c.in-Joins.size c.parts.invariant.read (sym c.in-Joins.ensures.value)
      c.in-Joins.ensures.within.0 c.in-Joins.ensures.within.1 c.after-rest-in-Joins.ensures.value;
  passed = omega arith;
  ascii = c.parts.invariant.ascii;
}
