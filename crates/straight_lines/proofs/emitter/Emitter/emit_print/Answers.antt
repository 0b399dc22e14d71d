use Rattle.std.proofs.Common.{◌≡◌, ◌++◌, ◌∷◌, [], ap, ◌∙◌, refl, arith, append_assoc}
use Rattle.std.proofs.lemmas.Grind.{common_steps}
use Rattle.code_module.specs.declared.instr.Instr.TheVariants.{Text, Print}
use Rattle.straight_lines.specs.Names.{number_in, is_numbered}
use Rattle.straight_lines.specs.Emitted.{print_code}
use Rattle.straight_lines.proofs.Statements.{print_emitted}
use Rattle.straight_lines.proofs.emitter.Emitter.emit_print.Goals as goal

pub returns-in_err-value-clause-err : goal.returns-in_err-value-clause-err
returns-in_err-value-clause-err c =
    let first = c.in_err-value.ensures.err (is_numbered (number_in c.args.self.now.names)) in
    grind (arith, common_steps, first)

pub returns-clause-ok : goal.returns-clause-ok
returns-clause-ok c =
    let written : c.push-3.new.self.items ≡ c.emit_sum.new.code.items ++ print_code =
    c.in_ok-push-3.ensures.items
    ∙ ap (λ l. l ++ Print 1 ∷ []) (c.in_ok-push-2.ensures.items ∙ ap (λ l. l ++ Text 1 ∷ []) c.in_ok-push.ensures.items)
    ∙ simp append_assoc in
    print_emitted c.args.self.now (record { code = c.push-3.new.self; names = c.args.self.now.names }) c.emit_sum.new.code.items c.args.n.now c.args.printed.now c.in_ok-value.value.now c.in_ok-value.ensures.value c.in_ok-value.ensures.plain c.in_ok-emit_sum.ensures.ok written refl c.requires
