use Rattle.std.proofs.Common.{◌≡◌, ◌++◌, ◌∷◌, [], subst, sym, ap, ◌∙◌, rules, w64, FitsSigned}
use Rattle.std.proofs.lemmas.Int.{to_z-of_z}
use Rattle.source_trees.specs.declared.expression.Expr.{Expr}
use Rattle.code_module.specs.declared.instr.Instr.TheVariants.{Int}
use Rattle.straight_lines.specs.Names.{number_in}
use Rattle.straight_lines.specs.Emitted.{EmitsSum}
use Rattle.straight_lines.proofs.Sums.{number_emitted, name_emitted, bracketed_emitted, binary_emitted}
use Rattle.straight_lines.proofs.sum.+emit_sum.Goals as goal

pub returns-in_ok-push-in-Number-clause-ok : goal.returns-in_ok-push-in-Number-clause-ok
returns-in_ok-push-in-Number-clause-ok t c =
    let fits : FitsSigned w64 c.in-Number.number = search rules in
    let written : c.push.new.self.items ≡ c.args.code.now.items ++ Int c.in-Number.number ∷ [] = c.in_ok-push-in-Number.ensures.items ∙ ap (λ z. c.args.code.now.items ++ Int z ∷ []) (to_z-of_z w64 c.in-Number.number fits) in
    subst (λ (e : Expr). EmitsSum (number_in c.args.names.now) e c.args.code.now.items c.push.new.self.items) (sym c.in-Number.is) (number_emitted (number_in c.args.names.now) c.in-Number.field-0 c.in-Number.number c.args.code.now.items c.push.new.self.items written)

pub returns-in_ok-push-in-Name-clause-ok : goal.returns-in_ok-push-in-Name-clause-ok
returns-in_ok-push-in-Name-clause-ok t c =
    subst (λ (e : Expr). EmitsSum (number_in c.args.names.now) e c.args.code.now.items c.push-in-Name.new.self.items) (sym c.in-Name.is) (name_emitted (number_in c.args.names.now) c.in-Name.n c.in-Name.name c.in-Some.number c.args.code.now.items c.push-in-Name.new.self.items (sym c.number.ensures ∙ c.in-Some.is) c.in_ok-push-in-Name.ensures.items)

pub returns-in_ok-emit_sum-in-Bracketed-clause-ok : goal.returns-in_ok-emit_sum-in-Bracketed-clause-ok
returns-in_ok-emit_sum-in-Bracketed-clause-ok t c =
    let inner = subst (λ (e : Expr). EmitsSum (number_in c.args.names.now) e c.args.code.now.items c.emit_sum.new.code.items) c.get.ensures c.in_ok-emit_sum-in-Bracketed.ensures.ok in
    subst (λ (e : Expr). EmitsSum (number_in c.args.names.now) e c.args.code.now.items c.emit_sum.new.code.items) (sym c.in-Bracketed.is) (bracketed_emitted (number_in c.args.names.now) c.in-Bracketed.field-0 c.in-Bracketed.inner c.args.code.now.items c.emit_sum.new.code.items inner)

pub returns-in_ok-push-in-Binary-clause-ok : goal.returns-in_ok-push-in-Binary-clause-ok
returns-in_ok-push-in-Binary-clause-ok t c =
    let first = subst (λ (e : Expr). EmitsSum (number_in c.args.names.now) e c.args.code.now.items c.emit_sum-in-Binary.new.code.items) c.get-in-Binary.ensures c.in_ok-emit_sum-in-Binary.ensures.ok in
    let second = subst (λ (e : Expr). EmitsSum (number_in c.args.names.now) e c.emit_sum-in-Binary.new.code.items c.emit_sum-in-Binary-2.new.code.items) c.get-in-Binary-2.ensures c.in_ok-emit_sum-in-Binary-2.ensures.ok in
    subst (λ (e : Expr). EmitsSum (number_in c.args.names.now) e c.args.code.now.items c.push-in-Binary.new.self.items) (sym c.in-Binary.is) (binary_emitted (number_in c.args.names.now) c.in-Binary.n c.in-Binary.by c.in-Some-operation_of.operation c.in-Binary.left c.in-Binary.right c.args.code.now.items c.emit_sum-in-Binary.new.code.items c.emit_sum-in-Binary-2.new.code.items c.push-in-Binary.new.self.items (sym c.operation_of.ensures ∙ c.in-Some-operation_of.is) first second c.in_ok-push-in-Binary.ensures.items)
