use Rattle.std.proofs.Common.{◌≡◌, List, subst}
use Rattle.std.specs.Slice.{IsItemAt}
use Rattle.plain_interpreter.specs.declared.prepared.KnownClass.{KnownClass}
use Rattle.plain_interpreter.proofs.MethodCalls.{copied_at}
use Rattle.plain_interpreter.proofs.methods.class_at.Goals as goal

pub returns : goal.returns
returns c =
    let e : c.deref.result.now ≡ c.args.program.now.classes.items = cc (c.deref.ensures.value) in
    copied_at c.args.program.now.classes.items c.args.class c.get.result (subst (λ (xs : List KnownClass). IsItemAt xs c.args.class c.get.result) e c.get.ensures.lookup)
