use Rattle.std.proofs.Common.{◌≡◌, sym, subst}
use Rattle.codon_base.specs.declared.value.Value.{Value}
use Rattle.meaning_rules.specs.Outcome.{Outcome}
use Rattle.meaning_rules.specs.Program.{fields_of}
use Rattle.plain_interpreter.specs.Seen.{seen, Tells}
use Rattle.plain_interpreter.specs.Tasks.{here}
use Rattle.plain_interpreter.proofs.Constructed.{constructed}
use Rattle.plain_interpreter.proofs.runner.Runner.construct_by.Goals as goal

pub returns : goal.returns
returns g c =
    let named : c.as_slice.result.now ≡ fields_of c.args.c.class.now.class.now = cc (c.as_slice.ensures, c.args.c.class.now.has_fields) in
    subst (λ (o : Outcome Value). Tells o c.initialize.result c.initialize.new.state)
    (sym (constructed (here c.args.self.now.program.now c.args.self.now.limit c.args.self.now.depth) c.args.c.number c.args.c.class.now.class.now c.args.known.now.function.now c.args.given c.in_ok-fields.fields c.as_slice.result.now (seen c.args.state.now) (seen c.allocate.new.state) c.in_ok-new.new named c.in_ok-fields.ensures c.in_ok-new.ensures))
    c.initialize.ensures
