use Rattle.std.proofs.Common.{◌≡◌, ◌∙◌, OnErr, IfOk, subst}
use Rattle.std.specs.Prelude.{IsErrOf}
use Rattle.tapa_files.specs.declared.fault.PrintFault.TheVariants.{WriteFault}
use Rattle.tapa_syntax.specs.declared.program.Program.{Program}
use Rattle.net_core.specs.declared.input.Input.{Input}
use Rattle.run_program.specs.Ending.{EndsSo, HasFront, HasPart}
use Rattle.net_core.specs.Bounded.{values_of}
use Rattle.run_program.proofs.run.run_program.Goals as goal

pub returns-clause-part : goal.returns-clause-part
returns-clause-part g c =
    let same : c.deref.result.now ≡ c.args.program = c.deref.ensures ∙ c.in-Ok.ensures.ok in
    let also : c.deref-2.result.now ≡ c.args.input = c.deref-2.ensures ∙ c.in-Ok-new.ensures.ok in
    subst (λ (i : Input). OnErr c.drive.result (HasPart c.args.program (values_of i) c.args.limit (g.O.Sink.contents c.args.out.now) (g.O.Sink.contents c.drive.new.out))) also
    (subst (λ (p : Program). OnErr c.drive.result (HasPart p (values_of c.deref-2.result.now) c.args.limit (g.O.Sink.contents c.args.out.now) (g.O.Sink.contents c.drive.new.out))) same c.drive.ensures.part)

pub returns-clause-front : goal.returns-clause-front
returns-clause-front g c =
    let same : c.deref.result.now ≡ c.args.program = c.deref.ensures ∙ c.in-Ok.ensures.ok in
    let also : c.deref-2.result.now ≡ c.args.input = c.deref-2.ensures ∙ c.in-Ok-new.ensures.ok in
    subst (λ (i : Input). IsErrOf c.drive.result WriteFault → HasFront c.args.program (values_of i) c.args.limit (g.O.Sink.contents c.args.out.now) (g.O.Sink.contents c.drive.new.out)) also
    (subst (λ (p : Program). IsErrOf c.drive.result WriteFault → HasFront p (values_of c.deref-2.result.now) c.args.limit (g.O.Sink.contents c.args.out.now) (g.O.Sink.contents c.drive.new.out)) same c.drive.ensures.front)

pub returns-clause-end : goal.returns-clause-end
returns-clause-end g c =
    let same : c.deref.result.now ≡ c.args.program = c.deref.ensures ∙ c.in-Ok.ensures.ok in
    let also : c.deref-2.result.now ≡ c.args.input = c.deref-2.ensures ∙ c.in-Ok-new.ensures.ok in
    subst (λ (i : Input). IfOk c.drive.result (λ end. EndsSo c.args.program (values_of i) c.args.limit (g.O.Sink.contents c.args.out.now) (g.O.Sink.contents c.drive.new.out) end)) also
    (subst (λ (p : Program). IfOk c.drive.result (λ end. EndsSo p (values_of c.deref-2.result.now) c.args.limit (g.O.Sink.contents c.args.out.now) (g.O.Sink.contents c.drive.new.out) end)) same c.drive.ensures.end)
