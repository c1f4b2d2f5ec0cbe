use Rattle.std.proofs.Common.{ℕ, List, Ok, Err}
use Rattle.std.proofs.lemmas.Result.{err_from_is_err_and}
use Rattle.plan_device.specs.Answer.{IsDeviceOf}
use Rattle.plan_device.specs.declared.device.Device.{Device}
use Rattle.command_answers.specs.Files.{Named}
use Rattle.command_answers.specs.Outside.{store}
use Rattle.command_answers.specs.declared.file.File.TheVariants as role
use Rattle.command_answers.specs.declared.refusal.Refusal.TheVariants as code
use Rattle.command_answers.proofs.Taking.{took_nothing, took_from}
use Rattle.command_plan.specs.Means.{IsBadDevice}
use Rattle.command_plan.proofs.Taking.{faulty_device}
use Rattle.command_plan.proofs.planning.read_device_file.Goals as goal

pub returns-in_err-text-clause-took : goal.returns-in_err-text-clause-took
returns-in_err-text-clause-took g c =
    let p = err_from_is_err_and c.from_residual.result c.from_residual.ensures.1 in
    rw (p.1, p.2) (took_nothing (store g.S.Shelf c.args.shelf.now) (store g.S.Shelf c.read_file.new.shelf) role.Device (Named c.args.file.now) (IsBadDevice c.args.program.now c.args.graph.now)
    (λ (bytes : List ℕ) (device : Device). IsDeviceOf bytes c.args.program.now c.args.graph.now device) c.in_err-text.field-0.0 c.in_err-text.ensures.took)

pub returns-in_err-device-clause-took : goal.returns-in_err-device-clause-took
returns-in_err-device-clause-took g c =
    let p = err_from_is_err_and c.from_residual-in_err-device.result c.from_residual-in_err-device.ensures.1 in
    rw (p.1, p.2) (took_from (store g.S.Shelf c.args.shelf.now) (store g.S.Shelf c.read_file.new.shelf) role.Device (Named c.args.file.now) (IsBadDevice c.args.program.now c.args.graph.now)
    (λ (bytes : List ℕ) (device : Device). IsDeviceOf bytes c.args.program.now c.args.graph.now device) c.in_ok-text.text c.in_ok-text.ensures.took (Err (code.Device c.in_err-device.field-0.0)) tt
    (faulty_device c.args.program.now c.args.graph.now c.in_ok-text.text.items c.in_err-device.field-0.0 (rw c.deref.ensures.value at c.in_err-device.ensures.cause)))

pub returns-clause-took : goal.returns-clause-took
returns-clause-took g c =
    took_from (store g.S.Shelf c.args.shelf.now) (store g.S.Shelf c.read_file.new.shelf) role.Device (Named c.args.file.now) (IsBadDevice c.args.program.now c.args.graph.now)
    (λ (bytes : List ℕ) (device : Device). IsDeviceOf bytes c.args.program.now c.args.graph.now device) c.in_ok-text.text c.in_ok-text.ensures.took (Ok c.in_ok-device.device)
    (rw c.deref.ensures.value at c.in_ok-device.ensures.value) tt
