use Rattle.std.proofs.Common.{◌≡◌, ℕ, List}
use Rattle.std.specs.Prelude.{option_map}
use Rattle.std.proofs.lemmas.Result.{err_from_is_err_and}
use Rattle.tapa_base.specs.declared.shape.Shape.{Shape}
use Rattle.run_data.specs.Answer.{IsDataOf}
use Rattle.run_data.specs.declared.data.Data.{Data}
use Rattle.vlog_design.specs.Environments.{environment_of}
use Rattle.vlog_design.specs.declared.env.Env.{Env}
use Rattle.command_answers.specs.Files.{data_held}
use Rattle.command_answers.specs.Outside.{store}
use Rattle.command_answers.specs.declared.file.File.TheVariants as role
use Rattle.command_answers.proofs.Taking.{took_refused, took_also}
use Rattle.command_source.specs.Means.{IsDataFault}
use Rattle.command_cosim.specs.Designs.{IsShapeIn, GivesEnvironment}
use Rattle.command_cosim.proofs.DesignShapes.{fits_top, gives_environment}
use Rattle.command_cosim.proofs.Faults.{faulty_data}
use Rattle.command_cosim.proofs.cosim.read_surroundings.Goals as goal

pub returns-in_err-shape-clause-took : goal.returns-in_err-shape-clause-took
returns-in_err-shape-clause-took g c =
    let p = err_from_is_err_and c.from_residual.result c.from_residual.ensures.1 in
    rw (p.1, p.2) tt

pub returns-in_err-scalars-clause-took : goal.returns-in_err-scalars-clause-took
returns-in_err-scalars-clause-took g c =
    let p = err_from_is_err_and c.from_residual-in_err-scalars.result c.from_residual-in_err-scalars.ensures.1 in
    rw (p.1, p.2) (took_refused (store g.S.Shelf c.args.shelf.now) (store g.S.Shelf c.read_given.new.shelf) role.Data (data_held (option_map (λ file. file.now) c.args.named))
    (IsDataFault (λ (s : Shape). s ≡ c.in_ok-shape.shape)) (IsDataFault (IsShapeIn c.args.design.now)) (λ (bytes : List ℕ) (given : Data). IsDataOf bytes c.in_ok-shape.shape given) (λ (bytes : List ℕ) (env : Env). GivesEnvironment c.args.design.now bytes (environment_of env))
    (λ bytes why w. faulty_data c.args.design.now c.in_ok-shape.shape c.in_ok-shape.ensures.is bytes why w) c.in_err-scalars.field-0.0 c.in_err-scalars.ensures.took)

pub returns-clause-took : goal.returns-clause-took
returns-clause-took g c =
    let given = c.in_ok-scalars.field-0 in
    took_also (store g.S.Shelf c.args.shelf.now) (store g.S.Shelf c.read_given.new.shelf) role.Data (data_held (option_map (λ file. file.now) c.args.named))
    (IsDataFault (λ (s : Shape). s ≡ c.in_ok-shape.shape)) (IsDataFault (IsShapeIn c.args.design.now)) (λ (bytes : List ℕ) (d : Data). IsDataOf bytes c.in_ok-shape.shape d) (λ (bytes : List ℕ) (env : Env). GivesEnvironment c.args.design.now bytes (environment_of env))
    given (record { scalars = given.scalars; memories = given.memories; ready = given.waits })
    (λ bytes d. gives_environment c.args.design.now c.in_ok-shape.shape c.in_ok-shape.ensures.is bytes given d c.in_ok-scalars.ensures.fits c.in_ok-scalars.ensures.waits) c.in_ok-scalars.ensures.took

pub returns-clause-fits : goal.returns-clause-fits
returns-clause-fits g c = fits_top c.args.design.now c.in_ok-shape.shape c.in_ok-shape.ensures.is c.in_ok-scalars.field-0 c.in_ok-scalars.ensures.fits c.in_ok-scalars.ensures.waits
