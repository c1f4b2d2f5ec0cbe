use Rattle.std.proofs.Common.{◌≡◌, ℕ, List}
use Rattle.std.specs.Prelude.{option_map}
use Rattle.std.proofs.lemmas.Result.{err_from_is_err_and}
use Rattle.tapa_base.specs.declared.shape.Shape.{Shape}
use Rattle.tapa_syntax.specs.Shapes.{IsShapeOf}
use Rattle.run_data.specs.Answer.{IsDataOf}
use Rattle.run_data.specs.declared.data.Data.{Data}
use Rattle.net_core.specs.Bounded.{values_of}
use Rattle.net_core.specs.declared.input.Input.{Input}
use Rattle.command_answers.specs.Files.{data_held}
use Rattle.command_answers.specs.Outside.{store}
use Rattle.command_answers.specs.declared.file.File.TheVariants as role
use Rattle.command_answers.proofs.Taking.{took_refused, took_also}
use Rattle.command_source.specs.Inputs.{GivesValues}
use Rattle.command_source.specs.Means.{IsDataFault}
use Rattle.command_source.proofs.Shapes.{fits_program, gives_values}
use Rattle.command_run.proofs.Values.{fault_for}
use Rattle.command_run.proofs.run.read_values.Goals as goal

pub returns-in_err-scalars-clause-took : goal.returns-in_err-scalars-clause-took
returns-in_err-scalars-clause-took g c =
    let p = err_from_is_err_and c.from_residual-in_err-scalars.result c.from_residual-in_err-scalars.ensures.1 in
    let shape = c.in_ok-shape.shape in
    rw (p.1, p.2) (took_refused (store g.S.Shelf c.args.shelf.now) (store g.S.Shelf c.read_given.new.shelf) role.Data (data_held (option_map (λ file. file.now) c.args.named)) (IsDataFault (λ (s : Shape). s ≡ shape)) (IsDataFault (IsShapeOf c.args.program.now))
    (λ (bytes : List ℕ) (given : Data). IsDataOf bytes shape given) (λ (bytes : List ℕ) (input : Input). GivesValues c.args.program.now bytes (values_of input)) (fault_for c.args.program.now shape c.in_ok-shape.ensures.is) c.in_err-scalars.field-0.0 c.in_err-scalars.ensures.took)

pub returns-clause-took : goal.returns-clause-took
returns-clause-took g c =
    let shape = c.in_ok-shape.shape in
    let given = c.in_ok-scalars.field-0 in
    let input : Input = record { scalars = given.scalars; memories = given.memories } in
    took_also (store g.S.Shelf c.args.shelf.now) (store g.S.Shelf c.read_given.new.shelf) role.Data (data_held (option_map (λ file. file.now) c.args.named)) (IsDataFault (λ (s : Shape). s ≡ shape)) (IsDataFault (IsShapeOf c.args.program.now))
    (λ (bytes : List ℕ) (d : Data). IsDataOf bytes shape d) (λ (bytes : List ℕ) (i : Input). GivesValues c.args.program.now bytes (values_of i)) given input
    (λ bytes d. gives_values c.args.program.now shape c.in_ok-shape.ensures.is bytes given d) c.in_ok-scalars.ensures.took

pub returns-clause-fits : goal.returns-clause-fits
returns-clause-fits g c = fits_program c.args.program.now c.in_ok-shape.shape c.in_ok-shape.ensures.is c.in_ok-scalars.field-0 c.in_ok-scalars.ensures.fits
