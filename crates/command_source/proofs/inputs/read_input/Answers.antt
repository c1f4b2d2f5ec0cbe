use Rattle.command_source.proofs.Shapes.{fits_program, unfit}
use Rattle.command_source.proofs.inputs.read_input.Goals as goal

pub returns-in-Ok-read_data-clause-fits : goal.returns-in-Ok-read_data-clause-fits
returns-in-Ok-read_data-clause-fits c = fits_program c.args.program.now c.in-Ok.shape c.in-Ok.ensures.is c.in-Ok-read_data.field-0 c.in-Ok-read_data.ensures.fits

pub returns-clause-refused : goal.returns-clause-refused
returns-clause-refused c = unfit c.args.program.now c.in-Ok.shape c.in-Ok.ensures.is c.args.text.now c.in-Err-read_data.fault c.in-Err-read_data.ensures.cause
