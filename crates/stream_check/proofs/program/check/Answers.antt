use Rattle.std.proofs.Common.{ℕ, List}
use Rattle.std.specs.Prelude.{Ok, Err, Result, IfOk}
use Rattle.tapa_syntax.specs.declared.program.Program.{Program}
use Rattle.tapa_syntax.specs.Flat.{flat_program}
use Rattle.tapa_syntax.specs.Trees.{ItemTree, file_of}
use Rattle.tapa_syntax.specs.WellFormed.{IsWellFormed}
use Rattle.check_scope.specs.Answers.{ScopeAnswers}
use Rattle.check_scope.specs.declared.fault.CheckFault.{CheckFault}
use Rattle.stream_check.specs.Programs.{program_faults, program_of}
use Rattle.stream_check.proofs.WellPrograms.{legal_program_well}
use Rattle.stream_check.proofs.program.check.Goals as goal

-- what is answered is well formed
well : (items : List ItemTree) (top : List ℕ) (r : Result Program CheckFault) → ScopeAnswers flat_program r (program_faults items top) (program_of items top) → IfOk r IsWellFormed
well items top (Ok program) a = legal_program_well items top program a.0 a.1
well items top (Err e) a = _

pub returns-clause-well_formed : goal.returns-clause-well_formed
returns-clause-well_formed c = well (file_of c.args.file.now) c.args.top.now c.checked.result c.checked.ensures
