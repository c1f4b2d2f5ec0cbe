use Rattle.std.proofs.Common.{Err, subst}
use Rattle.std.proofs.lemmas.Result.{err_from_is_err_and}
use Rattle.check_scope.specs.declared.fault.CheckFault.{CheckFault}
use Rattle.command_source.proofs.Read.{Checks, program_of_tree, breaks_first}
use Rattle.command_source.proofs.program.read_text.Goals as goal

pub returns-in_err-file-clause-refused : goal.returns-in_err-file-clause-refused
returns-in_err-file-clause-refused c =
    let p = err_from_is_err_and c.from_residual.result c.from_residual.ensures.1 in
    rw (p.1, p.2) (c.in_err-file.ensures.refused c.args.top.now)

pub returns-in-Err-At-clause-refused : goal.returns-in-Err-At-clause-refused
returns-in-Err-At-clause-refused c =
    breaks_first c.args.text.now c.args.top.now c.in-Err-At.broken c.in_ok-file.file c.in_ok-file.ensures.found (subst (λ (f : CheckFault). Checks (Err f) c.in_ok-file.file c.args.top.now) c.in-Err-At.field-0-is c.in-Err-At.ensures.means)

pub returns-in-Ok-clause-found : goal.returns-in-Ok-clause-found
returns-in-Ok-clause-found c = program_of_tree c.args.text.now c.args.top.now c.in-Ok.program c.in_ok-file.file c.in_ok-file.ensures.found c.in-Ok.ensures.means
