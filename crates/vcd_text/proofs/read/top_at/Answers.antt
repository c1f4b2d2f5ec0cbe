use Rattle.std.proofs.Common.{List, subst}
use Rattle.tapa_base.specs.declared.shape.Port.{Port}
use Rattle.vcd_text.specs.Along.{StopsBefore}
use Rattle.vcd_text.specs.Head.{IsFromName}
use Rattle.vcd_text.proofs.Common.{exit_err}
use Rattle.vcd_text.proofs.Tops.{top_first, top_next, top_found}
use Rattle.vcd_text.proofs.read.top_at.Goals as goal

pub returns-in_err-name-clause-stop : goal.returns-in_err-name-clause-stop
returns-in_err-name-clause-stop c = exit_err _ c.from_residual.result _ c.from_residual.ensures.1 (top_first c.args.text.now _ c.in_err-name.ensures.stop)

pub returns-in_err-rest-clause-stop : goal.returns-in_err-rest-clause-stop
returns-in_err-rest-clause-stop c = exit_err _ c.from_residual-in_err-rest.result c.in_err-rest.field-0.0 c.from_residual-in_err-rest.ensures.1
    (top_next c.in_ok-name.name.now c.args.text.now c.in_err-rest.field-0.0 c.in_ok-name.ensures.found (subst (λ (l : List Port). StopsBefore (IsFromName l) c.in_ok-name.name.now c.in_err-rest.field-0.0) c.new-none.ensures c.in_err-rest.ensures.stop))

pub returns-clause-found : goal.returns-clause-found
returns-clause-found c = (c.in_ok-rest.field-0-0.now, c.in_ok-rest.ensures.found.0.0, top_found c.in_ok-rest.field-0-0.now c.in_ok-name.name.now c.in_ok-rest.rest.now c.args.text.now c.in_ok-name.ensures.found c.in_ok-rest.ensures.found.1)
