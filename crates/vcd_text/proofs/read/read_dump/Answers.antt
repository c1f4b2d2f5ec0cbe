use Rattle.std.proofs.Common.{[], List, length, subst, ◌∙◌, arith}
use Rattle.std.specs.Prelude.{None, slice_get}
use Rattle.tapa_base.specs.declared.shape.Port.{Port}
use Rattle.vcd_text.specs.Rest.{IsRead, HaveValues, Left, LeftOfHead, Serves, answer_of}
use Rattle.vcd_text.specs.declared.halt.Halt.TheVariants.{Stopped}
use Rattle.vcd_text.proofs.Common.{exit_err, then_err}
use Rattle.vcd_text.proofs.Tops.{top_stop, serves_top, serves_then, stops_then}
use Rattle.tapa_base.proofs.Got.{map_if_ok as then_ok}
use Rattle.vcd_text.proofs.read.read_dump.Goals as goal

pub returns-in_err-head-clause-stop : goal.returns-in_err-head-clause-stop
returns-in_err-head-clause-stop c = exit_err _ c.from_residual.result (Stopped c.in_err-head.field-0.0) c.from_residual.ensures.1 (top_stop c.args.text.now c.in_err-head.field-0.0 c.in_err-head.ensures.stop)

pub returns-in_err-nets-clause-stop : goal.returns-in_err-nets-clause-stop
returns-in_err-nets-clause-stop c = exit_err _ c.from_residual-in_err-nets.result c.in_err-nets.field-0.0 c.from_residual-in_err-nets.ensures.1
    (stops_then IsRead (LeftOfHead []) c.args.text.now c.in_ok-head.head.now c.in_err-nets.field-0.0
    (serves_top c.in_ok-head.ensures.found.0 c.args.text.now c.in_ok-head.head.now c.in_ok-head.ensures.found.1 c.in_ok-head.ensures.found.2) c.in_err-nets.ensures.stop)

pub returns-in_err-values-clause-stop : goal.returns-in_err-values-clause-stop
returns-in_err-values-clause-stop c =
    exit_err _ c.from_residual-in_err-values.result c.in_err-values.field-0.0 c.from_residual-in_err-values.ensures.1
    (stops_then IsRead (Left c.in_ok-nets.ensures.found.0 0 0 (λ _. None) []) c.args.text.now c.in_ok-nets.first.now c.in_err-values.field-0.0
    (serves_then IsRead (LeftOfHead []) (Left c.in_ok-nets.ensures.found.0 0 0 (λ _. None) []) c.args.text.now c.in_ok-head.head.now c.in_ok-nets.first.now
    (serves_top c.in_ok-head.ensures.found.0 c.args.text.now c.in_ok-head.head.now c.in_ok-head.ensures.found.1 c.in_ok-head.ensures.found.2) c.in_ok-nets.ensures.found.2)
    (c.in_err-values.ensures.stop c.in_ok-nets.ensures.found.0 (c.deref.ensures.value ∙ c.in_ok-nets.ensures.found.1)))

pub read_cycles-requires-clause-short : goal.read_cycles-requires-clause-short
read_cycles-requires-clause-short c = omega (arith, c.in_ok-nets.ensures.short, c.in_ok-values.ensures.short)

pub read_cycles-requires-clause-values : goal.read_cycles-requires-clause-values
read_cycles-requires-clause-values c = subst (λ (l : List Port). HaveValues l c.in_ok-values.values.items) c.deref.ensures.value c.in_ok-values.ensures.values

module _ (c : goal.After-read_cycles) where
  served : Serves IsRead c.args.text.now (Left c.in_ok-nets.ensures.found.0 0 (length c.in_ok-nets.ensures.found.0) (slice_get c.in_ok-values.values.items) c.in_ok-values.changes.items) c.in_ok-values.rest.now
  served =
      serves_then IsRead (Left c.in_ok-nets.ensures.found.0 0 0 (λ _. None) []) (Left c.in_ok-nets.ensures.found.0 0 (length c.in_ok-nets.ensures.found.0) (slice_get c.in_ok-values.values.items) c.in_ok-values.changes.items) c.args.text.now c.in_ok-nets.first.now c.in_ok-values.rest.now
      (serves_then IsRead (LeftOfHead []) (Left c.in_ok-nets.ensures.found.0 0 0 (λ _. None) []) c.args.text.now c.in_ok-head.head.now c.in_ok-nets.first.now
      (serves_top c.in_ok-head.ensures.found.0 c.args.text.now c.in_ok-head.head.now c.in_ok-head.ensures.found.1 c.in_ok-head.ensures.found.2) c.in_ok-nets.ensures.found.2)
      (c.in_ok-values.ensures.found c.in_ok-nets.ensures.found.0 (c.deref.ensures.value ∙ c.in_ok-nets.ensures.found.1))

pub returns-clause-found : goal.returns-clause-found
returns-clause-found c = then_ok _ _ c.read_cycles.result (λ d f. (served c).found (answer_of d) (f c.in_ok-nets.ensures.found.0 c.in_ok-nets.ensures.found.1)) c.read_cycles.ensures.found

pub returns-clause-stop : goal.returns-clause-stop
returns-clause-stop c = then_err _ _ c.read_cycles.result
    (λ h f. stops_then IsRead (Left c.in_ok-nets.ensures.found.0 0 (length c.in_ok-nets.ensures.found.0) (slice_get c.in_ok-values.values.items) c.in_ok-values.changes.items) c.args.text.now c.in_ok-values.rest.now h (served c) (f c.in_ok-nets.ensures.found.0 c.in_ok-nets.ensures.found.1)) c.read_cycles.ensures.stop
