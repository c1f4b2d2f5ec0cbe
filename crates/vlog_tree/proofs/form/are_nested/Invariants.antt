use Rattle.std.proofs.Common.{◌≡◌, [], drop}
use Rattle.std.specs.Prelude.{reverse}
use Rattle.vlog_tree.specs.Form.{nested}
use Rattle.vlog_tree.proofs.form.are_nested.Given as goal

abbrev pub invariant-loop-step : goal.invariant-loop-step
invariant-loop-step l = nested (reverse l.parts.items) (drop l.step-index l.steps) ≡ nested [] l.steps
