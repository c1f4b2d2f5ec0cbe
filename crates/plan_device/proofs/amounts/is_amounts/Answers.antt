use Rattle.std.proofs.Common.{sym, ◌∙◌}
use Rattle.serde_json.specs.View.{view}
use Rattle.plan_device.proofs.Asked.{numbers_right}
use Rattle.plan_device.proofs.amounts.is_amounts.Goals as goal

pub returns-in-Some : goal.returns-in-Some
returns-in-Some c =
    c.are_right.ensures.value ∙ numbers_right c.in-Some.members.now (view c.args.value.now) (sym c.in-Some.ensures) c.are_right.ensures.found
