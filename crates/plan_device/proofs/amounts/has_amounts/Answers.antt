use Rattle.std.proofs.Common.{sym, ◌∙◌}
use Rattle.serde_json.specs.View.{view}
use Rattle.plan_device.proofs.Asked.{amounts_right, each_of_none}
use Rattle.plan_device.specs.Json.{is_in, past_amounts}
use Rattle.plan_device.proofs.amounts.has_amounts.Goals as goal

pub returns-in-Some : goal.returns-in-Some
returns-in-Some c =
    c.are_right.ensures.value ∙ amounts_right c.in-Some.members.now (view c.args.value.now) (sym c.in-Some.ensures) c.are_right.ensures.found

pub returns-in-None : goal.returns-in-None
returns-in-None c = sym (each_of_none (is_in 0 past_amounts) (view c.args.value.now) (sym c.in-None.ensures))
