use Rattle.plan_device.proofs.One.{one_device}
use Rattle.plan_device.proofs.laws.law_one_device.Goals as goal

pub returns : goal.returns
returns c = one_device
