use Rattle.tapa_laws.proofs.plans.OnePlan.{one_source_device, one_source_fault, no_source_fault}
use Rattle.tapa_laws.proofs.laws.plans.law_one_source_device.Goals as goal

pub returns : goal.returns
returns c = record { device = one_source_device; fault = one_source_fault; either = no_source_fault }
