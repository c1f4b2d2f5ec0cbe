use Rattle.sim_flat.proofs.Earlier.{drivers_come_first, asked_come_first}
use Rattle.sim_flat.proofs.laws.law_parts_come_first.Goals as goal

pub returns : goal.returns
returns c = record { drivers = drivers_come_first; asked = asked_come_first }
