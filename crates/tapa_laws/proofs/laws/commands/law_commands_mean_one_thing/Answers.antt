use Rattle.tapa_laws.proofs.commands.OneAnswer.{runs_once, nets_once, plans_once, circuits_once}
use Rattle.tapa_laws.proofs.simulations.OneText.{one_meaning}
use Rattle.tapa_laws.proofs.laws.commands.law_commands_mean_one_thing.Goals as goal

pub returns : goal.returns
returns c = record {
  run = runs_once;
  cosim = λ text input limit aim gives a b. one_meaning c.law_one_fault.ensures.once c.law_one_fault.ensures.taken limit aim gives a b;
  vcd = nets_once;
  plan = plans_once;
  build = circuits_once;
}
