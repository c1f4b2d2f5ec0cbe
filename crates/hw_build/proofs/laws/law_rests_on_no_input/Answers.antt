use Rattle.hw_build.proofs.Free.{free_rests_on_no_input, module_rests_on_no_input}
use Rattle.hw_build.proofs.laws.law_rests_on_no_input.Goals as goal

pub returns : goal.returns
returns c = record { nets = free_rests_on_no_input; modules = module_rests_on_no_input }
