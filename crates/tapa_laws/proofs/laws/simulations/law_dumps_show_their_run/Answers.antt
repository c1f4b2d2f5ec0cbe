use Rattle.sim_output.proofs.AreDumps.{dumps_show_the_run}
use Rattle.tapa_laws.proofs.laws.simulations.law_dumps_show_their_run.Goals as goal

pub returns : goal.returns
returns c = λ text bytes dump name told limit at h s. dumps_show_the_run h.design h.means.legal h.env h.gives.fits limit at dump name told h.is s
