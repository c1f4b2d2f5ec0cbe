use Rattle.std.proofs.Common.{◌∙◌, sym}
use Rattle.vlog_scope.proofs.Found.{within}
use Rattle.sim_flat.proofs.places.place_in.Goals as goal

pub returns-in-Some-clause-low : goal.returns-in-Some-clause-low
returns-in-Some-clause-low c = within c.args.scope.now c.args.name.now _ _ (sym c.place.ensures ∙ c.in-Some.is)
