use Rattle.hw_top_laws.proofs.joins.Joined.{joined_has_form}
use Rattle.hw_top_laws.proofs.joins.Together.{together_fits}
use Rattle.hw_top_laws.proofs.laws.joins.law_fit_together.Goals as goal

pub returns : goal.returns
returns c = record { fitting = together_fits; form = joined_has_form }
