use Rattle.hw_build.proofs.Fit.{alone_fits}
use Rattle.hw_build.proofs.Form.{alone_has_form}
use Rattle.hw_build.proofs.list_laws.law_fit_in_order.Goals as goal

pub returns : goal.returns
returns c = record { fitting = alone_fits; form = alone_has_form }
