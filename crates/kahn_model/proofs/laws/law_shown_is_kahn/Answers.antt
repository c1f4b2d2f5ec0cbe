use Rattle.kahn_model.proofs.Shown.{shown_begins, shown_whole}
use Rattle.kahn_model.proofs.laws.law_shown_is_kahn.Goals as goal

pub returns : goal.returns
returns c = record { begins = shown_begins; whole = shown_whole }
