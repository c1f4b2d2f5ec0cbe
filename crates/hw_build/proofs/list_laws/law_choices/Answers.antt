use Rattle.hw_build.proofs.Picks.{any_set, any_clear, pick_chosen, any_fits, pick_fits}
use Rattle.hw_build.proofs.list_laws.law_choices.Goals as goal

pub returns : goal.returns
returns c = record { set = any_set; clear = any_clear; chosen = pick_chosen; any_fits = any_fits; pick_fits = pick_fits }
