use Rattle.hw_top_laws.proofs.form.Whole.{tops_are_fitting, tops_are_right, tops_are_modules}
use Rattle.hw_top_laws.proofs.laws.form.law_top_is_right.Goals as goal

pub returns : goal.returns
returns c = record { fitting = tops_are_fitting; right = tops_are_right; form = tops_are_modules }
