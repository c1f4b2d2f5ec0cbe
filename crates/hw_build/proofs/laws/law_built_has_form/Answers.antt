use Rattle.hw_build.proofs.Forms.{built_form}
use Rattle.hw_build.proofs.laws.law_built_has_form.Goals as goal

pub returns : goal.returns
returns c = built_form
