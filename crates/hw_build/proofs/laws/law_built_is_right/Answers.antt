use Rattle.hw_build.proofs.Right.{built_right}
use Rattle.hw_build.proofs.laws.law_built_is_right.Goals as goal

pub returns : goal.returns
returns c = λ ms name elements single fit. built_right ms name elements fit single
