use Rattle.std.proofs.Common.{ap, ◌∙◌, codes}
use Rattle.std.proofs.lemmas.Result.{IfOk-weaker}
use Rattle.hw_build.specs.Elements.{with, Wire}
use Rattle.cross_pipe.proofs.module.next_count.Goals as goal

pub returns : goal.returns
returns c = IfOk-weaker c.wire.result _ _ (λ u e. e ∙ ap (λ v. with c.args.draft.now (Wire c.args.width (codes "count_next") v)) c.in_ok-choice.ensures) c.wire.ensures
