use Rattle.std.proofs.Common.{ap, ◌∙◌, arith}
use Rattle.std.proofs.lemmas.Result.{IfOk-weaker}
use Rattle.hw_build.specs.Trees.{numbered}
use Rattle.hw_build.specs.Choices.{choice}
use Rattle.hw_nets.specs.Entries.{entry_forms}
use Rattle.hw_nets.proofs.Rows.{root_is}
use Rattle.hw_nets.proofs.choices.root.Goals as goal

pub returns : goal.returns
returns c =
    IfOk-weaker c.numbered.result _ _
    (λ t e. e ∙ ap (λ f. numbered f c.saturating_sub.result) c.bytes.ensures.value ∙ ap (λ i. numbered c.in_ok-front.front i) c.saturating_sub.ensures
    ∙ root_is c.in_ok-front.front c.args.entries.now c.in_ok-count.count (omega arith) ∙ ap (λ f. choice f (entry_forms c.args.entries.now)) c.in_ok-front.ensures)
    c.numbered.ensures
