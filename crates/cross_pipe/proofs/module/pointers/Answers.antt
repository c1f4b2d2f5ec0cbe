use Rattle.std.proofs.Common.{[], ap, ◌∙◌, codes}
use Rattle.std.proofs.lemmas.Result.{IfOk-weaker}
use Rattle.hw_build.specs.Elements.{with_all}
use Rattle.hw_channel_lines.specs.Texts.{next_wires}
use Rattle.cross_pipe.proofs.module.pointers.Goals as goal

pub returns : goal.returns
returns c =
    IfOk-weaker c.next_wires-2.result _ _
    (λ u e. e ∙ ap (λ d. with_all d (next_wires c.args.width c.args.places (codes "tail") (codes "tail_up") (codes "tail_last") (codes "tail_next") [])) c.in_ok-next_wires.ensures)
    c.next_wires-2.ensures
