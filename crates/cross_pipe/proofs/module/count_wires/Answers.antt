use Rattle.std.proofs.Common.{ap, ◌∙◌, codes}
use Rattle.std.proofs.lemmas.Result.{IfOk-weaker}
use Rattle.vlog_tree.specs.declared.tree.BinaryOp.TheVariants.{Plus, Minus}
use Rattle.vlog_tree.specs.declared.tree.Atom.TheVariants.{Net}
use Rattle.vlog_tree.specs.declared.tree.Value.TheVariants.{Choose}
use Rattle.hw_build.specs.Elements.{with, Wire}
use Rattle.hw_channel_lines.specs.Texts.{with_number}
use Rattle.cross_pipe.proofs.module.count_wires.Goals as goal

pub returns : goal.returns
returns c =
    IfOk-weaker c.next_count.result _ _
    (λ u e. e ∙ ap (λ d. with d (Wire c.args.width (codes "count_next") (Choose (Net (codes "put")) (Net (codes "more")) (Net (codes "fewer"))))) (c.in_ok-number_wire-2.ensures
    ∙ ap (λ d. with d (Wire c.args.width (codes "fewer") (with_number (codes "count") Minus c.args.width 1))) (c.in_ok-number_wire.ensures
    ∙ ap (λ d. with d (Wire c.args.width (codes "more") (with_number (codes "count") Plus c.args.width 1))) c.in_ok-moves.ensures)))
    c.next_count.ensures
