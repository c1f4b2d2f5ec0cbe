use Rattle.std.proofs.Common.{ap, ◌∙◌, codes}
use Rattle.std.proofs.lemmas.Result.{IfOk-weaker}
use Rattle.vlog_tree.specs.declared.tree.Atom.TheVariants.{Net, Literal}
use Rattle.hw_build.specs.Elements.{with, Block, reset_or}
use Rattle.hw_channel_lines.specs.Texts.{set_where}
use Rattle.cross_pipe.proofs.relay.blocks.Goals as goal

pub returns : goal.returns
returns c =
    IfOk-weaker c.follower-2.result _ _
    (λ u e. e ∙ ap (λ d. with d (Block (reset_or (codes "room") (Literal 1 0) (Net (codes "rdy_early"))))) (c.in_ok-token_register.ensures ∙ ap (λ d. with d (Block (set_where (codes "token") (codes "put") (Net (codes "din"))))) c.in_ok-follower.ensures))
    c.follower-2.ensures
