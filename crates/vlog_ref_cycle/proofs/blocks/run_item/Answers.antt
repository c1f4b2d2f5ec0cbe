use Rattle.std.proofs.Common.{[], ◌∷◌, OnOk, ap, subst, sym, ◌∙◌}
use Rattle.vlog_tree.specs.declared.tree.Item.TheVariants.{Always}
use Rattle.vlog_tree.specs.Cycle.{Cycle, Sizes, run_items}
use Rattle.vlog_ref_cycle.specs.Next.{item_nets, ReadsAre, Fits, Shows}
use Rattle.vlog_ref_cycle.proofs.blocks.run_item.Goals as goal

pub returns-in-Always-clause-value : goal.returns-in-Always-clause-value
returns-in-Always-clause-value c =
    subst (λ t. OnOk c.run_steps.result ((s : Sizes) (old : Cycle) (next : Cycle) → ReadsAre c.args.nets.now old (item_nets t) → Fits s c.args.after.now → Shows c.args.after.now next → Shows c.run_steps.new.after (run_items s old (t ∷ []) next)))
    (ap (λ b. Always b) c.steps.ensures ∙ sym c.in-Always.is) c.run_steps.ensures.value
