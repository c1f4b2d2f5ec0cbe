use Rattle.std.proofs.Common.{[], ◌∷◌, sym, ap, subst, ◌∙◌}
use Rattle.std.specs.Prelude.{IsTrue}
use Rattle.std.specs.Bool.{OnTrue}
use Rattle.vlog_tree.specs.declared.tree.Item.TheVariants.{Always}
use Rattle.vlog_tree.specs.Cycle.{Cycle, run_items}
use Rattle.sim_tape.specs.Trees.{tree_of}
use Rattle.sim_gates.specs.Nets.{Told}
use Rattle.sim_gates.specs.Parts.{has_conditions}
use Rattle.sim_gates.specs.Next.{ShowsNext, AreApart}
use Rattle.sim_gates.specs.Ready.{IsReady}
use Rattle.sim_gates.proofs.blocks.add_item.Goals as goal

pub returns-in_ok-done-in-Always-clause-value : goal.returns-in_ok-done-in-Always-clause-value
returns-in_ok-done-in-Always-clause-value c =
    let ds = c.args.nets.now.scope.now in
    let memories = c.args.nets.now.memories.now in
    subst (λ t. OnTrue c.in_ok-done-in-Always.done (AreApart ds memories → Told ds c.args.nets.now.pairs.now (tree_of c.add_steps.new.tape) (λ s k ns. (first now : Cycle) → IsTrue (has_conditions ds t)
    → ShowsNext ds memories c.args.after.now.next.items c.args.after.now.stores.items s first now ns → ShowsNext ds memories c.add_steps.new.after.next.items c.add_steps.new.after.stores.items s first (run_items s k (t ∷ []) now) ns)))
    (ap (λ b. Always b) c.steps.ensures ∙ sym c.in-Always.is) c.in_ok-done-in-Always.ensures.value

pub returns-in_ok-done-in-Always-clause-some : goal.returns-in_ok-done-in-Always-clause-some
returns-in_ok-done-in-Always-clause-some c = λ same ready.
    c.in_ok-done-in-Always.ensures.some same (subst (λ t. IsReady c.args.nets.now.scope.now c.args.nets.now.pairs.now c.args.nets.now.memories.now t) (c.in-Always.is ∙ sym (ap (λ b. Always b) c.steps.ensures)) ready)
