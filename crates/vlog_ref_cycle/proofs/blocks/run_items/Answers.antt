use Rattle.std.proofs.Common.{[], ◌∷◌, subst, sym}
use Rattle.vlog_tree.specs.Cycle.{run_items}
use Rattle.vlog_ref_cycle.specs.Next.{item_nets, Shows}
use Rattle.vlog_ref_cycle.proofs.Turns.{fits_alike, alike_twice, reads_one}
use Rattle.vlog_tree.proofs.Turns.{items_on, items_end}
use Rattle.vlog_ref_cycle.proofs.blocks.run_items.Goals as goal

pub loop-item-preserved : goal.loop-item-preserved
loop-item-preserved c = record {
  alike = alike_twice c.args.after.now c.loop-item.after c.run_item.new.after c.loop-item.invariant.alike c.in_ok-run_item.ensures.alike;
  value = λ s old next reads fits shows.
      let items = c.args.items.now in
      let i = c.loop-item.item-index in
      let it = c.item-item.result in
      let was = c.loop-item.invariant.value s old next reads fits shows in
      let after = c.in_ok-run_item.ensures.value s old was.0 (reads_one c.args.nets.now old item_nets items i it c.loop-item-test.true c.item-item.is reads) (fits_alike s c.args.after.now c.loop-item.after c.loop-item.invariant.alike fits) was.1 in
      (run_items s old (it ∷ []) was.0, after, items_on s old next was.0 items i was.2 it c.loop-item-test.true c.item-item.is);
}

pub returns-clause-value : goal.returns-clause-value
returns-clause-value c = λ s old next reads fits shows.
    let was = c.loop-item.invariant.value s old next reads fits shows in
    subst (λ k. Shows c.loop-item.after k) (sym (items_end s old next was.0 c.args.items.now c.loop-item.item-index was.2 c.loop-item-test.false)) was.1
