use Rattle.std.proofs.Common.{[], ◌∷◌, ap, subst, sym, ◌∙◌, refl, map}
use Rattle.std.specs.List.{AllByRecursion}
use Rattle.vlog_tree.specs.Grounded.{AllTwo}
use Rattle.vlog_tree.specs.Loops.{atom_nets}
use Rattle.vlog_values.specs.Numbers.{cycle_of}
use Rattle.vlog_ref_cycle.specs.Next.{put_net, IsStored, ShowsNet, TellsCells, ReadsAre, step_nets, net_shape}
use Rattle.vlog_tree.specs.Cycle.{step_next}
use Rattle.vlog_ref_cycle.proofs.Leaves.{shapes_put, shapes_store}
use Rattle.vlog_ref_cycle.proofs.Turns.{put_leaves, store_leaves}
use Rattle.vlog_ref_cycle.proofs.blocks.write.Goals as goal

pub returns-in_ok-after-in-NonblockingAssign-clause-value : goal.returns-in_ok-after-in-NonblockingAssign-clause-value
returns-in_ok-after-in-NonblockingAssign-clause-value c = λ s old next reads fits shows.
    let nets = c.args.nets.now in
    let a = c.in-NonblockingAssign.a in
    let after = c.in_ok-after-in-NonblockingAssign.field-0.items in
    let here : ReadsAre nets old (atom_nets a) = subst (λ t. ReadsAre nets old (step_nets t)) c.in-NonblockingAssign.is reads in
    subst (λ t. AllByRecursion (ShowsNet (step_next s old [] t next)) after × AllByRecursion (TellsCells (step_next s old [] t next)) c.args.after.now.memories.items) (sym c.in-NonblockingAssign.is)
    (put_leaves old next nets c.in-NonblockingAssign.x a c.value_of_atom.result (c.value_of_atom.ensures []) here c.args.after.now.nets.items after (c.in_ok-after-in-NonblockingAssign.ensures ∙ ap (λ l. map (put_net c.in-NonblockingAssign.x c.value_of_atom.result) l) c.deref.ensures.value) shows.0, shows.1)

pub returns-in_ok-after-in-NonblockingAssign-clause-alike : goal.returns-in_ok-after-in-NonblockingAssign-clause-alike
returns-in_ok-after-in-NonblockingAssign-clause-alike c = record {
  path = refl;
  nets = ap (λ l. map net_shape l) c.in_ok-after-in-NonblockingAssign.ensures ∙ ap (λ l. map net_shape (map (put_net c.in-NonblockingAssign.x c.value_of_atom.result) l)) c.deref.ensures.value ∙ shapes_put c.in-NonblockingAssign.x c.value_of_atom.result c.args.after.now.nets.items;
  memories = refl;
}

pub returns-in_ok-after-in-MemoryAssign-clause-value : goal.returns-in_ok-after-in-MemoryAssign-clause-value
returns-in_ok-after-in-MemoryAssign-clause-value c = λ s old next reads fits shows.
    let nets = c.args.nets.now in
    let x = c.in-MemoryAssign.x in
    let a = c.in-MemoryAssign.a in
    let after = c.in_ok-after-in-MemoryAssign.field-0.items in
    let here : ReadsAre nets old (x ∷ atom_nets a) = subst (λ t. ReadsAre nets old (step_nets t)) c.in-MemoryAssign.is reads in
    subst (λ t. AllByRecursion (ShowsNet (step_next s old [] t next)) c.args.after.now.nets.items × AllByRecursion (TellsCells (step_next s old [] t next)) after) (sym c.in-MemoryAssign.is)
    (shows.0, store_leaves old next nets s c.in-MemoryAssign.m x a c.number_in-at.result c.value_of_atom-in-MemoryAssign.result c.number_in-at.ensures (c.value_of_atom-in-MemoryAssign.ensures []) here c.args.after.now.memories.items after (subst (λ l. AllTwo (IsStored c.in-MemoryAssign.m c.number_in-at.result c.value_of_atom-in-MemoryAssign.result) l c.in_ok-after-in-MemoryAssign.field-0.items) c.deref-in-MemoryAssign.ensures.value c.in_ok-after-in-MemoryAssign.ensures) fits shows.1)

pub returns-in_ok-after-in-MemoryAssign-clause-alike : goal.returns-in_ok-after-in-MemoryAssign-clause-alike
returns-in_ok-after-in-MemoryAssign-clause-alike c = record {
  path = refl;
  nets = refl;
  memories = shapes_store (record { width = λ x. 0; cells = λ x. 0 }) c.in-MemoryAssign.m c.number_in-at.result c.value_of_atom-in-MemoryAssign.result (cycle_of [] []) c.args.after.now.memories.items c.in_ok-after-in-MemoryAssign.field-0.items (subst (λ l. AllTwo (IsStored c.in-MemoryAssign.m c.number_in-at.result c.value_of_atom-in-MemoryAssign.result) l c.in_ok-after-in-MemoryAssign.field-0.items) c.deref-in-MemoryAssign.ensures.value c.in_ok-after-in-MemoryAssign.ensures);
}
