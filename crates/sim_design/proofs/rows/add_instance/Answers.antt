use Rattle.std.proofs.Common.{◌+◌, ◌≤◌, length, sym, ap, subst}
use Rattle.std.specs.List.{AllByRecursion}
use Rattle.sim_tape.specs.Trees.{tree_of}
use Rattle.sim_gates.proofs.AtomSlots.{some_is, not_missing}
use Rattle.sim_gates.specs.declared.writes.Writes.{Writes}
use Rattle.sim_gates.specs.Ready.{IsReady}
use Rattle.sim_design.specs.Left.{own_pairs, AreLeft}
use Rattle.sim_design.proofs.rows.add_instance.Goals as goal

pub returns-clause-added : goal.returns-clause-added
returns-clause-added c = λ room rooms.
    let ds = c.args.table.now.scope in
    let base = c.args.base in
    let items = c.args.m.now.items in
    let d = c.args.draft.now in
    let t = tree_of c.blocks_at.new.tape in
    let i = c.deref.ensures.value in
    let j = c.deref-2.ensures.value in
    let b = c.in-Some.blocks in
    let left =
    some_is (λ (b : Writes). AreLeft ds (own_pairs base ds c.deref.result.now) (own_pairs base ds c.deref-2.result.now) items t b.next.items b.stores.items) c.in_ok-found.found b c.in-Some.is
    (c.in_ok-found.ensures.left (subst (λ l. base + length ds ≤ length l) (sym i) room) (subst (λ l. base + length ds ≤ length l) (sym j) rooms)) in
    record {
      next = b.next.items;
      new_stores = b.stores.items;
      left = subst (λ z. AreLeft ds (own_pairs base ds d.pairs.items) (own_pairs base ds d.memories.items) items (tree_of z) b.next.items b.stores.items) (sym c.in_ok-add_blocks.ensures.tape) (subst (λ l. AreLeft ds l (own_pairs base ds d.memories.items) items t b.next.items b.stores.items) (ap (λ l. own_pairs base ds l) i) (subst (λ l. AreLeft ds (own_pairs base ds c.deref.result.now) l items t b.next.items b.stores.items) (ap (λ l. own_pairs base ds l) j) left));
      commits_are = c.in_ok-add_blocks.ensures.commits room;
      stores_are = c.in_ok-add_blocks.ensures.stores;
    }

pub returns-in_default-clause-some : goal.returns-in_default-clause-some
returns-in_default-clause-some c = λ room rooms ready.
    let ds = c.args.table.now.scope in
    let base = c.args.base in
    let items = c.args.m.now.items in
    let d = c.args.draft.now in
    let i = c.deref.ensures.value in
    let j = c.deref-2.ensures.value in
    absurd (not_missing c.in_ok-found.found (sym c.in_default.is)
    (c.in_ok-found.ensures.some (subst (λ l. base + length ds ≤ length l) (sym i) room) (subst (λ l. base + length ds ≤ length l) (sym j) rooms)
    (subst (λ l. AllByRecursion (IsReady ds (own_pairs base ds l) (own_pairs base ds c.deref-2.result.now)) items) (sym i) (subst (λ l. AllByRecursion (IsReady ds (own_pairs base ds d.pairs.items) (own_pairs base ds l)) items) (sym j) ready))))
