use Rattle.std.proofs.Common.{sym, subst, ◌∙◌}
use Rattle.std.specs.List.{list_all}
use Rattle.std.proofs.lemmas.Bool.{OnTrue_at, OnTrue_from}
use Rattle.vlog_tree.specs.Cycle.{atom_value, step_next}
use Rattle.sim_gates.proofs.AtomSlots.{slots_on}
use Rattle.sim_gates.specs.Next.{ShowsNext}
use Rattle.sim_gates.proofs.Putting.{cell_put}
use Rattle.sim_gates.proofs.Storing.{net_stored}
use Rattle.sim_gates.specs.Ready.{IsStepReady}
use Rattle.sim_gates.proofs.writes.write.Goals as goal

pub returns-in_ok-done-in-NonblockingAssign-clause-value : goal.returns-in_ok-done-in-NonblockingAssign-clause-value
returns-in_ok-done-in-NonblockingAssign-clause-value c =
    OnTrue_from c.in_ok-done-in-NonblockingAssign.done _ (λ done. λ apart cells ns s k h shows bs first now runs before.
    let ds = c.args.nets.now.scope.now in
    let memories = c.args.nets.now.memories.now in
    subst (λ t. ShowsNext ds memories c.put_register.new.next.items c.args.after.now.stores.items s first (step_next s k bs t now) ns) (sym c.in-NonblockingAssign.is)
    (record {
      nets = OnTrue_at done c.in_ok-done-in-NonblockingAssign.ensures.value cells ns s k h shows bs now runs before.nets;
      cells = λ m q g a. cell_put (list_all (λ b. b) bs) c.in-NonblockingAssign.register m (atom_value k c.in-NonblockingAssign.value) a now ∙ before.cells m q g a;
    }))

pub returns-in_ok-done-in-MemoryAssign-clause-slots : goal.returns-in_ok-done-in-MemoryAssign-clause-slots
returns-in_ok-done-in-MemoryAssign-clause-slots c = slots_on _ _ _ c.in_ok-done-in-MemoryAssign.ensures.extends c.requires.next

pub returns-in_ok-done-in-MemoryAssign-clause-value : goal.returns-in_ok-done-in-MemoryAssign-clause-value
returns-in_ok-done-in-MemoryAssign-clause-value c =
    OnTrue_from c.in_ok-done-in-MemoryAssign.done _ (λ done. λ apart cells ns s k h shows bs first now runs before.
    let ds = c.args.nets.now.scope.now in
    let memories = c.args.nets.now.memories.now in
    subst (λ t. ShowsNext ds memories c.args.after.now.next.items c.add_store.new.stores.items s first (step_next s k bs t now) ns) (sym c.in-MemoryAssign.is)
    (record {
      nets = λ y p g. net_stored (list_all (λ b. b) bs) s c.in-MemoryAssign.memory y (k.net c.in-MemoryAssign.index) (atom_value k c.in-MemoryAssign.value) now ∙ before.nets y p g;
      cells = OnTrue_at done c.in_ok-done-in-MemoryAssign.ensures.value apart cells ns s k h shows bs first now runs before.cells;
    }))

pub returns-in_ok-done-in-NonblockingAssign-clause-some : goal.returns-in_ok-done-in-NonblockingAssign-clause-some
returns-in_ok-done-in-NonblockingAssign-clause-some c = λ same ready.
    c.in_ok-done-in-NonblockingAssign.ensures.some same (subst (λ t. IsStepReady c.args.nets.now.scope.now c.args.nets.now.pairs.now c.args.nets.now.memories.now t) c.in-NonblockingAssign.is ready)

pub returns-in_ok-done-in-MemoryAssign-clause-some : goal.returns-in_ok-done-in-MemoryAssign-clause-some
returns-in_ok-done-in-MemoryAssign-clause-some c = λ same ready.
    c.in_ok-done-in-MemoryAssign.ensures.some (subst (λ t. IsStepReady c.args.nets.now.scope.now c.args.nets.now.pairs.now c.args.nets.now.memories.now t) c.in-MemoryAssign.is ready)
