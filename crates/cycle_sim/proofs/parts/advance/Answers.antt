use Rattle.std.proofs.Common.{◌≡◌, ◌+◌, ◌≤◌, ℕ, List, [], Some, length, get_or, refl, subst, sym, ◌∙◌}
use Rattle.std.specs.Prelude.{slice_get}
use Rattle.vlog_design.specs.Environments.{lists_of}
use Rattle.sim_tape.specs.Operators.{cells_of}
use Rattle.cycle_sim.specs.declared.inputs.Input.{Input}
use Rattle.cycle_sim.specs.declared.cells.Outside.{Outside}
use Rattle.cycle_sim.specs.declared.parts.State.{State}
use Rattle.cycle_sim.specs.Steps.{PairHas, supplied, stored_all, outside_list}
use Rattle.cycle_sim.specs.Wholes.{IsStill}
use Rattle.cycle_sim.proofs.Standing.{asked_same, stored_same}
use Rattle.cycle_sim.proofs.Advancing.{sim_next, next_told}
use Rattle.cycle_sim.proofs.parts.advance.Goals as goal

pub returns-then-are_given : goal.returns-then-are_given
returns-then-are_given c =
    let p = c.args.parts.now in
    let s = c.args.state.now in
    let sim = c.requires.sim in
    let still : IsStill p s = sim.still c.if-state.true in
    let t : State = record { cycle = s.cycle + 1; numbers = s.numbers; cells = s.cells; given = s.given; marks = s.marks; is_still = s.is_still } in
    let ns : List ℕ = s.numbers.items in
    let values : (i : ℕ) (a : Input) → slice_get p.around.inputs.items i ≡ Some a → PairHas s.given.items a.pair (supplied (lists_of p.ready.items) (s.cycle + 1) a.supply) =
    λ i a g. subst (λ l. PairHas l a.pair (supplied (lists_of p.ready.items) (s.cycle + 1) a.supply)) c.deref-then-state-2.ensures.value
    (subst (λ l. PairHas c.deref-then-state-2.result.now a.pair (supplied (lists_of l) (s.cycle + 1) a.supply)) c.deref-then-state.ensures.value
    (c.are_given.ensures c.if-are_given.true i a (subst (λ l. slice_get l i ≡ Some a) (sym c.deref.ensures.value) g))) in
    let asked : (i : ℕ) (o : Outside) → slice_get p.around.outside.items i ≡ Some o → get_or (cells_of s.cells.items) i [] ≡ outside_list ns o (stored_all ns i (get_or (cells_of s.cells.items) i []) p.machine.stores.items) =
    λ i o g. stored_same ns i (get_or (cells_of s.cells.items) i []) p.machine.stores.items still.unmade ∙ asked_same ns o (stored_all ns i (get_or (cells_of s.cells.items) i []) p.machine.stores.items) (still.unwritten i o g) in
    let behind : (m : ℕ) → length p.around.outside.items ≤ m → get_or (cells_of s.cells.items) m [] ≡ stored_all ns m (get_or (cells_of s.cells.items) m []) p.machine.stores.items =
    λ m h. stored_same ns m (get_or (cells_of s.cells.items) m []) p.machine.stores.items still.unmade in
    let later : IsStill p t = record { taken_ns = still.taken_ns; taken = still.taken; kept = still.kept; same = still.same; unmade = still.unmade; unwritten = still.unwritten } in
    record {
      sim = sim_next p s sim t still.taken_ns s.given.items refl refl refl asked behind still.taken values still.kept sim.solved still.same (λ e. later);
      next = next_told p s sim t still.taken_ns s.given.items refl refl refl asked behind still.taken values still.kept sim.solved still.same (λ e. later);
    }
