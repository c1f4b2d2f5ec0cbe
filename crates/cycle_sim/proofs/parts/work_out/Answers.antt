use Rattle.std.proofs.Common.{◌≡◌, ℕ, ◌+◌, ◌<◌, ◌≤◌, List, [], Some, true, length, get_or, refl, sym, ap, subst, ◌∙◌}
use Rattle.std.specs.Prelude.{slice_get, Vec}
use Rattle.std.specs.declared.alloc.Global.{Global}
use Rattle.std.specs.Vec.{with_items}
use Rattle.std.proofs.lemmas.List.{with_items_is}
use Rattle.vlog_design.specs.Environments.{lists_of}
use Rattle.sim_tape.specs.Operators.{cells_of}
use Rattle.sim_tape.specs.Tape.{number_at}
use Rattle.sim_tape.specs.Solved.{IsSolved, SameGiven}
use Rattle.sim_design.specs.declared.drafts.Commit.{Commit}
use Rattle.cycle_sim.specs.declared.inputs.Input.{Input}
use Rattle.cycle_sim.specs.declared.cells.Outside.{Outside}
use Rattle.cycle_sim.specs.declared.parts.State.{State}
use Rattle.cycle_sim.specs.Wholes.{IsStill}
use Rattle.cycle_sim.specs.Writes.{AreUnmade, AreUnwritten}
use Rattle.cycle_sim.specs.Steps.{IsAway, PairHas, HaveSlots, supplied, stored_all, outside_list}
use Rattle.cycle_sim.proofs.Stepping.{have_slots, commit_room}
use Rattle.cycle_sim.proofs.Advancing.{sim_next, next_told}
use Rattle.cycle_sim.proofs.parts.work_out.Goals as goal

pub take_over-requires-clause-slots : goal.take_over-requires-clause-slots
take_over-requires-clause-slots c = λ i a g.
    let p = c.args.parts.now in
    let sim = c.requires.sim in
    let got : slice_get p.machine.commits.items i ≡ Some a = subst (λ l. slice_get l i ≡ Some a) c.deref-4.ensures.value g in
    let room = commit_room p sim.parts i a got in
    let size : length c.deref_mut-2.result.now ≡ length p.machine.program.gates = ap length c.deref_mut-2.ensures.value ∙ sim.room in
    subst (λ n. a.slot < n) (sym size) room

pub give-requires : goal.give-requires
give-requires c =
    let p = c.args.parts.now in
    let sim = c.requires.sim in
    let slots = have_slots p sim.parts in
    let s = c.args.state.now in
    let x1 : (with_items s.given c.take_over.new.given).items ≡ c.take_over.new.given = with_items_is s.given c.take_over.new.given (c.take_over.auto.given ∙ ap length c.deref_mut-2.ensures.value ∙ sym s.given.ok.0) in
    let size : length c.deref_mut-3.result.now ≡ length p.machine.program.gates = ap length c.deref_mut-3.ensures.value ∙ ap length x1 ∙ c.take_over.auto.given ∙ ap length c.deref_mut-2.ensures.value ∙ sim.room in
    subst (λ n. HaveSlots n c.deref-6.result.now) (sym size) (subst (λ l. HaveSlots (length p.machine.program.gates) l) (sym c.deref-6.ensures.value) slots)

pub follow-is_same-requires : goal.follow-is_same-requires
follow-is_same-requires c =
    let p = c.args.parts.now in
    let sim = c.requires.sim in
    let s = c.args.state.now in
    let l1 : length c.write_all-is_written.new.cells ≡ s.cells.len = c.write_all-is_written.auto.cells ∙ ap length c.deref_mut.ensures.value ∙ sym s.cells.ok.0 in
    let w1 : (with_items s.cells c.write_all-is_written.new.cells).items ≡ c.write_all-is_written.new.cells = with_items_is s.cells c.write_all-is_written.new.cells l1 in
    let k1 : length c.take_over.new.given ≡ s.given.len = c.take_over.auto.given ∙ ap length c.deref_mut-2.ensures.value ∙ sym s.given.ok.0 in
    let g1 : Vec ℕ Global = with_items s.given c.take_over.new.given in
    let x1 : g1.items ≡ c.take_over.new.given = with_items_is s.given c.take_over.new.given k1 in
    let k2 : length c.give.new.numbers ≡ s.given.len = c.give.auto.numbers ∙ ap length c.deref_mut-3.ensures.value ∙ ap length x1 ∙ k1 in
    let x2 : (with_items g1 c.give.new.numbers).items ≡ c.give.new.numbers = with_items_is g1 c.give.new.numbers k2 in
    record {
      size = ap length c.deref_mut-4.ensures.value ∙ sim.size;
      room = ap length c.deref-8.ensures.value ∙ ap length x2 ∙ k2 ∙ s.given.ok.0 ∙ sim.room;
      solved = record {
        before = cells_of s.cells.items;
        solved = subst (λ l. IsSolved p.machine.program (cells_of s.cells.items) l) (sym c.deref_mut-4.ensures.value) sim.solved;
        same = λ off. ap cells_of (sym c.deref_mut.ensures.value ∙ sym (c.write_all-is_written.ensures.none off) ∙ sym w1 ∙ sym c.deref-9.ensures.value);
      };
    }

pub returns : goal.returns
returns c =
    let p = c.args.parts.now in
    let s = c.args.state.now in
    let sim = c.requires.sim in
    let ns : List ℕ = s.numbers.items in
    let l1 : length c.write_all-is_written.new.cells ≡ s.cells.len = c.write_all-is_written.auto.cells ∙ ap length c.deref_mut.ensures.value ∙ sym s.cells.ok.0 in
    let v1 : Vec (Vec ℕ Global) Global = with_items s.cells c.write_all-is_written.new.cells in
    let w1 : v1.items ≡ c.write_all-is_written.new.cells = with_items_is s.cells c.write_all-is_written.new.cells l1 in
    let k1 : length c.take_over.new.given ≡ s.given.len = c.take_over.auto.given ∙ ap length c.deref_mut-2.ensures.value ∙ sym s.given.ok.0 in
    let g1 : Vec ℕ Global = with_items s.given c.take_over.new.given in
    let x1 : g1.items ≡ c.take_over.new.given = with_items_is s.given c.take_over.new.given k1 in
    let k2 : length c.give.new.numbers ≡ s.given.len = c.give.auto.numbers ∙ ap length c.deref_mut-3.ensures.value ∙ ap length x1 ∙ k1 in
    let g2 : Vec ℕ Global = with_items g1 c.give.new.numbers in
    let x2 : g2.items ≡ c.give.new.numbers = with_items_is g1 c.give.new.numbers k2 in
    let m1 : length c.follow-is_same.new.numbers ≡ s.numbers.len = c.follow-is_same.auto.numbers ∙ ap length c.deref_mut-4.ensures.value ∙ sym s.numbers.ok.0 in
    let u1 : Vec ℕ Global = with_items s.numbers c.follow-is_same.new.numbers in
    let n1 : u1.items ≡ c.follow-is_same.new.numbers = with_items_is s.numbers c.follow-is_same.new.numbers m1 in
    let t : State = record { cycle = s.cycle + 1; numbers = u1; cells = v1; given = g2; marks = c.follow-is_same.new.marks; is_still = c.is_still-state.result } in
    let asked : (i : ℕ) (o : Outside) → slice_get p.around.outside.items i ≡ Some o → get_or (cells_of v1.items) i [] ≡ outside_list ns o (stored_all ns i (get_or (cells_of s.cells.items) i []) p.machine.stores.items) =
    λ i o g. ap (λ l. get_or (cells_of l) i []) w1 ∙ c.write_all-is_written.ensures.asked i o (subst (λ l. slice_get l i ≡ Some o) (sym c.deref-3.ensures.value) g)
    ∙ ap (λ l. outside_list l o (stored_all l i (get_or (cells_of c.deref_mut.result.now) i []) c.deref-2.result.now)) c.deref.ensures.value
    ∙ ap (λ l. outside_list ns o (stored_all ns i (get_or (cells_of l) i []) c.deref-2.result.now)) c.deref_mut.ensures.value
    ∙ ap (λ l. outside_list ns o (stored_all ns i (get_or (cells_of s.cells.items) i []) l)) c.deref-2.ensures.value in
    let behind : (m : ℕ) → length p.around.outside.items ≤ m → get_or (cells_of v1.items) m [] ≡ stored_all ns m (get_or (cells_of s.cells.items) m []) p.machine.stores.items =
    λ m h. ap (λ l. get_or (cells_of l) m []) w1 ∙ c.write_all-is_written.ensures.behind m (subst (λ l. length l ≤ m) (sym c.deref-3.ensures.value) h)
    ∙ ap (λ l. stored_all l m (get_or (cells_of c.deref_mut.result.now) m []) c.deref-2.result.now) c.deref.ensures.value
    ∙ ap (λ l. stored_all ns m (get_or (cells_of l) m []) c.deref-2.result.now) c.deref_mut.ensures.value
    ∙ ap (λ l. stored_all ns m (get_or (cells_of s.cells.items) m []) l) c.deref-2.ensures.value in
    let taken : (i : ℕ) (a : Commit) → slice_get p.machine.commits.items i ≡ Some a → number_at c.take_over.new.given a.slot ≡ number_at ns a.next =
    λ i a g. c.take_over.ensures i a (subst (λ l. slice_get l i ≡ Some a) (sym c.deref-4.ensures.value) g) ∙ ap (λ l. number_at l a.next) c.deref-5.ensures.value in
    let values : (i : ℕ) (a : Input) → slice_get p.around.inputs.items i ≡ Some a → PairHas c.give.new.numbers a.pair (supplied (lists_of p.ready.items) (s.cycle + 1) a.supply) =
    λ i a g. subst (λ l. PairHas c.give.new.numbers a.pair (supplied (lists_of l) (s.cycle + 1) a.supply)) c.deref-7.ensures.value (c.give.ensures.values i a (subst (λ l. slice_get l i ≡ Some a) (sym c.deref-6.ensures.value) g)) in
    let kept : (k : ℕ) → ((i : ℕ) (a : Input) → slice_get p.around.inputs.items i ≡ Some a → IsAway k a.pair) → number_at c.give.new.numbers k ≡ number_at c.take_over.new.given k =
    λ k away. c.give.ensures.kept k (λ i a g. away i a (subst (λ l. slice_get l i ≡ Some a) c.deref-6.ensures.value g)) ∙ ap (λ l. number_at l k) (c.deref_mut-3.ensures.value ∙ x1) in
    let solved : IsSolved p.machine.program (cells_of v1.items) u1.items = subst (λ l. IsSolved p.machine.program (cells_of v1.items) l) (sym n1) (subst (λ l. IsSolved p.machine.program (cells_of l) c.follow-is_same.new.numbers) c.deref-9.ensures.value c.follow-is_same.ensures.solved) in
    let same : SameGiven p.machine.program.gates c.give.new.numbers u1.items = subst (λ l. SameGiven p.machine.program.gates c.give.new.numbers l) (sym n1) (subst (λ l. SameGiven p.machine.program.gates l c.follow-is_same.new.numbers) (c.deref-8.ensures.value ∙ x2) c.follow-is_same.ensures.given) in
    let size : length u1.items ≡ length s.numbers.items = ap length n1 ∙ m1 ∙ s.numbers.ok.0 in
    let room : length g2.items ≡ length s.given.items = ap length x2 ∙ k2 ∙ s.given.ok.0 in
    let still : c.is_still-state.result ≡ true → IsStill p t =
    λ e. let stays : u1.items ≡ ns = n1 ∙ c.follow-is_same.ensures.still (c.is_still-state.ensures.same e) ∙ c.deref_mut-4.ensures.value in
    let unmade : AreUnmade ns p.machine.stores.items = subst (λ l. AreUnmade l p.machine.stores.items) c.deref.ensures.value (subst (λ l. AreUnmade c.deref.result.now l) c.deref-2.ensures.value (c.write_all-is_written.ensures.unmade (c.is_still-state.ensures.unwritten e))) in
    let unwritten : AreUnwritten ns p.around.outside.items = subst (λ l. AreUnwritten l p.around.outside.items) c.deref.ensures.value (subst (λ l. AreUnwritten c.deref.result.now l) c.deref-3.ensures.value (c.write_all-is_written.ensures.unwritten (c.is_still-state.ensures.unwritten e))) in
    record {
      taken_ns = c.take_over.new.given;
      taken = λ i a g. taken i a g ∙ ap (λ l. number_at l a.next) (sym stays);
      kept = λ k away. ap (λ l. number_at l k) x2 ∙ kept k away;
      same = subst (λ l. SameGiven p.machine.program.gates l u1.items) (sym x2) same;
      unmade = subst (λ l. AreUnmade l p.machine.stores.items) (sym stays) unmade;
      unwritten = subst (λ l. AreUnwritten l p.around.outside.items) (sym stays) unwritten;
    } in
    record {
      sim = sim_next p s sim t c.take_over.new.given c.give.new.numbers refl size room asked behind taken values kept solved same still;
      next = next_told p s sim t c.take_over.new.given c.give.new.numbers refl size room asked behind taken values kept solved same still;
    }
