use Rattle.std.proofs.Common.{◌≡◌, ◌+◌, ◌*◌, ◌%◌, ◌^◌, ◌<◌, [], ℕ, Some, false, length, get_or, replicate, refl, sym, ap, subst, ◌∙◌}
use Rattle.std.specs.Prelude.{slice_get, Vec}
use Rattle.std.specs.declared.alloc.Global.{Global}
use Rattle.std.specs.Vec.{with_items}
use Rattle.std.proofs.lemmas.List.{with_items_is}
use Rattle.vlog_design.specs.Environments.{lists_of}
use Rattle.sim_tape.specs.declared.gates.Pair.{Pair}
use Rattle.sim_tape.specs.Operators.{Cells, cells_of}
use Rattle.sim_tape.specs.Tape.{pair_value}
use Rattle.sim_tape.specs.Solved.{IsSolved}
use Rattle.sim_design.specs.declared.drafts.Width.{Width}
use Rattle.cycle_sim.specs.declared.inputs.Input.{Input}
use Rattle.cycle_sim.specs.declared.parts.Parts.{Parts}
use Rattle.cycle_sim.specs.declared.parts.State.{State}
use Rattle.cycle_sim.specs.Firsts.{IsHeldAt}
use Rattle.cycle_sim.specs.Steps.{supplied}
use Rattle.cycle_sim.proofs.Starting.{sim_first, told_first}
use Rattle.cycle_sim.proofs.begin.first_state.Goals as goal

module _ (c : goal.In_ok-marks) where
  abbrev p : Parts
  p = c.args.parts.now

  abbrev cells : Cells
  cells = cells_of c.in_ok-cells.cells.items

  abbrev numbers : Vec ℕ Global
  numbers = with_items c.in_ok-numbers.numbers c.first_numbers.new.numbers

  abbrev s : State
  s = record { cycle = 0; numbers = numbers; cells = c.in_ok-cells.cells; given = c.in_ok-given.given; marks = c.in_ok-marks.marks; is_still = false }

  is : numbers.items ≡ c.first_numbers.new.numbers
  is = with_items_is c.in_ok-numbers.numbers c.first_numbers.new.numbers (c.first_numbers.auto.numbers ∙ ap length c.deref_mut.ensures.value ∙ sym c.in_ok-numbers.numbers.ok.0)

  many : c.len-outside.result ≡ length p.around.outside.items
  many = c.len-outside.ensures ∙ p.around.outside.ok.0

  inside : (i : ℕ) (w : Width) → slice_get p.machine.widths.items i ≡ Some w → (get_or cells (length p.around.outside.items + 2 * i) [] ≡ replicate w.cells (c.args.fill % 2 ^ w.bits)) × (get_or cells (length p.around.outside.items + 2 * i + 1) [] ≡ replicate w.cells 0)
  inside i w got = subst (λ n. (get_or cells (n + 2 * i) [] ≡ replicate w.cells (c.args.fill % 2 ^ w.bits)) × (get_or cells (n + 2 * i + 1) [] ≡ replicate w.cells 0)) many (c.in_ok-cells.ensures.inside i w (subst (λ l. slice_get l i ≡ Some w) (sym c.deref.ensures.value) got))

  solved : IsSolved p.machine.program cells numbers.items
  solved = subst (λ l. IsSolved p.machine.program cells l) (sym is) (subst (λ l. IsSolved p.machine.program (cells_of l) c.first_numbers.new.numbers) c.deref-2.ensures.value c.first_numbers.ensures.solved)

  given : (i : ℕ) (a : Input) → slice_get p.around.inputs.items i ≡ Some a → pair_value numbers.items a.pair ≡ supplied (lists_of p.ready.items) 0 a.supply
  given i a got = ap (λ l. pair_value l a.pair) is ∙ c.first_numbers.ensures.given i a got

  registers : (number bits : ℕ) (q : Pair) → IsHeldAt p.flat p.machine.pairs.items number bits q → pair_value numbers.items q ≡ c.args.fill % 2 ^ bits
  registers number bits q h = ap (λ l. pair_value l q) is ∙ c.first_numbers.ensures.filled number bits q h

pub returns-clause-sim : goal.returns-clause-sim
returns-clause-sim c =
    let size : length (numbers c).items ≡ length c.args.parts.now.machine.program.gates = ap length (is c) ∙ c.first_numbers.auto.numbers ∙ ap length c.deref_mut.ensures.value ∙ sym c.in_ok-numbers.numbers.ok.0 ∙ c.in_ok-numbers.ensures.len ∙ c.len.ensures in
    sim_first (p c) c.requires (s c) c.args.fill refl (inside c) (solved c) (given c) (registers c) size (sym c.in_ok-given.given.ok.0 ∙ c.in_ok-given.ensures.len ∙ c.len-2.ensures) refl

pub returns-clause-told : goal.returns-clause-told
returns-clause-told c =
    told_first (p c) c.requires (s c) c.args.fill refl (inside c) (solved c) (given c) (registers c) (lists_of c.args.memories.now)
    (λ i low. c.in_ok-cells.ensures.outside i (subst (λ n. i < n) (sym (many c)) low))
