use Rattle.std.proofs.Common.{◌≡◌, ◌%◌, ◌^◌, ℕ, Some, length, sym, subst, ◌∙◌}
use Rattle.std.specs.Prelude.{slice_get}
use Rattle.vlog_design.specs.Environments.{lists_of}
use Rattle.sim_tape.specs.declared.gates.Pair.{Pair}
use Rattle.sim_tape.specs.Tape.{number_at}
use Rattle.cycle_sim.specs.declared.inputs.Input.{Input}
use Rattle.cycle_sim.specs.Firsts.{IsHeldAt, AreHeld}
use Rattle.cycle_sim.specs.Steps.{IsAway, PairHas, HaveSlots, supplied}
use Rattle.cycle_sim.proofs.Starting.{held, slots, inputs_first, registers_first}
use Rattle.cycle_sim.proofs.begin.first_numbers.Goals as goal

pub fill_registers-requires : goal.fill_registers-requires
fill_registers-requires c =
    let p = c.args.parts.now in
    subst (λ l. AreHeld p.flat l (length c.args.numbers.now)) (sym c.deref.ensures.value) (subst (λ n. AreHeld p.flat p.machine.pairs.items n) (sym c.requires.size) (held p c.requires.parts))

pub give-requires : goal.give-requires
give-requires c =
    let p = c.args.parts.now in
    subst (λ l. HaveSlots (length c.fill_registers.new.numbers) l) (sym c.deref-2.ensures.value) (subst (λ n. HaveSlots n p.around.inputs.items) (sym (c.fill_registers.auto.numbers ∙ c.requires.size)) (slots p c.requires.parts))

pub returns-clause-given : goal.returns-clause-given
returns-clause-given c =
    let p = c.args.parts.now in
    let values : (i : ℕ) (a : Input) → slice_get p.around.inputs.items i ≡ Some a → PairHas c.give.new.numbers a.pair (supplied (lists_of p.ready.items) 0 a.supply) =
    λ i a g. subst (λ l. PairHas c.give.new.numbers a.pair (supplied (lists_of l) 0 a.supply)) c.deref-3.ensures.value (c.give.ensures.values i a (subst (λ l. slice_get l i ≡ Some a) (sym c.deref-2.ensures.value) g)) in
    inputs_first p c.requires.parts _ c.fill_registers.new.numbers c.give.new.numbers c.pass.new.numbers c.pass.ensures.solved c.pass.ensures.given values

pub returns-clause-filled : goal.returns-clause-filled
returns-clause-filled c =
    let p = c.args.parts.now in
    let values : (number bits : ℕ) (q : Pair) → IsHeldAt p.flat p.machine.pairs.items number bits q → PairHas c.fill_registers.new.numbers q (c.args.fill % 2 ^ bits) =
    λ number bits q h. c.fill_registers.ensures number bits q (subst (λ l. IsHeldAt p.flat l number bits q) (sym c.deref.ensures.value) h) in
    let kept : (k : ℕ) → ((i : ℕ) (a : Input) → slice_get p.around.inputs.items i ≡ Some a → IsAway k a.pair) → number_at c.give.new.numbers k ≡ number_at c.fill_registers.new.numbers k =
    λ k away. c.give.ensures.kept k (λ i a g. away i a (subst (λ l. slice_get l i ≡ Some a) c.deref-2.ensures.value g)) in
    registers_first p c.requires.parts _ c.fill_registers.new.numbers c.give.new.numbers c.pass.new.numbers c.pass.ensures.solved c.pass.ensures.given c.args.fill values kept
