use Rattle.std.proofs.Common.{◌<◌, ◌%◌, ◌^◌, ℕ}
use Rattle.sim_tape.specs.declared.gates.Pair.{Pair}
use Rattle.cycle_sim.specs.Firsts.{IsHeldAt}
use Rattle.cycle_sim.specs.Steps.{PairHas}
use Rattle.cycle_sim.proofs.registers.fill_registers.Given as goal

abbrev pub invariant-loop-number : goal.invariant-loop-number
invariant-loop-number l = (j bits : ℕ) (p : Pair) → j < l.number → IsHeldAt l.flat l.pairs j bits p → PairHas l.numbers p (l.fill % 2 ^ bits)
