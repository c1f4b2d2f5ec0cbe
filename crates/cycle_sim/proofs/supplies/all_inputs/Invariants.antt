use Rattle.std.proofs.Common.{◌≡◌, List}
use Rattle.vlog_tree.specs.Form.{ModuleTree}
use Rattle.vlog_tree.specs.Environment.{shape_of}
use Rattle.sim_tape.specs.Tape.{TapeTree}
use Rattle.sim_flat.specs.declared.flat.Flat.{Flat}
use Rattle.cycle_sim.specs.Machines.{IsTopPlaced}
use Rattle.cycle_sim.proofs.Supplying.{InputsBelow}
use Rattle.cycle_sim.proofs.supplies.all_inputs.Given as goal

abbrev pub invariant-loop-place : goal.invariant-loop-place
invariant-loop-place l =
    (ms : List ModuleTree) (top : ModuleTree) (f : Flat) (t : TapeTree) → IsTopPlaced ms top f l.pairs t l.scope → l.shape.scalars.items ≡ (shape_of top).scalars → l.shape.memories.items ≡ (shape_of top).memories
    → InputsBelow ms top f l.pairs l.scalars l.place l.inputs.items
