use Rattle.std.proofs.Common.{◌≡◌, List, length}
use Rattle.tapa_base.specs.declared.shape.Port.{Port}
use Rattle.vlog_tree.specs.Form.{ModuleTree}
use Rattle.sim_tape.specs.Tape.{TapeTree}
use Rattle.sim_flat.specs.declared.flat.Flat.{Flat}
use Rattle.vlog_tree.specs.Environment.{shape_of}
use Rattle.cycle_sim.specs.declared.cells.Outside.{Outside}
use Rattle.cycle_sim.specs.Machines.{IsTopPlaced, IsOutside}
use Rattle.cycle_sim.proofs.Growing.{EachBelow}
use Rattle.cycle_sim.proofs.around.all_outside.Given as goal

abbrev pub invariant-loop-i : goal.invariant-loop-i
invariant-loop-i l =
    (length l.outside.items ≡ l.i)
    × ((ms : List ModuleTree) (top : ModuleTree) (f : Flat) (t : TapeTree) → IsTopPlaced ms top f l.pairs t l.scope → l.memories ≡ (shape_of top).memories → EachBelow (λ (k : Port) (o : Outside). IsOutside ms f l.pairs k.name o) ((shape_of top).memories) l.outside.items l.i)
