use Rattle.std.proofs.Common.{◌≡◌, List, length}
use Rattle.tapa_base.specs.declared.shape.Port.{Port}
use Rattle.vlog_tree.specs.Form.{ModuleTree}
use Rattle.sim_tape.specs.Tape.{TapeTree}
use Rattle.sim_flat.specs.declared.flat.Flat.{Flat}
use Rattle.vlog_tree.specs.Environment.{streams_of}
use Rattle.cycle_sim.specs.declared.parts.Stream.{Stream}
use Rattle.cycle_sim.specs.Machines.{IsTopPlaced}
use Rattle.cycle_sim.specs.Wholes.{IsStream}
use Rattle.cycle_sim.proofs.Growing.{EachBelow}
use Rattle.cycle_sim.proofs.around.all_streams.Given as goal

abbrev pub invariant-loop-i : goal.invariant-loop-i
invariant-loop-i l =
    (length l.streams.items ≡ l.i)
    × ((ms : List ModuleTree) (top : ModuleTree) (f : Flat) (t : TapeTree) → IsTopPlaced ms top f l.pairs t l.scope → l.ports ≡ streams_of top → EachBelow (λ (k : Port) (o : Stream). IsStream ms f l.pairs k o) (streams_of top) l.streams.items l.i)
