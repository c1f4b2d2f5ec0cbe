use Rattle.std.proofs.Common.{List, take}
use Rattle.std.specs.List.{AllZip, filter}
use Rattle.vlog_tree.specs.declared.table.Declaration.{Declaration}
use Rattle.vlog_tree.specs.Form.{ModuleTree}
use Rattle.sim_tape.specs.Tape.{TapeTree}
use Rattle.sim_flat.specs.declared.flat.Flat.{Flat}
use Rattle.cycle_sim.specs.Machines.{IsTopPlaced, IsPairOf}
use Rattle.cycle_sim.specs.ShownNets.{is_shown}
use Rattle.cycle_sim.proofs.shown.all_shown.Given as goal

abbrev pub invariant-loop-place : goal.invariant-loop-place
invariant-loop-place l =
    (ms : List ModuleTree) (top : ModuleTree) (f : Flat) (t : TapeTree) → IsTopPlaced ms top f l.pairs t l.scope → AllZip (λ (d : Declaration) p. IsPairOf ms f l.pairs d.name p) (filter is_shown (take l.place l.scope)) l.shown.items
