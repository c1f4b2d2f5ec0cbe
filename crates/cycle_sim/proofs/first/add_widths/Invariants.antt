use Rattle.std.proofs.Common.{◌≡◌, ◌++◌, take}
use Rattle.std.specs.List.{flat_map}
use Rattle.sim_tape.specs.Operators.{cells_of}
use Rattle.cycle_sim.specs.Firsts.{width_lists}
use Rattle.cycle_sim.proofs.first.add_widths.Given as goal

abbrev pub invariant-loop-width : goal.invariant-loop-width
invariant-loop-width l = cells_of l.all.items ≡ cells_of l.initial.all.items ++ flat_map (width_lists l.fill) (take l.width-index l.widths)
