use Rattle.std.proofs.Common.{◌≡◌, ◌++◌, drop}
use Rattle.std.specs.List.{flat_map}
use Rattle.sim_flat.specs.Kinds.{item_kinds}
use Rattle.sim_flat.proofs.kinds.kinds_in.Given as goal

abbrev pub invariant-loop-item : goal.invariant-loop-item
invariant-loop-item l = l.out.items ++ flat_map (item_kinds l.names) (drop l.item-index l.item-items) ≡ flat_map (item_kinds l.names) l.item-items
