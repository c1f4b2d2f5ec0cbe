use Rattle.std.proofs.Common.{◌≡◌, ◌++◌, take}
use Rattle.sim_design.proofs.next.add_stores.Given as goal

abbrev pub invariant-loop-store : goal.invariant-loop-store
invariant-loop-store l = l.stores.items ≡ l.fn.stores.items ++ take l.store-index l.more
