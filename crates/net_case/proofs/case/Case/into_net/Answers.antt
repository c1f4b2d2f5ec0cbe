use Rattle.std.proofs.Common.{sym, subst}
use Rattle.net_case.specs.State.{AreAllHome}
use Rattle.net_case.proofs.Again.{net_again}
use Rattle.net_case.proofs.Outs.{home_of}
use Rattle.net_case.proofs.case.Case.into_net.Goals as goal

pub part-requires-clause-home : goal.part-requires-clause-home
part-requires-clause-home g c =
    let home = subst AreAllHome (sym c.self.view_is) c.requires in
    λ i l. home_of c.self.inside.homes.items i l (home i)

pub invariant_of-result : goal.invariant_of-result
invariant_of-result g c =
    let home = subst AreAllHome (sym c.self.view_is) c.requires in
    let x = c.self.inside in
    net_again (record { ports = c.part.new.ports; writers = x.writers; offered = x.offered; taken = x.taken }) c.self.invariant.0 (λ i l. home_of x.homes.items i l (home i)) _ c.part.ensures
