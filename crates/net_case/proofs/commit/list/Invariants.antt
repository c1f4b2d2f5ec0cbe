use Rattle.net_case.proofs.Listing.{AreFar}
use Rattle.net_case.proofs.commit.list.Given as goal

abbrev pub invariant-loop-p : goal.invariant-loop-p
invariant-loop-p l = AreFar l.program l.i l.p l.fn.listed.items l.listed.items
