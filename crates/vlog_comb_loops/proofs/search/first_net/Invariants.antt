use Rattle.std.proofs.Common.{List, Bool, map, drop, Option, Some}
use Rattle.vlog_tree.specs.declared.table.Declaration.{Declaration}
use Rattle.vlog_tree.specs.Table.{Name}
use Rattle.vlog_tree.specs.Loops.{LiesOnLoop, TextPlace}
use Rattle.vlog_comb_loops.specs.Search.{IsSearched, IsEvidence}
use Rattle.vlog_comb_loops.proofs.search.first_net.Given as goal

abbrev places : Name → List Declaration → List TextPlace
places m ds = map (λ (d : Declaration). (m, Some d.name)) ds

abbrev pub invariant-loop-d : goal.invariant-loop-d
invariant-loop-d l =
    (is_top : Name → Bool) → IsEvidence l.library is_top l.loops → (o : Option Name)
    → IsSearched (LiesOnLoop l.library is_top) (places l.owner (drop l.d-index l.names)) o → IsSearched (LiesOnLoop l.library is_top) (places l.owner l.names) o
