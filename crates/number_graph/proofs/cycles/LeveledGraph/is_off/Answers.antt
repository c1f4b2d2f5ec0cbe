use Rattle.std.proofs.Common.{rules, ◌≡◌, ◌<◌, ℕ, List, sym, subst, get_or, []}
use Rattle.tapa_base.specs.Lists.{Has, Chain}
use Rattle.number_graph.specs.Graphs.{Steps}
use Rattle.number_graph.proofs.Reached.{no_way_back}
use Rattle.number_graph.proofs.cycles.LeveledGraph.is_off.Goals as goal

pub returns : goal.returns
returns c = λ h chain.
    let g = c.self.inside.graph in
    let levels = c.self.inside.levels.items in
    let node = c.args.node in
    let level : c.level_at-level.result ≡ get_or levels node 0 = search rules in
    let row : c.targets.result.now ≡ get_or g node [] = search rules in
    let falls : (k : ℕ) → Has c.targets.result.now k → get_or levels k 0 < c.level_at-level.result = search rules in
    no_way_back (Steps g) (λ k. get_or levels k 0) c.self.invariant node
    (λ k s. subst (λ n. get_or levels k 0 < n) level (falls k (subst (λ l. Has l k) (sym row) s)))
    (subst (λ (a : List (List ℕ)). Chain (Steps a) node node) (sym c.self.view_is) chain)
