-- An even balance gives walks between the same tasks the same added latency.
use Rattle.std.proofs.Common.{◌≡◌, ℕ, zero, suc, ◌+◌, ap, arith}
use Rattle.task_graph.specs.declared.Graph.{Graph}
use Rattle.task_graph.specs.Streams.{Walk, to_of}
use Rattle.flow_cert.specs.Balance.{IsEven}
use Rattle.flow_cert.specs.Walks.{along, EvenIsConsistent}

-- a walk takes as long as its tasks are apart
walk_time : (g : Graph) (lat bal : ℕ → ℕ) (h : IsEven g lat bal) (a b n : ℕ) (w : Walk g.edges.items a b n) → h.time b ≡ h.time a + along g.edges.items (λ e. lat e + bal e) a b n w
walk_time g lat bal h a b zero w = let same = ap h.time w in omega arith
walk_time g lat bal h a b (suc n) (e, l, at, w) =
    let rest = walk_time g lat bal h (to_of g.edges.items e) b n w in
    let step = h.even e l in
    let begin = ap h.time at in
    omega arith

pub even_is_consistent : EvenIsConsistent
even_is_consistent g lat bal h a b n m w x =
    let one = walk_time g lat bal h a b n w in
    let other = walk_time g lat bal h a b m x in
    omega arith
