-- No numbers that every move keeps are lower than the heights.
use Rattle.std.proofs.Common.{ℕ, zero, suc, ◌<◌, ◌≤◌, List, length, get_or, ap, arith, ⊎_elim}
use Rattle.std.proofs.lemmas.Bool.{cases_lt}
use Rattle.task_graph.specs.declared.Graph.{Graph}
use Rattle.latency_balance.specs.declared.moves.Entry.{Entry}
use Rattle.latency_balance.specs.Log.{entry_at, IsLog, AreHeights}
use Rattle.latency_balance.specs.Search.{AreKept}

-- an entry is no higher than such numbers: a root is at 0, and a step leads no higher than they do
log_low_below : (g : Graph) (lat flow : List ℕ) (log : List Entry) → IsLog g lat flow log → (t : ℕ → ℕ) → AreKept g lat flow t
    → (n p : ℕ) → p < n → p < length log → (entry_at log p).height ≤ t (entry_at log p).group
log_low_below g lat flow log ok t kept zero p below inside = absurd (omega arith)
log_low_below g lat flow log ok t kept (suc n) p below inside =
    ⊎_elim
    (λ (root : p < g.groups). let z = ok.roots p root in omega arith)
    (λ (later : g.groups ≤ p).
    let step = ok.steps p later inside in
    let earlier = step.earlier in
    let old = log_low_below g lat flow log ok t kept n (entry_at log p).before (omega arith) (omega arith) in
    let up = kept (entry_at log p).by step.move in
    let from = ap t step.begins in
    let to = ap t step.ends in
    let height = step.height in omega arith)
    (cases_lt p g.groups)

pub heights_low : (g : Graph) (lat flow : List ℕ) (log : List Entry) (heights last : List ℕ) → IsLog g lat flow log → AreHeights g log heights last
    → (t : ℕ → ℕ) → AreKept g lat flow t → (v : ℕ) → v < g.groups → get_or heights v 0 ≤ t v
heights_low g lat flow log heights last ok h t kept v inside =
    let p = get_or last v 0 in
    let l = h.last_inside v inside in
    let a = log_low_below g lat flow log ok t kept (suc p) p (omega arith) l in
    let b = h.last_height v inside in
    let c = ap t (h.last_group v inside) in omega arith
