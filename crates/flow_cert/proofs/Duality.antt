-- Every dual flow's value is at most every even balance's cost.
use Rattle.std.proofs.Common.{◌≡◌, ℕ, zero, suc, ◌+◌, ◌*◌, ◌<◌, ◌≤◌, true, List, length, get_or, ap, arith, ⊎_elim}
use Rattle.std.specs.Prelude.{◌==◌, if◌then◌else◌}
use Rattle.std.proofs.Math.Logic.{∥∥₁_elim}
use Rattle.std.proofs.Math.Nat.{ℕ_set, mul-le-mul_left}
use Rattle.std.proofs.lemmas.Bool.Decides.{nat_tests}
use Rattle.std.proofs.lemmas.Bool.{cases_lt, cases_eq}
use Rattle.std.proofs.lemmas.Nat.{mul-le}
use Rattle.task_graph.specs.declared.Graph.{Graph}
use Rattle.task_graph.specs.Streams.{from_of, to_of, Walk, AreGroups, least_of, IsRank, HasRank}
use Rattle.task_graph.specs.Arcs.{streams, tail, head, width, inner, total}
use Rattle.flow_cert.specs.Balance.{IsEven, cost, IsLeast}
use Rattle.flow_cert.specs.Flow.{inflow, outflow, IsKept, IsDualFlow, weight, Levels, WeakDuality}
use Rattle.flow_cert.proofs.Sums.{total_same, total_add, total_swap, total_const, pick}
use Rattle.task_graph.proofs.Ranks.{first_hits}
use Rattle.task_graph.proofs.Sizes.{total_le}

-- the ends of a stream are groups of the graph
pub heads_inside : (g : Graph) (e : ℕ) → e < streams g → head g e < g.groups
heads_inside g e l = g.numbered.below (to_of g.edges.items e) (g.ends e l).1

pub tails_inside : (g : Graph) (e : ℕ) → e < streams g → tail g e < g.groups
tails_inside g e l = g.numbered.below (from_of g.edges.items e) (g.ends e l).0

-- time passes along a walk
walk_up : (g : Graph) (lat bal : ℕ → ℕ) (ev : IsEven g lat bal) (a b n : ℕ) → Walk g.edges.items a b n → ev.time a ≤ ev.time b
walk_up g lat bal ev a b zero w = let t = ap ev.time w in omega arith
walk_up g lat bal ev a b (suc n) (e, l, f, w) =
    let r = walk_up g lat bal ev (to_of g.edges.items e) b n w in
    let s = ev.even e l in
    let t = ap ev.time f in omega arith

same_time : (g : Graph) (lat bal : ℕ → ℕ) (ev : IsEven g lat bal) (i j : ℕ) → i < length g.group.items → j < length g.group.items → get_or g.group.items i 0 ≡ get_or g.group.items j 0 → ev.time i ≡ ev.time j
same_time g lat bal ev i j li lj e =
    ∥∥₁_elim g.grouped (ℕ_set (ev.time i) (ev.time j)) (λ (h : AreGroups g.group.items g.edges.items).
    let r = (h i j li lj).0 e in
    let up = walk_up g lat bal ev i j r.0.0 r.0.1 in
    let down = walk_up g lat bal ev j i r.1.0 r.1.1 in
    let same : ev.time i ≡ ev.time j = omega arith in same)

-- a group's time is that of its least instance
abbrev pub group_time : (g : Graph) (lat bal : ℕ → ℕ) → IsEven g lat bal → ℕ → ℕ
group_time g lat bal ev v = ev.time (least_of g.group.items v)

time_of : (g : Graph) (lat bal : ℕ → ℕ) (ev : IsEven g lat bal) (i : ℕ) → i < length g.group.items → group_time g lat bal ev (get_or g.group.items i 0) ≡ ev.time i
time_of g lat bal ev i l =
    let v = get_or g.group.items i 0 in
    let inside = g.numbered.used v (g.numbered.below i l) in
    same_time g lat bal ev (least_of g.group.items v) i inside l (first_hits v g.group.items inside)

pub levels : (g : Graph) (f : ℕ → ℕ) → IsDualFlow g f → (t : ℕ → ℕ) → Levels g f t
levels g f d t =
    let m = streams g in
    let G = g.groups in
    let a = total_swap m G (head g) f t (heads_inside g) in
    let b = total_swap m G (tail g) (width g) t (tails_inside g) in
    let a' = total_swap m G (head g) (width g) t (heads_inside g) in
    let b' = total_swap m G (tail g) f t (tails_inside g) in
    let s = total_add G (λ v. t v * inflow g f v) (λ v. t v * outflow g (width g) v) in
    let s' = total_add G (λ v. t v * inflow g (width g) v) (λ v. t v * outflow g f v) in
    let c : total G (λ v. t v * inflow g f v + t v * outflow g (width g) v) ≡ total G (λ v. t v * inflow g (width g) v + t v * outflow g f v) =
    total_same G _ _ (λ v l. let k = ap (λ x. t v * x) (d.kept v l) in omega arith) in
    omega arith

-- a flow that keeps every level is a dual flow
pub kept_by_levels : (g : Graph) (f : ℕ → ℕ) → ((t : ℕ → ℕ) → Levels g f t) → (v : ℕ) → IsKept g f v
kept_by_levels g f h v =
    let t : ℕ → ℕ = λ x. if x == v then 1 else 0 in
    let m = streams g in
    let l = h t in
    let a : total m (λ e. f e * t (head g e)) ≡ inflow g f v = total_same m _ _ (λ e k. pick (head g e == v) (f e)) in
    let b : total m (λ e. width g e * t (tail g e)) ≡ outflow g (width g) v = total_same m _ _ (λ e k. pick (tail g e == v) (width g e)) in
    let c : total m (λ e. width g e * t (head g e)) ≡ inflow g (width g) v = total_same m _ _ (λ e k. pick (head g e == v) (width g e)) in
    let d : total m (λ e. f e * t (tail g e)) ≡ outflow g f v = total_same m _ _ (λ e k. pick (tail g e == v) (f e)) in
    omega arith

-- the sum of flow times balance is what is missing to the cost
pub duality : (g : Graph) (lat bal f : ℕ → ℕ) → IsEven g lat bal → IsDualFlow g f → weight g lat f + total (streams g) (λ e. f e * bal e) ≡ weight g lat (width g) + cost g bal
duality g lat bal f ev d =
    let t = group_time g lat bal ev in
    let m = streams g in
    let l = levels g f d t in
    let step : (e : ℕ) → e < m → t (head g e) ≡ t (tail g e) + (lat e + bal e) = λ e k.
    (let a = time_of g lat bal ev (to_of g.edges.items e) (g.ends e k).1 in
    let b = time_of g lat bal ev (from_of g.edges.items e) (g.ends e k).0 in
    let c = ev.even e k in omega arith) in
    let rise : (w : ℕ → ℕ) → total m (λ e. w e * t (head g e)) ≡ total m (λ e. w e * t (tail g e)) + (total m (λ e. lat e * w e) + total m (λ e. w e * bal e)) = λ w.
    (let p = total_add m (λ e. lat e * w e) (λ e. w e * bal e) in
    let q = total_add m (λ e. w e * t (tail g e)) (λ e. lat e * w e + w e * bal e) in
    let r : total m (λ e. w e * t (head g e)) ≡ total m (λ e. w e * t (tail g e) + (lat e * w e + w e * bal e)) =
    total_same m _ _ (λ e k. let s = ap (λ x. w e * x) (step e k) in omega arith) in
    omega arith) in
    let x = rise f in
    let y = rise (width g) in
    omega arith

pub weak_duality : WeakDuality
weak_duality g lat bal f ev d = let a = duality g lat bal f ev d in omega arith

-- an even balance of a dual flow's value is least
pub least_by_flow : (g : Graph) (lat bal f : ℕ → ℕ) → IsEven g lat bal → IsDualFlow g f → weight g lat (width g) + cost g bal ≡ weight g lat f → IsLeast g lat bal
least_by_flow g lat bal f ev d same = record {
  even = ev;
  least = λ other ev'. (let a = duality g lat other f ev' d in omega arith);
}

-- with a rank no flow is large
ranked_small : (g : Graph) (f rank : ℕ → ℕ) → IsRank g.group.items g.groups g.edges.items rank → ((t : ℕ → ℕ) → Levels g f t) → ((e : ℕ) → e < streams g → inner g e ≡ true → f e ≡ 0) → total (streams g) f ≤ 34012160
ranked_small g f rank r h idle =
    let m = streams g in
    let l = h rank in
    let rise : (e : ℕ) → e < m → f e * rank (tail g e) + f e ≤ f e * rank (head g e) = λ e k.
    ⊎_elim
    (λ (same : tail g e ≡ head g e).
    let z = idle e k (let b : inner g e ≡ true = grind (arith, nat_tests) in b) in
    let p : f e * rank (tail g e) ≡ 0 * rank (tail g e) = ap (λ x. x * rank (tail g e)) z in omega arith)
    (λ (other : tail g e ≡ head g e → ⊥).
    let up = r.grows e k other in
    let p = mul-le-mul_left {m = rank (tail g e) + 1} {n = rank (head g e)} (f e) (omega arith) in omega arith)
    (cases_eq (tail g e) (head g e)) in
    let a = total_add m (λ e. f e * rank (tail g e)) f in
    let b = total_le m (λ e. f e * rank (tail g e) + f e) (λ e. f e * rank (head g e)) rise in
    let c = total_le m (λ e. width g e * rank (head g e)) (λ e. 33215) (λ e k. let w = (g.widths e k).1 in let s = r.small (head g e) in mul-le (width g e) (rank (head g e)) 65 511 w (omega arith)) in
    let d = total_const m 33215 in
    let few = g.few_streams in
    omega arith

-- no flow is large
pub flow_small : (g : Graph) (f : ℕ → ℕ) → ((t : ℕ → ℕ) → Levels g f t) → ((e : ℕ) → e < streams g → inner g e ≡ true → f e ≡ 0) → total (streams g) f ≤ 34012160
flow_small g f h idle =
    ⊎_elim
    (λ (over : 34012160 < total (streams g) f). absurd (∥∥₁_elim {P = ⊥} g.ranked (λ x y. absurd x) (λ (r : HasRank g.group.items g.groups g.edges.items). let a = ranked_small g f r.0 r.1 h idle in let no : ⊥ = omega arith in no)))
    (λ (small : total (streams g) f ≤ 34012160). small)
    (cases_lt 34012160 (total (streams g) f))
