-- What border latencies and a balance come to.
use Rattle.std.proofs.Common.{◌≡◌, ◌≤◌, ◌<◌, ◌⊎◌, ℕ, ◌+◌, ◌-◌, Bool, true, false, List, length, get_or, refl, sym, ap, ◌∙◌, ⊎_elim, arith}
use Rattle.std.proofs.lemmas.Bool.{cases_lt}
use Rattle.std.proofs.lemmas.List.{get_or_past}
use Rattle.std.specs.Prelude.{MatchBool}
use Rattle.task_graph.specs.declared.Graph.{Graph}
use Rattle.task_graph.specs.Arcs.{streams, tail, head, inner}
use Rattle.flow_cert.specs.Verdicts.{balance_of}
use Rattle.latency_balance.specs.declared.balance.Balance.{Balance}
use Rattle.latency_balance.specs.Result.{IsBalance}
use Rattle.slot_plan.proofs.Limits.{few_groups}
use Rattle.plan_report.specs.Added.{AreBalanced}

module _ (g : Graph) (lat : List ℕ) (b : Balance) (best : IsBalance g lat b) where
  -- no number of a group is greater than the streams of all groups could make it
  time_low : (v : ℕ) → get_or b.s.items v 0 ≤ 81920
  time_low v =
      let few = few_groups g in
      ⊎_elim
      (λ (in_it : v < g.groups). let low = best.low v in_it in omega (arith, few, low))
      (λ (past : g.groups ≤ v).
      let long = best.lists.times in
      let none = get_or_past b.s.items v 0 (omega (arith, long, past)) in
      omega (arith, none))
      (cases_lt v g.groups)

  fitting : (e : ℕ) (is_inner : Bool) → is_inner ≡ inner g e → e < streams g → MatchBool is_inner (get_or b.flow.items e 0 ≡ 0) (get_or b.s.items (tail g e) 0 + get_or lat e 0 ≤ get_or b.s.items (head g e) 0) → get_or lat e 0 + balance_of g lat b.s.items e ≤ 81920
  fitting e true same inside h =
      let none = best.lists.idle e inside (sym same) in
      let top = time_low (head g e) in
      omega (arith, none, top)
  fitting e false same inside h =
      let top = time_low (head g e) in
      omega (arith, h, top)

  -- a stream's border latency and its balance are the numbers of its ends apart, or none where it is inner
  pub sum_low : (e : ℕ) → get_or lat e 0 + get_or b.bal.items e 0 ≤ 500000
  sum_low e =
      ⊎_elim
      (λ (inside : e < streams g).
      let is = best.bal e inside in
      let certified = best.certified in
      let low = fitting e (inner g e) refl inside (certified.0 e inside) in
      omega (arith, is, low))
      (λ (past : streams g ≤ e).
      let long = best.lists.lats in
      let bal_long = best.bal_long in
      let no_lat = get_or_past lat e 0 (omega (arith, long, past)) in
      let no_bal = get_or_past b.bal.items e 0 (omega (arith, bal_long, past)) in
      omega (arith, no_lat, no_bal))
      (cases_lt e (streams g))

  -- lists that are these two, and their sums
  pub balanced : (border bal added : List ℕ) → border ≡ lat → bal ≡ b.bal.items → length added ≡ length border → ((e : ℕ) → e < length border → get_or added e 0 ≡ get_or border e 0 + get_or bal e 0) → AreBalanced g lat added
  balanced border bal added same bal_same long sums =
      let lats = best.lists.lats in
      let border_long : length border ≡ streams g = ap length same ∙ lats in
      record {
        balance = b;
        best = best;
        long = long ∙ border_long;
        sums = λ e inside.
            sums e (omega (arith, border_long, inside))
            ∙ ap (λ (l : List ℕ). get_or l e 0 + get_or bal e 0) same
            ∙ ap (λ (l : List ℕ). get_or lat e 0 + get_or l e 0) bal_same;
      }
