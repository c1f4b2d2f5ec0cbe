-- The balance of the heights is the earliest of the least ones, and so it is one.
use Rattle.std.proofs.Common.{◌≡◌, ℕ, ◌+◌, ◌-◌, ◌*◌, ◌<◌, ◌≤◌, Bool, true, false, List, refl, sym, ap, ◌∙◌, arith, ⊎_elim}
use Rattle.std.specs.Prelude.{slice_index, if◌then◌else◌}
use Rattle.std.proofs.lemmas.Bool.{cases_lt}
use Rattle.std.proofs.lemmas.Grind.{same_number_lists}
use Rattle.std.proofs.lemmas.Nat.{mul-le}
use Rattle.task_graph.specs.declared.Graph.{Graph}
use Rattle.task_graph.specs.Arcs.{streams, tail, head, total}
use Rattle.flow_cert.specs.Balance.{IsEven, cost}
use Rattle.flow_cert.specs.Verdicts.{balance_of, AreLists, FitBelow, IsBest}
use Rattle.flow_cert.proofs.Duality.{duality}
use Rattle.flow_cert.proofs.Yes.{fits_even}
use Rattle.latency_balance.specs.Search.{AreKept, AreSettled}
use Rattle.latency_balance.specs.Earliest.{Spaces, left_by, IsEarliest}
use Rattle.latency_balance.specs.Result.{BalancesAreOne}
use Rattle.latency_balance.proofs.Ends.{total_part}

even_by : (g : Graph) (lat t : ℕ → ℕ) → Spaces g lat t → IsEven g lat (left_by g lat t)
even_by g lat t spaces = record {
  time = λ i. t (slice_index g.group.items i);
  even = λ e l. (let a = spaces e l in omega arith);
}

-- a product that is 0 has no factor beside one that is not
other_zero : (a b : ℕ) → a * b ≤ 0 → 0 < a → b ≡ 0
other_zero a b none some =
    ⊎_elim
    (λ (more : 0 < b). let p = mul-le 1 1 a b some more in absurd (let no : ⊥ = omega arith in no))
    (λ (less : b ≤ 0). let z : b ≡ 0 = omega arith in z)
    (cases_lt 0 b)

-- a stream is kept along it where its ends are its latency apart, and back where they are no further apart
kept_at : (t : ℕ → ℕ) (lat flow tail head : ℕ) (back : Bool) → t tail + lat ≤ t head → (0 < flow → t head - t tail - lat ≡ 0) → (back ≡ true → 0 < flow)
    → t (if back then head else tail) + (if back then 0 else lat) ≤ t (if back then tail else head) + (if back then lat else 0)
kept_at t lat flow tail head true apart tight some = let z = tight (some refl) in omega arith
kept_at t lat flow tail head false apart tight some = omega arith

-- numbers that leave each stream its latency, and nothing beside it where there is flow, are kept by every move
kept_by : (g : Graph) (lat flow : List ℕ) (t : ℕ → ℕ) → Spaces g (slice_index lat) t
    → ((e : ℕ) → e < streams g → 0 < slice_index flow e → left_by g (slice_index lat) t e ≡ 0) → AreKept g lat flow t
kept_by g lat flow t spaces tight m possible =
    let e = m.stream in
    kept_at t (slice_index lat e) (slice_index flow e) (tail g e) (head g e) m.back (spaces e possible.inside) (tight e possible.inside) possible.possible

-- under a flow that shows a balance to be best, whatever costs no more leaves nothing where there is flow
tight_by : (g : Graph) (lat s flow : List ℕ) → IsBest g lat s flow → (t : ℕ → ℕ) → Spaces g (slice_index lat) t → cost g (left_by g (slice_index lat) t) ≤ cost g (balance_of g lat s)
    → (e : ℕ) → e < streams g → 0 < slice_index flow e → left_by g (slice_index lat) t e ≡ 0
tight_by g lat s flow best t spaces cheap e inside some =
    let a = duality g (slice_index lat) (left_by g (slice_index lat) t) (slice_index flow) (even_by g (slice_index lat) t spaces) best.flow_is_dual in
    let b = best.equal in
    let c = total_part (streams g) e (λ d. slice_index flow d * left_by g (slice_index lat) t d) inside in
    other_zero (slice_index flow e) (left_by g (slice_index lat) t e) (omega arith) some

pub earliest : (g : Graph) (lat s flow : List ℕ) → AreLists g lat s flow → FitBelow g lat s flow (streams g) → IsBest g lat s flow → AreSettled g lat flow s
    → IsEarliest g (slice_index lat) (slice_index s)
earliest g lat s flow lists fit best settled = record {
  spaces = λ e l. (let a = fits_even g lat s flow lists e l (fit e l) in omega arith);
  least = λ t spaces. best.least.least (left_by g (slice_index lat) t) (even_by g (slice_index lat) t spaces);
  first = λ t spaces cheap v inside. settled.lowest t (kept_by g lat flow t spaces (tight_by g lat s flow best t spaces cheap)) v inside;
}

-- each of two earliest is no later than the other
no_later : (g : Graph) (lat s t : ℕ → ℕ) → IsEarliest g lat s → IsEarliest g lat t → (v : ℕ) → v < g.groups → s v ≤ t v
no_later g lat s t a b v inside = a.first t b.spaces (b.least s a.spaces) v inside

pub balances_are_one : BalancesAreOne
balances_are_one = λ g lat b c hb hc.
    let is : b.s.items ≡ c.s.items = same_number_lists b.s.items c.s.items (hb.lists.times ∙ sym hc.lists.times)
    (λ v l.
    let inside : v < g.groups = (let n = hb.lists.times in omega arith) in
    let x = no_later g (slice_index lat) (slice_index b.s.items) (slice_index c.s.items) hb.earliest hc.earliest v inside in
    let y = no_later g (slice_index lat) (slice_index c.s.items) (slice_index b.s.items) hc.earliest hb.earliest v inside in
    omega arith) in (
      is,
      same_number_lists b.bal.items c.bal.items (hb.bal_long ∙ sym hc.bal_long)
          (λ e l.
          let inside : e < streams g = (let n = hb.bal_long in omega arith) in
          hb.bal e inside ∙ (ap (λ (xs : List ℕ). balance_of g lat xs e) is ∙ sym (hc.bal e inside))),
    )
