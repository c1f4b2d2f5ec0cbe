-- There is one plan by halving at most, and it is a plan.
use Rattle.std.proofs.Common.{◌≡◌, ℕ, zero, suc, ◌+◌, ◌*◌, ◌<◌, ◌≤◌, Bool, true, false, List, length, get_or, sym, ap, subst, ◌∙◌, arith, ⊎_elim}
use Rattle.std.specs.Prelude.{if◌then◌else◌, ◌==◌, ◌&&◌, slice_index_or}
use Rattle.std.proofs.lemmas.Bool.{cases_lt, cases_Bool, and_parts, eqb-true, not-true}
use Rattle.std.proofs.lemmas.Grind.{same_number_lists}
use Rattle.std.proofs.lemmas.Nat.{mul-le}
use Rattle.slot_split.proofs.Sums.{pick_low}
use Rattle.task_graph.specs.declared.Graph.{Graph}
use Rattle.task_graph.specs.Streams.{amount_at}
use Rattle.task_graph.specs.Arcs.{total}
use Rattle.plan_device.specs.declared.device.Device.{Device}
use Rattle.flow_cert.proofs.Sums.{total_same, total_zero}
use Rattle.slot_plan.proofs.Beating.{beat_both}
use Rattle.slot_plan.specs.Merging.{is_open}
use Rattle.slot_split.specs.Halving.{corner, capacity_in, AreCuts, FitsLevel, StaysIn, IsNextLevel, IsLevel, HasNone, HasOneHalvingPlan, HalvingGivesPlans, HalvesOrFails, FailsAtOneLevel}
use Rattle.slot_split.proofs.Corners.{corner_start, corner_last}
use Rattle.slot_split.proofs.Levels.{level_fits}

-- ---- one list a level

zero_lists : (g : Graph) (d : Device) (R : ℕ) (p q : List ℕ) → FitsLevel g d R 0 p → FitsLevel g d R 0 q → p ≡ q
zero_lists g d R p q a b =
    same_number_lists p q (a.whole ∙ sym b.whole)
    (λ v l.
    let lq : v < length q = (let x = a.whole in let y = b.whole in omega arith) in
    sym (a.each v l).region ∙ (corner_start d R (get_or p v 0) ∙ (sym (corner_start d R (get_or q v 0)) ∙ (b.each v lq).region)))

pub one_level : (g : Graph) (d : Device) (R K : ℕ) (p q : List ℕ) → IsLevel g d R K p → IsLevel g d R K q → p ≡ q
one_level g d R zero p q a b = zero_lists g d R p q a b
one_level g d R (suc K) p q a b =
    let e : a.0 ≡ b.0 = one_level g d R K a.0 b.0 a.1 b.1 in
    let next : IsNextLevel g d R K a.0 q = subst (λ (xs : List ℕ). IsNextLevel g d R K xs q) (sym e) b.2 in
    beat_both g d p q (a.2.fits.whole ∙ sym next.fits.whole) (a.2.beats q next.fits next.stays) (next.beats p a.2.fits a.2.stays)

-- ---- one number of cuts

fewer_cuts : (n j k : ℕ) → AreCuts n j → AreCuts n k → j < k → ⊥
fewer_cuts n j k a b l = let w = b.before j l in w.2 (a.alone w.0 w.1)

pub one_cuts : (n j k : ℕ) → AreCuts n j → AreCuts n k → j ≡ k
one_cuts n j k a b =
    ⊎_elim
    (λ (l : j < k). absurd (fewer_cuts n j k a b l))
    (λ (l : k ≤ j). ⊎_elim
    (λ (m : k < j). absurd (fewer_cuts n k j b a m))
    (λ (m : j ≤ k). let e : j ≡ k = omega arith in e)
    (cases_lt k j))
    (cases_lt j k)

pub one_halving_plan : HasOneHalvingPlan
one_halving_plan = λ g d p q a b.
    let rows = one_cuts d.rows a.rows b.rows a.row_levels b.row_levels in
    let cols = one_cuts d.cols a.cols b.cols a.col_levels b.col_levels in
    let last : IsLevel g d a.rows (a.rows + a.cols) q =
    subst (λ (n : ℕ). IsLevel g d a.rows (a.rows + n) q) (sym cols) (subst (λ (n : ℕ). IsLevel g d n (n + b.cols) q) (sym rows) b.last) in
    one_level g d a.rows (a.rows + a.cols) p q a.last last

-- ---- a plan, or one level without a list

module _ (g : Graph) (d : Device) (R : ℕ) where
  level_below : (J K : ℕ) (p : List ℕ) → J ≤ K → IsLevel g d R K p → (q : List ℕ) × IsLevel g d R J q
  level_below J zero p le h = let e : 0 ≡ J = omega arith in (p, subst (λ (n : ℕ). IsLevel g d R n p) e h)
  level_below J (suc K) p le h =
      ⊎_elim {C = (q : List ℕ) × IsLevel g d R J q}
      (λ (l : J < suc K). level_below J K h.0 (omega arith) h.1)
      (λ (l : suc K ≤ J). let e : suc K ≡ J = omega arith in (p, subst (λ (n : ℕ). IsLevel g d R n p) e h))
      (cases_lt J (suc K))

  none_here : (J : ℕ) (q : List ℕ) → IsLevel g d R J q → HasNone g d R J → ⊥
  none_here zero q h none = none q h
  none_here (suc J) q h none =
      let e : h.0 ≡ none.0 = one_level g d R J h.0 none.0 h.1 none.1 in
      none.2 q h.2.fits (subst (λ (xs : List ℕ). StaysIn d R J xs q) e h.2.stays)

  goes_past : (J K : ℕ) (p : List ℕ) → J ≤ K → IsLevel g d R K p → HasNone g d R J → ⊥
  goes_past J K p le h none = let q = level_below J K p le h in none_here J q.0 q.1 none

  no_later : (J K : ℕ) → J < K → HasNone g d R J → HasNone g d R K → ⊥
  no_later J zero less a b = absurd (let i : ⊥ = omega arith in i)
  no_later J (suc K) less a b = goes_past J K b.0 (omega arith) b.1 a

  one_failure : (J K : ℕ) → HasNone g d R J → HasNone g d R K → J ≡ K
  one_failure J K a b =
      ⊎_elim
      (λ (l : J < K). absurd (no_later J K l a b))
      (λ (l : K ≤ J). ⊎_elim
      (λ (m : K < J). absurd (no_later K J m b a))
      (λ (m : J ≤ K). let e : J ≡ K = omega arith in e)
      (cases_lt K J))
      (cases_lt J K)

pub halves_or_fails : HalvesOrFails
halves_or_fails = λ g d p level a h.
    let rows = one_cuts d.rows h.rows a.rows h.row_levels a.row_levels in
    let cols = one_cuts d.cols h.cols a.cols h.col_levels a.col_levels in
    let none : HasNone g d a.rows level = subst (λ (n : ℕ). HasNone g d n level) rows h.none in
    let within = h.within in
    goes_past g d a.rows level (a.rows + a.cols) p (omega (arith, rows, cols)) a.last none

pub fails_at_one_level : FailsAtOneLevel
fails_at_one_level = λ g d level other a b.
    let rows = one_cuts d.rows b.rows a.rows b.row_levels a.row_levels in
    one_failure g d a.rows level other a.none (subst (λ (n : ℕ). HasNone g d n other) rows b.none)

-- ---- the last level is a plan

total_single : (n i x : ℕ) (f : ℕ → ℕ) → ((v : ℕ) → v < n → (v ≡ i → ⊥) → f v ≡ 0) → f i ≤ x → total n f ≤ x
total_single zero i x f others here = omega arith
total_single (suc n) i x f others here =
    ⊎_elim
    (λ (l : i < n). let a = total_single n i x f (λ v lv ne. others v (omega arith) ne) here in let b = others n (omega arith) (λ (e : n ≡ i). let i : ⊥ = omega arith in i) in omega arith)
    (λ (l : n ≤ i).
    let a = total_same n f (λ v. 0) (λ v lv. others v (omega arith) (λ (e : v ≡ i). let i : ⊥ = omega arith in i)) in
    let b = total_zero n in
    ⊎_elim
    (λ (m : n < i). let c = others n (omega arith) (λ (e : n ≡ i). let i : ⊥ = omega arith in i) in omega arith)
    (λ (m : i ≤ n). let e : i ≡ n = omega arith in let c = ap f e in omega arith)
    (cases_lt n i))
    (cases_lt i n)

-- a region of one slot has no more than the slot
one_slot : (d : Device) (R C c k : ℕ) → length d.slots.items ≡ d.rows * d.cols → 0 < d.cols → AreCuts d.rows R → AreCuts d.cols C → c < length d.slots.items → capacity_in d R (R + C) c k ≤ amount_at d.slots.items c k
one_slot d R C c k slots some rows cols l =
    total_single (length d.slots.items) c (amount_at d.slots.items c k) (λ s. if (corner d R (R + C) s == c) && is_open d s then amount_at d.slots.items s k else 0)
    (λ s ls ne.
    let t = (corner d R (R + C) s == c) && is_open d s in
    ⊎_elim
    (λ (e : t ≡ true). absurd (ne (sym (corner_last d R C s rows cols some (omega arith)) ∙ eqb-true (corner d R (R + C) s) c ((and_parts (corner d R (R + C) s == c) (is_open d s) e).0))))
    (λ (e : t ≡ false). ap (λ (b : Bool). if b then amount_at d.slots.items s k else 0) e)
    (cases_Bool t))
    (pick_low ((corner d R (R + C) c == c) && is_open d c) (amount_at d.slots.items c k))

pub halving_gives_plans : HalvingGivesPlans
halving_gives_plans = λ g d p device h.
    let R = h.rows in
    let C = h.cols in
    let some = device.some_cols in
    let fits = level_fits g d R (R + C) p h.last in
    record {
      whole = fits.whole;
      each = λ v l.
          (let has = fits.each v l in
          let w = has.usable in
          let at : w.0 ≡ get_or p v 0 = sym (corner_last d R C w.0 h.row_levels h.col_levels some (let a = w.1.inside in let b = device.slots in omega arith)) ∙ w.1.region in
          record {
            inside = has.inside;
            free = not-true (slice_index_or d.forbidden.items (get_or p v 0) false) (subst (λ (s : ℕ). is_open d s ≡ true) at w.1.free);
            pinned = λ t e. (
                let a = device.pins_inside v t e in
                sym (has.pinned t e) ∙ corner_last d R C t h.row_levels h.col_levels some (let b = device.slots in omega arith));
          });
      within = λ s k l. (
          let a = fits.within s k l in
          let b = one_slot d R C s k device.slots some h.row_levels h.col_levels l in
          let c = mul-le (capacity_in d R (R + C) s k) d.percent (amount_at d.slots.items s k) d.percent b (omega arith) in
          omega arith);
    }
