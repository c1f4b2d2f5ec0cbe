-- What regions have and which are closed, slot by slot.
use Rattle.std.proofs.Common.{◌≡◌, ℕ, ◌+◌, ◌^◌, ◌<◌, ◌≤◌, ◌⊎◌, Bool, true, false, List, length, get_or, set, replicate, refl, sym, ap, subst, ◌∙◌, arith, add-one, ⊎_elim}
use Rattle.std.specs.Prelude.{if◌then◌else◌, ◌==◌, ◌&&◌, slice_index_or}
use Rattle.std.proofs.lemmas.Bool.{cases_lt, cases_Bool, and_from, and_parts, eq-eqb, eqb-true, ne_eqb, and_left, true≢false}
use Rattle.std.proofs.lemmas.List.{get_or-replicate}
use Rattle.task_graph.specs.declared.Use.{Use}
use Rattle.task_graph.specs.Streams.{amount, amount_at}
use Rattle.task_graph.specs.Arcs.{total}
use Rattle.plan_device.specs.declared.device.Device.{Device}
use Rattle.slot_plan.specs.Merging.{is_open}
use Rattle.slot_plan.proofs.Uses.{amount_set}
use Rattle.slot_split.specs.Regions.{AreSums, HasOpen, AreClosed}

-- ---- tests

pub pick_low : (b : Bool) (x : ℕ) → (if b then x else 0) ≤ x
pick_low true x = omega arith
pick_low false x = omega arith

-- ---- sums

pub add_made : (d : Device) (sums : List Use) (corner slot : ℕ) (new : Use) → corner < length sums → is_open d slot ≡ true → ((k : ℕ) → amount new k ≡ amount_at sums corner k + amount_at d.slots.items slot k)
    → (c k : ℕ) → amount_at (set sums corner new) c k ≡ amount_at sums c k + (if (corner == c) && is_open d slot then amount_at d.slots.items slot k else 0)
add_made d sums corner slot new inside free is c k =
    ⊎_elim
    (λ w.
    let t = and_from (corner == c) (is_open d slot) (eq-eqb corner c (sym w.0)) free in
    let e = ap (λ (b : Bool). if b then amount_at d.slots.items slot k else 0) t in
    let s = ap (λ (i : ℕ). amount_at sums i k) w.0 in
    let a = is k in
    let y = w.1 in omega arith)
    (λ w.
    let t = and_left (corner == c) (is_open d slot) (ne_eqb corner c (λ e. w.0 (sym e))) in
    let e = ap (λ (b : Bool). if b then amount_at d.slots.items slot k else 0) t in
    let y = w.1 in omega arith)
    (amount_set sums corner c k new inside)

pub sums_none : (d : Device) (corners : List ℕ) (sums : List Use) → length sums ≡ length d.slots.items → ((s k : ℕ) → amount_at sums s k ≡ 0) → AreSums d corners 0 sums
sums_none d corners sums long zeros = record {
  long = long;
  value = zeros;
  low = λ c k. (let a = zeros c k in omega arith);
}

pub sums_more : (d : Device) (corners : List ℕ) (n : ℕ) (sums new : List Use) → ((s k : ℕ) → amount_at d.slots.items s k < 2 ^ 32) → length new ≡ length sums
    → ((c k : ℕ) → amount_at new c k ≡ amount_at sums c k + (if (get_or corners n 0 == c) && is_open d n then amount_at d.slots.items n k else 0))
    → AreSums d corners n sums → AreSums d corners (n + 1) new
sums_more d corners n sums new small long is h = record {
  long = long ∙ h.long;
  value = λ c k. (
      let f = λ (s : ℕ). if (get_or corners s 0 == c) && is_open d s then amount_at d.slots.items s k else 0 in
      let s : total (n + 1) f ≡ total n f + f n = rw add-one refl in
      let a = is c k in
      let b = h.value c k in omega arith);
  low = λ c k. (
      let a = is c k in
      let b = h.low c k in
      let e = pick_low ((get_or corners n 0 == c) && is_open d n) (amount_at d.slots.items n k) in
      let o = small n k in omega arith);
}

-- ---- marks

pub closed_none : (d : Device) (corners : List ℕ) (m : ℕ) → m ≡ length d.slots.items → length (replicate m true) ≡ m → AreClosed d corners 0 (replicate m true)
closed_none d corners m e long = record {
  long = long ∙ e;
  usable = λ c l. (
    (λ f. absurd (true≢false (sym (get_or-replicate m c true false (let a = long in omega arith)) ∙ f))),
    (λ has. absurd (let a = has.below in let i : ⊥ = omega arith in i)),
  );
}

open_later : (d : Device) (corners : List ℕ) (n c : ℕ) → HasOpen d corners n c → HasOpen d corners (n + 1) c
open_later d corners n c h = record { slot = h.slot; below = (let a = h.below in omega arith); region = h.region; free = h.free }

open_before : (d : Device) (corners : List ℕ) (n c : ℕ) → ((get_or corners n 0 == c) && is_open d n) ≡ false → HasOpen d corners (n + 1) c → HasOpen d corners n c
open_before d corners n c shut h =
    ⊎_elim
    (λ (l : h.slot < n). record { slot = h.slot; below = l; region = h.region; free = h.free })
    (λ (l : n ≤ h.slot).
    let e : h.slot ≡ n = (let a = h.below in omega arith) in
    let region : get_or corners n 0 ≡ c = subst (λ (s : ℕ). get_or corners s 0 ≡ c) e h.region in
    let free : is_open d n ≡ true = subst (λ (s : ℕ). is_open d s ≡ true) e h.free in
    absurd (true≢false (sym (and_from (get_or corners n 0 == c) (is_open d n) (eq-eqb (get_or corners n 0) c region) free) ∙ shut)))
    (cases_lt h.slot n)

pub closed_more : (d : Device) (corners : List ℕ) (n : ℕ) (closed new : List Bool) → length new ≡ length closed
    → ((c : ℕ) → slice_index_or new c false ≡ (if (get_or corners n 0 == c) && is_open d n then false else slice_index_or closed c false))
    → AreClosed d corners n closed → AreClosed d corners (n + 1) new
closed_more d corners n closed new long is h = record {
  long = long ∙ h.long;
  usable = λ c l.
      (let t = (get_or corners n 0 == c) && is_open d n in
      let old = h.usable c (let a = l in omega arith) in
      ⊎_elim
      (λ (e : t ≡ true). (
        (λ f. record { slot = n; below = omega arith; region = eqb-true (get_or corners n 0) c ((and_parts (get_or corners n 0 == c) (is_open d n) e).0); free = (and_parts (get_or corners n 0 == c) (is_open d n) e).1 }),
        (λ has. is c ∙ ap (λ (b : Bool). if b then false else slice_index_or closed c false) e),
      ))
      (λ (e : t ≡ false).
      let same : slice_index_or new c false ≡ slice_index_or closed c false = is c ∙ ap (λ (b : Bool). if b then false else slice_index_or closed c false) e in (
        (λ f. open_later d corners n c (old.0 (sym same ∙ f))),
        (λ has. same ∙ old.1 (open_before d corners n c e has)),
      ))
      (cases_Bool t));
}
