-- First slots of regions: those of regions within regions, at level 0 and at the last level.
use Rattle.std.proofs.Common.{◌≡◌, ℕ, ◌+◌, ◌-◌, ◌*◌, ◌/◌, ◌%◌, ◌<◌, ◌≤◌, Bool, true, false, List, [], ◌∷◌, ◌++◌, length, get_or, refl, sym, ap, ◌∙◌, arith, ⊎_elim}
use Rattle.std.specs.Prelude.{if◌then◌else◌, nat_le}
use Rattle.std.proofs.lemmas.Bool.{cases_lt}
use Rattle.std.proofs.lemmas.Bool.Decides.{nat_tests}
use Rattle.std.proofs.lemmas.List.{length_push, get_or_push, get_or_append_left}
use Rattle.std.proofs.lemmas.Nat.{div-mul-add, mod-mul-add, div-add-mod', mod_below, div_below}
use Rattle.plan_device.specs.declared.device.Device.{Device}
use Rattle.slot_split.specs.Halving.{part_start, row_cuts, corner, AreCuts}
use Rattle.slot_split.specs.Regions.{AreCorners}
use Rattle.slot_split.proofs.Parting.{part_le, part_again}

-- ---- rows and columns of a slot

-- ---- how many cuts are of rows

pub cuts_few : (R K : ℕ) → K ≤ R → row_cuts R K ≡ K
cuts_few R K l = let e : nat_le K R ≡ true = grind (arith, nat_tests) in ap (λ (b : Bool). if b then K else R) e

pub cuts_many : (R K : ℕ) → R ≤ K → row_cuts R K ≡ R
cuts_many R K l =
    ⊎_elim
    (λ (a : R < K). let e : nat_le K R ≡ false = grind (arith, nat_tests) in ap (λ (b : Bool). if b then K else R) e)
    (λ (a : K ≤ R). let e = cuts_few R K a in omega arith)
    (cases_lt R K)

pub cuts_grow : (R J K : ℕ) → J ≤ K → row_cuts R J ≤ row_cuts R K
cuts_grow R J K l =
    ⊎_elim
    (λ (a : R < K). let x = cuts_many R K (omega arith) in
    ⊎_elim
    (λ (b : R < J). let y = cuts_many R J (omega arith) in omega arith)
    (λ (b : J ≤ R). let y = cuts_few R J b in omega arith)
    (cases_lt R J))
    (λ (a : K ≤ R). let x = cuts_few R K a in let y = cuts_few R J (omega arith) in omega arith)
    (cases_lt R K)

-- ---- the row and the column of a region's first slot

pub corner_row : (d : Device) (R K s : ℕ) → 0 < d.cols → corner d R K s / d.cols ≡ part_start (row_cuts R K) d.rows (s / d.cols)
corner_row d R K s l =
    let a = part_le (K - R) d.cols (s % d.cols) in
    let b = mod_below s d.cols l in
    div-mul-add (part_start (row_cuts R K) d.rows (s / d.cols)) d.cols (part_start (K - R) d.cols (s % d.cols)) (omega arith)

pub corner_col : (d : Device) (R K s : ℕ) → 0 < d.cols → corner d R K s % d.cols ≡ part_start (K - R) d.cols (s % d.cols)
corner_col d R K s l =
    let a = part_le (K - R) d.cols (s % d.cols) in
    let b = mod_below s d.cols l in
    mod-mul-add (part_start (row_cuts R K) d.rows (s / d.cols)) d.cols (part_start (K - R) d.cols (s % d.cols)) (omega arith)

-- it is in the region of an earlier level that the slot is in, and in its own
pub corner_again : (d : Device) (R J K s : ℕ) → J ≤ K → 0 < d.cols → corner d R J (corner d R K s) ≡ corner d R J s
corner_again d R J K s l some =
    let x = corner_row d R K s some in
    let y = corner_col d R K s some in
    let a = part_again (row_cuts R J) (row_cuts R K) d.rows (s / d.cols) (cuts_grow R J K l) in
    let b = part_again (J - R) (K - R) d.cols (s % d.cols) (omega arith) in
    ap (λ (z : ℕ). part_start (row_cuts R J) d.rows z * d.cols + part_start (J - R) d.cols (corner d R K s % d.cols)) x
    ∙ (ap (λ (z : ℕ). part_start (row_cuts R J) d.rows (part_start (row_cuts R K) d.rows (s / d.cols)) * d.cols + part_start (J - R) d.cols z) y
    ∙ (ap (λ (z : ℕ). z * d.cols + part_start (J - R) d.cols (part_start (K - R) d.cols (s % d.cols))) a
    ∙ ap (λ (z : ℕ). part_start (row_cuts R J) d.rows (s / d.cols) * d.cols + z) b))

-- ---- the first level and the last

-- at level 0 all slots are in one region
pub corner_start : (d : Device) (R s : ℕ) → corner d R 0 s ≡ 0
corner_start d R s =
    let a = cuts_few R 0 (omega arith) in
    let b : 0 - R ≡ 0 = omega arith in
    ap (λ (z : ℕ). part_start z d.rows (s / d.cols) * d.cols + part_start (0 - R) d.cols (s % d.cols)) a
    ∙ (ap (λ (z : ℕ). 0 * d.cols + part_start z d.cols (s % d.cols)) b ∙ omega arith)

-- at the last each slot is a region
pub corner_last : (d : Device) (R C s : ℕ) → AreCuts d.rows R → AreCuts d.cols C → 0 < d.cols → s < d.rows * d.cols → corner d R (R + C) s ≡ s
corner_last d R C s rows cols some l =
    let a = cuts_many R (R + C) (omega arith) in
    let b : R + C - R ≡ C = omega arith in
    let x = rows.alone (s / d.cols) (div_below s d.cols d.rows some l) in
    let y = cols.alone (s % d.cols) (mod_below s d.cols some) in
    ap (λ (z : ℕ). part_start z d.rows (s / d.cols) * d.cols + part_start (R + C - R) d.cols (s % d.cols)) a
    ∙ (ap (λ (z : ℕ). part_start R d.rows (s / d.cols) * d.cols + part_start z d.cols (s % d.cols)) b
    ∙ (ap (λ (z : ℕ). z * d.cols + part_start C d.cols (s % d.cols)) x
    ∙ (ap (λ (z : ℕ). s / d.cols * d.cols + z) y ∙ div-add-mod' s d.cols)))

-- ---- as the code takes them

-- ---- the first n of a list of first slots

pub record AreCornersBelow (d : Device) (R K n : ℕ) (xs : List ℕ) : Type 0 where
  pub long : length xs ≡ n
  pub value : (s : ℕ) → s < n → get_or xs s 0 ≡ corner d R K s
  pub low : (s : ℕ) → s < n → get_or xs s 0 ≤ s

pub corners_none : (d : Device) (R K : ℕ) → AreCornersBelow d R K 0 []
corners_none d R K = record {
  long = refl;
  value = λ s l. absurd (let i : ⊥ = omega arith in i);
  low = λ s l. absurd (let i : ⊥ = omega arith in i);
}

pub corners_push : (d : Device) (R K n : ℕ) (xs : List ℕ) (x : ℕ) → AreCornersBelow d R K n xs → x ≡ corner d R K n → x ≤ n → AreCornersBelow d R K (n + 1) (xs ++ x ∷ [])
corners_push d R K n xs x h is low = record {
  long = (let a = length_push xs x in let b = h.long in omega arith);
  value = λ s l. ⊎_elim
      (λ (k : s < n). get_or_append_left xs (x ∷ []) 0 s (let b = h.long in omega arith) ∙ h.value s k)
      (λ (k : n ≤ s). let e : s ≡ n = omega arith in get_or_push xs x 0 s (let b = h.long in omega arith) ∙ (is ∙ ap (corner d R K) (sym e)))
      (cases_lt s n);
  low = λ s l. ⊎_elim
      (λ (k : s < n). let a = get_or_append_left xs (x ∷ []) 0 s (let b = h.long in omega arith) in let b = h.low s k in omega arith)
      (λ (k : n ≤ s). let a = get_or_push xs x 0 s (let b = h.long in omega arith) in omega arith)
      (cases_lt s n);
}

pub corners_all : (d : Device) (R K n : ℕ) (xs : List ℕ) → n ≡ length d.slots.items → AreCornersBelow d R K n xs → AreCorners d R K xs
corners_all d R K n xs e h = record {
  long = h.long ∙ e;
  value = λ s l. h.value s (omega arith);
  inside = λ s l. (let a = h.low s (let b = h.long in omega arith) in omega arith);
}
