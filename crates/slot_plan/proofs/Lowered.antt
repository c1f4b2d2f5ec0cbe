-- Rows of what items cost, written over row by row.
use Rattle.std.proofs.Common.{◌≡◌, ℕ, ◌+◌, ◌*◌, ◌<◌, ◌≤◌, Bool, false, cond, List, [], ◌∷◌, ◌++◌, length, get_or, set, refl, ap, subst, ◌∙◌, arith, add-one, ⊎_elim, length-set}
use Rattle.std.specs.Prelude.{if◌then◌else◌, nat_lt}
use Rattle.std.proofs.lemmas.Bool.{cases_lt, cases_eq}
use Rattle.std.proofs.lemmas.Bool.Decides.{nat_tests}
use Rattle.std.proofs.lemmas.List.{get_or-set_same, get_or-set_other}
use Rattle.std.proofs.lemmas.Nat.{mul-add-lt}
use Rattle.task_graph.specs.Arcs.{total}
use Rattle.slot_plan.specs.declared.tables.Tables.{Tables}
use Rattle.slot_plan.specs.Search.{AreRows, IsBelowRest}
use Rattle.slot_plan.specs.Tables.{items, places, cell, joint_at, distance_at, beside, Suits, AreTables}
use Rattle.slot_plan.proofs.Beginnings.{beside_push, push_long}
use Rattle.slot_plan.proofs.Exploring.{beside_low}

pub cell_inside : (i y m n : ℕ) → i < n → y < m → i * m + y < n * m
cell_inside i y m n l ly = let a = mul-add-lt i m y n l ly in omega arith

-- a row's first places were written
pub record IsRowPart (t : Tables) (rows old : List ℕ) (placed place item y least : ℕ) (next : List ℕ) : Type 0 where
  pub long : length next ≡ items t * places t
  pub row : (z : ℕ) → z < y → cell next (places t) item z ≡ cell rows (places t) item z + joint_at t placed item * distance_at t place z
  pub others : (i z : ℕ) → i < item → z < places t → cell next (places t) i z ≡ cell old (places t) i z
  pub lower : (z : ℕ) → z < y → Suits t item z → least ≤ cell next (places t) item z
  pub small : least ≤ 2731622400

pub row_none : (t : Tables) (rows old : List ℕ) (placed place item least : ℕ) → length old ≡ items t * places t → least ≤ 2731622400 → IsRowPart t rows old placed place item 0 least old
row_none t rows old placed place item least long small = record {
  long = long;
  row = λ z l. absurd (omega arith);
  others = λ i z l lz. refl;
  lower = λ z l suits. absurd (omega arith);
  small = small;
}

pub row_more : (t : Tables) (rows old : List ℕ) (placed place item y least : ℕ) (next : List ℕ) (value low : ℕ) → low ≤ least → (Suits t item y → low ≤ value) → IsRowPart t rows old placed place item y least next → item < items t → y < places t → value ≡ cell rows (places t) item y + joint_at t placed item * distance_at t place y → IsRowPart t rows old placed place item (y + 1) low (set next (item * places t + y) value)
row_more t rows old placed place item y least next value low lo lv h li ly is =
    let m = places t in
    let at = item * m + y in
    let inside : at < length next = (let a = cell_inside item y m (items t) li ly in let b = h.long in omega arith) in
    let here = get_or-set_same next at value 0 inside in
    record {
      long = length-set next at value ∙ h.long;
      row = λ z l. ⊎_elim
          (λ (e : z ≡ y).
          let a = ap (λ (x : ℕ). get_or (set next at value) (item * m + x) 0) e in
          let b = ap (λ (x : ℕ). cell rows m item x + joint_at t placed item * distance_at t place x) e in omega arith)
          (λ (ne : z ≡ y → ⊥).
          let a = get_or-set_other next at (item * m + z) value 0 (λ (q : item * m + z ≡ at). ne (omega arith)) in
          let b = h.row z (omega arith) in omega arith)
          (cases_eq z y);
      others = λ i z l lz. (
          let c = mul-add-lt i m z item l lz in
          let a = get_or-set_other next at (i * m + z) value 0 (λ (q : i * m + z ≡ at). let i : ⊥ = omega arith in i) in
          let b = h.others i z l lz in omega arith);
      lower = λ z l suits. ⊎_elim
          (λ (e : z ≡ y).
          let a = ap (λ (x : ℕ). get_or (set next at value) (item * m + x) 0) e in
          let b = lv (subst (Suits t item) e suits) in omega arith)
          (λ (ne : z ≡ y → ⊥).
          let a = get_or-set_other next at (item * m + z) value 0 (λ (q : item * m + z ≡ at). ne (omega arith)) in
          let b = h.lower z (omega arith) suits in omega arith)
          (cases_eq z y);
      small = (let a = h.small in omega arith);
    }

-- the rows of the items below j were written, where one more item is placed
pub record AreRowsPart (t : Tables) (p : List ℕ) (place j low : ℕ) (next : List ℕ) : Type 0 where
  pub long : length next ≡ items t * places t
  pub done : (i y : ℕ) → length p < i → i < j → y < places t → cell next (places t) i y ≡ beside t (p ++ place ∷ []) i y
  pub below : (at : ℕ → ℕ) → ((i : ℕ) → i < items t → (at i < places t) × Suits t i (at i)) → low ≤ total j (λ i. if nat_lt i (length (p ++ place ∷ [])) then 0 else beside t (p ++ place ∷ []) i (at i))
  pub small : low ≤ j * 2731622400

past_test : (j m x : ℕ) → m ≤ j → (if nat_lt j m then 0 else x) ≡ x
past_test j m x l = let e : nat_lt j m ≡ false = grind (arith, nat_tests) in ap (λ (c : Bool). cond c 0 x) e

pub rows_more : (t : Tables) (p rows next : List ℕ) (place j low : ℕ) (next' : List ℕ) (least : ℕ) → AreRows t p rows → AreRowsPart t p place j low next → length p < j → j < items t → length next' ≡ items t * places t
    → ((y : ℕ) → y < places t → cell next' (places t) j y ≡ cell rows (places t) j y + joint_at t (length p) j * distance_at t place y)
    → ((i y : ℕ) → i < j → y < places t → cell next' (places t) i y ≡ cell next (places t) i y)
    → ((y : ℕ) → y < places t → Suits t j y → least ≤ cell next' (places t) j y) → least ≤ 2731622400
    → AreRowsPart t p place (j + 1) (low + least) next'
rows_more t p rows next place j low next' least are h lp lj long row others small low_least =
    let q = p ++ place ∷ [] in
    let n = push_long p place in
    let here : (y : ℕ) → y < places t → cell next' (places t) j y ≡ beside t q j y =
    (λ y ly. (let a = row y ly in let b = are.value j y (omega arith) lj ly in let c = beside_push t p place j y in omega arith)) in
    record {
      long = long;
      done = λ i y l li ly. ⊎_elim
          (λ (k : i < j). let a = others i y k ly in let b = h.done i y l k ly in omega arith)
          (λ (k : j ≤ i).
          let e : i ≡ j = omega arith in
          let a = ap (λ (x : ℕ). get_or next' (x * places t + y) 0) e in
          let b = ap (λ (x : ℕ). beside t q x y) e in
          let c = here y ly in omega arith)
          (cases_lt i j);
      below = λ at inside. (
          let a = h.below at inside in
          let b = small (at j) (inside j lj).0 (inside j lj).1 in
          let c = here (at j) (inside j lj).0 in
          let e = past_test j (length q) (beside t q j (at j)) (omega arith) in
          let s : total (j + 1) (λ i. if nat_lt i (length q) then 0 else beside t q i (at i)) ≡ total j (λ i. if nat_lt i (length q) then 0 else beside t q i (at i)) + (if nat_lt j (length q) then 0 else beside t q j (at j)) = rw add-one refl in
          omega arith);
      small = (let a = h.small in omega arith);
    }

pub below_all_rows : (t : Tables) (p next : List ℕ) (place j low : ℕ) → AreRowsPart t p place j low next → j ≡ items t → IsBelowRest t (p ++ place ∷ []) low
below_all_rows t p next place j low h e = λ at inside. (
    let a = h.below at inside in
    let b = ap (λ (n : ℕ). total n (λ i. if nat_lt i (length (p ++ place ∷ [])) then 0 else beside t (p ++ place ∷ []) i (at i))) e in omega arith)

-- a row before it is written
pub row_low : (t : Tables) (p rows : List ℕ) (j y : ℕ) → AreTables t → AreRows t p rows → length p < items t → length p ≤ j → j < items t → y < places t → cell rows (places t) j y ≤ 2726297600
row_low t p rows j y tables are lp l lj ly =
    let a = are.value j y l lj ly in
    let b = beside_low t p j y tables in
    let c = tables.few_items in omega arith
