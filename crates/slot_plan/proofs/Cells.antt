-- Tables, cell by cell.
use Rattle.std.proofs.Common.{◌≡◌, ℕ, zero, suc, ◌+◌, ◌-◌, ◌*◌, ◌<◌, ◌≤◌, List, [], ◌∷◌, ◌++◌, length, get_or, map, ap, ◌∙◌, arith, ⊎_elim, length-append}
use Rattle.std.proofs.lemmas.Bool.{cases_lt}
use Rattle.std.proofs.lemmas.List.{get_or-map, length-map, get_or_append_left, get_or-append-add}
use Rattle.slot_plan.specs.Merging.{table_of}

pub length_table : (F : ℕ → ℕ → ℕ) (xs ys : List ℕ) → length (table_of F xs ys) ≡ length xs * length ys
length_table F [] ys = omega arith
length_table F (x ∷ xs) ys =
    let a = length-append (map (F x) ys) (table_of F xs ys) in
    let b = length-map ys (F x) in
    let c = length_table F xs ys in omega arith

pub cell_table : (F : ℕ → ℕ → ℕ) (xs ys : List ℕ) (i j : ℕ) → i < length xs → j < length ys → get_or (table_of F xs ys) (i * length ys + j) 0 ≡ F (get_or xs i 0) (get_or ys j 0)
cell_table F [] ys i j l lj = absurd (omega arith)
cell_table F (x ∷ xs) ys zero j l lj =
    let a : zero * length ys + j ≡ j = omega arith in
    let b = length-map ys (F x) in
    ap (λ (k : ℕ). get_or (map (F x) ys ++ table_of F xs ys) k 0) a
    ∙ (get_or_append_left (map (F x) ys) (table_of F xs ys) 0 j (omega arith) ∙ get_or-map (F x) ys j 0 0 lj)
cell_table F (x ∷ xs) ys (suc i) j l lj =
    let b = length-map ys (F x) in
    let a : suc i * length ys + j ≡ length (map (F x) ys) + (i * length ys + j) = omega arith in
    ap (λ (k : ℕ). get_or (map (F x) ys ++ table_of F xs ys) k 0) a
    ∙ (get_or-append-add (map (F x) ys) (table_of F xs ys) (i * length ys + j) 0 ∙ cell_table F xs ys i j (omega arith) lj)

past_none : (c : ℕ) (K : ℕ) → get_or [] c 0 ≤ K
past_none c K = omega arith

row_low : (f : ℕ → ℕ) (ys : List ℕ) (K c : ℕ) → ((j : ℕ) → j < length ys → f (get_or ys j 0) ≤ K) → get_or (map f ys) c 0 ≤ K
row_low f [] K c h = past_none c K
row_low f (y ∷ ys) K zero h = h 0 (omega arith)
row_low f (y ∷ ys) K (suc c) h = row_low f ys K c (λ j l. h (suc j) (omega arith))

pub table_low : (F : ℕ → ℕ → ℕ) (xs ys : List ℕ) (K c : ℕ) → ((i j : ℕ) → i < length xs → j < length ys → F (get_or xs i 0) (get_or ys j 0) ≤ K) → get_or (table_of F xs ys) c 0 ≤ K
table_low F [] ys K c h = past_none c K
table_low F (x ∷ xs) ys K c h =
    let row = map (F x) ys in
    ⊎_elim
    (λ (l : c < length row).
    let a = get_or_append_left row (table_of F xs ys) 0 c l in
    let b = row_low (F x) ys K c (λ j lj. h 0 j (omega arith) lj) in omega arith)
    (λ (l : length row ≤ c).
    let e : c ≡ length row + (c - length row) = omega arith in
    let a = ap (λ (k : ℕ). get_or (row ++ table_of F xs ys) k 0) e in
    let b = get_or-append-add row (table_of F xs ys) (c - length row) 0 in
    let r = table_low F xs ys K (c - length row) (λ i j li lj. h (suc i) j (omega arith) lj) in omega arith)
    (cases_lt c (length row))
