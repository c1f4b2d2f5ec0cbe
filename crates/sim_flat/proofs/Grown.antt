-- Rows as they grow by the instances in one of them.
use Rattle.std.proofs.Common.{◌≡◌, ℕ, zero, suc, ◌+◌, ◌-◌, ◌<◌, ◌≤◌, List, [], ◌∷◌, ◌++◌, length, get_or, inl, inr, refl, sym, ap, subst, ◌∙◌, length-append, arith}
use Rattle.std.specs.Prelude.{◌⊎◌}
use Rattle.std.proofs.lemmas.Bool.{cases_lt}
use Rattle.std.proofs.lemmas.List.{get_or_append_left, get_or-append-add, get_or_push, length_push}
use Rattle.sim_flat.specs.declared.instances.Instance.{Instance}
use Rattle.sim_flat.specs.Rows.{row_at, rows_inside, kinds_at, IsPlaced, IsInside, AreRows, AreMore, HaveDepth}

inside_length : (a d c : ℕ) (ks : List ℕ) → length (rows_inside a d c ks) ≡ length ks
inside_length a d c [] = refl
inside_length a d c (k ∷ ks) = ap suc (inside_length a d (c + 1) ks)

-- a row of the instances in one
record IsRow (ks : List ℕ) (a d c j : ℕ) (r : Instance) : Type 0 where
  kind : r.kind ≡ get_or ks j 0
  around : r.around ≡ a
  child : r.child ≡ c + j
  depth : r.depth ≡ d

inside_at : (a d c : ℕ) (ks : List ℕ) (j : ℕ) → j < length ks → IsRow ks a d c j (row_at (rows_inside a d c ks) j)
inside_at a d c [] j h = absurd (omega arith)
inside_at a d c (k ∷ ks) zero h = record { kind = refl; around = refl; child = (let e : c ≡ c + 0 = omega arith in e); depth = refl }
inside_at a d c (k ∷ ks) (suc j) h =
    let r : IsRow ks a d (c + 1) j (row_at (rows_inside a d (c + 1) ks) j) = inside_at a d (c + 1) ks j (omega arith) in
    record { kind = r.kind; around = r.around; child = r.child ∙ (let e : c + 1 + j ≡ c + suc j = omega arith in e); depth = r.depth }

placed_later : (kinds : List (List ℕ)) (m n s : ℕ) (r q : Instance) → m ≤ n → IsPlaced kinds m s r q → IsPlaced kinds n s r q
placed_later kinds m n s r q h p = record { early = (let e : r.around < m = p.early in omega arith); before = p.before; inside = p.inside; kind = p.kind; depth = p.depth }

module _ (rows : List Instance) (k depth : ℕ) (ks : List ℕ) where
  abbrev pub grown : List Instance
  grown = rows ++ rows_inside k depth 0 ks

  pub grown_length : length grown ≡ length rows + length ks
  grown_length = length-append rows (rows_inside k depth 0 ks) ∙ ap (λ n. length rows + n) (inside_length k depth 0 ks)

  pub old_row : (s : ℕ) → s < length rows → row_at grown s ≡ row_at rows s
  old_row s h = get_or_append_left rows (rows_inside k depth 0 ks) _ s h

  new_row : (j : ℕ) → j < length ks → IsRow ks k depth 0 j (row_at grown (length rows + j))
  new_row j h = subst (λ r. IsRow ks k depth 0 j r) (sym (get_or-append-add rows (rows_inside k depth 0 ks) j _)) (inside_at k depth 0 ks j h)

  pub grown_more : AreMore rows grown
  grown_more = record { count = (let e : length grown ≡ length rows + length ks = grown_length in omega arith); same = old_row }

  pub grown_deep : HaveDepth grown (length rows) (length grown) depth
  grown_deep s low high =
      let e : length grown ≡ length rows + length ks = grown_length in
      let is : length rows + (s - length rows) ≡ s = omega arith in
      subst (λ n. (row_at grown n).depth ≡ depth) is (new_row (s - length rows) (omega arith)).depth

  module _ (kinds : List (List ℕ)) (first : List ℕ) (top : ℕ) (r : AreRows kinds top rows first) (next : length first ≡ k) (left : k < length rows)
      (deep : (row_at rows k).depth + 1 ≡ depth) (are : ks ≡ kinds_at kinds (row_at rows k).kind) where
    abbrev first_next : List ℕ
    first_next = first ++ length rows ∷ []

    count : length first_next ≡ length first + 1
    count = length_push first (length rows)

    old_placed : (s : ℕ) → 0 < s → s < length rows → IsPlaced kinds (length first_next) s (row_at grown s) (row_at grown (row_at grown s).around)
    old_placed s pos low =
        let p = r.placed s pos low in
        let e : row_at rows s ≡ row_at grown s = sym (old_row s low) in
        let b : (row_at rows s).around < s = p.before in
        let outer : row_at rows (row_at rows s).around ≡ row_at grown (row_at rows s).around = sym (old_row (row_at rows s).around (omega arith)) in
        placed_later kinds (length first) (length first_next) s (row_at grown s) (row_at grown (row_at grown s).around) (let c : length first_next ≡ length first + 1 = count in omega arith)
        (subst (λ (q : Instance). IsPlaced kinds (length first) s q (row_at grown q.around)) e (subst (λ (q : Instance). IsPlaced kinds (length first) s (row_at rows s) q) outer p))

    new_placed : (j : ℕ) → j < length ks → IsPlaced kinds (length first_next) (length rows + j) (row_at grown (length rows + j)) (row_at grown (row_at grown (length rows + j)).around)
    new_placed j h =
        let q : IsRow ks k depth 0 j (row_at grown (length rows + j)) = new_row j h in
        let c : length first_next ≡ length first + 1 = count in
        let outer : row_at grown (row_at grown (length rows + j)).around ≡ row_at rows k = ap (λ n. row_at grown n) q.around ∙ old_row k left in
        subst (λ (o : Instance). IsPlaced kinds (length first_next) (length rows + j) (row_at grown (length rows + j)) o) (sym outer)
        (record {
          early = (let a : (row_at grown (length rows + j)).around ≡ k = q.around in omega arith);
          before = (let a : (row_at grown (length rows + j)).around ≡ k = q.around in omega arith);
          inside = subst (λ (l : List ℕ). (row_at grown (length rows + j)).child < length l) are (let a : (row_at grown (length rows + j)).child ≡ 0 + j = q.child in omega arith);
          kind = q.kind ∙ ap (λ (l : List ℕ). get_or l j 0) are ∙ ap (λ n. get_or (kinds_at kinds (row_at rows k).kind) n 0) (let a : (row_at grown (length rows + j)).child ≡ 0 + j = q.child in let z : j ≡ (row_at grown (length rows + j)).child = omega arith in z);
          depth = q.depth ∙ sym deep;
        })

    placed_at : (s : ℕ) → 0 < s → s < length grown → (s < length rows) ⊎ (length rows ≤ s) → IsPlaced kinds (length first_next) s (row_at grown s) (row_at grown (row_at grown s).around)
    placed_at s pos low (inl lt) = old_placed s pos lt
    placed_at s pos low (inr ge) =
        let e : length grown ≡ length rows + length ks = grown_length in
        let is : length rows + (s - length rows) ≡ s = omega arith in
        subst (λ n. IsPlaced kinds (length first_next) n (row_at grown n) (row_at grown (row_at grown n).around)) is (new_placed (s - length rows) (omega arith))

    once_before : (s : ℕ) → 0 < s → s < length rows → s ≡ get_or first_next (row_at grown s).around 0 + (row_at grown s).child
    once_before s pos low =
        let early : (row_at rows s).around < length first = (r.placed s pos low).early in
        subst (λ (q : Instance). s ≡ get_or first_next q.around 0 + q.child) (sym (old_row s low))
        (r.once s pos low ∙ ap (λ n. n + (row_at rows s).child) (sym (get_or_append_left first (length rows ∷ []) 0 (row_at rows s).around early)))

    once_behind : (j : ℕ) → j < length ks → length rows + j ≡ get_or first_next (row_at grown (length rows + j)).around 0 + (row_at grown (length rows + j)).child
    once_behind j h =
        let q : IsRow ks k depth 0 j (row_at grown (length rows + j)) = new_row j h in
        let a : get_or first_next (row_at grown (length rows + j)).around 0 ≡ length rows = ap (λ n. get_or first_next n 0) q.around ∙ get_or_push first (length rows) 0 k next in
        let b : (row_at grown (length rows + j)).child ≡ 0 + j = q.child in
        omega arith

    once_at : (s : ℕ) → 0 < s → s < length grown → (s < length rows) ⊎ (length rows ≤ s) → s ≡ get_or first_next (row_at grown s).around 0 + (row_at grown s).child
    once_at s pos low (inl lt) = once_before s pos lt
    once_at s pos low (inr ge) =
        let e : length grown ≡ length rows + length ks = grown_length in
        let is : length rows + (s - length rows) ≡ s = omega arith in
        subst (λ n. n ≡ get_or first_next (row_at grown n).around 0 + (row_at grown n).child) is (once_behind (s - length rows) (omega arith))

    old_inside : (s a c : ℕ) → IsInside rows s a c → IsInside grown s a c
    old_inside s a c i =
        let e = sym (old_row s i.there) in
        let l : length grown ≡ length rows + length ks = grown_length in
        let t : s < length rows = i.there in
        record { there = omega arith; behind = i.behind; around = subst (λ (q : Instance). q.around ≡ a) e i.around; child = subst (λ (q : Instance). q.child ≡ c) e i.child }

    new_inside : (c : ℕ) → c < length ks → IsInside grown (length rows + c) k c
    new_inside c h =
        let q : IsRow ks k depth 0 c (row_at grown (length rows + c)) = new_row c h in
        let l : length grown ≡ length rows + length ks = grown_length in
        record { there = omega arith; behind = omega arith; around = q.around; child = q.child ∙ (let z : 0 + c ≡ c = omega arith in z) }

    inside_of : (a c : ℕ) → a < length first_next → c < length (kinds_at kinds (row_at grown a).kind) → (a < length first) ⊎ (length first ≤ a) → IsInside grown (get_or first_next a 0 + c) a c
    inside_of a c low h (inl lt) =
        let w : length first ≤ length rows = r.fewer in
        let e = old_row a (let z : a < length rows = omega arith in z) in
        subst (λ n. IsInside grown (n + c) a c) (sym (get_or_append_left first (length rows ∷ []) 0 a lt))
        (old_inside (get_or first a 0 + c) a c (r.inside a c lt (subst (λ (q : Instance). c < length (kinds_at kinds q.kind)) e h)))
    inside_of a c low h (inr ge) =
        let n : length first_next ≡ length first + 1 = count in
        let is : k ≡ a = omega arith in
        subst (λ m. IsInside grown (get_or first_next m 0 + c) m c) is
        (subst (λ m. IsInside grown (m + c) k c) (sym (get_or_push first (length rows) 0 k next))
        (new_inside c (subst (λ (l : List ℕ). c < length l) (sym are) (subst (λ (q : Instance). c < length (kinds_at kinds q.kind)) (old_row k left) (subst (λ m. c < length (kinds_at kinds (row_at grown m).kind)) (sym is) h)))))

    pub rows_grow : AreRows kinds top grown first_next
    rows_grow =
        let l : length grown ≡ length rows + length ks = grown_length in
        let n : length first_next ≡ length first + 1 = count in
        let some : 0 < length rows = r.some in
        record {
          some = omega arith;
          top_kind = ap (λ (q : Instance). q.kind) (old_row 0 some) ∙ r.top_kind;
          top_depth = ap (λ (q : Instance). q.depth) (old_row 0 some) ∙ r.top_depth;
          fewer = omega arith;
          placed = λ s pos low. placed_at s pos low (cases_lt s (length rows));
          inside = λ a c low h. inside_of a c low h (cases_lt a (length first));
          once = λ s pos low. once_at s pos low (cases_lt s (length rows));
        }

-- the instances of the next depth stay behind those of this one
pub deeper_more : (old new : List Instance) (to depth : ℕ) → AreMore old new → HaveDepth old to (length old) depth → HaveDepth new (length old) (length new) depth → HaveDepth new to (length new) depth
deeper_more old new to depth m h k s low high = by (cases_lt s (length old)) where
  by : (s < length old) ⊎ (length old ≤ s) → (row_at new s).depth ≡ depth
  by (inl lt) = ap (λ (r : Instance). r.depth) (m.same s lt) ∙ h s low lt
  by (inr ge) = k s ge high

pub level_more : (old new : List Instance) (from to depth : ℕ) → AreMore old new → to ≤ length old → ((s : ℕ) → from ≤ s → s < to → (row_at old s).depth + 1 ≡ depth) → (s : ℕ) → from + 1 ≤ s → s < to → (row_at new s).depth + 1 ≡ depth
level_more old new from to depth m le h s low high = ap (λ (r : Instance). r.depth + 1) (m.same s (omega arith)) ∙ h s (omega arith) high
