-- Numbers of the nets of instances, one instance behind the other.
use Rattle.std.proofs.Common.{◌≡◌, ℕ, suc, ◌+◌, ◌<◌, ◌≤◌, List, [], ◌∷◌, ◌++◌, length, take, get_or, Some, inl, inr, refl, sym, ap, subst, ◌∙◌, arith}
use Rattle.std.specs.Prelude.{◌⊎◌, slice_get, replicate}
use Rattle.std.specs.Option.{option_map_or}
use Rattle.std.proofs.lemmas.Bool.{cases_lt}
use Rattle.std.proofs.lemmas.List.{length-append, length_push, length-replicate, get_or_append_left, get_or_push}
use Rattle.vlog_tree.specs.Form.{ModuleTree}
use Rattle.vlog_tree.specs.Table.{declared}
use Rattle.sim_flat.specs.declared.instances.Instance as row
use Rattle.sim_flat.specs.Rows.{row_at}
use Rattle.sim_flat.specs.Instances.{IsModuleOf, AreInstances}
use Rattle.sim_flat.specs.declared.tables.Table.{Table}
use Rattle.sim_flat.specs.Tables.{AreTables}
use Rattle.sim_flat.specs.Flat.{IsOwner, AreNumbered}
use Rattle.sim_flat.specs.Numbering.{names_at, count_at, IsNumbering}
use Rattle.sim_flat.specs.Sizes.{own_sum}
use Rattle.sim_flat.proofs.Sizing.{sum_next}
use Rattle.sim_flat.proofs.Got.{got_left, got_behind, got_split, got_replicate, of_replicate}

pub numbering_start : (count : ℕ → ℕ) (n : ℕ) → n ≡ 0 → IsNumbering count n [] []
numbering_start count n e = record {
  len = sym e;
  starts = refl;
  within = λ k low. absurd (omega arith);
  owned = λ k j low h. absurd (omega arith);
  owner = λ number k h. cc;
}

pub numbering_none : (count : ℕ → ℕ) (n : ℕ) (first owners : List ℕ) → n ≡ 0 → first ≡ [] → owners ≡ [] → IsNumbering count n first owners
numbering_none count n first owners e f o = subst (λ l. IsNumbering count n first l) (sym o) (subst (λ l. IsNumbering count n l []) (sym f) (numbering_start count n e))

start_more : (first : List ℕ) (owners more : ℕ) → get_or first 0 owners ≡ 0 → get_or (first ++ owners ∷ []) 0 more ≡ 0
start_more [] owners more e = e
start_more (x ∷ first) owners more e = e

module _ (count : ℕ → ℕ) (n : ℕ) (first owners : List ℕ) (i : IsNumbering count n first owners) where
  abbrev first_next : List ℕ
  first_next = first ++ length owners ∷ []

  abbrev owners_next : List ℕ
  owners_next = owners ++ replicate (count n) n

  len_is : length first ≡ n
  len_is = i.len

  owners_length : length owners_next ≡ length owners + count n
  owners_length = length-append owners (replicate (count n) n) ∙ ap (λ k. length owners + k) (length-replicate (count n) n)

  before : (k : ℕ) → k < n → get_or first_next k 0 ≡ get_or first k 0
  before k low = let l : length first ≡ n = len_is in get_or_append_left first (length owners ∷ []) 0 k (omega arith)

  last : (k : ℕ) → n ≡ k → get_or first_next k 0 ≡ length owners
  last k e = get_or_push first (length owners) 0 k (len_is ∙ e)

  within_next : (k : ℕ) → k < n + 1 → (k < n) ⊎ (n ≤ k) → get_or first_next k 0 + count k ≤ length owners_next
  within_next k low (inl lt) =
      let b : get_or first_next k 0 ≡ get_or first k 0 = before k lt in
      let w : get_or first k 0 + count k ≤ length owners = i.within k lt in
      let l : length owners_next ≡ length owners + count n = owners_length in
      omega arith
  within_next k low (inr ge) =
      let e : n ≡ k = omega arith in
      let b : get_or first_next k 0 ≡ length owners = last k e in
      let l : length owners_next ≡ length owners + count n = owners_length in
      let c : count n ≡ count k = ap count e in
      omega arith

  owned_next : (k j : ℕ) → k < n + 1 → j < count k → (k < n) ⊎ (n ≤ k) → slice_get owners_next (get_or first_next k 0 + j) ≡ Some k
  owned_next k j low h (inl lt) =
      let w : get_or first k 0 + count k ≤ length owners = i.within k lt in
      ap (λ m. slice_get owners_next (m + j)) (before k lt) ∙ got_left owners (replicate (count n) n) (get_or first k 0 + j) (omega arith) ∙ i.owned k j lt h
  owned_next k j low h (inr ge) =
      let e : n ≡ k = omega arith in
      let c : count n ≡ count k = ap count e in
      ap (λ m. slice_get owners_next (m + j)) (last k e) ∙ got_behind owners (replicate (count n) n) j ∙ got_replicate (count n) n j (omega arith) ∙ ap (λ m. Some m) e

  owner_next : (number k : ℕ) → (slice_get owners number ≡ Some k) ⊎ ((j : ℕ) × (number ≡ length owners + j) × (slice_get (replicate (count n) n) j ≡ Some k)) → (k < n + 1) × ((j : ℕ) × (j < count k) × (number ≡ get_or first_next k 0 + j))
  owner_next number k (inl h) =
      let o = i.owner number k h in
      let low : k < n = o.0 in
      let b : get_or first_next k 0 ≡ get_or first k 0 = before k low in
      let is : number ≡ get_or first k 0 + o.1.0 = o.1.2 in
      let z : number ≡ get_or first_next k 0 + o.1.0 = omega arith in
      (omega arith, (o.1.0, o.1.1, z))
  owner_next number k (inr t) =
      let r = of_replicate (count n) n t.0 k t.2 in
      let e : n ≡ k = r.1 in
      let b : get_or first_next k 0 ≡ length owners = last k e in
      let is : number ≡ length owners + t.0 = t.1 in
      let z : number ≡ get_or first_next k 0 + t.0 = omega arith in
      let low : t.0 < count k = subst (λ m. t.0 < count m) e r.0 in
      (omega arith, (t.0, low, z))

  pub numbering_more : IsNumbering count (n + 1) first_next owners_next
  numbering_more = record {
    len = (let l : length first ≡ n = len_is in let p : length first_next ≡ length first + 1 = length_push first (length owners) in omega arith);
    starts = start_more first (length owners) (length owners_next) i.starts;
    within = λ k low. within_next k low (cases_lt k n);
    owned = λ k j low h. owned_next k j low h (cases_lt k n);
    owner = λ number k h. owner_next number k (got_split owners (replicate (count n) n) number k h);
  }

-- one more instance
pub numbering_next : (tables : List Table) (rows : List row.Instance) (k count : ℕ) (first owners new_first new_owners : List ℕ) → count ≡ count_at tables rows k
    → new_first ≡ first ++ length owners ∷ [] → new_owners ≡ owners ++ replicate count k → IsNumbering (count_at tables rows) k first owners → IsNumbering (count_at tables rows) (k + 1) new_first new_owners
numbering_next tables rows k count first owners new_first new_owners c f o i =
    subst (λ l. IsNumbering (count_at tables rows) (k + 1) l new_owners) (sym f)
    (subst (λ l. IsNumbering (count_at tables rows) (k + 1) (first ++ length owners ∷ []) l) (sym (o ∙ ap (λ n. owners ++ replicate n k) c))
    (numbering_more (count_at tables rows) k first owners i))

-- as many nets as the modules of the instances declare names
pub nets_next : (tables : List Table) (rows : List row.Instance) (k count : ℕ) (owners new_owners : List ℕ) → k < length rows → count ≡ names_at tables (row_at rows k).kind
    → new_owners ≡ owners ++ replicate count k → length owners ≡ own_sum (names_at tables) (take k rows) → length new_owners ≡ own_sum (names_at tables) (take (k + 1) rows)
nets_next tables rows k count owners new_owners low c o e =
    let a : length new_owners ≡ length owners + length (replicate count k) = ap length o ∙ length-append owners (replicate count k) in
    let r : length (replicate count k) ≡ count = length-replicate count k in
    let s : own_sum (names_at tables) (take (suc k) rows) ≡ own_sum (names_at tables) (take k rows) + names_at tables (row_at rows k).kind = sum_next (names_at tables) rows k low in
    let n : suc k ≡ k + 1 = omega arith in
    let t : own_sum (names_at tables) (take (suc k) rows) ≡ own_sum (names_at tables) (take (k + 1) rows) = ap (λ m. own_sum (names_at tables) (take m rows)) n in
    let z : length new_owners ≡ own_sum (names_at tables) (take (suc k) rows) = omega (arith, a, r, s, c, e) in
    z ∙ t

-- with as many names as the modules of instances declare
module _ (ms : List ModuleTree) (top : ModuleTree) (tables : List Table) (rows : List row.Instance) (first_child first owners : List ℕ) (t : AreTables ms tables) (a : AreInstances ms top rows first_child)
    (i : IsNumbering (count_at tables rows) (length rows) first owners) where
  count_is : (k : ℕ) (m : ModuleTree) → IsModuleOf ms rows k m → count_at tables rows k ≡ length (declared m)
  count_is k m is = let e = t.each (row_at rows k).kind m is in ap (λ o. option_map_or (λ (t : Table). length t.sources.items) o 0) e.1 ∙ e.2.count

  top_start : (o : ℕ) → get_or first 0 o ≡ 0 → length first ≡ length rows → 0 < length rows → get_or first 0 0 ≡ 0
  top_start = starts_any first where
    starts_any : (first : List ℕ) (o : ℕ) → get_or first 0 o ≡ 0 → length first ≡ length rows → 0 < length rows → get_or first 0 0 ≡ 0
    starts_any [] o e l low = absurd (omega arith)
    starts_any (x ∷ xs) o e l low = e

  owner_is : (number k : ℕ) → slice_get owners number ≡ Some k → IsOwner ms rows first number k
  owner_is number k h =
      let o = i.owner number k h in
      let w = a.paths k o.0 in
      let m = a.modules k w.0 o.0 w.1 in
      let c : count_at tables rows k ≡ length (declared m.0) = count_is k m.0 m.2 in
      let low : o.1.0 < count_at tables rows k = o.1.1 in
      record {
        there = o.0;
        tree = m.0;
        of_module = m.2;
        place = o.1.0;
        low = (let z : o.1.0 < length (declared m.0) = omega arith in z);
        is = o.1.2;
      }

  some_row : 0 < length rows
  some_row = let n = a.numbers [] top refl in let low : n.0 < length rows = n.1 in omega arith

  pub are_numbered : AreNumbered ms rows first owners
  are_numbered = record {
    count = i.len;
    starts = top_start (length owners) i.starts i.len some_row;
    within = λ k m low is. subst (λ n. get_or first k 0 + n ≤ length owners) (count_is k m is) (i.within k low);
    owned = λ k j m low is h. i.owned k j low (subst (λ n. j < n) (sym (count_is k m is)) h);
    owner = owner_is;
  }
