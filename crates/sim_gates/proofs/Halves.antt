-- Cells of memories in two halves.
use Rattle.std.proofs.Common.{◌≡◌, ℕ, ◌+◌, ◌*◌, ◌^◌, ◌<◌, ◌≤◌, Bool, true, false, cond, ◌&&◌, List, Option, Some, refl, sym, ap, subst, ◌∙◌, arith, eqb-true, leb-true, ltb-false, le-ltb, lt-ltb}
use Rattle.std.specs.Prelude.{◌==◌, nat_le, nat_lt}
use Rattle.std.proofs.lemmas.Bool.{and_parts, eqb-false}
use Rattle.vlog_tree.specs.declared.table.Declaration.{Declaration}
use Rattle.vlog_tree.specs.Cycle.{Cycle, Sizes, read_cell}
use Rattle.vlog_tree.specs.Table.{Name, one_if, bits_of, cells_of}
use Rattle.vlog_tree.specs.V3.{is_cell_count, is_width, memory_fits, net_fits}
use Rattle.sim_tape.specs.declared.gates.Pair.{Pair}
use Rattle.sim_tape.specs.Operators.{Cells, cell_in}
use Rattle.sim_tape.specs.Tape.{number_at, pair_value}
use Rattle.sim_gates.specs.Nets.{ShowsMemories, ShowsNets, pair_in}
use Rattle.sim_gates.proofs.Pairs.{fits_word, low_is}
use Rattle.sim_gates.proofs.ReadParts.{high_is_none, low_alone}
use Rattle.sim_gates.specs.Drivers.{cell_at}

-- a cell at a place of 64 bits
pub near_cell : (cells : Cells) (m r : ℕ) (ns : List ℕ) (at : Pair) → pair_value ns at < 2 ^ 64 → r ≡ cell_in cells m (number_at ns at.low) → r ≡ cell_at cells m (pair_value ns at)
near_cell cells m r ns at small is =
    is ∙ ap (λ k. cell_in cells m k) (low_is ns at small) ∙ sym (ap (λ b. cond b (cell_in cells m (pair_value ns at)) 0) (lt-ltb (pair_value ns at) (2 ^ 64) small))

far : (h l : ℕ) → (h ≡ 0 → ⊥) → 2 ^ 64 ≤ h * 2 ^ 64 + l
far h l some = omega arith

far_by : (cells : Cells) (m h l : ℕ) (b : Bool) → (h == 0) ≡ b → l < 2 ^ 64 → cond (one_if b == 1) (cell_in cells m l) 0 ≡ cell_at cells m (h * 2 ^ 64 + l)
far_by cells m h l true e small =
    let z : h * 2 ^ 64 + l ≡ l = low_alone h l (eqb-true h 0 e) in
    sym (ap (λ k. cell_at cells m k) z ∙ ap (λ t. cond t (cell_in cells m l) 0) (lt-ltb l (2 ^ 64) small))
far_by cells m h l false e small = sym (ap (λ t. cond t (cell_in cells m (h * 2 ^ 64 + l)) 0) (le-ltb (h * 2 ^ 64 + l) (2 ^ 64) (far h l (eqb-false h 0 e))))

-- a cell at any place, which is chosen where the high half is 0
pub far_cell : (cells : Cells) (m h l z i cell r : ℕ) → z ≡ 0 → l < 2 ^ 64 → i ≡ one_if (h == z) → cell ≡ cell_in cells m l → r ≡ cond (i == 1) cell z → r ≡ cell_at cells m (h * 2 ^ 64 + l)
far_cell cells m h l z i cell r none small inside is chosen =
    chosen ∙ ap (λ k. cond (i == 1) cell k) none ∙ ap (λ k. cond (i == 1) k 0) is ∙ ap (λ k. cond (k == 1) (cell_in cells m l) 0) (inside ∙ ap (λ k. one_if (h == k)) none)
    ∙ far_by cells m h l (h == 0) refl small

module _ (ds : List Declaration) (memories : List (Option Pair)) (s : Sizes) (c : Cycle) (cells : Cells) (shows : ShowsMemories ds memories s c cells) (m : Name) (q : Pair)
    (is : pair_in ds memories m ≡ Some q) (fit : memory_fits ds m ≡ true) where
  few : s.cells m ≤ 1048576
  few =
      let p = and_parts (is_width (bits_of ds m)) (is_cell_count (cells_of ds m)) fit in
      let r = and_parts (nat_le 1 (cells_of ds m)) (nat_le (cells_of ds m) 1048576) p.1 in
      subst (λ n. n ≤ 1048576) (sym (shows.count m q is)) (leb-true (cells_of ds m) 1048576 r.1)

  halves_by : (v : ℕ) (b : Bool) → nat_lt v (2 ^ 64) ≡ b → read_cell s c m v ≡ cond b (cell_in cells q.high v) 0 * 2 ^ 64 + cond b (cell_in cells q.low v) 0
  halves_by v true e = shows.value m q is v
  halves_by v false e =
      let past : 2 ^ 64 ≤ v = ltb-false v (2 ^ 64) e in
      let most : s.cells m ≤ 1048576 = few in
      ap (λ t. cond t (c.cell m v) 0) (le-ltb v (s.cells m) (omega arith))

  -- the halves make the cell
  pub halves_told : (v : ℕ) → read_cell s c m v ≡ cell_at cells q.high v * 2 ^ 64 + cell_at cells q.low v
  halves_told v = halves_by v (nat_lt v (2 ^ 64)) refl

  -- the low half alone, of a memory of at most 64 bits
  pub low_told : bits_of ds m ≤ 64 → (v : ℕ) → read_cell s c m v ≡ cell_at cells q.low v
  low_told le v =
      let low : read_cell s c m v < 2 ^ 64 = fits_word (read_cell s c m v) (bits_of ds m) le (shows.fits m q is v) in
      let whole = subst (λ n. n < 2 ^ 64) (halves_told v) low in
      halves_told v ∙ low_alone (cell_at cells q.high v) (cell_at cells q.low v) (high_is_none (cell_at cells q.high v) (cell_at cells q.low v) whole)

-- a memory and an index that the rule on widths takes
pub cell_fits : (ds : List Declaration) (w : ℕ) (m x : Name) → (memory_fits ds m && net_fits ds x && (bits_of ds m == w)) ≡ true → memory_fits ds m ≡ true
cell_fits ds w m x h = (and_parts (memory_fits ds m) (net_fits ds x) (and_parts (memory_fits ds m && net_fits ds x) (bits_of ds m == w) h).0).0

-- an index of at most 64 bits
pub index_below : (ds : List Declaration) (pairs : List (Option Pair)) (s : Sizes) (c : Cycle) (ns : List ℕ) → ShowsNets ds pairs s c ns → (x : Name) (at : Pair) → pair_in ds pairs x ≡ Some at → bits_of ds x ≤ 64 → pair_value ns at < 2 ^ 64
index_below ds pairs s c ns h x at e le = fits_word (pair_value ns at) (bits_of ds x) le (subst (λ v. v < 2 ^ bits_of ds x) (h.value x at e) (h.fits x at e))
