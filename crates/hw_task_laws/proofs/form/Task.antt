-- What of a task its module's form rests on, and the bits of its numbers.
use Rattle.std.proofs.Common.{◌≡◌, ℕ, zero, suc, ◌-◌, ◌^◌, ◌<◌, ◌≤◌, Bool, true, false, cond, eqb, List, [], ◌∷◌, length, Option, Some, None, inl, inr, refl, sym, ap, subst, ◌∙◌, arith, eq-eqb, ne_eqb, ⊎_elim}
use Rattle.std.specs.Prelude.{slice_get, slice_index_or, unwrap_or, option_map, IsTrue, ◌⊎◌}
use Rattle.std.specs.Int.Count.{count_leading_zeros}
use Rattle.std.proofs.Math.Pow.{pow_mono}
use Rattle.std.proofs.lemmas.Nat.{leading_length, leading_top}
use Rattle.std.proofs.lemmas.Bool.{cases_eq}
use Rattle.tapa_base.specs.declared.kind.Kind.TheVariants.{U64}
use Rattle.tapa_syntax.specs.declared.program.Array.{Array}
use Rattle.tapa_syntax.specs.declared.program.Leaf.{Leaf}
use Rattle.tapa_syntax.specs.LeafKinds.{Kinds, kinds_of, writes_of}
use Rattle.tapa_syntax.specs.WellFormed.{IsLeaf}
use Rattle.task_fsm.specs.declared.machine.Fsm.{Fsm}
use Rattle.task_fsm.specs.declared.machine.State.{State}
use Rattle.task_fsm.specs.Machine.{StateForm, TrapAt, forms_of}
use Rattle.task_fsm.specs.MachineKinds.{machine_kinds, IsTypedState, AreTypedStates}
use Rattle.task_fsm.specs.Ranges.{Ranges, ranges_of, IsInRange, AreInRange}
use Rattle.task_fsm.specs.Lowered.{IsLowered}
use Rattle.vlog_tree.specs.V3.{is_width}
use Rattle.hw_lines.specs.Shape.{Shape, shape_of, kinds_in, array_cells, index_bits, state_count, state_bits, form_at}
use Rattle.hw_build.specs.Widths.{bits_for}
use Rattle.hw_task_laws.specs.names.Countable.{IsCountable}
use Rattle.hw_task_laws.proofs.fit.Scopes.{wide}

-- what there is of a shape
abbrev pub ranges_in : Shape → Ranges
ranges_in S = record { registers = length S.registers; arrays = length S.arrays; memories = length S.memories; states = state_count S; writes = writes_of S.streams }

pub record IsTask (S : Shape) : Type 0 where
  pub some : 0 < state_count S
  pub few : state_count S ≤ 2 ^ 32
  pub some_cells : (a : ℕ) → 1 ≤ array_cells S a
  pub few_cells : (a : ℕ) → array_cells S a ≤ 4096
  pub typed : (k : ℕ) → IsTypedState (kinds_in S) (form_at S k)
  pub ranged : (k : ℕ) → IsInRange (ranges_in S) (form_at S k)

-- ---- a leaf's machine

typed_at : (K : Kinds) (places : List StateForm) (k : ℕ) → AreTypedStates K places → IsTypedState K (slice_index_or places k TrapAt)
typed_at K [] k h = tt
typed_at K (p ∷ places) zero h = h.0
typed_at K (p ∷ places) (suc k) h = typed_at K places k h.1

ranged_at : (R : Ranges) (places : List StateForm) (k : ℕ) → AreInRange R places → IsInRange R (slice_index_or places k TrapAt)
ranged_at R [] k h = tt
ranged_at R (p ∷ places) zero h = h.0
ranged_at R (p ∷ places) (suc k) h = ranged_at R places k h.1

forms_counted : (states : List State) → length (forms_of states) ≡ length states
forms_counted [] = refl
forms_counted (s ∷ states) = ap suc (forms_counted states)

cells_some : (o : Option Array) → ((r : Array) → o ≡ Some r → (1 ≤ r.cells) × (r.cells ≤ 4096)) → (1 ≤ unwrap_or (option_map (λ (r : Array). r.cells) o) 1) × (unwrap_or (option_map (λ (r : Array). r.cells) o) 1 ≤ 4096)
cells_some None h = (omega arith, omega arith)
cells_some (Some r) h = h r refl

abbrev with_arrays : Leaf → Fsm → List Array → Kinds
with_arrays leaf machine arrays = record {
  vars = λ r. slice_index_or machine.regs.items r U64;
  arrays = λ a. unwrap_or (option_map (λ (r : Array). r.kind) (slice_get arrays a)) U64;
  memories = (kinds_of leaf).memories;
  streams = (kinds_of leaf).streams;
}

abbrev with_counts : Leaf → Fsm → ℕ → ℕ → Ranges
with_counts leaf machine arrays states = record { registers = length machine.regs.items; arrays = arrays; memories = length leaf.memories.items; states = states; writes = writes_of leaf.streams.items }

module _ (leaf : Leaf) (machine : Fsm) (is_leaf : IsLeaf leaf) (lowered : IsLowered leaf machine) where
  abbrev S : Shape
  S = shape_of machine leaf.memories.items leaf.streams.items

  same_kinds : machine_kinds leaf machine ≡ kinds_in S
  same_kinds = ap (with_arrays leaf machine) (sym lowered.arrays)

  same_ranges : ranges_of leaf machine ≡ ranges_in S
  same_ranges =
      ap (λ z. with_counts leaf machine z (length machine.states.items - 1)) (ap (λ (l : List Array). length l) (sym lowered.arrays))
      ∙ ap (λ z. with_counts leaf machine (length machine.arrays.items) (z - 1)) (sym (forms_counted machine.states.items))

  cells : (a : ℕ) → (1 ≤ array_cells S a) × (array_cells S a ≤ 4096)
  cells a =
      subst (λ (l : List Array). (1 ≤ unwrap_or (option_map (λ (r : Array). r.cells) (slice_get l a)) 1) × (unwrap_or (option_map (λ (r : Array). r.cells) (slice_get l a)) 1 ≤ 4096)) (sym lowered.arrays)
      (cells_some (slice_get leaf.arrays.items a) (is_leaf.cells a))

  pub is_task : IsCountable S → IsTask S
  is_task c =
      let count = forms_counted machine.states.items in
      let size = lowered.states in
      let low = c.states in
      record {
        some = omega (arith, count, size);
        few = omega (arith, low);
        some_cells = λ a. (cells a).0;
        few_cells = λ a. (cells a).1;
        typed = λ k. typed_at (kinds_in S) S.states k (subst (λ (K : Kinds). AreTypedStates K (forms_of machine.states.items)) same_kinds lowered.typed);
        ranged = λ k. ranged_at (ranges_in S) S.states k (subst (λ (R : Ranges). AreInRange R (forms_of machine.states.items)) same_ranges lowered.in_range);
      }

-- ---- bits

pub fits_bits : (n : ℕ) → n < 2 ^ 32 → n < 2 ^ bits_for n
unfolding bits_for
fits_bits n h =
    ⊎_elim
    (λ e. let w : cond (eqb n 0) 1 (32 - count_leading_zeros 32 n) ≡ 1 = ap (λ b. cond b 1 (32 - count_leading_zeros 32 n)) (eq-eqb n 0 e) in subst (λ k. n < 2 ^ k) (sym w) (omega arith))
    (λ e.
    let t = leading_length 32 n h in
    let m : 32 - count_leading_zeros 32 n ≡ t.0 = omega (arith, t.1) in
    subst (λ k. n < 2 ^ k) (sym (ap (λ b. cond b 1 (32 - count_leading_zeros 32 n)) (ne_eqb n 0 e) ∙ m)) t.2)
    (cases_eq n 0)

some_bits_for : (n : ℕ) → n < 2 ^ 32 → 0 < bits_for n
unfolding bits_for
some_bits_for n h =
    ⊎_elim
    (λ e. let w : cond (eqb n 0) 1 (32 - count_leading_zeros 32 n) ≡ 1 = ap (λ b. cond b 1 (32 - count_leading_zeros 32 n)) (eq-eqb n 0 e) in subst (λ k. 0 < k) (sym w) (omega arith))
    (λ e.
    let w : cond (eqb n 0) 1 (32 - count_leading_zeros 32 n) ≡ 32 - count_leading_zeros 32 n = ap (λ b. cond b 1 (32 - count_leading_zeros 32 n)) (ne_eqb n 0 e) in
    let pos : 0 < n = omega (arith, e) in
    let t = leading_top 32 n pos h in
    let k = t.1 in
    subst (λ k. 0 < k) (sym w) (omega (arith, k)))
    (cases_eq n 0)

few_by : (b : Bool) (k : ℕ) → cond b 1 (32 - k) ≤ 32
few_by true k = omega arith
few_by false k = omega arith

few_bits_for : (n : ℕ) → bits_for n ≤ 32
unfolding bits_for
few_bits_for n = few_by (eqb n 0) (count_leading_zeros 32 n)

-- of a number of fewer bits
fewer_bits : (n : ℕ) → n < 4096 → bits_for n < 32
unfolding bits_for
fewer_bits n h =
    ⊎_elim
    (λ e. let w : cond (eqb n 0) 1 (32 - count_leading_zeros 32 n) ≡ 1 = ap (λ b. cond b 1 (32 - count_leading_zeros 32 n)) (eq-eqb n 0 e) in subst (λ k. k < 32) (sym w) (omega arith))
    (λ e.
    let w : cond (eqb n 0) 1 (32 - count_leading_zeros 32 n) ≡ 32 - count_leading_zeros 32 n = ap (λ b. cond b 1 (32 - count_leading_zeros 32 n)) (ne_eqb n 0 e) in
    let pos : 0 < n = omega (arith, e) in
    let t = leading_top 32 n pos (omega (arith, h)) in
    let k = t.1 in
    let top = t.2 in
    let low : t.0 < 31 = below t.0 top in
    subst (λ k. k < 32) (sym w) (omega (arith, k, low)))
    (cases_eq n 0) where
      either : (a b : ℕ) → (a < b) ⊎ (b ≤ a)
      either a zero = inr (omega arith)
      either zero (suc b) = inl (omega arith)
      either (suc a) (suc b) = ⊎_elim (λ l. inl (omega (arith, l))) (λ l. inr (omega (arith, l))) (either a b)

      below : (j : ℕ) → 2 ^ j ≤ n → j < 31
      below j l = ⊎_elim (λ m. m) (λ m. let p : 2 ^ 31 ≤ 2 ^ j = pow_mono m in absurd (omega (arith, p, l, h))) (either j 31)

module _ (S : Shape) (T : IsTask S) where
  low_count : state_count S - 1 < 2 ^ 32
  low_count = let f = T.few in let s = T.some in omega (arith, f, s)

  pub state_wide : IsTrue (is_width (state_bits S))
  state_wide = let s = some_bits_for (state_count S - 1) low_count in let f = few_bits_for (state_count S - 1) in wide (state_bits S) (omega (arith, s)) (omega (arith, f))

  pub state_low : (k : ℕ) → k < state_count S → k < 2 ^ state_bits S
  state_low k h = let f = fits_bits (state_count S - 1) low_count in let p : state_count S - 1 < 2 ^ state_bits S = f in omega (arith, h, p)

  pub some_index : (a : ℕ) → 0 < index_bits S a
  some_index a = let f = T.few_cells a in some_bits_for (array_cells S a - 1) (omega (arith, f))

  pub few_index : (a : ℕ) → index_bits S a < 32
  few_index a = let f = T.few_cells a in let s = T.some_cells a in fewer_bits (array_cells S a - 1) (omega (arith, f, s))

  pub index_wide : (a : ℕ) → IsTrue (is_width (index_bits S a))
  index_wide a = let s = some_index a in let f = few_index a in wide (index_bits S a) (omega (arith, s)) (omega (arith, f))
