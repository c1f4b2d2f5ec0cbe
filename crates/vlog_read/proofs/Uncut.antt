-- Where the rule on widths holds, no number of modules is cut.
use Rattle.std.proofs.Common.{◌≡◌, ℕ, zero, suc, ◌+◌, ◌-◌, ◌*◌, ◌^◌, ◌≤◌, min, inl, inr, Bool, true, false, cond, ◌&&◌, List, [], ◌∷◌, Option, Some, None, refl, sym, ap, ◌∙◌, arith, map}
use Rattle.std.specs.Prelude.{nat_le, nat_lt, ◌==◌, sum, not}
use Rattle.std.specs.List.{list_all, flat_map}
use Rattle.std.proofs.lemmas.Bool.{and_parts, eqb-true, lt-ltb, ltb-true, not-false}
use Rattle.std.proofs.lemmas.Bool.Decides.{nat_tests}
use Rattle.std.proofs.Math.Nat.{pow-le-pow_right}
use Rattle.vlog_tree.specs.declared.tree.Atom.{Atom}
use Rattle.vlog_tree.specs.declared.tree.Atom.TheVariants.{Net, Part, Literal}
use Rattle.vlog_tree.specs.declared.tree.BinaryOp.{BinaryOp}
use Rattle.vlog_tree.specs.declared.tree.BinaryOp.TheVariants.{Plus, Minus, Times, Divide, Remainder, And, Or, Xor, ShiftLeft, ShiftRight, Equals, Differs, Less}
use Rattle.vlog_tree.specs.declared.tree.Value.{Value}
use Rattle.vlog_tree.specs.declared.tree.Value.TheVariants.{Plain, Invert, Binary, Choose, Concat, Repeat, Cell}
use Rattle.vlog_tree.specs.declared.tree.Step.{Step}
use Rattle.vlog_tree.specs.declared.tree.Step.TheVariants.{If, Else, End, NonblockingAssign, MemoryAssign}
use Rattle.vlog_tree.specs.declared.tree.Item.{Item}
use Rattle.vlog_tree.specs.declared.tree.Item.TheVariants.{Wire, Reg, Memory, Assign, Always, Instance}
use Rattle.vlog_tree.specs.declared.tree.PortDecl.{PortDecl}
use Rattle.vlog_tree.specs.declared.table.Declaration.{Declaration}
use Rattle.vlog_tree.specs.Form.{ModuleTree}
use Rattle.tapa_base.specs.Lists.{Has}
use Rattle.vlog_tree.specs.Table.{Name, NameUse, declared, bits_of, first_violation}
use Rattle.vlog_tree.specs.V3.{is_width, is_cell_count, net_fits, memory_fits, atom_bits, atom_fits, has_bits, is_divisor, op_fits, value_fits, step_widths, item_widths, port_widths, module_widths, v3_uses}
use Rattle.vlog_tree.specs.Clamped.{clamped_atom, clamped_value, clamped_step, clamped_item, clamped_port, clamped}
use Rattle.vlog_tree.proofs.Clamped.{width_is, cells_is, width_low, width_some as some_width, part_some as some_part}
use Rattle.tapa_base.proofs.Lists.{has_left, has_right, has_flat}
use Rattle.vlog_lex.proofs.Written.{right_here, right_behind, right}

map_is : {A : Type 0} (f : A → A) (xs : List A) → ((x : A) → Has xs x → f x ≡ x) → map f xs ≡ xs
map_is f [] h = refl
map_is f (x ∷ xs) h = ap (λ y. y ∷ map f xs) (h x (inl refl)) ∙ ap (λ ys. x ∷ ys) (map_is f xs (λ y has. h y (inr has)))

all_has : {A : Type 0} (P : A → Bool) (xs : List A) → list_all P xs ≡ true → (x : A) → Has xs x → P x ≡ true
all_has P [] h x has = absurd has
all_has P (y ∷ ys) h x (inl e) = ap P (sym e) ∙ (and_parts (P y) (list_all P ys) h).0
all_has P (y ∷ ys) h x (inr has) = all_has P ys (and_parts (P y) (list_all P ys) h).1 x has

-- ---- numbers

part_high : (b high low : ℕ) → (is_width b && nat_le 2 b && nat_le low high && nat_lt high b) ≡ true → min high 129 ≡ high
part_high b high low h = grind (arith, nat_tests)

part_low : (b high low : ℕ) → (is_width b && nat_le 2 b && nat_le low high && nat_lt high b) ≡ true → min low 129 ≡ low
part_low b high low h = grind (arith, nat_tests)

held : (w n : ℕ) → is_width w ≡ true → nat_lt n (2 ^ w) ≡ true → nat_lt n (2 ^ 128) ≡ true
held w n h k = let most : 2 ^ w ≤ 2 ^ 128 = pow-le-pow_right {n = 2} (omega arith) (width_low w h) in lt-ltb n (2 ^ 128) (let below = ltb-true n (2 ^ w) k in omega arith)

few_copies : (k b w : ℕ) → 1 ≤ b → w ≤ 128 → k * b ≡ w → min k 129 ≡ k
few_copies k zero w one low e = absurd (omega arith)
few_copies k (suc b) w one low e = let less : k ≤ k * suc b = search arith in omega arith

module _ (ds : List Declaration) where
  atom_is : (a : Atom) → atom_fits ds a ≡ true → clamped_atom a ≡ a
  atom_is (Net x) h = refl
  atom_is (Part x high low) h = ap (λ n. Part x n (min low 129)) (part_high (bits_of ds x) high low h) ∙ ap (λ n. Part x high n) (part_low (bits_of ds x) high low h)
  atom_is (Literal w n) h =
      let p = and_parts (is_width w) (nat_lt n (2 ^ w)) h in
      ap (λ b. cond b (Literal (min w 129) n) (Literal 0 0)) (held w n p.0 p.1) ∙ ap (λ k. Literal k n) (width_is w p.0)

  atom_some : (a : Atom) → atom_fits ds a ≡ true → 1 ≤ atom_bits ds a
  atom_some (Net x) h = some_width (bits_of ds x) h
  atom_some (Part x high low) h = some_part (bits_of ds x) high low h
  atom_some (Literal w n) h = some_width w (and_parts (is_width w) (nat_lt n (2 ^ w)) h).0

  bits_is : (w : ℕ) (a : Atom) → has_bits ds w a ≡ true → clamped_atom a ≡ a
  bits_is w a h = atom_is a (and_parts (atom_fits ds a) (atom_bits ds a == w) h).0

  abbrev AreBoth : Atom → Atom → Type 0
  AreBoth a b = (clamped_atom a ≡ a) × (clamped_atom b ≡ b)

  two_is : (w : ℕ) (a b : Atom) → (has_bits ds w a && has_bits ds w b) ≡ true → AreBoth a b
  two_is w a b h = let p = and_parts (has_bits ds w a) (has_bits ds w b) h in (bits_is w a p.0, bits_is w b p.1)

  quotient_is : (w : ℕ) (a b : Atom) → (has_bits ds w a && has_bits ds w b && is_divisor b) ≡ true → AreBoth a b
  quotient_is w a b h = two_is w a b (and_parts (has_bits ds w a && has_bits ds w b) (is_divisor b) h).0

  shift_is : (w : ℕ) (a b : Atom) → (has_bits ds w a && atom_fits ds b) ≡ true → AreBoth a b
  shift_is w a b h = let p = and_parts (has_bits ds w a) (atom_fits ds b) h in (bits_is w a p.0, atom_is b p.1)

  compared_is : (w : ℕ) (a b : Atom) → ((w == 1) && atom_fits ds a && has_bits ds (atom_bits ds a) b) ≡ true → AreBoth a b
  compared_is w a b h =
      let p = and_parts ((w == 1) && atom_fits ds a) (has_bits ds (atom_bits ds a) b) h in (atom_is a (and_parts (w == 1) (atom_fits ds a) p.0).1, bits_is (atom_bits ds a) b p.1)

  op_is : (w : ℕ) (op : BinaryOp) (a b : Atom) → op_fits ds w op a b ≡ true → AreBoth a b
  op_is w Plus a b h = two_is w a b h
  op_is w Minus a b h = two_is w a b h
  op_is w Times a b h = two_is w a b h
  op_is w Divide a b h = quotient_is w a b h
  op_is w Remainder a b h = quotient_is w a b h
  op_is w And a b h = two_is w a b h
  op_is w Or a b h = two_is w a b h
  op_is w Xor a b h = two_is w a b h
  op_is w ShiftLeft a b h = shift_is w a b h
  op_is w ShiftRight a b h = shift_is w a b h
  op_is w Equals a b h = compared_is w a b h
  op_is w Differs a b h = compared_is w a b h
  op_is w Less a b h = compared_is w a b h

  value_is : (w : ℕ) → w ≤ 128 → (v : Value) → value_fits ds w v ≡ true → clamped_value v ≡ v
  value_is w low (Plain a) h = ap Plain (bits_is w a h)
  value_is w low (Invert a) h = ap Invert (bits_is w a h)
  value_is w low (Binary a op b) h = let p = op_is w op a b h in ap (λ x. Binary x op (clamped_atom b)) p.0 ∙ ap (λ y. Binary a op y) p.1
  value_is w low (Choose c a b) h =
      let p = and_parts (has_bits ds 1 c && has_bits ds w a) (has_bits ds w b) h in
      let q = and_parts (has_bits ds 1 c) (has_bits ds w a) p.0 in
      ap (λ x. Choose x (clamped_atom a) (clamped_atom b)) (bits_is 1 c q.0) ∙ ap (λ y. Choose c y (clamped_atom b)) (bits_is w a q.1) ∙ ap (λ z. Choose c a z) (bits_is w b p.1)
  value_is w low (Concat atoms) h =
      let p = and_parts (list_all (atom_fits ds) atoms) (sum (map (atom_bits ds) atoms) == w) h in ap Concat (map_is clamped_atom atoms (λ a has. atom_is a (all_has (atom_fits ds) atoms p.0 a has)))
  value_is w low (Repeat n a) h =
      let p = and_parts (atom_fits ds a) (n * atom_bits ds a == w) h in
      ap (λ k. Repeat k (clamped_atom a)) (few_copies n (atom_bits ds a) w (atom_some a p.0) low (eqb-true (n * atom_bits ds a) w p.1)) ∙ ap (λ x. Repeat n x) (atom_is a p.0)
  value_is w low (Cell m x) h = refl

  abbrev AreRight : List NameUse → Type 0
  AreRight us = (u : NameUse) → Has us u → u.1 ≡ false

  step_is : (s : Step) → AreRight (step_widths ds s) → clamped_step s ≡ s
  step_is (If c) h = refl
  step_is Else h = refl
  step_is End h = refl
  step_is (NonblockingAssign x a) h =
      let all = net_fits ds x && has_bits ds (bits_of ds x) a in
      ap (λ b. NonblockingAssign x b) (bits_is (bits_of ds x) a (and_parts (net_fits ds x) (has_bits ds (bits_of ds x) a) (not-false all (h (x, not all) (inl refl)))).1)
  step_is (MemoryAssign m x a) h =
      let all = memory_fits ds m && net_fits ds x && has_bits ds (bits_of ds m) a in
      ap (λ b. MemoryAssign m x b) (bits_is (bits_of ds m) a (and_parts (memory_fits ds m && net_fits ds x) (has_bits ds (bits_of ds m) a) (not-false all (h (m, not all) (inl refl)))).1)

  item_is : (ms : List ModuleTree) (x : Item) → AreRight (item_widths ms ds x) → clamped_item x ≡ x
  unfolding item_widths
  item_is ms (Wire w x) h = ap (λ n. Wire n x) (width_is w (not-false (is_width w) (h (x, not (is_width w)) (inl refl))))
  item_is ms (Reg w x) h = ap (λ n. Reg n x) (width_is w (not-false (is_width w) (h (x, not (is_width w)) (inl refl))))
  item_is ms (Memory w x n) h =
      let p = and_parts (is_width w) (is_cell_count n) (not-false (is_width w && is_cell_count n) (h (x, not (is_width w && is_cell_count n)) (inl refl))) in
      ap (λ k. Memory k x (min n 1048577)) (width_is w p.0) ∙ ap (λ k. Memory w x k) (cells_is n p.1)
  item_is ms (Assign x v) h =
      let all = net_fits ds x && value_fits ds (bits_of ds x) v in
      let p = and_parts (net_fits ds x) (value_fits ds (bits_of ds x) v) (not-false all (h (x, not all) (inl refl))) in
      ap (λ e. Assign x e) (value_is (bits_of ds x) (width_low (bits_of ds x) p.0) v p.1)
  item_is ms (Always b) h = ap Always (map_is clamped_step b (λ s has. step_is s (λ u k. h u (has_flat (step_widths ds) b s u has k))))
  item_is ms (Instance m i connections) h = refl

port_is : (p : PortDecl) → ((u : NameUse) → Has (port_widths p) u → u.1 ≡ false) → clamped_port p ≡ p
unfolding port_widths
port_is p h = let e = width_is p.width (not-false (is_width p.width) (h (p.name, not (is_width p.width)) (inl refl))) in λ i. record { direction = p.direction; width = e i; name = p.name }

module_is : (ms : List ModuleTree) (m : ModuleTree) → ((u : NameUse) → Has (module_widths ms m) u → u.1 ≡ false) → clamped m ≡ m
unfolding module_widths
module_is ms m h =
    let ports = map_is clamped_port m.ports (λ p has. port_is p (λ u k. h u (has_left (flat_map port_widths m.ports) (flat_map (item_widths ms (declared m)) m.items) u (has_flat port_widths m.ports p u has k)))) in
    let items = map_is clamped_item m.items
    (λ x has. item_is (declared m) ms x (λ u k. h u (has_right (flat_map port_widths m.ports) (flat_map (item_widths ms (declared m)) m.items) u (has_flat (item_widths ms (declared m)) m.items x u has k)))) in
    λ i. record { name = m.name; ports = ports i; items = items i }

pub modules_are : (ms : List ModuleTree) → first_violation (v3_uses ms) ≡ None → map clamped ms ≡ ms
modules_are ms h = map_is clamped ms (λ m has. module_is ms m (λ u k. right (v3_uses ms) h u (has_flat (module_widths ms) ms m u has k)))
