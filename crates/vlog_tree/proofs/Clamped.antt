-- The rule on widths sees no difference between modules and the same with their numbers cut.
use Rattle.std.proofs.Common.{◌≡◌, ℕ, zero, suc, ◌+◌, ◌-◌, ◌*◌, ◌^◌, ◌≤◌, min, Bool, true, false, cond, ◌&&◌, List, [], ◌∷◌, refl, sym, ap, ◌∙◌, map, arith}
use Rattle.std.specs.Prelude.{not, nat_le, nat_lt, ◌==◌, sum, fold}
use Rattle.std.specs.List.{list_all}
use Rattle.std.proofs.lemmas.Bool.Decides.{nat_tests}
use Rattle.std.proofs.Math.Nat.{pow-le-pow_right, le-mul_of_pos_right}
use Rattle.vlog_tree.specs.declared.tree.Atom.{Atom}
use Rattle.vlog_tree.specs.declared.tree.Atom.TheVariants.{Net, Part, Literal}
use Rattle.vlog_tree.specs.declared.tree.BinaryOp.{BinaryOp}
use Rattle.vlog_tree.specs.declared.tree.BinaryOp.TheVariants.{Plus, Minus, Times, Divide, Remainder, And, Or, Xor, ShiftLeft, ShiftRight, Equals, Differs, Less}
use Rattle.vlog_tree.specs.declared.tree.Value.{Value}
use Rattle.vlog_tree.specs.declared.tree.Value.TheVariants.{Plain, Invert, Binary, Choose, Concat, Repeat, Cell}
use Rattle.vlog_tree.specs.declared.tree.Step.{Step}
use Rattle.vlog_tree.specs.declared.tree.Step.TheVariants.{If, Else, End, NonblockingAssign, MemoryAssign}
use Rattle.vlog_tree.specs.declared.table.Declaration.{Declaration}
use Rattle.vlog_tree.specs.Table.{Name, NameUse, bits_of, cells_of}
use Rattle.vlog_tree.specs.V3.{is_width, is_cell_count, net_fits, memory_fits, atom_fits, atom_bits, has_bits, is_divisor, op_fits, value_fits, step_widths}
use Rattle.vlog_tree.specs.Clamped.{clamped_atom, clamped_value, clamped_step}
use Rattle.tapa_base.proofs.Tests.{and_left as left_true, and_right as right_true}

-- numbers
pub width_same : (w : ℕ) → is_width (min w 129) ≡ is_width w
width_same w = grind (arith, nat_tests)

pub cells_same : (n : ℕ) → is_cell_count (min n 1048577) ≡ is_cell_count n
cells_same n = grind (arith, nat_tests)

pub width_is : (w : ℕ) → is_width w ≡ true → min w 129 ≡ w
width_is w h = grind (arith, nat_tests)

pub cells_is : (n : ℕ) → is_cell_count n ≡ true → min n 1048577 ≡ n
cells_is n h = grind (arith, nat_tests)

pub width_low : (w : ℕ) → is_width w ≡ true → w ≤ 128
width_low w h = grind (arith, nat_tests)

pub width_some : (w : ℕ) → is_width w ≡ true → 1 ≤ w
width_some w h = grind (arith, nat_tests)

pub same_bits : (w b : ℕ) → b ≤ 128 → (min w 129 == b) ≡ (w == b)
same_bits w b h = grind (arith, nat_tests)

part_same : (b h l : ℕ) → (is_width (min b 129) && nat_le 2 (min b 129) && nat_le (min l 129) (min h 129) && nat_lt (min h 129) (min b 129)) ≡ (is_width b && nat_le 2 b && nat_le l h && nat_lt h b)
part_same b h l = grind (arith, nat_tests)

part_bits : (b h l : ℕ) → (is_width b && nat_le 2 b && nat_le l h && nat_lt h b) ≡ true → min h 129 + 1 - min l 129 ≡ h + 1 - l
part_bits b h l e = grind (arith, nat_tests)

part_low : (b h l : ℕ) → (is_width b && nat_le 2 b && nat_le l h && nat_lt h b) ≡ true → h + 1 - l ≤ 128
part_low b h l e = grind (arith, nat_tests)

pub part_some : (b h l : ℕ) → (is_width b && nat_le 2 b && nat_le l h && nat_lt h b) ≡ true → 1 ≤ h + 1 - l
part_some b h l e = grind (arith, nat_tests)

above : (n w : ℕ) → nat_lt n (2 ^ 128) ≡ false → w ≤ 128 → nat_lt n (2 ^ w) ≡ false
above n w e h = let le : 2 ^ w ≤ 2 ^ 128 = pow-le-pow_right {n = 2} (omega arith) h in grind (arith, nat_tests)

copies_same : (n k w : ℕ) → 1 ≤ k → w ≤ 128 → (min n 129 * k == w) ≡ (n * k == w)
copies_same n zero w h l = absurd (omega arith)
copies_same n (suc k) w h l = by_size (nat_le n 129) refl where
  many : (m : ℕ) → 129 ≤ m → (m * suc k == w) ≡ false
  many m g = let big : m ≤ m * suc k = le-mul_of_pos_right m (omega arith) in grind (arith, nat_tests)

  by_size : (b : Bool) → nat_le n 129 ≡ b → (min n 129 * suc k == w) ≡ (n * suc k == w)
  by_size true e = let same : min n 129 ≡ n = grind (arith, nat_tests) in ap (λ m. m * suc k == w) same
  by_size false e = let same : min n 129 ≡ 129 = grind (arith, nat_tests) in let big : 129 ≤ n = grind (arith, nat_tests) in ap (λ m. m * suc k == w) same ∙ many 129 (omega arith) ∙ sym (many n big)

-- tests
pub both_same : (a b c : Bool) → (a ≡ true → b ≡ c) → (a && b) ≡ (a && c)
both_same true b c f = f refl
both_same false b c f = refl

pub and_same : {a b c d : Bool} → a ≡ c → b ≡ d → (a && b) ≡ (c && d)
and_same {a} {b} {c} {d} e f = ap (λ x. x && b) e ∙ ap (λ x. c && x) f

-- two lists of declarations, the second with its numbers cut
pub record IsCut (ds es : List Declaration) : Type 0 where
  pub bits : (x : Name) → bits_of es x ≡ min (bits_of ds x) 129
  pub cells : (x : Name) → cells_of es x ≡ min (cells_of ds x) 1048577

module _ (ds es : List Declaration) (c : IsCut ds es) where
  net_same : (x : Name) → net_fits es x ≡ net_fits ds x
  net_same x = ap is_width (c.bits x) ∙ width_same (bits_of ds x)

  net_bits : (x : Name) → net_fits ds x ≡ true → bits_of es x ≡ bits_of ds x
  net_bits x h = c.bits x ∙ width_is (bits_of ds x) h

  memory_same : (m : Name) → memory_fits es m ≡ memory_fits ds m
  memory_same m = and_same (net_same m) (ap is_cell_count (c.cells m) ∙ cells_same (cells_of ds m))

  literal_same : (w n : ℕ) (t : Bool) → nat_lt n (2 ^ 128) ≡ t → atom_fits es (cond t (Literal (min w 129) n) (Literal 0 0)) ≡ (is_width w && nat_lt n (2 ^ w))
  literal_same w n true e = ap (λ b. b && nat_lt n (2 ^ min w 129)) (width_same w) ∙ both_same (is_width w) _ _ (λ h. ap (λ k. nat_lt n (2 ^ k)) (width_is w h))
  literal_same w n false e = sym (no_fit (is_width w) refl) where
    no_fit : (b : Bool) → is_width w ≡ b → (b && nat_lt n (2 ^ w)) ≡ false
    no_fit true h = above n w e (width_low w h)
    no_fit false h = refl

  atom_same : (a : Atom) → atom_fits es (clamped_atom a) ≡ atom_fits ds a
  atom_same (Net x) = net_same x
  atom_same (Part x h l) = ap (λ b. is_width b && nat_le 2 b && nat_le (min l 129) (min h 129) && nat_lt (min h 129) b) (c.bits x) ∙ part_same (bits_of ds x) h l
  atom_same (Literal w n) = literal_same w n (nat_lt n (2 ^ 128)) refl

  literal_bits : (w n : ℕ) (t : Bool) → nat_lt n (2 ^ 128) ≡ t → (is_width w && nat_lt n (2 ^ w)) ≡ true → atom_bits es (cond t (Literal (min w 129) n) (Literal 0 0)) ≡ w
  literal_bits w n true e h = width_is w (left_true _ _ h)
  literal_bits w n false e h = let no = above n w e (width_low w (left_true _ _ h)) in let yes = right_true (is_width w) (nat_lt n (2 ^ w)) h in cc

  atom_same_bits : (a : Atom) → atom_fits ds a ≡ true → atom_bits es (clamped_atom a) ≡ atom_bits ds a
  atom_same_bits (Net x) h = net_bits x h
  atom_same_bits (Part x k l) h = part_bits (bits_of ds x) k l h
  atom_same_bits (Literal w n) h = literal_bits w n (nat_lt n (2 ^ 128)) refl h

  atom_some : (a : Atom) → atom_fits ds a ≡ true → 1 ≤ atom_bits ds a
  atom_some (Net x) h = width_some (bits_of ds x) h
  atom_some (Part x k l) h = part_some (bits_of ds x) k l h
  atom_some (Literal w n) h = width_some w (left_true _ _ h)

  has_same : (w : ℕ) (a : Atom) → has_bits es w (clamped_atom a) ≡ has_bits ds w a
  has_same w a = ap (λ b. b && (atom_bits es (clamped_atom a) == w)) (atom_same a) ∙ both_same (atom_fits ds a) _ _ (λ h. ap (λ b. b == w) (atom_same_bits a h))

  literal_divisor : (w n : ℕ) (t : Bool) → nat_lt n (2 ^ 128) ≡ t → (is_width w && nat_lt n (2 ^ w)) ≡ true → is_divisor (cond t (Literal (min w 129) n) (Literal 0 0)) ≡ not (n == 0)
  literal_divisor w n true e h = refl
  literal_divisor w n false e h = let no = above n w e (width_low w (left_true _ _ h)) in let yes = right_true (is_width w) (nat_lt n (2 ^ w)) h in cc

  divisor_same : (a : Atom) → atom_fits ds a ≡ true → is_divisor (clamped_atom a) ≡ is_divisor a
  divisor_same (Net x) h = refl
  divisor_same (Part x k l) h = refl
  divisor_same (Literal w n) h = literal_divisor w n (nat_lt n (2 ^ 128)) refl h

  two_same : (w : ℕ) (a b : Atom) → (has_bits es w (clamped_atom a) && has_bits es w (clamped_atom b)) ≡ (has_bits ds w a && has_bits ds w b)
  two_same w a b = and_same (has_same w a) (has_same w b)

  quotient_same : (w : ℕ) (a b : Atom) → (has_bits es w (clamped_atom a) && has_bits es w (clamped_atom b) && is_divisor (clamped_atom b)) ≡ (has_bits ds w a && has_bits ds w b && is_divisor b)
  quotient_same w a b =
      ap (λ x. x && is_divisor (clamped_atom b)) (two_same w a b)
      ∙ both_same (has_bits ds w a && has_bits ds w b) _ _ (λ h. divisor_same b (left_true (atom_fits ds b) _ (right_true (has_bits ds w a) (has_bits ds w b) h)))

  compared_same : (w : ℕ) (a b : Atom) → ((w == 1) && atom_fits es (clamped_atom a) && has_bits es (atom_bits es (clamped_atom a)) (clamped_atom b)) ≡ ((w == 1) && atom_fits ds a && has_bits ds (atom_bits ds a) b)
  compared_same w a b =
      ap (λ x. (w == 1) && x && has_bits es (atom_bits es (clamped_atom a)) (clamped_atom b)) (atom_same a)
      ∙ both_same ((w == 1) && atom_fits ds a) _ _ (λ h. ap (λ k. has_bits es k (clamped_atom b)) (atom_same_bits a (right_true (w == 1) (atom_fits ds a) h)) ∙ has_same (atom_bits ds a) b)

  op_same : (w : ℕ) (op : BinaryOp) (a b : Atom) → op_fits es w op (clamped_atom a) (clamped_atom b) ≡ op_fits ds w op a b
  op_same w Plus a b = two_same w a b
  op_same w Minus a b = two_same w a b
  op_same w Times a b = two_same w a b
  op_same w Divide a b = quotient_same w a b
  op_same w Remainder a b = quotient_same w a b
  op_same w And a b = two_same w a b
  op_same w Or a b = two_same w a b
  op_same w Xor a b = two_same w a b
  op_same w ShiftLeft a b = and_same (has_same w a) (atom_same b)
  op_same w ShiftRight a b = and_same (has_same w a) (atom_same b)
  op_same w Equals a b = compared_same w a b
  op_same w Differs a b = compared_same w a b
  op_same w Less a b = compared_same w a b

  all_same : (atoms : List Atom) → list_all (atom_fits es) (map clamped_atom atoms) ≡ list_all (atom_fits ds) atoms
  all_same [] = refl
  all_same (a ∷ atoms) = and_same (atom_same a) (all_same atoms)

  sum_same : (n : ℕ) (atoms : List Atom) → list_all (atom_fits ds) atoms ≡ true → fold ◌+◌ n (map (atom_bits es) (map clamped_atom atoms)) ≡ fold ◌+◌ n (map (atom_bits ds) atoms)
  sum_same n [] h = refl
  sum_same n (a ∷ atoms) h =
      ap (λ k. fold ◌+◌ (n + k) (map (atom_bits es) (map clamped_atom atoms))) (atom_same_bits a (left_true (atom_fits ds a) _ h))
      ∙ sum_same (n + atom_bits ds a) atoms (right_true (atom_fits ds a) (list_all (atom_fits ds) atoms) h)

  value_same : (w : ℕ) (e : Value) → w ≤ 128 → value_fits es w (clamped_value e) ≡ value_fits ds w e
  value_same w (Plain a) h = has_same w a
  value_same w (Invert a) h = has_same w a
  value_same w (Binary a op b) h = op_same w op a b
  value_same w (Choose t a b) h = and_same (and_same (has_same 1 t) (has_same w a)) (has_same w b)
  value_same w (Concat atoms) h = ap (λ b. b && (sum (map (atom_bits es) (map clamped_atom atoms)) == w)) (all_same atoms) ∙ both_same (list_all (atom_fits ds) atoms) _ _ (λ g. ap (λ s. s == w) (sum_same 0 atoms g))
  value_same w (Repeat n a) h =
      ap (λ b. b && (min n 129 * atom_bits es (clamped_atom a) == w)) (atom_same a)
      ∙ both_same (atom_fits ds a) _ _ (λ g. ap (λ k. min n 129 * k == w) (atom_same_bits a g) ∙ copies_same n (atom_bits ds a) w (atom_some a g) h)
  value_same w (Cell m x) h = and_same (and_same (memory_same m) (net_same x)) (ap (λ b. b == w) (c.bits m) ∙ same_bits (bits_of ds m) w h)

  assign_same : (x : Name) (e : Value) → (net_fits es x && value_fits es (bits_of es x) (clamped_value e)) ≡ (net_fits ds x && value_fits ds (bits_of ds x) e)
  assign_same x e =
      ap (λ b. b && value_fits es (bits_of es x) (clamped_value e)) (net_same x)
      ∙ both_same (net_fits ds x) _ _ (λ h. ap (λ w. value_fits es w (clamped_value e)) (net_bits x h) ∙ value_same (bits_of ds x) e (width_low _ h))

  put_same : (x : Name) (a : Atom) → (net_fits es x && has_bits es (bits_of es x) (clamped_atom a)) ≡ (net_fits ds x && has_bits ds (bits_of ds x) a)
  put_same x a =
      ap (λ b. b && has_bits es (bits_of es x) (clamped_atom a)) (net_same x)
      ∙ both_same (net_fits ds x) _ _ (λ h. ap (λ w. has_bits es w (clamped_atom a)) (net_bits x h) ∙ has_same (bits_of ds x) a)

  store_same : (m x : Name) (a : Atom) → (memory_fits es m && net_fits es x && has_bits es (bits_of es m) (clamped_atom a)) ≡ (memory_fits ds m && net_fits ds x && has_bits ds (bits_of ds m) a)
  store_same m x a =
      ap (λ b. b && has_bits es (bits_of es m) (clamped_atom a)) (and_same (memory_same m) (net_same x))
      ∙ both_same (memory_fits ds m && net_fits ds x) _ _ (λ h. ap (λ w. has_bits es w (clamped_atom a)) (net_bits m (left_true (net_fits ds m) _ (left_true (memory_fits ds m) _ h))) ∙ has_same (bits_of ds m) a)

  pub step_same : (s : Step) → step_widths es (clamped_step s) ≡ step_widths ds s
  step_same (If x) = ap (λ b. (x, not b) ∷ []) (ap (λ b. b == 1) (c.bits x) ∙ same_bits (bits_of ds x) 1 (omega arith))
  step_same Else = refl
  step_same End = refl
  step_same (NonblockingAssign x a) = ap (λ b. (x, not b) ∷ []) (put_same x a)
  step_same (MemoryAssign m x a) = ap (λ b. (m, not b) ∷ []) (store_same m x a)

  pub assign_widths : (x : Name) (e : Value) → ◌≡◌ {A = List NameUse} ((x, not (net_fits es x && value_fits es (bits_of es x) (clamped_value e))) ∷ []) ((x, not (net_fits ds x && value_fits ds (bits_of ds x) e)) ∷ [])
  assign_widths x e = ap (λ b. (x, not b) ∷ []) (assign_same x e)
