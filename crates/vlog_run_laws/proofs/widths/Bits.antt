-- A driver's value fits its target, where it reads numbers that fit.
use Rattle.std.proofs.Common.{◌≡◌, ℕ, zero, suc, ◌+◌, ◌-◌, ◌*◌, ◌/◌, ◌%◌, ◌^◌, ◌<◌, ◌≤◌, Bool, true, false, cond, ◌&&◌, List, [], ◌∷◌, ◌++◌, inl, refl, sym, ap, subst, ◌∙◌, map, sum, arith, mod-lt, div-le_self, mul-le-mul_right, suc-mul}
use Rattle.std.specs.Prelude.{◌==◌, nat_lt, bit_and, not}
use Rattle.std.specs.List.{list_all, flat_map}
use Rattle.std.proofs.Math.Nat.{mod-le}
use Rattle.std.proofs.Math.Pow.{pow_pos}
use Rattle.std.proofs.lemmas.Nat.{pow-add, and_le_l, or_lt, xor_lt}
use Rattle.std.proofs.lemmas.Bool.Decides.{nat_tests}
use Rattle.std.proofs.lemmas.List.Sums.{sum_by-cons}
use Rattle.vlog_tree.specs.declared.tree.Atom.{Atom}
use Rattle.vlog_tree.specs.declared.tree.Atom.TheVariants.{Net, Part, Literal}
use Rattle.vlog_tree.specs.declared.tree.BinaryOp.{BinaryOp}
use Rattle.vlog_tree.specs.declared.tree.BinaryOp.TheVariants.{Plus, Minus, Times, Divide, Remainder, And, Or, Xor, ShiftLeft, ShiftRight, Equals, Differs, Less}
use Rattle.vlog_tree.specs.declared.tree.Value.{Value}
use Rattle.vlog_tree.specs.declared.tree.Value.TheVariants.{Plain, Invert, Binary, Choose, Concat, Repeat, Cell}
use Rattle.vlog_tree.specs.declared.table.Declaration.{Declaration}
use Rattle.tapa_base.specs.Lists.{Has}
use Rattle.vlog_tree.specs.Table.{one_if, Name, bits_of}
use Rattle.vlog_tree.specs.Cycle.{Cycle, Sizes, atom_value, atom_width, op_value, joined, copies, read_cell, driven}
use Rattle.vlog_tree.specs.V3.{memory_fits, net_fits, is_width, atom_bits, atom_fits, has_bits, is_divisor, op_fits, value_fits}
use Rattle.vlog_tree.specs.Loops.{atom_nets, value_nets}
use Rattle.tapa_base.proofs.Lists.{has_left, has_right}
use Rattle.vlog_run_laws.specs.widths.Widths.{TakesOperands, Operates}
use Rattle.tapa_base.proofs.Tests.{cond_low as chosen_below, both_true, join_fits as row_below}
use Rattle.vlog_run_laws.proofs.runs.Solved.{below_of}
use Rattle.vlog_run_laws.proofs.runs.Filled.{cut_below}

pub same_of : (a b : ℕ) → (a == b) ≡ true → a ≡ b
same_of a b h = grind (arith, nat_tests)

more_than_none : (n : ℕ) → (n == 0) ≡ false → 0 < n
more_than_none n h = grind (arith, nat_tests)

one_below : (b : Bool) (w : ℕ) → w ≡ 1 → one_if b < 2 ^ w
one_below true w e = subst (λ n. 1 < 2 ^ n) (sym e) (omega arith)
one_below false w e = pow_pos w

copies_below : (w v n : ℕ) → v < 2 ^ w → copies w v n < 2 ^ (n * w)
copies_below w v zero h = pow_pos (zero * w)
copies_below w v (suc n) h = subst (λ k. copies w v n * 2 ^ w + v < 2 ^ k) (sym (suc-mul n w)) (row_below (copies w v n) v (n * w) w (copies_below w v n h) h)

module _ (ds : List Declaration) (cells : Name → ℕ) (c : Cycle) where
  abbrev sizes : Sizes
  sizes = record { width = bits_of ds; cells = cells }

  -- a net's number fits
  abbrev pub IsBelow : Name → Type 0
  IsBelow z = c.net z < 2 ^ bits_of ds z

  atom_below : (a : Atom) → atom_fits ds a ≡ true → ((z : Name) → Has (atom_nets a) z → IsBelow z) → atom_value c a < 2 ^ atom_bits ds a
  atom_below (Net x) h f = f x (inl refl)
  atom_below (Part x high low) h f = cut_below (c.net x / 2 ^ low) (high + 1 - low)
  atom_below (Literal w n) h f = below_of n (2 ^ w) (both_true (is_width w) (nat_lt n (2 ^ w)) h).1

  pub sized_below : (w : ℕ) (a : Atom) → has_bits ds w a ≡ true → ((z : Name) → Has (atom_nets a) z → IsBelow z) → atom_value c a < 2 ^ w
  sized_below w a h f = let p = both_true (atom_fits ds a) (atom_bits ds a == w) h in subst (λ n. atom_value c a < 2 ^ n) (same_of (atom_bits ds a) w p.1) (atom_below a p.0 f)

  width_is : (a : Atom) → atom_width sizes a ≡ atom_bits ds a
  width_is (Net x) = refl
  width_is (Part x high low) = refl
  width_is (Literal w n) = refl

  joined_below : (atoms : List Atom) (n k : ℕ) → n < 2 ^ k → list_all (atom_fits ds) atoms ≡ true → ((z : Name) → Has (flat_map atom_nets atoms) z → IsBelow z) → joined sizes c n atoms < 2 ^ (k + sum (map (atom_bits ds) atoms))
  joined_below [] n k h fit f = let e : k + 0 ≡ k = omega arith in subst (λ j. n < 2 ^ j) (sym e) h
  joined_below (a ∷ atoms) n k h fit f =
      let p = both_true (atom_fits ds a) (list_all (atom_fits ds) atoms) fit in
      let v : atom_value c a < 2 ^ atom_bits ds a = atom_below a p.0 (λ z g. f z (has_left (atom_nets a) (flat_map atom_nets atoms) z g)) in
      let first : n * 2 ^ atom_width sizes a + atom_value c a < 2 ^ (k + atom_bits ds a) = subst (λ w. n * 2 ^ w + atom_value c a < 2 ^ (k + atom_bits ds a)) (sym (width_is a)) (row_below n (atom_value c a) k (atom_bits ds a) h v) in
      let more : sum (map (atom_bits ds) (a ∷ atoms)) ≡ atom_bits ds a + sum (map (atom_bits ds) atoms) = sum_by-cons (λ n. n) (atom_bits ds a) (map (atom_bits ds) atoms) in
      let e : k + atom_bits ds a + sum (map (atom_bits ds) atoms) ≡ k + sum (map (atom_bits ds) (a ∷ atoms)) = omega arith in
      subst (λ j. joined sizes c n (a ∷ atoms) < 2 ^ j) e
      (joined_below atoms (n * 2 ^ atom_width sizes a + atom_value c a) (k + atom_bits ds a) first p.1 (λ z g. f z (has_right (atom_nets a) (flat_map atom_nets atoms) z g)))

  module _ (w : ℕ) (a b : Atom) (fa : (z : Name) → Has (atom_nets a) z → IsBelow z) (fb : (z : Name) → Has (atom_nets b) z → IsBelow z) where
    abbrev va : ℕ
    va = atom_value c a

    abbrev vb : ℕ
    vb = atom_value c b

    two_below : (has_bits ds w a && has_bits ds w b) ≡ true → (va < 2 ^ w) × (vb < 2 ^ w)
    two_below h = let p = both_true (has_bits ds w a) (has_bits ds w b) h in (sized_below w a p.0 fa, sized_below w b p.1 fb)

    test_width : ((w == 1) && atom_fits ds a && has_bits ds (atom_bits ds a) b) ≡ true → w ≡ 1
    test_width h = same_of w 1 (both_true (w == 1) (atom_fits ds a) (both_true ((w == 1) && atom_fits ds a) (has_bits ds (atom_bits ds a) b) h).0).0

    op_below : (op : BinaryOp) → op_fits ds w op a b ≡ true → op_value w op va vb < 2 ^ w
    op_below Plus h = cut_below (va + vb) w
    op_below Minus h = cut_below (va + 2 ^ w - vb) w
    op_below Times h = cut_below (va * vb) w
    op_below Divide h = let p = two_below (both_true (has_bits ds w a && has_bits ds w b) (is_divisor b) h).0 in let l : va / vb ≤ va = div-le_self va vb in omega arith
    op_below Remainder h = let p = two_below (both_true (has_bits ds w a && has_bits ds w b) (is_divisor b) h).0 in let l : va % vb ≤ va = mod-le va vb in omega arith
    op_below And h = let p = two_below h in let l : bit_and va vb ≤ va = and_le_l va vb in omega arith
    op_below Or h = let p = two_below h in or_lt w va vb p.0 p.1
    op_below Xor h = let p = two_below h in xor_lt w va vb p.0 p.1
    op_below ShiftLeft h = cut_below (va * 2 ^ vb) w
    op_below ShiftRight h = let p = sized_below w a (both_true (has_bits ds w a) (atom_fits ds b) h).0 fa in let l : va / 2 ^ vb ≤ va = div-le_self va (2 ^ vb) in omega arith
    op_below Equals h = one_below (va == vb) w (test_width h)
    op_below Differs h = one_below (not (va == vb)) w (test_width h)
    op_below Less h = one_below (nat_lt va vb) w (test_width h)

    divisor_is : (d : Atom) → is_divisor d ≡ true → 0 < atom_value c d
    divisor_is (Literal k n) h = more_than_none n (is_false (n == 0) h) where
      is_false : (t : Bool) → not t ≡ true → t ≡ false
      is_false true e = cc
      is_false false e = refl
    divisor_is (Net x) h = cc
    divisor_is (Part x high low) h = cc

    op_takes : (op : BinaryOp) → op_fits ds w op a b ≡ true → TakesOperands w op va vb
    op_takes Minus h = two_below h
    op_takes Divide h = divisor_is b (both_true (has_bits ds w a && has_bits ds w b) (is_divisor b) h).1
    op_takes Remainder h = divisor_is b (both_true (has_bits ds w a && has_bits ds w b) (is_divisor b) h).1
    op_takes Plus h = tt
    op_takes Times h = tt
    op_takes And h = tt
    op_takes Or h = tt
    op_takes Xor h = tt
    op_takes ShiftLeft h = tt
    op_takes ShiftRight h = tt
    op_takes Equals h = tt
    op_takes Differs h = tt
    op_takes Less h = tt

  -- the cells that a driver reads fit the memory's width
  abbrev pub CellsBelow : Value → Type 0
  CellsBelow (Cell m x) = (a : ℕ) → a < cells m → c.cell m a < 2 ^ bits_of ds m
  CellsBelow (Plain a) = Unit {0}
  CellsBelow (Invert a) = Unit {0}
  CellsBelow (Binary a op b) = Unit {0}
  CellsBelow (Choose t a b) = Unit {0}
  CellsBelow (Concat atoms) = Unit {0}
  CellsBelow (Repeat n a) = Unit {0}

  cell_below : (b : Bool) (k a n w : ℕ) → nat_lt a n ≡ b → (a < n → k < 2 ^ w) → cond b k 0 < 2 ^ w
  cell_below true k a n w e f = f (below_of a n e)
  cell_below false k a n w e f = pow_pos w

  pub value_below : (w : ℕ) (e : Value) → value_fits ds w e ≡ true → ((z : Name) → Has (value_nets e) z → IsBelow z) → CellsBelow e → driven sizes w c e < 2 ^ w
  value_below w (Plain a) h f g = sized_below w a h f
  value_below w (Invert a) h f g = let p : 0 < 2 ^ w = pow_pos w in omega arith
  value_below w (Binary a op b) h f g = op_below w a b (λ z k. f z (has_left (atom_nets a) (atom_nets b) z k)) (λ z k. f z (has_right (atom_nets a) (atom_nets b) z k)) op h
  value_below w (Choose t a b) h f g =
      let p = both_true (has_bits ds 1 t && has_bits ds w a) (has_bits ds w b) h in
      let q = both_true (has_bits ds 1 t) (has_bits ds w a) p.0 in
      chosen_below (atom_value c t == 1) (atom_value c a) (atom_value c b) (2 ^ w)
      (sized_below w a q.1 (λ z k. f z (has_right (atom_nets t) (atom_nets a ++ atom_nets b) z (has_left (atom_nets a) (atom_nets b) z k))))
      (sized_below w b p.1 (λ z k. f z (has_right (atom_nets t) (atom_nets a ++ atom_nets b) z (has_right (atom_nets a) (atom_nets b) z k))))
  value_below w (Concat atoms) h f g =
      let p = both_true (list_all (atom_fits ds) atoms) (sum (map (atom_bits ds) atoms) == w) h in
      let e : 0 + sum (map (atom_bits ds) atoms) ≡ w = omega (arith, same_of (sum (map (atom_bits ds) atoms)) w p.1) in
      subst (λ n. joined sizes c 0 atoms < 2 ^ n) e (joined_below atoms 0 0 (pow_pos 0) p.0 f)
  value_below w (Repeat n a) h f g =
      let p = both_true (atom_fits ds a) (n * atom_bits ds a == w) h in
      let v : atom_value c a < 2 ^ atom_width sizes a = subst (λ k. atom_value c a < 2 ^ k) (sym (width_is a)) (atom_below a p.0 f) in
      subst (λ k. copies (atom_width sizes a) (atom_value c a) n < 2 ^ k) (ap (λ k. n * k) (width_is a) ∙ same_of (n * atom_bits ds a) w p.1) (copies_below (atom_width sizes a) (atom_value c a) n v)
  value_below w (Cell m x) h f g =
      subst (λ k. read_cell sizes c m (c.net x) < 2 ^ k) (same_of (bits_of ds m) w (both_true (memory_fits ds m && net_fits ds x) (bits_of ds m == w) h).1) (cell_below (nat_lt (c.net x) (cells m)) (c.cell m (c.net x)) (c.net x) (cells m) (bits_of ds m) refl (λ low. g (c.net x) low))

  pub value_operates : (w : ℕ) (e : Value) → value_fits ds w e ≡ true → ((z : Name) → Has (value_nets e) z → IsBelow z) → Operates w c e
  value_operates w (Binary a op b) h f = op_takes w a b (λ z k. f z (has_left (atom_nets a) (atom_nets b) z k)) (λ z k. f z (has_right (atom_nets a) (atom_nets b) z k)) op h
  value_operates w (Plain a) h f = tt
  value_operates w (Invert a) h f = tt
  value_operates w (Choose t a b) h f = tt
  value_operates w (Concat atoms) h f = tt
  value_operates w (Repeat n a) h f = tt
  value_operates w (Cell m x) h f = tt
