-- Copies as products.
use Rattle.std.proofs.Common.{◌≡◌, ℕ, zero, suc, ◌+◌, ◌*◌, ◌%◌, ◌^◌, ◌<◌, ◌≤◌, Bool, true, ◌&&◌, List, Some, None, sym, ap, subst, ◌∙◌, arith, suc-mul, mod-eq_of_lt}
use Rattle.std.specs.Prelude.{◌==◌, nat_le}
use Rattle.std.proofs.Math.Pow.{pow_pos, pow_mono}
use Rattle.std.proofs.lemmas.Nat.{pow_below}
use Rattle.vlog_tree.specs.declared.table.Declaration.{Declaration}
use Rattle.vlog_tree.specs.declared.tree.Atom.{Atom}
use Rattle.vlog_tree.specs.declared.tree.BinaryOp.TheVariants.{Minus, Times}
use Rattle.vlog_tree.specs.Cycle.{Cycle, Sizes, atom_value, atom_width, copies, op_value}
use Rattle.vlog_tree.specs.V3.{atom_bits, atom_fits}
use Rattle.vlog_values.specs.Numbers.{fitting}
use Rattle.vlog_values.proofs.Fits.{is_fit, is_large}
use Rattle.sim_tape.specs.declared.gates.Pair.{Pair}
use Rattle.sim_tape.specs.Tape.{pair_value}
use Rattle.sim_gates.specs.Nets.{IsAtom}
use Rattle.sim_gates.proofs.AtomSlots.{atom_range}
use Rattle.sim_gates.proofs.Pairs.{fits_word}
use Rattle.sim_gates.proofs.Operands.{copy_fits, narrow_is}
use Rattle.sim_gates.proofs.Operated.{word_below}
use Rattle.tapa_base.proofs.Tests.{join_fits}

one_more : (a k p : ℕ) → (a * k) * p + a ≡ a * (k * p + 1)
one_more a k p = grind arith

-- copies are a product with the number that has 1 in each
pub copies_product : (w a n : ℕ) → copies w a n ≡ a * copies w 1 n
copies_product w a zero = let z : 0 ≡ a * 0 = omega arith in z
copies_product w a (suc n) = ap (λ k. k * 2 ^ w + a) (copies_product w a n) ∙ one_more a (copies w 1 n) (2 ^ w)

pub copies_below : (w a n : ℕ) → a < 2 ^ w → copies w a n < 2 ^ (n * w)
copies_below w a zero h = pow_pos (zero * w)
copies_below w a (suc n) h = subst (λ k. copies w a n * 2 ^ w + a < 2 ^ k) (sym (suc-mul n w)) (join_fits (copies w a n) a (n * w) w (copies_below w a n h) h)

module _ (ds : List Declaration) (w n : ℕ) (a : Atom) (fit : (atom_fits ds a && (n * atom_bits ds a == w)) ≡ true) where
  -- copies of a number that fits the atom fit the target
  copied_below : (v : ℕ) → v < 2 ^ atom_bits ds a → copies (atom_bits ds a) v n < 2 ^ w
  copied_below v low = subst (λ k. copies (atom_bits ds a) v n < 2 ^ k) (copy_fits ds w n a fit).1 (copies_below (atom_bits ds a) v n low)

  ones_below : copies (atom_bits ds a) 1 n < 2 ^ w
  ones_below =
      let some : 1 ≤ atom_bits ds a = (atom_range ds a (copy_fits ds w n a fit).0).0 in
      copied_below 1 (pow_below 0 (atom_bits ds a) (omega arith))

  -- there is such a number of 128 bits
  pub ones_fit : (j : ℕ) → w ≤ 128 → j ≡ atom_bits ds a → None ≡ fitting (copies j 1 n) → ⊥
  ones_fit j le e none =
      let low : copies (atom_bits ds a) 1 n < 2 ^ w = ones_below in
      let most : 2 ^ w ≤ 2 ^ 128 = pow_mono le in
      let large : 2 ^ 128 ≤ copies (atom_bits ds a) 1 n = subst (λ k. 2 ^ 128 ≤ copies k 1 n) e (is_large (copies j 1 n) none) in
      omega arith

  module _ (s : Sizes) (c : Cycle) (ns : List ℕ) (j o : ℕ) (p ones : Pair) (h : IsAtom ds a s c ns p) (e : j ≡ atom_bits ds a) (made : Some o ≡ fitting (copies j 1 n)) (is_ones : pair_value ns ones ≡ o) where
    ones_are : pair_value ns ones ≡ copies (atom_bits ds a) 1 n
    ones_are = is_ones ∙ is_fit (copies j 1 n) o made ∙ ap (λ k. copies k 1 n) e

    abbrev value : ℕ
    value = pair_value ns p

    product_is : op_value w Times value (pair_value ns ones) ≡ copies (atom_bits ds a) value n
    product_is =
        let low : copies (atom_bits ds a) value n < 2 ^ w = copied_below value (h.below (copy_fits ds w n a fit).0) in
        ap (λ k. (value * k) % 2 ^ w) ones_are ∙ ap (λ k. k % 2 ^ w) (sym (copies_product (atom_bits ds a) value n)) ∙ mod-eq_of_lt low

    pub copies_driven : (r : Pair) (narrow : Bool) → narrow ≡ (nat_le w 64 && nat_le j 64 && nat_le w 64)
        → ((narrow ≡ true → (value < 2 ^ 64) × (pair_value ns ones < 2 ^ 64)) → (Times ≡ Minus → pair_value ns ones < 2 ^ w) → pair_value ns r ≡ op_value w Times value (pair_value ns ones))
        → copies (atom_width s a) (atom_value c a) n ≡ pair_value ns r
    copies_driven r narrow test is =
        let ones_low : pair_value ns ones < 2 ^ w = subst (λ k. k < 2 ^ w) (sym ones_are) ones_below in
        ap (λ k. copies k (atom_value c a) n) h.width ∙ ap (λ v. copies (atom_bits ds a) v n) h.value ∙ sym product_is
        ∙ sym (is
        (λ t. let k = narrow_is w j w narrow test t in (word_below ds s c ns a p h (copy_fits ds w n a fit).0 (subst (λ m. m ≤ 64) e k.1), fits_word (pair_value ns ones) w k.0 ones_low))
        (λ minus. ones_low))
