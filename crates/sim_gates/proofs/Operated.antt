-- Drivers of one operator, from the atoms that they read.
use Rattle.std.proofs.Common.{◌≡◌, ℕ, ◌-◌, ◌^◌, ◌<◌, ◌≤◌, Bool, true, cond, ◌&&◌, List, sym, ap, subst, ◌∙◌, arith}
use Rattle.std.specs.Prelude.{◌==◌, nat_le}
use Rattle.vlog_tree.specs.declared.table.Declaration.{Declaration}
use Rattle.vlog_tree.specs.declared.tree.Atom.{Atom}
use Rattle.vlog_tree.specs.declared.tree.BinaryOp.{BinaryOp}
use Rattle.vlog_tree.specs.declared.tree.BinaryOp.TheVariants.{Minus}
use Rattle.vlog_tree.specs.Cycle.{Cycle, Sizes, atom_value, op_value}
use Rattle.vlog_tree.specs.V3.{atom_bits, atom_fits, has_bits, op_fits}
use Rattle.sim_tape.specs.declared.gates.Pair.{Pair}
use Rattle.sim_tape.specs.Tape.{number_at, pair_value}
use Rattle.sim_gates.specs.Nets.{IsAtom}
use Rattle.sim_gates.proofs.Pairs.{fits_word, low_is}
use Rattle.sim_gates.proofs.Operands.{both_fit, less_sized, narrow_is, sized}

module _ (ds : List Declaration) (s : Sizes) (c : Cycle) (ns : List ℕ) where
  -- a pair of at most 64 bits
  pub word_below : (a : Atom) (p : Pair) → IsAtom ds a s c ns p → atom_fits ds a ≡ true → atom_bits ds a ≤ 64 → pair_value ns p < 2 ^ 64
  word_below a p h fit le = fits_word (pair_value ns p) (atom_bits ds a) le (h.below fit)

  pub sized_below : (w : ℕ) (a : Atom) (p : Pair) → has_bits ds w a ≡ true → IsAtom ds a s c ns p → pair_value ns p < 2 ^ w
  sized_below w a p fit h = let r = sized ds w a fit in subst (λ n. pair_value ns p < 2 ^ n) r.1 (h.below r.0)

  pub inverse_driven : (w : ℕ) (a : Atom) (p r : Pair) → has_bits ds w a ≡ true → IsAtom ds a s c ns p → (pair_value ns p < 2 ^ w → pair_value ns r ≡ 2 ^ w - 1 - pair_value ns p) → 2 ^ w - 1 - atom_value c a ≡ pair_value ns r
  inverse_driven w a p r fit h is = ap (λ n. 2 ^ w - 1 - n) h.value ∙ sym (is (sized_below w a p fit h))

  pub binary_driven : (w j k : ℕ) (op : BinaryOp) (a b : Atom) (p q r : Pair) (narrow : Bool) → op_fits ds w op a b ≡ true → IsAtom ds a s c ns p → IsAtom ds b s c ns q
      → j ≡ atom_bits ds a → k ≡ atom_bits ds b → narrow ≡ (nat_le w 64 && nat_le j 64 && nat_le k 64)
      → ((narrow ≡ true → (pair_value ns p < 2 ^ 64) × (pair_value ns q < 2 ^ 64)) → (op ≡ Minus → pair_value ns q < 2 ^ w) → pair_value ns r ≡ op_value w op (pair_value ns p) (pair_value ns q))
      → op_value w op (atom_value c a) (atom_value c b) ≡ pair_value ns r
  binary_driven w j k op a b p q r narrow fit left right ja kb test is =
      let f = both_fit ds w a b op fit in
      ap (λ n. op_value w op n (atom_value c b)) left.value ∙ ap (λ n. op_value w op (pair_value ns p) n) right.value
      ∙ sym (is
      (λ n. let t = narrow_is w j k narrow test n in (word_below a p left f.0 (subst (λ m. m ≤ 64) ja t.1), word_below b q right f.1 (subst (λ m. m ≤ 64) kb t.2)))
      (λ e. sized_below w b q (less_sized ds w a b op fit e) right))

  pub choice_driven : (t a b : Atom) (v p q r : Pair) → has_bits ds 1 t ≡ true → IsAtom ds t s c ns v → IsAtom ds a s c ns p → IsAtom ds b s c ns q
      → pair_value ns r ≡ cond (number_at ns v.low == 1) (pair_value ns p) (pair_value ns q) → cond (atom_value c t == 1) (atom_value c a) (atom_value c b) ≡ pair_value ns r
  choice_driven t a b v p q r fit test left right is =
      let small : pair_value ns v < 2 ^ 64 = fits_word (pair_value ns v) 1 (omega arith) (sized_below 1 t v fit test) in
      let same : atom_value c t ≡ number_at ns v.low = test.value ∙ sym (low_is ns v small) in
      ap (λ n. cond (n == 1) (atom_value c a) (atom_value c b)) same ∙ ap (λ n. cond (number_at ns v.low == 1) n (atom_value c b)) left.value
      ∙ ap (λ n. cond (number_at ns v.low == 1) (pair_value ns p) n) right.value ∙ sym is
