-- What the rule on widths says of the atoms of a driver.
use Rattle.std.proofs.Common.{◌≡◌, ℕ, ◌*◌, ◌≤◌, Bool, true, ◌&&◌, List, sym, subst, ◌∙◌, eqb-true, leb-true}
use Rattle.std.specs.Prelude.{◌==◌, nat_le}
use Rattle.std.proofs.lemmas.Bool.{and_parts}
use Rattle.vlog_tree.specs.declared.table.Declaration.{Declaration}
use Rattle.vlog_tree.specs.declared.tree.Atom.{Atom}
use Rattle.vlog_tree.specs.declared.tree.BinaryOp.{BinaryOp}
use Rattle.vlog_tree.specs.declared.tree.BinaryOp.TheVariants.{Plus, Minus, Times, Divide, Remainder, And, Or, Xor, ShiftLeft, ShiftRight, Equals, Differs, Less}
use Rattle.vlog_tree.specs.V3.{atom_bits, atom_fits, has_bits, is_divisor, op_fits}

-- a test of three numbers of bits
pub narrow_is : (w j k : ℕ) (b : Bool) → b ≡ (nat_le w 64 && nat_le j 64 && nat_le k 64) → b ≡ true → (w ≤ 64) × (j ≤ 64) × (k ≤ 64)
narrow_is w j k b e h =
    let p = and_parts (nat_le w 64 && nat_le j 64) (nat_le k 64) (sym e ∙ h) in
    let q = and_parts (nat_le w 64) (nat_le j 64) p.0 in
    (leb-true w 64 q.0, leb-true j 64 q.1, leb-true k 64 p.1)

module _ (ds : List Declaration) where
  pub sized : (w : ℕ) (a : Atom) → has_bits ds w a ≡ true → (atom_fits ds a ≡ true) × (atom_bits ds a ≡ w)
  sized w a h = let p = and_parts (atom_fits ds a) (atom_bits ds a == w) h in (p.0, eqb-true (atom_bits ds a) w p.1)

  pub choice_fits : (w : ℕ) (t a b : Atom) → (has_bits ds 1 t && has_bits ds w a && has_bits ds w b) ≡ true → (has_bits ds 1 t ≡ true) × (atom_fits ds a ≡ true) × (atom_fits ds b ≡ true)
  choice_fits w t a b h =
      let p = and_parts (has_bits ds 1 t && has_bits ds w a) (has_bits ds w b) h in
      let q = and_parts (has_bits ds 1 t) (has_bits ds w a) p.0 in
      (q.0, (sized w a q.1).0, (sized w b p.1).0)

  pub copy_fits : (w n : ℕ) (a : Atom) → (atom_fits ds a && (n * atom_bits ds a == w)) ≡ true → (atom_fits ds a ≡ true) × (n * atom_bits ds a ≡ w)
  copy_fits w n a h = let p = and_parts (atom_fits ds a) (n * atom_bits ds a == w) h in (p.0, eqb-true (n * atom_bits ds a) w p.1)

  module _ (w : ℕ) (a b : Atom) where
    two_fit : (has_bits ds w a && has_bits ds w b) ≡ true → (atom_fits ds a ≡ true) × (atom_fits ds b ≡ true)
    two_fit h = let p = and_parts (has_bits ds w a) (has_bits ds w b) h in ((sized w a p.0).0, (sized w b p.1).0)

    divided_fit : (has_bits ds w a && has_bits ds w b && is_divisor b) ≡ true → (atom_fits ds a ≡ true) × (atom_fits ds b ≡ true)
    divided_fit h = two_fit (and_parts (has_bits ds w a && has_bits ds w b) (is_divisor b) h).0

    shifted_fit : (has_bits ds w a && atom_fits ds b) ≡ true → (atom_fits ds a ≡ true) × (atom_fits ds b ≡ true)
    shifted_fit h = let p = and_parts (has_bits ds w a) (atom_fits ds b) h in ((sized w a p.0).0, p.1)

    tested_fit : ((w == 1) && atom_fits ds a && has_bits ds (atom_bits ds a) b) ≡ true → (atom_fits ds a ≡ true) × (atom_fits ds b ≡ true)
    tested_fit h =
        let p = and_parts ((w == 1) && atom_fits ds a) (has_bits ds (atom_bits ds a) b) h in
        ((and_parts (w == 1) (atom_fits ds a) p.0).1, (sized (atom_bits ds a) b p.1).0)

    -- both operands fit
    pub both_fit : (op : BinaryOp) → op_fits ds w op a b ≡ true → (atom_fits ds a ≡ true) × (atom_fits ds b ≡ true)
    both_fit Plus h = two_fit h
    both_fit Minus h = two_fit h
    both_fit Times h = two_fit h
    both_fit Divide h = divided_fit h
    both_fit Remainder h = divided_fit h
    both_fit And h = two_fit h
    both_fit Or h = two_fit h
    both_fit Xor h = two_fit h
    both_fit ShiftLeft h = shifted_fit h
    both_fit ShiftRight h = shifted_fit h
    both_fit Equals h = tested_fit h
    both_fit Differs h = tested_fit h
    both_fit Less h = tested_fit h

    -- what is taken away has the target's bits
    pub less_sized : (op : BinaryOp) → op_fits ds w op a b ≡ true → op ≡ Minus → has_bits ds w b ≡ true
    less_sized op h e = (and_parts (has_bits ds w a) (has_bits ds w b) (subst (λ o. op_fits ds w o a b ≡ true) e h)).1
