-- What the drivers of operators make of operands that show values.
use Rattle.std.proofs.Common.{◌≡◌, ℕ, suc, ◌+◌, ◌-◌, ◌*◌, ◌/◌, ◌%◌, ◌^◌, ◌<◌, ◌≤◌, min, Bool, true, false, cond, eqb, ◌&&◌, List, [], ◌∷◌, ◌++◌, refl, sym, ap, subst, ◌∙◌, arith}
use Rattle.std.specs.Prelude.{nat_le, nat_lt, not, bit_xor, ◌==◌}
use Rattle.std.specs.Int.RustNames.{int_lt, int_le}
use Rattle.std.proofs.Math.Nat.{mod-eq_of_lt}
use Rattle.std.proofs.Math.Pow.{pow_pos, pow_mono}
use Rattle.std.proofs.lemmas.Bool.{eqb-true, ltb-true, ltb-false, leb-true, leb-false}
use Rattle.tapa_base.specs.declared.kind.Kind.{Kind}
use Rattle.tapa_base.specs.declared.op.Op.{Op}
use Rattle.tapa_base.specs.declared.op.Op.TheVariants as op
use Rattle.tapa_base.specs.Kinds.{bits_of, is_signed, values_of, number}
use Rattle.tapa_base.specs.Operators.{CanApply, applied}
use Rattle.tapa_syntax.specs.Typed.{right_kind}
use Rattle.task_fsm.specs.MachineKinds.{GivesKind}
use Rattle.vlog_tree.specs.declared.tree.Atom.{Atom}
use Rattle.vlog_tree.specs.declared.tree.Atom.TheVariants.{Net, Part, Literal}
use Rattle.vlog_tree.specs.declared.tree.BinaryOp.{BinaryOp}
use Rattle.vlog_tree.specs.declared.tree.BinaryOp.TheVariants.{Plus, Minus, Times, Divide, Remainder, And, Or, Xor, ShiftLeft, ShiftRight, Equals, Differs, Less}
use Rattle.vlog_tree.specs.declared.tree.Value.TheVariants.{Invert, Binary, Choose, Concat}
use Rattle.tapa_base.specs.Lists.{Has}
use Rattle.vlog_tree.specs.Table.{Name, one_if}
use Rattle.vlog_tree.specs.Cycle.{Cycle, Sizes, atom_value, op_value}
use Rattle.tapa_base.proofs.Lists.{has_left, has_right}
use Rattle.hw_build.specs.Elements.{Wire}
use Rattle.hw_build.specs.Trees.{numbered}
use Rattle.hw_task_laws.specs.words.Words.{half_of}
use Rattle.hw_task_laws.specs.words.Words as word
use Rattle.hw_task_laws.specs.words.Signed as signed
use Rattle.hw_task_laws.proofs.words.Words.{left, right, far_left}
use Rattle.hw_task_laws.proofs.words.Numbers.{quotient_none}
use Rattle.hw_task_laws.proofs.words.Signed.{plain_order, turned_order, opposite, divides, leaves}
use Rattle.hw_task_laws.specs.wires.Shows.{IsNumber, IsDivisor, Shows, AreSaid}
use Rattle.hw_lines.specs.Drivers.{Driver, wires_of, wire, after, last_of, one, half, sign_of, turned, turned_atom, less, not_less, as_wide, shift_count, shifted_right, absolute, is_negative, divided, operation}
use Rattle.hw_task_laws.proofs.wires.Shown.{said_first, said_rest, same_value, same_width, sign_is, widened, some_bits}

-- drivers behind drivers
pub wires_behind : (front : Name) (n : ℕ) (xs ys : List Driver) → wires_of front n (xs ++ ys) ≡ wires_of front n xs ++ wires_of front (after n xs) ys
wires_behind front n [] ys = refl
wires_behind front n (x ∷ xs) ys = ap (λ l. Wire x.0 (numbered front n) x.1 ∷ l) (wires_behind front (suc n) xs ys)

pub last_behind : (front : Name) (n : ℕ) (xs ys : List Driver) (a : Atom) → last_of front n (xs ++ ys) a ≡ last_of front (after n xs) ys (last_of front n xs a)
last_behind front n [] ys a = refl
last_behind front n (x ∷ xs) ys a = last_behind front (suc n) xs ys (wire front n)

module _ (s : Sizes) (c : Cycle) where
  said_left : (front : Name) (n : ℕ) (xs ys : List Driver) → AreSaid s c (wires_of front n (xs ++ ys)) → AreSaid s c (wires_of front n xs)
  said_left front n xs ys said w x v h =
      said w x v (subst (λ l. Has l (Wire w x v)) (sym (wires_behind front n xs ys)) (has_left (wires_of front n xs) (wires_of front (after n xs) ys) (Wire w x v) h))

  said_right : (front : Name) (n : ℕ) (xs ys : List Driver) → AreSaid s c (wires_of front n (xs ++ ys)) → AreSaid s c (wires_of front (after n xs) ys)
  said_right front n xs ys said w x v h =
      said w x v (subst (λ l. Has l (Wire w x v)) (sym (wires_behind front n xs ys)) (has_right (wires_of front n xs) (wires_of front (after n xs) ys) (Wire w x v) h))

  -- an operator of one wire
  plain_shown : (front : Name) (n w x y : ℕ) (o : BinaryOp) (a b : Atom) (v : ℕ) → Shows s c a w x → atom_value c b ≡ y → AreSaid s c (wires_of front n (one w (Binary a o b))) → op_value w o x y ≡ v → Shows s c (wire front n) w v
  plain_shown front n w x y o a b v h e said is = said_first s c front n w v (Binary a o b) [] said (ap (λ z. op_value w o z (atom_value c b)) h.value ∙ ap (op_value w o x) e ∙ is)

  -- a test of two atoms
  test_shown : (front : Name) (n w x y : ℕ) (o : BinaryOp) (a b : Atom) (v : ℕ) → Shows s c a w x → Shows s c b w y → AreSaid s c (wires_of front n (one 1 (Binary a o b))) → op_value 1 o x y ≡ v → Shows s c (wire front n) 1 v
  test_shown front n w x y o a b v h k said is = said_first s c front n 1 v (Binary a o b) [] said (ap (λ z. op_value 1 o z (atom_value c b)) h.value ∙ ap (op_value 1 o x) k.value ∙ is)

  -- ---- shifts

  count_is : (w n : ℕ) (b : Atom) (y : ℕ) → atom_value c b ≡ y → (f : ℕ → ℕ) → ((m : ℕ) → w ≤ m → f m ≡ f w) → f (atom_value c (shift_count w b)) ≡ f y
  count_is w n (Literal v m) y e f far = here (nat_le w m) refl ∙ ap f e where
    here : (d : Bool) → nat_le w m ≡ d → f (min m w) ≡ f m
    here true g = let l : w ≤ m = leb-true w m g in let q : min m w ≡ w = omega (arith, l) in ap f q ∙ sym (far m l)
    here false g = let l : m < w = leb-false w m g in let q : min m w ≡ m = omega (arith, l) in ap f q
  count_is w n _ y e f far = ap f e

  left_shown : (k : Kind) (front : Name) (n x y : ℕ) (a b : Atom) → Shows s c a (bits_of k) x → atom_value c b ≡ y → AreSaid s c (wires_of front n (one (bits_of k) (Binary a ShiftLeft (shift_count (bits_of k) b))))
      → Shows s c (wire front n) (bits_of k) (applied op.Shl k x y)
  left_shown k front n x y a b h e said =
      plain_shown front n (bits_of k) x (atom_value c (shift_count (bits_of k) b)) ShiftLeft a (shift_count (bits_of k) b) (applied op.Shl k x y) h refl said
      (count_is (bits_of k) n b y e (λ m. (x * 2 ^ m) % 2 ^ bits_of k) (λ m l. far_left x m (bits_of k) l ∙ sym (far_left x (bits_of k) (bits_of k) (omega arith))) ∙ sym (left k x y))

  far_right : (k : Kind) (x m : ℕ) → x < values_of k → bits_of k ≤ m → x / 2 ^ m ≡ x / 2 ^ bits_of k
  far_right k x m low l =
      let wide : values_of k ≤ 2 ^ m = pow_mono l in
      quotient_none x (2 ^ m) (omega (arith, wide, low)) ∙ sym (quotient_none x (2 ^ bits_of k) low)

  is_high : (k : Kind) (x : ℕ) (b : Bool) → is_signed k ≡ b → word.is_negative k x ≡ (b && nat_le (half (bits_of k)) x)
  is_high k x b e = ap (λ z. z && nat_le (half_of k) x) e

  chosen_bit : (b : Bool) (u v : ℕ) → cond (eqb (cond b 1 0) 1) u v ≡ cond b u v
  chosen_bit true u v = refl
  chosen_bit false u v = refl

  right_shown : (k : Kind) (front : Name) (n x y : ℕ) (a b e : Atom) → x < values_of k → Shows s c a (bits_of k) x → atom_value c b ≡ y → (d : Bool) → is_signed k ≡ d
      → AreSaid s c (wires_of front n (shifted_right d front n (bits_of k) a b)) → Shows s c (last_of front n (shifted_right d front n (bits_of k) a b) e) (bits_of k) (applied op.Shr k x y)
  right_shown k front n x y a b z low h e false g said =
      plain_shown front n (bits_of k) x (atom_value c (shift_count (bits_of k) b)) ShiftRight a (shift_count (bits_of k) b) (applied op.Shr k x y) h refl said
      (count_is (bits_of k) n b y e (λ m. x / 2 ^ m) (λ m l. far_right k x m low l)
      ∙ sym (right k x y low ∙ ap (λ z. cond z (values_of k - 1 - (values_of k - 1 - x) / 2 ^ y) (x / 2 ^ y)) (is_high k x false g)))
  right_shown k front n x y a b z low h e true g said =
      let w = bits_of k in
      let neg = nat_le (half w) x in
      let sign = sign_is s c w x a h (some_bits k) low in
      let m = atom_value c (shift_count w b) in
      let d1 = Choose (sign_of w a) (wire front n) a in
      let d2 = Binary (wire front (suc n)) ShiftRight (shift_count w b) in
      let d3 = Invert (wire front (suc (suc n))) in
      let l4 : List Driver = one w (Choose (sign_of w a) (wire front (suc (suc (suc n)))) (wire front (suc (suc n)))) in
      let l3 : List Driver = (w, d3) ∷ l4 in
      let l2 : List Driver = (w, d2) ∷ l3 in
      let l1 : List Driver = (w, d1) ∷ l2 in
      let r0 = said_first s c front n w (2 ^ w - 1 - x) (Invert a) l1 said (ap (λ z. 2 ^ w - 1 - z) h.value) in
      let s1 = said_rest s c front n (w, Invert a) l1 said in
      let r1 = said_first s c front (suc n) w (cond neg (2 ^ w - 1 - x) x) d1 l2 s1
      (ap (λ z. cond (eqb z 1) (atom_value c (wire front n)) (atom_value c a)) sign ∙ chosen_bit neg (atom_value c (wire front n)) (atom_value c a) ∙ ap (λ z. cond neg z (atom_value c a)) r0.value ∙ ap (cond neg (2 ^ w - 1 - x)) h.value) in
      let s2 = said_rest s c front (suc n) (w, d1) l2 s1 in
      let r2 = said_first s c front (suc (suc n)) w (cond neg (2 ^ w - 1 - x) x / 2 ^ m) d2 l3 s2 (ap (λ z. z / 2 ^ m) r1.value) in
      let s3 = said_rest s c front (suc (suc n)) (w, d2) l3 s2 in
      let r3 = said_first s c front (suc (suc (suc n))) w (2 ^ w - 1 - cond neg (2 ^ w - 1 - x) x / 2 ^ m) d3 l4 s3 (ap (λ z. 2 ^ w - 1 - z) r2.value) in
      let s4 = said_rest s c front (suc (suc (suc n))) (w, d3) l4 s3 in
      said_first s c front (suc (suc (suc (suc n)))) w (applied op.Shr k x y) (Choose (sign_of w a) (wire front (suc (suc (suc n)))) (wire front (suc (suc n)))) [] s4
      (ap (λ z. cond (eqb z 1) (atom_value c (wire front (suc (suc (suc n))))) (atom_value c (wire front (suc (suc n))))) sign ∙ chosen_bit neg (atom_value c (wire front (suc (suc (suc n))))) (atom_value c (wire front (suc (suc n))))
      ∙ ap (λ z. cond neg z (atom_value c (wire front (suc (suc n))))) r3.value ∙ ap (cond neg (2 ^ w - 1 - cond neg (2 ^ w - 1 - x) x / 2 ^ m)) r2.value
      ∙ by_side neg w x m ∙ count_is w n b y e (λ z. cond neg (2 ^ w - 1 - (2 ^ w - 1 - x) / 2 ^ z) (x / 2 ^ z)) (far neg)
      ∙ sym (right k x y low ∙ ap (λ z. cond z (values_of k - 1 - (values_of k - 1 - x) / 2 ^ y) (x / 2 ^ y)) (is_high k x true g))) where
        by_side : (b : Bool) (w x m : ℕ) → cond b (2 ^ w - 1 - cond b (2 ^ w - 1 - x) x / 2 ^ m) (cond b (2 ^ w - 1 - x) x / 2 ^ m) ≡ cond b (2 ^ w - 1 - (2 ^ w - 1 - x) / 2 ^ m) (x / 2 ^ m)
        by_side true w x m = refl
        by_side false w x m = refl

        turned_low : 2 ^ bits_of k - 1 - x < 2 ^ bits_of k
        turned_low = omega (arith, low)

        far : (d : Bool) (m : ℕ) → bits_of k ≤ m
            → cond d (2 ^ bits_of k - 1 - (2 ^ bits_of k - 1 - x) / 2 ^ m) (x / 2 ^ m) ≡ cond d (2 ^ bits_of k - 1 - (2 ^ bits_of k - 1 - x) / 2 ^ bits_of k) (x / 2 ^ bits_of k)
        far true m l = ap (λ z. 2 ^ bits_of k - 1 - z) (far_right k (2 ^ bits_of k - 1 - x) m turned_low l)
        far false m l = far_right k x m low l

  -- ---- comparisons

  turned_shown : (front : Name) (n w x : ℕ) (a : Atom) → Shows s c a w x → AreSaid s c (wires_of front n (turned w a)) → Shows s c (turned_atom front n w a) w (bit_xor x (half w))
  turned_shown front n w x (Net z) h said = said_first s c front n w (bit_xor x (half w)) (Binary (Net z) Xor (Literal w (half w))) [] said (ap (λ v. bit_xor v (half w)) h.value)
  turned_shown front n w x (Part z high low) h said = absurd h.whole
  turned_shown front n w x (Literal v m) h said = record { whole = tt; width = h.width; value = ap (λ u. bit_xor u (half w)) h.value }

  -- less than, by the numbers that the words stand for
  less_shown : (k : Kind) (front : Name) (n x y : ℕ) (a b e : Atom) → x < values_of k → y < values_of k → Shows s c a (bits_of k) x → Shows s c b (bits_of k) y → (d : Bool) → is_signed k ≡ d
      → AreSaid s c (wires_of front n (less d front n (bits_of k) a b)) → Shows s c (last_of front n (less d front n (bits_of k) a b) e) 1 (one_if (int_lt (number k x) (number k y)))
  less_shown k front n x y a b e low high h i false g said =
      test_shown front n (bits_of k) x y Less a b (one_if (int_lt (number k x) (number k y))) h i said (ap one_if (sym (plain_order k x y g)))
  less_shown k front n x y a b e low high h i true g said =
      let w = bits_of k in
      let flips = turned w a ++ turned w b in
      let last = one 1 (Binary (turned_atom front n w a) Less (turned_atom front (after n (turned w a)) w b)) in
      let front_said = said_left front n flips last said in
      let ra = turned_shown front n w x a h (said_left front n (turned w a) (turned w b) front_said) in
      let rb = turned_shown front (after n (turned w a)) w y b i (said_right front n (turned w a) (turned w b) front_said) in
      subst (λ z. Shows s c z 1 (one_if (int_lt (number k x) (number k y)))) (sym (last_behind front n flips last e))
      (test_shown (front) (after n flips) w (bit_xor x (half w)) (bit_xor y (half w)) Less (turned_atom front n w a) (turned_atom front (after n (turned w a)) w b) (one_if (int_lt (number k x) (number k y)))
      ra rb (said_right front n flips last said) (ap one_if (sym (turned_order k x y g low high))))

  inverted_bit : (b : Bool) → 2 ^ 1 - 1 - one_if b ≡ one_if (not b)
  inverted_bit true = refl
  inverted_bit false = refl

  -- not less, by the numbers that the words stand for
  not_less_shown : (k : Kind) (front : Name) (n x y : ℕ) (a b e : Atom) → x < values_of k → y < values_of k → Shows s c a (bits_of k) x → Shows s c b (bits_of k) y → (d : Bool) → is_signed k ≡ d
      → AreSaid s c (wires_of front n (not_less d front n (bits_of k) a b)) → Shows s c (last_of front n (not_less d front n (bits_of k) a b) e) 1 (one_if (int_le (number k y) (number k x)))
  not_less_shown k front n x y a b e low high h i d g said =
      let drivers = less d front n (bits_of k) a b in
      let inner = last_of front n drivers (Literal 1 0) in
      let tail = one 1 (Invert inner) in
      let r = less_shown k front n x y a b (Literal 1 0) low high h i d g (said_left front n drivers tail said) in
      subst (λ z. Shows s c z 1 (one_if (int_le (number k y) (number k x)))) (sym (last_behind front n drivers tail e))
      (said_first s c front (after n drivers) 1 (one_if (int_le (number k y) (number k x))) (Invert inner) [] (said_right front n drivers tail said)
      (ap (λ z. 2 ^ 1 - 1 - z) r.value ∙ inverted_bit (int_lt (number k x) (number k y)) ∙ ap one_if (sym (opposite (number k y) (number k x)))))

  -- a bit as a word
  wide_shown : (k : Kind) (front : Name) (n : ℕ) (drivers : List Driver) (b : Bool) (e : Atom)
      → (AreSaid s c (wires_of front n drivers) → (d : Atom) → Shows s c (last_of front n drivers d) 1 (one_if b))
      → AreSaid s c (wires_of front n (as_wide front n (bits_of k) drivers)) → Shows s c (last_of front n (as_wide front n (bits_of k) drivers) e) (bits_of k) (one_if b)
  wide_shown k front n drivers b e r said = here (eqb (bits_of k) 1) refl where
    tail : Bool → List Driver
    tail t = cond t [] (one (bits_of k) (Concat (Literal (bits_of k - 1) 0 ∷ last_of front n drivers (Literal 1 0) ∷ [])))

    inner : (d : Atom) → Shows s c (last_of front n drivers d) 1 (one_if b)
    inner d = r (said_left front n drivers (tail (eqb (bits_of k) 1)) said) d

    here : (t : Bool) → eqb (bits_of k) 1 ≡ t → Shows s c (last_of front n (drivers ++ tail (eqb (bits_of k) 1)) e) (bits_of k) (one_if b)
    here true f =
        subst (λ t. Shows s c (last_of front n (drivers ++ tail t) e) (bits_of k) (one_if b)) (sym f)
        (subst (λ z. Shows s c z (bits_of k) (one_if b)) (sym (last_behind front n drivers [] e))
        (same_width s c (last_of front n drivers e) 1 (bits_of k) (one_if b) (inner e) (sym (eqb-true (bits_of k) 1 f))))
    here false f =
        subst (λ t. Shows s c (last_of front n (drivers ++ tail t) e) (bits_of k) (one_if b)) (sym f)
        (subst (λ z. Shows s c z (bits_of k) (one_if b)) (sym (last_behind front n drivers (tail false) e))
        (widened s c front (after n drivers) 1 (bits_of k) (one_if b) (last_of front n drivers (Literal 1 0)) (inner (Literal 1 0))
        (said_right front n drivers (tail false) (subst (λ t. AreSaid s c (wires_of front n (drivers ++ tail t))) f said))))

  -- ---- division

  swapped : (h m u v : ℕ) → cond (nat_lt m h) u v ≡ cond (nat_le h m) v u
  swapped h m u v = here (nat_lt m h) refl (nat_le h m) refl where
    here : (p : Bool) → nat_lt m h ≡ p → (q : Bool) → nat_le h m ≡ q → cond p u v ≡ cond q v u
    here true e true f = let l : m < h = ltb-true m h e in let g : h ≤ m = leb-true h m f in absurd (omega (arith, l, g))
    here true e false f = refl
    here false e true f = refl
    here false e false f = let l : h ≤ m = ltb-false m h e in let g : m < h = leb-false h m f in absurd (omega (arith, l, g))

  absolute_is : (k : Kind) (b : Atom) (y : ℕ) → IsNumber b → is_signed k ≡ true → atom_value c b ≡ y
      → (atom_value c (absolute (bits_of k) b) ≡ signed.absolute k y) × (is_negative (bits_of k) b ≡ word.is_negative k y)
  absolute_is k (Literal v m) y lit g e =
      let n = is_high k m true g in
      (swapped (half (bits_of k)) m m (2 ^ bits_of k - m) ∙ ap (λ z. cond z (values_of k - m) m) (sym n) ∙ ap (signed.absolute k) e, sym n ∙ ap (word.is_negative k) e)
  absolute_is k _ y lit g e = absurd lit

  no_front : (v x : ℕ) → 0 + v - x ≡ v - x
  no_front v x = omega arith

  -- the absolute value of a word below half or above
  abs_word : (w x : ℕ) → 0 < w → x < 2 ^ w → cond (nat_le (half w) x) ((2 ^ w - x) % 2 ^ w) x ≡ cond (nat_le (half w) x) (2 ^ w - x) x
  abs_word w x some low = here (nat_le (half w) x) refl where
    here : (b : Bool) → nat_le (half w) x ≡ b → cond b ((2 ^ w - x) % 2 ^ w) x ≡ cond b (2 ^ w - x) x
    here true e =
        let l : half w ≤ x = leb-true (half w) x e in
        let p : 0 < half w = pow_pos (w - 1) in
        let less : 2 ^ w - x < 2 ^ w = omega (arith, l, p, low) in
        mod-eq_of_lt less
    here false e = refl

  divided_shown : (k : Kind) (front : Name) (n x q : ℕ) (a b e : Atom) (o : BinaryOp) (back : Bool) → x < values_of k → Shows s c a (bits_of k) x → atom_value c (absolute (bits_of k) b) ≡ q
      → AreSaid s c (wires_of front n (divided true o back front n (bits_of k) a b))
      → Shows s c (last_of front n (divided true o back front n (bits_of k) a b) e) (bits_of k)
      (signed.opposite_if (signed.differ (nat_le (half_of k) x) back) k (op_value (bits_of k) o (cond (nat_le (half_of k) x) (values_of k - x) x) q))
  divided_shown k front n x q a b e o back low h i said =
      let w = bits_of k in
      let neg = nat_le (half w) x in
      let sign = sign_is s c w x a h (some_bits k) low in
      let p = cond neg (2 ^ w - x) x in
      let u = op_value w o p q in
      let d0 = Binary (Literal w 0) Minus a in
      let d1 = Choose (sign_of w a) (wire front n) a in
      let d2 = Binary (wire front (suc n)) o (absolute w b) in
      let d3 = Binary (Literal w 0) Minus (wire front (suc (suc n))) in
      let l4 : List Driver = one w (Choose (sign_of w a) (cond back (wire front (suc (suc n))) (wire front (suc (suc (suc n))))) (cond back (wire front (suc (suc (suc n)))) (wire front (suc (suc n))))) in
      let l3 : List Driver = (w, d3) ∷ l4 in
      let l2 : List Driver = (w, d2) ∷ l3 in
      let l1 : List Driver = (w, d1) ∷ l2 in
      let r0 = said_first s c front n w ((2 ^ w - x) % 2 ^ w) d0 l1 said (ap (λ z. (0 + 2 ^ w - z) % 2 ^ w) h.value ∙ ap (λ z. z % 2 ^ w) (no_front (2 ^ w) x)) in
      let s1 = said_rest s c front n (w, d0) l1 said in
      let r1 = said_first s c front (suc n) w p d1 l2 s1
      (ap (λ z. cond (eqb z 1) (atom_value c (wire front n)) (atom_value c a)) sign ∙ chosen_bit neg (atom_value c (wire front n)) (atom_value c a) ∙ ap (λ z. cond neg z (atom_value c a)) r0.value ∙ ap (cond neg ((2 ^ w - x) % 2 ^ w)) h.value ∙ abs_word w x (some_bits k) low) in
      let s2 = said_rest s c front (suc n) (w, d1) l2 s1 in
      let r2 = said_first s c front (suc (suc n)) w u d2 l3 s2 (ap (λ z. op_value w o z (atom_value c (absolute w b))) r1.value ∙ ap (op_value w o p) i) in
      let s3 = said_rest s c front (suc (suc n)) (w, d2) l3 s2 in
      let r3 = said_first s c front (suc (suc (suc n))) w ((2 ^ w - u) % 2 ^ w) d3 l4 s3 (ap (λ z. (0 + 2 ^ w - z) % 2 ^ w) r2.value ∙ ap (λ z. z % 2 ^ w) (no_front (2 ^ w) u)) in
      let s4 = said_rest s c front (suc (suc (suc n))) (w, d3) l4 s3 in
      said_first s c front (suc (suc (suc (suc n)))) w (signed.opposite_if (signed.differ neg back) k u)
      (Choose (sign_of w a) (cond back (wire front (suc (suc n))) (wire front (suc (suc (suc n))))) (cond back (wire front (suc (suc (suc n)))) (wire front (suc (suc n))))) [] s4
      (ap (λ z. cond (eqb z 1) (atom_value c (cond back (wire front (suc (suc n))) (wire front (suc (suc (suc n)))))) (atom_value c (cond back (wire front (suc (suc (suc n)))) (wire front (suc (suc n)))))) sign
      ∙ chosen_bit neg (atom_value c (cond back (wire front (suc (suc n))) (wire front (suc (suc (suc n)))))) (atom_value c (cond back (wire front (suc (suc (suc n)))) (wire front (suc (suc n)))))
      ∙ picked (wire front (suc (suc n))) (wire front (suc (suc (suc n)))) u neg back r2.value r3.value) where
        picked : (g t : Atom) (u : ℕ) (neg back : Bool) → atom_value c g ≡ u → atom_value c t ≡ (2 ^ bits_of k - u) % 2 ^ bits_of k
            → cond neg (atom_value c (cond back g t)) (atom_value c (cond back t g)) ≡ signed.opposite_if (signed.differ neg back) k u
        picked g t u true true e f = e
        picked g t u true false e f = f
        picked g t u false true e f = f
        picked g t u false false e f = e

  divide_shown : (k : Kind) (front : Name) (n x y : ℕ) (a b e : Atom) → x < values_of k → y < values_of k → 0 < y → IsNumber b → Shows s c a (bits_of k) x → atom_value c b ≡ y → (d : Bool) → is_signed k ≡ d
      → AreSaid s c (wires_of front n (divided d Divide (is_negative (bits_of k) b) front n (bits_of k) a b))
      → Shows s c (last_of front n (divided d Divide (is_negative (bits_of k) b) front n (bits_of k) a b) e) (bits_of k) (applied op.Div k x y)
  divide_shown k front n x y a b e low high some lit h i false g said =
      plain_shown front n (bits_of k) x y Divide a b (applied op.Div k x y) h i said
      (sym (divides k x y low high some ∙ ap (λ z. signed.opposite_if (signed.differ z (word.is_negative k y)) k (cond z (values_of k - x) x / signed.absolute k y)) (is_high k x false g)
      ∙ ap (λ z. signed.opposite_if z k (x / cond z (values_of k - y) y)) (is_high k y false g)))
  divide_shown k front n x y a b e low high some lit h i true g said =
      let r = absolute_is k b y lit g i in
      same_value s c (last_of front n (divided true Divide (is_negative (bits_of k) b) front n (bits_of k) a b) e) (bits_of k)
      (signed.opposite_if (signed.differ (nat_le (half_of k) x) (is_negative (bits_of k) b)) k (cond (nat_le (half_of k) x) (values_of k - x) x / signed.absolute k y)) (applied op.Div k x y)
      (divided_shown k front n x (signed.absolute k y) a b e Divide (is_negative (bits_of k) b) low h r.0 said)
      (ap (λ z. signed.opposite_if (signed.differ (nat_le (half_of k) x) z) k (cond (nat_le (half_of k) x) (values_of k - x) x / signed.absolute k y)) r.1
      ∙ sym (divides k x y low high some ∙ ap (λ z. signed.opposite_if (signed.differ z (word.is_negative k y)) k (cond z (values_of k - x) x / signed.absolute k y)) (is_high k x true g)))

  leave_shown : (k : Kind) (front : Name) (n x y : ℕ) (a b e : Atom) → x < values_of k → y < values_of k → 0 < y → IsNumber b → Shows s c a (bits_of k) x → atom_value c b ≡ y → (d : Bool) → is_signed k ≡ d
      → AreSaid s c (wires_of front n (divided d Remainder false front n (bits_of k) a b)) → Shows s c (last_of front n (divided d Remainder false front n (bits_of k) a b) e) (bits_of k) (applied op.Rem k x y)
  leave_shown k front n x y a b e low high some lit h i false g said =
      plain_shown front n (bits_of k) x y Remainder a b (applied op.Rem k x y) h i said
      (sym (leaves k x y low high some ∙ ap (λ z. signed.opposite_if z k (cond z (values_of k - x) x % signed.absolute k y)) (is_high k x false g)
      ∙ ap (λ z. x % cond z (values_of k - y) y) (is_high k y false g)))
  leave_shown k front n x y a b e low high some lit h i true g said =
      let r = absolute_is k b y lit g i in
      same_value s c (last_of front n (divided true Remainder false front n (bits_of k) a b) e) (bits_of k)
      (signed.opposite_if (signed.differ (nat_le (half_of k) x) false) k (cond (nat_le (half_of k) x) (values_of k - x) x % signed.absolute k y)) (applied op.Rem k x y)
      (divided_shown k front n x (signed.absolute k y) a b e Remainder false low h r.0 said)
      (ap (λ z. signed.opposite_if z k (cond (nat_le (half_of k) x) (values_of k - x) x % signed.absolute k y)) (plain_sign (nat_le (half_of k) x))
      ∙ sym (leaves k x y low high some ∙ ap (λ z. signed.opposite_if z k (cond z (values_of k - x) x % signed.absolute k y)) (is_high k x true g))) where
        plain_sign : (t : Bool) → signed.differ t false ≡ t
        plain_sign true = refl
        plain_sign false = refl

  -- ---- all of them

  minus_is : (v x y : ℕ) → y < v → (x + v - y) % v ≡ (x + (v - y)) % v
  minus_is v x y h = let e : x + v - y ≡ x + (v - y) = omega (arith, h) in ap (λ z. z % v) e

  -- an operator shows what it gives
  pub operation_shown : (o : Op) (j k : Kind) (front : Name) (n x y : ℕ) (a b e : Atom) → x < values_of j → CanApply o j y → IsDivisor o b → GivesKind o j k → Shows s c a (bits_of j) x → Shows s c b (bits_of (right_kind o j)) y
      → AreSaid s c (wires_of front n (operation front n o j k a b)) → Shows s c (last_of front n (operation front n o j k a b) e) (bits_of k) (applied o j x y)
  operation_shown op.Add j k front n x y a b e low can lit same h i said =
      subst (λ z. Shows s c (wire front n) (bits_of z) (applied op.Add j x y)) same (plain_shown front n (bits_of j) x y Plus a b (applied op.Add j x y) h i.value said refl)
  operation_shown op.Sub j k front n x y a b e low can lit same h i said =
      subst (λ z. Shows s c (wire front n) (bits_of z) (applied op.Sub j x y)) same (plain_shown front n (bits_of j) x y Minus a b (applied op.Sub j x y) h i.value said (minus_is (values_of j) x y can))
  operation_shown op.Mul j k front n x y a b e low can lit same h i said =
      subst (λ z. Shows s c (wire front n) (bits_of z) (applied op.Mul j x y)) same (plain_shown front n (bits_of j) x y Times a b (applied op.Mul j x y) h i.value said refl)
  operation_shown op.Div j k front n x y a b e low can lit same h i said =
      subst (λ z. Shows s c (last_of front n (operation front n op.Div j k a b) e) (bits_of z) (applied op.Div j x y)) same (divide_shown j front n x y a b e low can.1 can.0 lit h i.value (is_signed j) refl said)
  operation_shown op.Rem j k front n x y a b e low can lit same h i said =
      subst (λ z. Shows s c (last_of front n (operation front n op.Rem j k a b) e) (bits_of z) (applied op.Rem j x y)) same (leave_shown j front n x y a b e low can.1 can.0 lit h i.value (is_signed j) refl said)
  operation_shown op.And j k front n x y a b e low can lit same h i said =
      subst (λ z. Shows s c (wire front n) (bits_of z) (applied op.And j x y)) same (plain_shown front n (bits_of j) x y And a b (applied op.And j x y) h i.value said refl)
  operation_shown op.Or j k front n x y a b e low can lit same h i said =
      subst (λ z. Shows s c (wire front n) (bits_of z) (applied op.Or j x y)) same (plain_shown front n (bits_of j) x y Or a b (applied op.Or j x y) h i.value said refl)
  operation_shown op.Xor j k front n x y a b e low can lit same h i said =
      subst (λ z. Shows s c (wire front n) (bits_of z) (applied op.Xor j x y)) same (plain_shown front n (bits_of j) x y Xor a b (applied op.Xor j x y) h i.value said refl)
  operation_shown op.Shl j k front n x y a b e low can lit same h i said =
      subst (λ z. Shows s c (wire front n) (bits_of z) (applied op.Shl j x y)) same (left_shown j front n x y a b h i.value said)
  operation_shown op.Shr j k front n x y a b e low can lit same h i said =
      subst (λ z. Shows s c (last_of front n (operation front n op.Shr j k a b) e) (bits_of z) (applied op.Shr j x y)) same
      (right_shown j front n x y a b e low h i.value (is_signed j) refl said)
  operation_shown op.Eq j k front n x y a b e low can lit same h i said =
      wide_shown k front n (one 1 (Binary a Equals b)) (x == y) e (λ t d. test_shown front n (bits_of j) x y Equals a b (one_if (x == y)) h i t refl) said
  operation_shown op.Ne j k front n x y a b e low can lit same h i said =
      wide_shown k front n (one 1 (Binary a Differs b)) (not (x == y)) e (λ t d. test_shown front n (bits_of j) x y Differs a b (one_if (not (x == y))) h i t refl) said
  operation_shown op.Lt j k front n x y a b e low can lit same h i said =
      wide_shown k front n (less (is_signed j) front n (bits_of j) a b) (int_lt (number j x) (number j y)) e (λ t d. less_shown j front n x y a b d low can h i (is_signed j) refl t) said
  operation_shown op.Le j k front n x y a b e low can lit same h i said =
      wide_shown k front n (not_less (is_signed j) front n (bits_of j) b a) (int_le (number j x) (number j y)) e (λ t d. not_less_shown j front n y x b a d can low i h (is_signed j) refl t) said
  operation_shown op.Gt j k front n x y a b e low can lit same h i said =
      wide_shown k front n (less (is_signed j) front n (bits_of j) b a) (int_lt (number j y) (number j x)) e (λ t d. less_shown j front n y x b a d can low i h (is_signed j) refl t) said
  operation_shown op.Ge j k front n x y a b e low can lit same h i said =
      wide_shown k front n (not_less (is_signed j) front n (bits_of j) a b) (int_le (number j y) (number j x)) e (λ t d. not_less_shown j front n x y a b d low can h i (is_signed j) refl t) said
