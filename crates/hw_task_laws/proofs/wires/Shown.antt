-- What the drivers of operators make of atoms that show values.
use Rattle.std.proofs.Common.{◌≡◌, ℕ, zero, suc, ◌+◌, ◌-◌, ◌*◌, ◌/◌, ◌%◌, ◌^◌, ◌<◌, ◌≤◌, Bool, true, false, cond, eqb, ◌&&◌, List, [], ◌∷◌, inl, inr, refl, sym, ap, subst, ◌∙◌, arith}
use Rattle.std.specs.Prelude.{nat_le, nat_lt, not}
use Rattle.std.proofs.Math.Nat.{mod-eq_of_lt}
use Rattle.std.proofs.Math.Pow.{pow_pos, pow-add}
use Rattle.std.proofs.lemmas.Bool.{eqb-true, ltb-true, ltb-false, leb-true, leb-false}
use Rattle.std.proofs.lemmas.Nat.{div-mul-add}
use Rattle.tapa_base.specs.declared.kind.Kind.{Kind}
use Rattle.tapa_base.specs.declared.kind.Kind.TheVariants as kind
use Rattle.tapa_base.specs.Kinds.{bits_of, is_signed, values_of, converted}
use Rattle.vlog_tree.specs.declared.tree.Atom.{Atom}
use Rattle.vlog_tree.specs.declared.tree.Atom.TheVariants.{Net, Part, Literal}
use Rattle.vlog_tree.specs.declared.tree.BinaryOp.TheVariants.{Differs}
use Rattle.vlog_tree.specs.declared.tree.Value.{Value}
use Rattle.vlog_tree.specs.declared.tree.Value.TheVariants.{Plain, Binary, Concat, Repeat}
use Rattle.vlog_tree.specs.Table.{Name, one_if}
use Rattle.vlog_tree.specs.Cycle.{Cycle, Sizes, atom_value, atom_width, driven, copies}
use Rattle.hw_build.specs.Trees.{numbered}
use Rattle.hw_task_laws.specs.words.Words.{half_of}
use Rattle.hw_task_laws.proofs.words.Words.{cuts, extends}
use Rattle.hw_task_laws.specs.wires.Shows.{Shows, AreSaid}
use Rattle.hw_lines.specs.Drivers.{Driver, wires_of, wire, last_of, one, half, low_bits, sign_of, extended, resized, tested, conversion}

-- ---- numbers

pub by_one : (v : ℕ) → v / 2 ^ 0 ≡ v
by_one v = let e : v ≡ v * 1 + 0 = omega arith in ap (λ z. z / 1) e ∙ div-mul-add v 1 0 (omega arith)

pub two_halves : (w : ℕ) → 0 < w → 2 ^ w ≡ half w + half w
two_halves w h =
    let e : w ≡ (w - 1) + 1 = omega arith in
    let q : 2 ^ (w - 1) * 2 ≡ 2 ^ (w - 1) + 2 ^ (w - 1) = omega arith in
    ap (λ z. 2 ^ z) e ∙ pow-add 2 (w - 1) 1 ∙ q

-- the highest bit of a word
pub high_bit : (u v : ℕ) → v < u + u → v / u ≡ cond (nat_le u v) 1 0
high_bit u v h = here (nat_le u v) refl where
  here : (b : Bool) → nat_le u v ≡ b → v / u ≡ cond b 1 0
  here true e =
      let l : u ≤ v = leb-true u v e in
      let p : v ≡ 1 * u + (v - u) = omega arith in
      ap (λ z. z / u) p ∙ div-mul-add 1 u (v - u) (omega arith)
  here false e =
      let l : v < u = leb-false u v e in
      let p : v ≡ 0 * u + v = omega arith in
      ap (λ z. z / u) p ∙ div-mul-add 0 u v l

bit_of : (b : Bool) → cond b 1 0 % 2 ≡ cond b 1 0
bit_of true = refl
bit_of false = refl

-- copies of a bit
copied : (b : Bool) (n : ℕ) → copies 1 (cond b 1 0) n ≡ cond b (2 ^ n - 1) 0
copied true zero = refl
copied true (suc n) =
    let r : copies 1 1 n ≡ 2 ^ n - 1 = copied true n in
    let some : 0 < 2 ^ n = pow_pos n in
    let e : suc n ≡ n + 1 = omega arith in
    let p : 2 ^ suc n ≡ 2 ^ n * 2 = ap (λ z. 2 ^ z) e ∙ pow-add 2 n 1 in
    ap (λ z. z * 2 + 1) r ∙ (let q : (2 ^ n - 1) * 2 + 1 ≡ 2 ^ n * 2 - 1 = omega arith in q) ∙ ap (λ z. z - 1) (sym p)
copied false zero = refl
copied false (suc n) = ap (λ z. z * 2 + 0) (copied false n)

pub zero_front : (x y v : ℕ) → (0 * x + 0) * y + v ≡ v
zero_front x y v = omega arith

bits_front : (x u y v : ℕ) → (0 * x + u) * y + v ≡ u * y + v
bits_front x u y v = omega arith

pub some_bits : (k : Kind) → 0 < bits_of k
some_bits kind.Bool = omega arith
some_bits _ = omega arith

module _ (s : Sizes) (c : Cycle) where
  -- a wire and its driver's value
  pub said_first : (front : Name) (n w v : ℕ) (d : Value) (more : List Driver) → AreSaid s c (wires_of front n ((w, d) ∷ more)) → driven s w c d ≡ v → Shows s c (wire front n) w v
  said_first front n w v d more said e = let r = said w (numbered front n) d (inl refl) in record { whole = tt; width = r.1; value = r.0 ∙ e }

  pub said_rest : (front : Name) (n : ℕ) (d : Driver) (more : List Driver) → AreSaid s c (wires_of front n (d ∷ more)) → AreSaid s c (wires_of front (suc n) more)
  said_rest front n d more said w x v h = said w x v (inr h)

  pub same_value : (a : Atom) (w u v : ℕ) → Shows s c a w u → u ≡ v → Shows s c a w v
  same_value a w u v h e = record { whole = h.whole; width = h.width; value = h.value ∙ e }

  pub same_width : (a : Atom) (w u v : ℕ) → Shows s c a w v → w ≡ u → Shows s c a u v
  same_width a w u v h e = record { whole = h.whole; width = h.width ∙ e; value = h.value }

  pub low_bits_is : (w v k : ℕ) (a : Atom) → Shows s c a w v → 0 < k → atom_value c (low_bits k a) ≡ v % 2 ^ k
  low_bits_is w v k (Net x) h some =
      let e : k - 1 + 1 - 0 ≡ k = omega arith in
      ap (λ z. (z / 2 ^ 0) % 2 ^ (k - 1 + 1 - 0)) h.value ∙ ap (λ z. z % 2 ^ (k - 1 + 1 - 0)) (by_one v) ∙ ap (λ z. v % 2 ^ z) e
  low_bits_is w v k (Part x high low) h some = absurd h.whole
  low_bits_is w v k (Literal b n) h some = ap (λ z. z % 2 ^ k) h.value

  pub sign_is : (w v : ℕ) (a : Atom) → Shows s c a w v → 0 < w → v < 2 ^ w → atom_value c (sign_of w a) ≡ cond (nat_le (half w) v) 1 0
  sign_is w v (Net x) h some low =
      let one_bit : w - 1 + 1 - (w - 1) ≡ 1 = omega arith in
      let t : 2 ^ w ≡ half w + half w = two_halves w some in
      ap (λ z. (z / 2 ^ (w - 1)) % 2 ^ (w - 1 + 1 - (w - 1))) h.value ∙ ap (λ z. (v / 2 ^ (w - 1)) % 2 ^ z) one_bit ∙ ap (λ z. z % 2) (high_bit (half w) v (omega (arith, t, low))) ∙ bit_of (nat_le (half w) v)
  sign_is w v (Part x high base) h some low = absurd h.whole
  sign_is w v (Literal b n) h some low =
      let t : 2 ^ w ≡ half w + half w = two_halves w some in
      ap (λ z. (z / half w) % 2) h.value ∙ ap (λ z. z % 2) (high_bit (half w) v (omega (arith, t, low))) ∙ bit_of (nat_le (half w) v)

  sign_width : (w v : ℕ) (a : Atom) → Shows s c a w v → 0 < w → atom_width s (sign_of w a) ≡ 1
  sign_width w v (Net x) h some = omega arith
  sign_width w v (Part x high base) h some = absurd h.whole
  sign_width w v (Literal b n) h some = refl

  -- ---- conversions

  -- zeros in front
  pub widened : (front : Name) (n narrow wide v : ℕ) (a : Atom) → Shows s c a narrow v → AreSaid s c (wires_of front n (one wide (Concat (Literal (wide - narrow) 0 ∷ a ∷ [])))) → Shows s c (wire front n) wide v
  widened front n narrow wide v a h said = said_first front n wide v (Concat (Literal (wide - narrow) 0 ∷ a ∷ [])) [] said (zero_front (2 ^ (wide - narrow)) (2 ^ atom_width s a) (atom_value c a) ∙ h.value)

  -- copies of the sign in front
  sign_front : (narrow wide v : ℕ) → narrow ≤ wide → (b : Bool) → cond b (2 ^ (wide - narrow) - 1) 0 * 2 ^ narrow + v ≡ cond b (2 ^ wide - 2 ^ narrow + v) v
  sign_front narrow wide v h true =
      let e : wide ≡ (wide - narrow) + narrow = omega arith in
      let p : 2 ^ wide ≡ 2 ^ (wide - narrow) * 2 ^ narrow = ap (λ z. 2 ^ z) e ∙ pow-add 2 (wide - narrow) narrow in
      let some : 0 < 2 ^ (wide - narrow) = pow_pos (wide - narrow) in
      minus_one (2 ^ (wide - narrow)) (2 ^ narrow) v some ∙ ap (λ z. z - 2 ^ narrow + v) (sym p) where
        minus_one : (q m v : ℕ) → 0 < q → (q - 1) * m + v ≡ q * m - m + v
        minus_one zero m v some = absurd (omega arith)
        minus_one (suc q) m v some = let e : suc q - 1 ≡ q = omega arith in let f : suc q * m - m ≡ q * m = omega arith in ap (λ z. z * m + v) e ∙ ap (λ z. z + v) (sym f)
  sign_front narrow wide v h false = omega arith

  pub sign_extended : (front : Name) (n narrow wide v : ℕ) (a : Atom) → Shows s c a narrow v → 0 < narrow → narrow ≤ wide → v < 2 ^ narrow
      → AreSaid s c (wires_of front n ((wide - narrow, Repeat (wide - narrow) (sign_of narrow a)) ∷ one wide (Concat (wire front n ∷ a ∷ []))))
      → Shows s c (wire front (suc n)) wide (cond (nat_le (half narrow) v) (2 ^ wide - 2 ^ narrow + v) v)
  sign_extended front n narrow wide v a h some order low said =
      let b = nat_le (half narrow) v in
      let sign : driven s (wide - narrow) c (Repeat (wide - narrow) (sign_of narrow a)) ≡ cond b (2 ^ (wide - narrow) - 1) 0 =
      ap (λ z. copies z (atom_value c (sign_of narrow a)) (wide - narrow)) (sign_width narrow v a h some) ∙ ap (λ z. copies 1 z (wide - narrow)) (sign_is narrow v a h some low) ∙ copied b (wide - narrow) in
      let copies_shown = said_first front n (wide - narrow) (cond b (2 ^ (wide - narrow) - 1) 0) (Repeat (wide - narrow) (sign_of narrow a)) (one wide (Concat (wire front n ∷ a ∷ []))) said sign in
      said_first front (suc n) wide (cond b (2 ^ wide - 2 ^ narrow + v) v) (Concat (wire front n ∷ a ∷ [])) [] (said_rest front n (wide - narrow, Repeat (wide - narrow) (sign_of narrow a)) (one wide (Concat (wire front n ∷ a ∷ []))) said)
      (bits_front (2 ^ atom_width s (wire front n)) (atom_value c (wire front n)) (2 ^ atom_width s a) (atom_value c a)
      ∙ ap (λ z. z * 2 ^ atom_width s a + atom_value c a) copies_shown.value ∙ ap (λ z. cond b (2 ^ (wide - narrow) - 1) 0 * 2 ^ z + atom_value c a) h.width
      ∙ ap (λ z. cond b (2 ^ (wide - narrow) - 1) 0 * 2 ^ narrow + z) h.value ∙ sign_front narrow wide v order b)

  abbrev Resized : (source target : Kind) → Bool → Bool → Type 0
  Resized source target same fewer =
      (front : Name) (n v : ℕ) (a : Atom) → v < values_of source → Shows s c a (bits_of source) v → (drivers : List Driver)
      → drivers ≡ cond same [] (cond fewer (one (bits_of target) (Plain (low_bits (bits_of target) a))) (extended (is_signed source) front n (bits_of source) (bits_of target) a))
      → AreSaid s c (wires_of front n drivers) → Shows s c (last_of front n drivers a) (bits_of target) (converted source target v)

  resized_by : (source target : Kind) → (target ≡ kind.Bool → ⊥) → (same : Bool) → eqb (bits_of source) (bits_of target) ≡ same → (fewer : Bool) → nat_lt (bits_of target) (bits_of source) ≡ fewer → Resized source target same fewer
  resized_by source target number true e fewer f front n v a low h drivers is said =
      let same : bits_of source ≡ bits_of target = eqb-true (bits_of source) (bits_of target) e in
      let fits : v < values_of target = subst (λ z. v < 2 ^ z) same low in
      subst (λ ds. Shows s c (last_of front n ds a) (bits_of target) (converted source target v)) (sym is)
      (same_value a (bits_of target) v (converted source target v) (same_width a (bits_of source) (bits_of target) v h same) (sym (cuts source target v low number (omega (arith, same)) ∙ mod-eq_of_lt fits)))
  resized_by source target number false e true f front n v a low h drivers is said =
      let less : bits_of target < bits_of source = ltb-true (bits_of target) (bits_of source) f in
      subst (λ ds. Shows s c (last_of front n ds a) (bits_of target) (converted source target v)) (sym is)
      (said_first front n (bits_of target) (converted source target v) (Plain (low_bits (bits_of target) a)) [] (subst (λ ds. AreSaid s c (wires_of front n ds)) is said)
      (low_bits_is (bits_of source) v (bits_of target) a h (some_bits target) ∙ sym (cuts source target v low number (omega (arith, less)))))
  resized_by source target number false e false f front n v a low h drivers is said =
      let more : bits_of source ≤ bits_of target = ltb-false (bits_of target) (bits_of source) f in
      subst (λ ds. Shows s c (last_of front n ds a) (bits_of target) (converted source target v)) (sym is) (by_sign (is_signed source) refl) where
        at : (b : Bool) → is_signed source ≡ b → AreSaid s c (wires_of front n (extended b front n (bits_of source) (bits_of target) a))
        at b k = subst (λ z. AreSaid s c (wires_of front n (extended z front n (bits_of source) (bits_of target) a))) k (subst (λ ds. AreSaid s c (wires_of front n ds)) is said)

        order : bits_of source ≤ bits_of target
        order = ltb-false (bits_of target) (bits_of source) f

        by_sign : (b : Bool) → is_signed source ≡ b → Shows s c (last_of front n (extended (is_signed source) front n (bits_of source) (bits_of target) a) a) (bits_of target) (converted source target v)
        by_sign false k =
            subst (λ z. Shows s c (last_of front n (extended z front n (bits_of source) (bits_of target) a) a) (bits_of target) (converted source target v)) (sym k)
            (same_value (wire front n) (bits_of target) v (converted source target v) (widened front n (bits_of source) (bits_of target) v a h (at false k))
            (sym (extends source target v low number order ∙ ap (λ z. cond (z && nat_le (half_of source) v) (values_of target - values_of source + v) v) k)))
        by_sign true k =
            subst (λ z. Shows s c (last_of front n (extended z front n (bits_of source) (bits_of target) a) a) (bits_of target) (converted source target v)) (sym k)
            (same_value (wire front (suc n)) (bits_of target) (cond (nat_le (half (bits_of source)) v) (2 ^ bits_of target - 2 ^ bits_of source + v) v) (converted source target v)
            (sign_extended front n (bits_of source) (bits_of target) v a h (some_bits source) order low (at true k))
            (sym (extends source target v low number order ∙ ap (λ z. cond (z && nat_le (half_of source) v) (values_of target - values_of source + v) v) k)))

  resized_shown : (source target : Kind) → (target ≡ kind.Bool → ⊥) → (front : Name) (n v : ℕ) (a : Atom) → v < values_of source → Shows s c a (bits_of source) v
      → AreSaid s c (wires_of front n (resized (is_signed source) front n (bits_of source) (bits_of target) a))
      → Shows s c (last_of front n (resized (is_signed source) front n (bits_of source) (bits_of target) a) a) (bits_of target) (converted source target v)
  resized_shown source target number front n v a low h said =
      resized_by source target number (eqb (bits_of source) (bits_of target)) refl (nat_lt (bits_of target) (bits_of source)) refl front n v a low h
      (resized (is_signed source) front n (bits_of source) (bits_of target) a) refl said

  -- whether a word is not 0
  not_zero : (v : ℕ) → one_if (not (eqb v 0)) ≡ cond (eqb v 0) 0 1
  not_zero v = here (eqb v 0) where
    here : (b : Bool) → one_if (not b) ≡ cond b 0 1
    here true = refl
    here false = refl

  one_bit_is : (v : ℕ) → v < 2 → v ≡ cond (eqb v 0) 0 1
  one_bit_is zero h = refl
  one_bit_is (suc zero) h = refl
  one_bit_is (suc (suc v)) h = absurd (omega arith)

  tested_shown : (source : Kind) (front : Name) (n v : ℕ) (a : Atom) → v < values_of source → Shows s c a (bits_of source) v → AreSaid s c (wires_of front n (tested (bits_of source) a))
      → Shows s c (last_of front n (tested (bits_of source) a) a) 1 (converted source kind.Bool v)
  tested_shown source front n v a low h said = here (eqb (bits_of source) 1) refl where
    here : (b : Bool) → eqb (bits_of source) 1 ≡ b → Shows s c (last_of front n (tested (bits_of source) a) a) 1 (converted source kind.Bool v)
    here true e =
        let one_wide : bits_of source ≡ 1 = eqb-true (bits_of source) 1 e in
        subst (λ b. Shows s c (last_of front n (cond b [] (one 1 (Binary a Differs (Literal (bits_of source) 0)))) a) 1 (converted source kind.Bool v)) (sym e)
        (same_value a 1 v (converted source kind.Bool v) (same_width a (bits_of source) 1 v h one_wide) (one_bit_is v (subst (λ z. v < 2 ^ z) one_wide low)))
    here false e =
        subst (λ b. Shows s c (last_of front n (cond b [] (one 1 (Binary a Differs (Literal (bits_of source) 0)))) a) 1 (converted source kind.Bool v)) (sym e)
        (said_first front n 1 (converted source kind.Bool v) (Binary a Differs (Literal (bits_of source) 0)) []
        (subst (λ b. AreSaid s c (wires_of front n (cond b [] (one 1 (Binary a Differs (Literal (bits_of source) 0)))))) e said)
        (ap (λ z. one_if (not (eqb z 0))) h.value ∙ not_zero v))

  -- a conversion shows the converted value
  pub conversion_shown : (source target : Kind) (front : Name) (n v : ℕ) (a : Atom) → v < values_of source → Shows s c a (bits_of source) v → AreSaid s c (wires_of front n (conversion front n source target a))
      → Shows s c (last_of front n (conversion front n source target a) a) (bits_of target) (converted source target v)
  conversion_shown source kind.Bool front n v a low h said = tested_shown source front n v a low h said
  conversion_shown source g front n v a low h said = resized_shown source g (λ e. cc) front n v a low h said
