-- The wires of operators and conversions fit behind their operands.
use Rattle.std.proofs.Common.{◌≡◌, ℕ, suc, ◌-◌, ◌/◌, ◌^◌, ◌<◌, ◌≤◌, Bool, true, false, cond, eqb, List, [], ◌∷◌, ◌++◌, inl, refl, sym, ap, subst, ◌∙◌, arith, append_assoc, ltb-true, ltb-false, eqb-true, eq-eqb, ne_eqb, ⊎_elim}
use Rattle.std.specs.Prelude.{nat_lt, not, bit_xor, IsTrue}
use Rattle.std.proofs.Math.Pow.{pow_pos}
use Rattle.std.proofs.lemmas.Nat.{mod_below, xor_lt}
use Rattle.std.proofs.lemmas.List.{append-nil}
use Rattle.std.proofs.lemmas.Bool.{cases_eq}
use Rattle.tapa_base.specs.declared.kind.Kind.{Kind}
use Rattle.tapa_base.specs.declared.kind.Kind.TheVariants as kind
use Rattle.tapa_base.specs.declared.op.Op.{Op}
use Rattle.tapa_base.specs.declared.op.Op.TheVariants as op
use Rattle.tapa_base.specs.Kinds.{bits_of, is_signed}
use Rattle.tapa_syntax.specs.Typed.{right_kind}
use Rattle.task_fsm.specs.MachineKinds.{GivesKind}
use Rattle.vlog_tree.specs.declared.tree.Atom.{Atom}
use Rattle.vlog_tree.specs.declared.tree.Atom.TheVariants.{Net, Part, Literal}
use Rattle.vlog_tree.specs.declared.tree.BinaryOp.{BinaryOp}
use Rattle.vlog_tree.specs.declared.tree.BinaryOp.TheVariants.{Plus, Minus, Times, Divide, Remainder, And, Or, Xor, ShiftLeft, ShiftRight, Equals, Differs, Less}
use Rattle.vlog_tree.specs.declared.tree.Value.{Value}
use Rattle.vlog_tree.specs.declared.tree.Value.TheVariants.{Plain, Invert, Binary, Choose, Concat, Repeat}
use Rattle.vlog_tree.specs.Table.{Name}
use Rattle.vlog_tree.specs.V3.{is_width, is_divisor}
use Rattle.hw_build.specs.Elements.{Element, Wire}
use Rattle.hw_build.specs.Trees.{numbered}
use Rattle.hw_build.specs.Scope.{IsNet, AtomIs, SomeAtom, OpIs, ValueIs, FitInOrder}
use Rattle.hw_build.proofs.Parts.{parts_fit}
use Rattle.hw_lines.specs.Drivers.{Driver, wires_of, wire, after, last_of, one, half, low_bits, sign_of, extended, resized, tested, conversion, turned, turned_atom, less, not_less, as_wide, shift_count, shifted_right, absolute, is_negative, divided, operation}
use Rattle.hw_task_laws.specs.wires.Shows.{IsWhole}
use Rattle.hw_task_laws.proofs.wires.Shown.{two_halves, some_bits}
use Rattle.hw_task_laws.proofs.wires.Operated.{wires_behind, last_behind}
use Rattle.hw_task_laws.proofs.fit.Scopes.{left_among, right_among, wire_net, atom_in, wide, kind_wide, signed_bits}
use Rattle.tapa_base.proofs.Tests.{few_bits}

-- wires with these drivers fit, and an atom behind them has w bits
pub record IsDriven (all : List Element) (front : Name) (n : ℕ) (drivers : List Driver) (w : ℕ) (a : Atom) : Type 0 where
  pub fits : FitInOrder all (wires_of front n drivers)
  pub atom : AtomIs (all ++ wires_of front n drivers) w a
  pub whole : IsWhole a

abbrev pub with_wire : List Element → Name → ℕ → ℕ → Value → List Element
with_wire all front n w v = all ++ Wire w (numbered front n) v ∷ []

pub wire_there : (all : List Element) (front : Name) (n w : ℕ) (v : Value) → IsNet (with_wire all front n w v) (numbered front n) w
wire_there all front n w v = wire_net (with_wire all front n w v) w (numbered front n) v (right_among all (Wire w (numbered front n) v ∷ []) (Wire w (numbered front n) v) (inl refl))

pub one_driven : (all : List Element) (front : Name) (n w : ℕ) (v : Value) → IsTrue (is_width w) → ValueIs all w v → IsDriven all front n (one w v) w (wire front n)
one_driven all front n w v k h = record { fits = ((k, h), tt); atom = wire_there all front n w v; whole = tt }

pub more_driven : (all : List Element) (front : Name) (n w : ℕ) (v : Value) (drivers : List Driver) (u : ℕ) (a : Atom) → IsTrue (is_width w) → ValueIs all w v → IsDriven (with_wire all front n w v) front (suc n) drivers u a
    → IsDriven all front n ((w, v) ∷ drivers) u a
more_driven all front n w v drivers u a k h d = record {
  fits = ((k, h), d.fits);
  atom = subst (λ (l : List Element). AtomIs l u a) (append_assoc all (Wire w (numbered front n) v ∷ []) (wires_of front (suc n) drivers)) d.atom;
  whole = d.whole;
}

none_driven : (all : List Element) (front : Name) (n w : ℕ) (a : Atom) → IsWhole a → AtomIs all w a → IsDriven all front n [] w a
none_driven all front n w a whole h = record { fits = tt; atom = atom_in all (all ++ []) (left_among all []) w a h; whole = whole }

-- drivers behind drivers
then_driven : (all : List Element) (front : Name) (n : ℕ) (xs ys : List Driver) (w : ℕ) (a : Atom) → FitInOrder all (wires_of front n xs) → IsDriven (all ++ wires_of front n xs) front (after n xs) ys w a → IsDriven all front n (xs ++ ys) w a
then_driven all front n xs ys w a h d =
    let e = wires_behind front n xs ys in
    record {
      fits = subst (λ (l : List Element). FitInOrder all l) (sym e) (parts_fit all (wires_of front n xs) (wires_of front (after n xs) ys) h d.fits);
      atom = subst (λ (l : List Element). AtomIs (all ++ l) w a) (sym e) (subst (λ (l : List Element). AtomIs l w a) (append_assoc all (wires_of front n xs) (wires_of front (after n xs) ys)) d.atom);
      whole = d.whole;
    }

driven_width : (all : List Element) (front : Name) (n : ℕ) (drivers : List Driver) (w u : ℕ) (a : Atom) → w ≡ u → IsDriven all front n drivers w a → IsDriven all front n drivers u a
driven_width all front n drivers w u a e d = subst (λ z. IsDriven all front n drivers z a) e d

-- an atom behind one wire more
lifted : (all : List Element) (front : Name) (n u : ℕ) (v : Value) (w : ℕ) (a : Atom) → AtomIs all w a → AtomIs (with_wire all front n u v) w a
lifted all front n u v w a h = atom_in all (with_wire all front n u v) (left_among all (Wire u (numbered front n) v ∷ [])) w a h

-- ---- parts of atoms

half_low : (w : ℕ) → 1 ≤ w → half w < 2 ^ w
half_low w h = let t = two_halves w h in let p : 0 < half w = pow_pos (w - 1) in omega (arith, t, p)

pub sign_fits : (all : List Element) (w : ℕ) (a : Atom) → 2 ≤ w → IsWhole a → AtomIs all w a → AtomIs all 1 (sign_of w a)
sign_fits all w (Net x) two whole h = (w, h, two, omega arith, omega (arith, two), omega (arith, two))
sign_fits all w (Part x high low) two whole h = absurd whole
sign_fits all w (Literal v n) two whole h = (refl, mod_below (n / half w) 2 (omega arith))

pub low_fits : (all : List Element) (w k : ℕ) (a : Atom) → 0 < k → k < w → IsWhole a → AtomIs all w a → AtomIs all k (low_bits k a)
low_fits all w k (Net x) some less whole h = (w, h, omega (arith, some, less), omega arith, omega (arith, some, less), omega (arith, some))
low_fits all w k (Part x high low) some less whole h = absurd whole
low_fits all w k (Literal v n) some less whole h = (refl, mod_below n (2 ^ k) (pow_pos k))

-- ---- conversions

unequal : (x y : ℕ) → eqb x y ≡ false → x ≡ y → ⊥
unequal x y e s = let t : true ≡ false = sym (eq-eqb x y s) ∙ e in absurd cc

greater : (x y : ℕ) → eqb x y ≡ false → x ≤ y → x < y
greater x y e l = ⊎_elim (λ s. absurd (unequal x y e s)) (λ s. omega (arith, l, s)) (cases_eq x y)

-- zeros in front
zeros_fit : (all : List Element) (narrow w : ℕ) (a : Atom) → IsTrue (is_width narrow) → narrow < w → w ≤ 128 → AtomIs all narrow a → ValueIs all w (Concat (Literal (w - narrow) 0 ∷ a ∷ []))
zeros_fit all narrow w a k less few h =
    (omega arith, (w - narrow, narrow, wide (w - narrow) (omega (arith, less)) (omega (arith, few)), (refl, pow_pos (w - narrow)), (narrow, 0, k, h, refl, omega arith), omega (arith, less)))

signed_driven : (all : List Element) (front : Name) (n narrow w : ℕ) (a : Atom) → 2 ≤ narrow → IsTrue (is_width narrow) → narrow < w → w ≤ 128 → IsWhole a → AtomIs all narrow a
    → IsDriven all front n ((w - narrow, Repeat (w - narrow) (sign_of narrow a)) ∷ one w (Concat (wire front n ∷ a ∷ []))) w (wire front (suc n))
signed_driven all front n narrow w a two k less few whole h =
    let more : IsTrue (is_width (w - narrow)) = wide (w - narrow) (omega (arith, less)) (omega (arith, few)) in
    let v = Repeat (w - narrow) (sign_of narrow a) in
    more_driven all front n (w - narrow) v (one w (Concat (wire front n ∷ a ∷ []))) w (wire front (suc n)) more (1, refl, sign_fits all narrow a two whole h, omega arith)
    (one_driven (with_wire all front n (w - narrow) v) front (suc n) w (Concat (wire front n ∷ a ∷ [])) (wide w (omega (arith, less)) few)
    (omega arith, (w - narrow, narrow, more, wire_there all front n (w - narrow) v, (narrow, 0, k, lifted all front n (w - narrow) v narrow a h, refl, omega arith), omega (arith, less))))

abbrev resized_by : Name → ℕ → Kind → Kind → Atom → Bool → Bool → Bool → List Driver
resized_by front n source target a same fewer s = cond same [] (cond fewer (one (bits_of target) (Plain (low_bits (bits_of target) a))) (extended s front n (bits_of source) (bits_of target) a))

abbrev IsResized : List Element → Name → ℕ → Kind → Kind → Atom → Bool → Bool → Bool → Type 0
IsResized all front n source target a same fewer s = IsDriven all front n (resized_by front n source target a same fewer s) (bits_of target) (last_of front n (resized_by front n source target a same fewer s) a)

resized_driven : (all : List Element) (front : Name) (n : ℕ) (source target : Kind) (a : Atom) → IsWhole a → AtomIs all (bits_of source) a
    → IsDriven all front n (resized (is_signed source) front n (bits_of source) (bits_of target) a) (bits_of target) (last_of front n (resized (is_signed source) front n (bits_of source) (bits_of target) a) a)
resized_driven all front n source target a whole h = by_size (eqb (bits_of source) (bits_of target)) refl (nat_lt (bits_of target) (bits_of source)) refl (is_signed source) refl where
  larger : eqb (bits_of source) (bits_of target) ≡ false → nat_lt (bits_of target) (bits_of source) ≡ false → bits_of source < bits_of target
  larger e f = greater (bits_of source) (bits_of target) e (ltb-false (bits_of target) (bits_of source) f)

  by_size : (same : Bool) → eqb (bits_of source) (bits_of target) ≡ same → (fewer : Bool) → nat_lt (bits_of target) (bits_of source) ≡ fewer → (s : Bool) → is_signed source ≡ s → IsResized all front n source target a same fewer s
  by_size true e fewer f s g = driven_width all front n [] (bits_of source) (bits_of target) a (eqb-true (bits_of source) (bits_of target) e) (none_driven all front n (bits_of source) a whole h)
  by_size false e true f s g =
      one_driven all front n (bits_of target) (Plain (low_bits (bits_of target) a)) (kind_wide target)
      (low_fits all (bits_of source) (bits_of target) a (some_bits target) (ltb-true (bits_of target) (bits_of source) f) whole h)
  by_size false e false f false g =
      one_driven all front n (bits_of target) (Concat (Literal (bits_of target - bits_of source) 0 ∷ a ∷ [])) (kind_wide target)
      (zeros_fit all (bits_of source) (bits_of target) a (kind_wide source) (larger e f) (let t = few_bits target in omega (arith, t)) h)
  by_size false e false f true g =
      signed_driven all front n (bits_of source) (bits_of target) a (signed_bits source g) (kind_wide source) (larger e f) (let t = few_bits target in omega (arith, t)) whole h

tested_driven : (all : List Element) (front : Name) (n w : ℕ) (a : Atom) → IsTrue (is_width w) → IsWhole a → AtomIs all w a → IsDriven all front n (tested w a) 1 (last_of front n (tested w a) a)
tested_driven all front n w a k whole h = here (eqb w 1) refl where
  here : (b : Bool) → eqb w 1 ≡ b → IsDriven all front n (cond b [] (one 1 (Binary a Differs (Literal w 0)))) 1 (last_of front n (cond b [] (one 1 (Binary a Differs (Literal w 0)))) a)
  here true e = driven_width all front n [] w 1 a (eqb-true w 1 e) (none_driven all front n w a whole h)
  here false e = one_driven all front n 1 (Binary a Differs (Literal w 0)) refl (refl, (w, k, h, (refl, pow_pos w)))

pub conversion_driven : (all : List Element) (front : Name) (n : ℕ) (source target : Kind) (a : Atom) → IsWhole a → AtomIs all (bits_of source) a
    → IsDriven all front n (conversion front n source target a) (bits_of target) (last_of front n (conversion front n source target a) a)
conversion_driven all front n source kind.Bool a whole h = tested_driven all front n (bits_of source) a (kind_wide source) whole h
conversion_driven all front n source g a whole h = resized_driven all front n source g a whole h

-- ---- comparisons

record Turned (all : List Element) (front : Name) (n w : ℕ) (a : Atom) : Type 0 where
  fits : FitInOrder all (wires_of front n (turned w a))
  atom : AtomIs (all ++ wires_of front n (turned w a)) w (turned_atom front n w a)

turned_fits : (all : List Element) (front : Name) (n w : ℕ) (a : Atom) → IsTrue (is_width w) → 1 ≤ w → IsWhole a → AtomIs all w a → Turned all front n w a
turned_fits all front n w (Net x) k some whole h = record { fits = ((k, (h, (refl, half_low w some))), tt); atom = wire_there all front n w (Binary (Net x) Xor (Literal w (half w))) }
turned_fits all front n w (Part x high low) k some whole h = absurd whole
turned_fits all front n w (Literal v m) k some whole h =
    let low : m < 2 ^ w = subst (λ z. m < 2 ^ z) h.0 h.1 in
    let r : bit_xor m (half w) < 2 ^ w = xor_lt w m (half w) low (half_low w some) in
    record { fits = tt; atom = (h.0, subst (λ z. bit_xor m (half w) < 2 ^ z) (sym h.0) r) }

less_driven : (all : List Element) (front : Name) (n : ℕ) (j : Kind) (s : Bool) (a b e : Atom) → IsWhole a → IsWhole b → AtomIs all (bits_of j) a → AtomIs all (bits_of j) b
    → IsDriven all front n (less s front n (bits_of j) a b) 1 (last_of front n (less s front n (bits_of j) a b) e)
less_driven all front n j false a b e wa wb h k = one_driven all front n 1 (Binary a Less b) refl (refl, (bits_of j, kind_wide j, h, k))
less_driven all front n j true a b e wa wb h k =
    let w = bits_of j in
    let ta = turned_fits all front n w a (kind_wide j) (some_bits j) wa h in
    let wires_a = wires_of front n (turned w a) in
    let m = after n (turned w a) in
    let tb = turned_fits (all ++ wires_a) front m w b (kind_wide j) (some_bits j) wb (atom_in all (all ++ wires_a) (left_among all wires_a) w b k) in
    let wires_b = wires_of front m (turned w b) in
    let flips = turned w a ++ turned w b in
    let x = turned_atom front n w a in
    let y = turned_atom front m w b in
    let last = one 1 (Binary x Less y) in
    let same : wires_of front n flips ≡ wires_a ++ wires_b = wires_behind front n (turned w a) (turned w b) in
    let here : FitInOrder all (wires_of front n flips) = subst (λ (l : List Element). FitInOrder all l) (sym same) (parts_fit all wires_a wires_b ta.fits tb.fits) in
    let x_in : AtomIs ((all ++ wires_a) ++ wires_b) w x = atom_in (all ++ wires_a) ((all ++ wires_a) ++ wires_b) (left_among (all ++ wires_a) wires_b) w x ta.atom in
    let move = λ (z : Atom) (i : AtomIs ((all ++ wires_a) ++ wires_b) w z). subst (λ (l : List Element). AtomIs (all ++ l) w z) (sym same) (subst (λ (l : List Element). AtomIs l w z) (append_assoc all wires_a wires_b) i) in
    subst (λ z. IsDriven all front n (flips ++ last) 1 z) (sym (last_behind front n flips last e))
    (then_driven all front n flips last 1 (wire front (after n flips)) here
    (one_driven (all ++ wires_of front n flips) front (after n flips) 1 (Binary x Less y) refl (refl, (w, kind_wide j, move x x_in, move y tb.atom))))

not_less_driven : (all : List Element) (front : Name) (n : ℕ) (j : Kind) (s : Bool) (a b e : Atom) → IsWhole a → IsWhole b → AtomIs all (bits_of j) a → AtomIs all (bits_of j) b
    → IsDriven all front n (not_less s front n (bits_of j) a b) 1 (last_of front n (not_less s front n (bits_of j) a b) e)
not_less_driven all front n j s a b e wa wb h k =
    let drivers = less s front n (bits_of j) a b in
    let inner = last_of front n drivers (Literal 1 0) in
    let d = less_driven all front n j s a b (Literal 1 0) wa wb h k in
    subst (λ z. IsDriven all front n (drivers ++ one 1 (Invert inner)) 1 z) (sym (last_behind front n drivers (one 1 (Invert inner)) e))
    (then_driven all front n drivers (one 1 (Invert inner)) 1 (wire front (after n drivers)) d.fits
    (one_driven (all ++ wires_of front n drivers) front (after n drivers) 1 (Invert inner) refl d.atom))

-- a bit as a word
abbrev wide_tail : Name → ℕ → Kind → List Driver → Bool → List Driver
wide_tail front n k drivers t = cond t [] (one (bits_of k) (Concat (Literal (bits_of k - 1) 0 ∷ last_of front n drivers (Literal 1 0) ∷ [])))

wide_driven : (all : List Element) (front : Name) (n : ℕ) (k : Kind) (drivers : List Driver) (e : Atom) → ((z : Atom) → IsDriven all front n drivers 1 (last_of front n drivers z))
    → IsDriven all front n (as_wide front n (bits_of k) drivers) (bits_of k) (last_of front n (as_wide front n (bits_of k) drivers) e)
wide_driven all front n k drivers e d = here (eqb (bits_of k) 1) refl where
  more : eqb (bits_of k) 1 ≡ false → 1 < bits_of k
  more f = let s = some_bits k in let d = unequal (bits_of k) 1 f in ⊎_elim (λ i. absurd (d i)) (λ i. omega (arith, s, i)) (cases_eq (bits_of k) 1)

  here : (t : Bool) → eqb (bits_of k) 1 ≡ t → IsDriven all front n (drivers ++ wide_tail front n k drivers t) (bits_of k) (last_of front n (drivers ++ wide_tail front n k drivers t) e)
  here true f =
      subst (λ (l : List Driver). IsDriven all front n l (bits_of k) (last_of front n l e)) (sym (append-nil drivers))
      (driven_width all front n drivers 1 (bits_of k) (last_of front n drivers e) (sym (eqb-true (bits_of k) 1 f)) (d e))
  here false f =
      let inner = last_of front n drivers (Literal 1 0) in
      let v = Concat (Literal (bits_of k - 1) 0 ∷ inner ∷ []) in
      let t = few_bits k in
      subst (λ z. IsDriven all front n (drivers ++ one (bits_of k) v) (bits_of k) z) (sym (last_behind front n drivers (one (bits_of k) v) e))
      (then_driven all front n drivers (one (bits_of k) v) (bits_of k) (wire front (after n drivers)) (d (Literal 1 0)).fits
      (one_driven (all ++ wires_of front n drivers) front (after n drivers) (bits_of k) v (kind_wide k)
      (zeros_fit (all ++ wires_of front n drivers) 1 (bits_of k) inner refl (more f) (omega (arith, t)) (d (Literal 1 0)).atom)))

-- ---- shifts

count_fits : (all : List Element) (w u : ℕ) (b : Atom) → IsTrue (is_width u) → AtomIs all u b → SomeAtom all (shift_count w b)
count_fits all w u (Literal v m) k h = (u, k, (h.0, (let l = h.1 in omega (arith, l))))
count_fits all w u _ k h = (u, k, h)

shifted_driven : (all : List Element) (front : Name) (n : ℕ) (j : Kind) (s : Bool) (a b e : Atom) → is_signed j ≡ s → IsWhole a → AtomIs all (bits_of j) a → AtomIs all 64 b
    → IsDriven all front n (shifted_right s front n (bits_of j) a b) (bits_of j) (last_of front n (shifted_right s front n (bits_of j) a b) e)
shifted_driven all front n j false a b e g wa h k = one_driven all front n (bits_of j) (Binary a ShiftRight (shift_count (bits_of j) b)) (kind_wide j) (h, count_fits all (bits_of j) 64 b refl k)
shifted_driven all front n j true a b e g wa h k =
    let w = bits_of j in
    let kw = kind_wide j in
    let two = signed_bits j g in
    let v0 = Invert a in
    let v1 = Choose (sign_of w a) (wire front n) a in
    let v2 = Binary (wire front (suc n)) ShiftRight (shift_count w b) in
    let v3 = Invert (wire front (suc (suc n))) in
    let v4 = Choose (sign_of w a) (wire front (suc (suc (suc n)))) (wire front (suc (suc n))) in
    let l4 : List Driver = one w v4 in
    let l3 : List Driver = (w, v3) ∷ l4 in
    let l2 : List Driver = (w, v2) ∷ l3 in
    let l1 : List Driver = (w, v1) ∷ l2 in
    let end = wire front (suc (suc (suc (suc n)))) in
    let s1 = with_wire all front n w v0 in
    let s2 = with_wire s1 front (suc n) w v1 in
    let s3 = with_wire s2 front (suc (suc n)) w v2 in
    let s4 = with_wire s3 front (suc (suc (suc n))) w v3 in
    let a1 : AtomIs s1 w a = lifted all front n w v0 w a h in
    let a2 : AtomIs s2 w a = lifted s1 front (suc n) w v1 w a a1 in
    let a3 : AtomIs s3 w a = lifted s2 front (suc (suc n)) w v2 w a a2 in
    let a4 : AtomIs s4 w a = lifted s3 front (suc (suc (suc n))) w v3 w a a3 in
    let b1 : AtomIs s1 64 b = lifted all front n w v0 64 b k in
    let b2 : AtomIs s2 64 b = lifted s1 front (suc n) w v1 64 b b1 in
    let x2 : AtomIs s3 w (wire front (suc (suc n))) = wire_there s2 front (suc (suc n)) w v2 in
    more_driven all front n w v0 l1 w end kw h
    (more_driven s1 front (suc n) w v1 l2 w end kw (sign_fits s1 w a two wa a1, wire_there all front n w v0, a1)
    (more_driven s2 front (suc (suc n)) w v2 l3 w end kw (wire_there s1 front (suc n) w v1, count_fits s2 w 64 b refl b2)
    (more_driven s3 front (suc (suc (suc n))) w v3 l4 w end kw x2
    (one_driven s4 front (suc (suc (suc (suc n)))) w v4 kw (sign_fits s4 w a two wa a4, wire_there s3 front (suc (suc (suc n))) w v3, lifted s3 front (suc (suc (suc n))) w v3 w (wire front (suc (suc n))) x2)))))

-- ---- division

pub not_zero : (m : ℕ) → 0 < m → not (eqb m 0) ≡ true
not_zero m h = ap not (ne_eqb m 0 (λ e. omega (arith, h, e)))

-- a divisor is a number that is not 0
abbrev pub IsSome : Atom → Type 0
IsSome b = IsTrue (is_divisor b)

absolute_fits : (all : List Element) (w : ℕ) (b : Atom) → 1 ≤ w → IsSome b → AtomIs all w b → IsSome (absolute w b) × AtomIs all w (absolute w b)
absolute_fits all w (Net x) some d h = absurd cc
absolute_fits all w (Part x high low) some d h = absurd cc
absolute_fits all w (Literal v n) some d h = here (nat_lt n (half w)) refl where
  low : n < 2 ^ w
  low = subst (λ z. n < 2 ^ z) h.0 h.1

  here : (c : Bool) → nat_lt n (half w) ≡ c → IsSome (Literal v (cond c n (2 ^ w - n))) × AtomIs all w (Literal v (cond c n (2 ^ w - n)))
  here true e = (d, h)
  here false e =
      let l : half w ≤ n = ltb-false n (half w) e in
      let p : 0 < half w = pow_pos (w - 1) in
      let r : 2 ^ w - n < 2 ^ w = omega (arith, l, p, low) in
      (not_zero (2 ^ w - n) (omega (arith, low)), (h.0, subst (λ z. 2 ^ w - n < 2 ^ z) (sym h.0) r))

pick_atom : (all : List Element) (w : ℕ) (c : Bool) (x y : Atom) → AtomIs all w x → AtomIs all w y → AtomIs all w (cond c x y)
pick_atom all w true x y h k = h
pick_atom all w false x y h k = k

divided_driven : (all : List Element) (front : Name) (n : ℕ) (j : Kind) (s : Bool) (o : BinaryOp) (back : Bool) (a b e : Atom) → is_signed j ≡ s
    → ((l : List Element) (x y : Atom) → AtomIs l (bits_of j) x → AtomIs l (bits_of j) y → IsSome y → OpIs l (bits_of j) o x y) → IsWhole a → AtomIs all (bits_of j) a → AtomIs all (bits_of j) b → IsSome b
    → IsDriven all front n (divided s o back front n (bits_of j) a b) (bits_of j) (last_of front n (divided s o back front n (bits_of j) a b) e)
divided_driven all front n j false o back a b e g fits wa h k d = one_driven all front n (bits_of j) (Binary a o b) (kind_wide j) (fits all a b h k d)
divided_driven all front n j true o back a b e g fits wa h k d =
    let w = bits_of j in
    let kw = kind_wide j in
    let two = signed_bits j g in
    let w2 = wire front (suc (suc n)) in
    let w3 = wire front (suc (suc (suc n))) in
    let v0 = Binary (Literal w 0) Minus a in
    let v1 = Choose (sign_of w a) (wire front n) a in
    let v2 = Binary (wire front (suc n)) o (absolute w b) in
    let v3 = Binary (Literal w 0) Minus w2 in
    let v4 = Choose (sign_of w a) (cond back w2 w3) (cond back w3 w2) in
    let l4 : List Driver = one w v4 in
    let l3 : List Driver = (w, v3) ∷ l4 in
    let l2 : List Driver = (w, v2) ∷ l3 in
    let l1 : List Driver = (w, v1) ∷ l2 in
    let end = wire front (suc (suc (suc (suc n)))) in
    let s1 = with_wire all front n w v0 in
    let s2 = with_wire s1 front (suc n) w v1 in
    let s3 = with_wire s2 front (suc (suc n)) w v2 in
    let s4 = with_wire s3 front (suc (suc (suc n))) w v3 in
    let a1 : AtomIs s1 w a = lifted all front n w v0 w a h in
    let a2 : AtomIs s2 w a = lifted s1 front (suc n) w v1 w a a1 in
    let a3 : AtomIs s3 w a = lifted s2 front (suc (suc n)) w v2 w a a2 in
    let a4 : AtomIs s4 w a = lifted s3 front (suc (suc (suc n))) w v3 w a a3 in
    let abs = absolute_fits all w b (some_bits j) d k in
    let b1 : AtomIs s1 w (absolute w b) = lifted all front n w v0 w (absolute w b) abs.1 in
    let b2 : AtomIs s2 w (absolute w b) = lifted s1 front (suc n) w v1 w (absolute w b) b1 in
    let x2 : AtomIs s3 w w2 = wire_there s2 front (suc (suc n)) w v2 in
    let y2 : AtomIs s4 w w2 = lifted s3 front (suc (suc (suc n))) w v3 w w2 x2 in
    let y3 : AtomIs s4 w w3 = wire_there s3 front (suc (suc (suc n))) w v3 in
    more_driven all front n w v0 l1 w end kw ((refl, pow_pos w), h)
    (more_driven s1 front (suc n) w v1 l2 w end kw (sign_fits s1 w a two wa a1, wire_there all front n w v0, a1)
    (more_driven s2 front (suc (suc n)) w v2 l3 w end kw (fits s2 (wire front (suc n)) (absolute w b) (wire_there s1 front (suc n) w v1) b2 abs.0)
    (more_driven s3 front (suc (suc (suc n))) w v3 l4 w end kw ((refl, pow_pos w), x2)
    (one_driven s4 front (suc (suc (suc (suc n)))) w v4 kw (sign_fits s4 w a two wa a4, pick_atom s4 w back w2 w3 y2 y3, pick_atom s4 w back w3 w2 y3 y2)))))

-- ---- all operators

abbrev pub DividesBy : Op → Atom → Type 0
DividesBy op.Div b = IsSome b
DividesBy op.Rem b = IsSome b
DividesBy o b = Unit {0}

-- an operator of one wire
plain_driven : (all : List Element) (front : Name) (n : ℕ) (j k : Kind) (v : Value) → j ≡ k → ValueIs all (bits_of j) v → IsDriven all front n (one (bits_of j) v) (bits_of k) (wire front n)
plain_driven all front n j k v same h = subst (λ z. IsDriven all front n (one (bits_of j) v) (bits_of z) (wire front n)) same (one_driven all front n (bits_of j) v (kind_wide j) h)

pub operation_driven : (all : List Element) (front : Name) (n : ℕ) (o : Op) (j k : Kind) (a b e : Atom) → GivesKind o j k → IsWhole a → IsWhole b → AtomIs all (bits_of j) a → AtomIs all (bits_of (right_kind o j)) b → DividesBy o b
    → IsDriven all front n (operation front n o j k a b) (bits_of k) (last_of front n (operation front n o j k a b) e)
operation_driven all front n op.Add j k a b e same wa wb h i d = plain_driven all front n j k (Binary a Plus b) same (h, i)
operation_driven all front n op.Sub j k a b e same wa wb h i d = plain_driven all front n j k (Binary a Minus b) same (h, i)
operation_driven all front n op.Mul j k a b e same wa wb h i d = plain_driven all front n j k (Binary a Times b) same (h, i)
operation_driven all front n op.Div j k a b e same wa wb h i d =
    subst (λ z. IsDriven all front n (operation front n op.Div j k a b) (bits_of z) (last_of front n (operation front n op.Div j k a b) e)) same
    (divided_driven all front n j (is_signed j) Divide (is_negative (bits_of j) b) a b e refl (λ l x y p q r. (p, q, r)) wa h i d)
operation_driven all front n op.Rem j k a b e same wa wb h i d =
    subst (λ z. IsDriven all front n (operation front n op.Rem j k a b) (bits_of z) (last_of front n (operation front n op.Rem j k a b) e)) same
    (divided_driven all front n j (is_signed j) Remainder false a b e refl (λ l x y p q r. (p, q, r)) wa h i d)
operation_driven all front n op.And j k a b e same wa wb h i d = plain_driven all front n j k (Binary a And b) same (h, i)
operation_driven all front n op.Or j k a b e same wa wb h i d = plain_driven all front n j k (Binary a Or b) same (h, i)
operation_driven all front n op.Xor j k a b e same wa wb h i d = plain_driven all front n j k (Binary a Xor b) same (h, i)
operation_driven all front n op.Shl j k a b e same wa wb h i d = plain_driven all front n j k (Binary a ShiftLeft (shift_count (bits_of j) b)) same (h, count_fits all (bits_of j) 64 b refl i)
operation_driven all front n op.Shr j k a b e same wa wb h i d =
    subst (λ z. IsDriven all front n (operation front n op.Shr j k a b) (bits_of z) (last_of front n (operation front n op.Shr j k a b) e)) same (shifted_driven all front n j (is_signed j) a b e refl wa h i)
operation_driven all front n op.Eq j k a b e same wa wb h i d = wide_driven all front n k (one 1 (Binary a Equals b)) e (λ z. one_driven all front n 1 (Binary a Equals b) refl (refl, (bits_of j, kind_wide j, h, i)))
operation_driven all front n op.Ne j k a b e same wa wb h i d = wide_driven all front n k (one 1 (Binary a Differs b)) e (λ z. one_driven all front n 1 (Binary a Differs b) refl (refl, (bits_of j, kind_wide j, h, i)))
operation_driven all front n op.Lt j k a b e same wa wb h i d = wide_driven all front n k (less (is_signed j) front n (bits_of j) a b) e (λ z. less_driven all front n j (is_signed j) a b z wa wb h i)
operation_driven all front n op.Le j k a b e same wa wb h i d = wide_driven all front n k (not_less (is_signed j) front n (bits_of j) b a) e (λ z. not_less_driven all front n j (is_signed j) b a z wb wa i h)
operation_driven all front n op.Gt j k a b e same wa wb h i d = wide_driven all front n k (less (is_signed j) front n (bits_of j) b a) e (λ z. less_driven all front n j (is_signed j) b a z wb wa i h)
operation_driven all front n op.Ge j k a b e same wa wb h i d = wide_driven all front n k (not_less (is_signed j) front n (bits_of j) a b) e (λ z. not_less_driven all front n j (is_signed j) a b z wa wb h i)
