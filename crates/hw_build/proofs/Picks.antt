-- What choices among entries give.
use Rattle.std.proofs.Common.{◌≡◌, ℕ, zero, suc, ◌+◌, ◌-◌, ◌<◌, cond, eqb, List, [], ◌∷◌, ◌++◌, length, inl, inr, refl, sym, ap, subst, ◌∙◌, arith, ⊎_elim}
use Rattle.std.specs.Prelude.{◌⊎◌, bit_or, IsTrue}
use Rattle.std.specs.Int.Bits.{or_zero_l}
use Rattle.std.proofs.lemmas.Nat.{or_comm}
use Rattle.std.proofs.lemmas.Bool.{cases_eq, eq-eqb, ne_eqb}
use Rattle.vlog_tree.specs.declared.tree.Value.{Value}
use Rattle.tapa_base.specs.Lists.{Has}
use Rattle.vlog_tree.specs.Table.{Name}
use Rattle.vlog_tree.specs.Cycle.{Cycle, Follows, atom_value}
use Rattle.vlog_tree.specs.V3.{is_width}
use Rattle.tapa_base.proofs.Lists.{has_left, has_right, has_flat}
use Rattle.hw_build.specs.Elements.{Element, Wire, built}
use Rattle.hw_build.specs.Trees.{numbered}
use Rattle.hw_build.proofs.Driven.{wire_driven}
use Rattle.hw_build.specs.Scope.{readable, IsNet, AtomIs, ValueIs, FitInOrder}
use Rattle.hw_build.specs.Fits.{IsAmong}
use Rattle.hw_build.specs.Choices.{Entry, row_of, any_driver, any_elements, pick_driver, pick_elements, choice, AnyFits, PickFits}
use Rattle.hw_build.proofs.Parts.{net_more, atom_more}

-- the last number of a row of one more
last_of : (k n : ℕ) → suc k + n ≡ k + suc n
last_of k n = omega arith

module _ (name : Name) (elements : List Element) (run : ℕ → Cycle) (f : Follows (built name elements) run) (front : Name) (n : ℕ) where
  abbrev at : Name → ℕ
  at x = (run n).net x

  -- what net j of a row has
  abbrev net_at : ℕ → ℕ
  net_at j = at (numbered front j)

  abbrev Rest : ℕ → (ℕ → Entry → Value) → ℕ → List Entry → Type 0
  Rest width driver j entries = IsAmong (row_of width front driver j entries) elements

  rest : (width : ℕ) (driver : ℕ → Entry → Value) (j : ℕ) (d : Entry) (entries : List Entry) → Rest width driver j (d ∷ entries) → Rest width driver (suc j) entries
  rest width driver j d entries among e h = among e (inr h)

  -- a result that the row keeps from a net on to its end
  ends : (a k m : ℕ) → net_at (suc k + m) ≡ a → net_at (k + suc m) ≡ a
  ends a k m e = subst (λ j. net_at j ≡ a) (last_of k m) e

  here : (a k : ℕ) → net_at k ≡ a → net_at (k + 0) ≡ a
  here a k e = let same : k ≡ k + 0 = omega arith in subst (λ j. net_at j ≡ a) same e

  -- ---- whether one of the conditions holds

  abbrev AreBits : List Entry → Type 0
  AreBits entries = (d : Entry) → Has entries d → at d.condition < 2

  one_or : (q : ℕ) → q < 2 → bit_or 1 q ≡ 1
  one_or zero h = refl
  one_or (suc zero) h = refl
  one_or (suc (suc q)) h = absurd (omega arith)

  or_one : (q : ℕ) → q < 2 → bit_or q 1 ≡ 1
  or_one q h = or_comm q 1 ∙ one_or q h

  joined : (k : ℕ) (d : Entry) (entries : List Entry) → Rest 1 (any_driver front) (suc k) (d ∷ entries) → net_at (suc k) ≡ bit_or (net_at k) (at d.condition)
  joined k d entries among = wire_driven name elements run f 1 (numbered front (suc k)) (any_driver front (suc k) d) (among _ (inl refl)) n

  stays_set : (entries : List Entry) (k : ℕ) → Rest 1 (any_driver front) (suc k) entries → AreBits entries → net_at k ≡ 1 → net_at (k + length entries) ≡ 1
  stays_set [] k among bits e = here 1 k e
  stays_set (d ∷ entries) k among bits e =
      ends 1 k (length entries)
      (stays_set entries (suc k) (rest 1 (any_driver front) (suc k) d entries among) (λ c h. bits c (inr h))
      (joined k d entries among ∙ ap (λ z. bit_or z (at d.condition)) e ∙ one_or (at d.condition) (bits d (inl refl))))

  bit_next : (entries : List Entry) (k : ℕ) (d : Entry) → Rest 1 (any_driver front) (suc k) (d ∷ entries) → net_at k < 2 → at d.condition < 2 → net_at (suc k) < 2
  bit_next entries k d among low bit = subst (λ z. z < 2) (sym (joined k d entries among)) (both (net_at k) (at d.condition) low bit) where
    both : (p q : ℕ) → p < 2 → q < 2 → bit_or p q < 2
    both zero q h k = let e : bit_or 0 q ≡ q = or_zero_l q in omega arith
    both (suc zero) q h k = let e : bit_or 1 q ≡ 1 = one_or q k in omega arith
    both (suc (suc p)) q h k = absurd (omega arith)

  set_later : (entries : List Entry) (k : ℕ) → Rest 1 (any_driver front) (suc k) entries → AreBits entries → net_at k < 2 → (e : Entry) → Has entries e → at e.condition ≡ 1 → net_at (k + length entries) ≡ 1
  set_later [] k among bits low e h is = absurd h
  set_later (d ∷ entries) k among bits low e (inl s) is =
      ends 1 k (length entries)
      (stays_set entries (suc k) (rest 1 (any_driver front) (suc k) d entries among) (λ c h. bits c (inr h))
      (joined k d entries among ∙ ap (bit_or (net_at k)) (ap (λ (z : Entry). at z.condition) s ∙ is) ∙ or_one (net_at k) low))
  set_later (d ∷ entries) k among bits low e (inr h) is =
      ends 1 k (length entries)
      (set_later entries (suc k) (rest 1 (any_driver front) (suc k) d entries among) (λ c h. bits c (inr h)) (bit_next entries k d among low (bits d (inl refl))) e h is)

  stays_clear : (entries : List Entry) (k : ℕ) → Rest 1 (any_driver front) (suc k) entries → ((d : Entry) → Has entries d → at d.condition ≡ 0) → net_at k ≡ 0 → net_at (k + length entries) ≡ 0
  stays_clear [] k among none e = here 0 k e
  stays_clear (d ∷ entries) k among none e =
      ends 0 k (length entries)
      (stays_clear entries (suc k) (rest 1 (any_driver front) (suc k) d entries among) (λ c h. none c (inr h))
      (joined k d entries among ∙ ap (λ z. bit_or z (at d.condition)) e ∙ or_zero_l (at d.condition) ∙ none d (inl refl)))

  low_later : (entries : List Entry) (k : ℕ) → Rest 1 (any_driver front) (suc k) entries → AreBits entries → net_at k < 2 → net_at (k + length entries) < 2
  low_later [] k among bits low = let same : k ≡ k + 0 = omega arith in subst (λ j. net_at j < 2) same low
  low_later (d ∷ entries) k among bits low =
      subst (λ j. net_at j < 2) (last_of k (length entries))
      (low_later entries (suc k) (rest 1 (any_driver front) (suc k) d entries among) (λ c h. bits c (inr h)) (bit_next entries k d among low (bits d (inl refl))))

  first_any : (d : Entry) (entries : List Entry) → Rest 1 (any_driver front) 0 (d ∷ entries) → net_at 0 ≡ at d.condition
  first_any d entries among = wire_driven name elements run f 1 (numbered front 0) (any_driver front 0 d) (among _ (inl refl)) n

  -- the number of the last net
  result : (a : ℕ) (d : Entry) (entries : List Entry) → net_at (0 + length entries) ≡ a → at (choice front (d ∷ entries)) ≡ a
  result a d entries e = let same : 0 + length entries ≡ suc (length entries) - 1 = omega arith in subst (λ j. net_at j ≡ a) same e

  any_set_in : (entries : List Entry) → IsAmong (any_elements front entries) elements → AreBits entries → (e : Entry) → Has entries e → at e.condition ≡ 1 → at (choice front entries) ≡ 1
  any_set_in [] among bits e h is = absurd h
  any_set_in (d ∷ entries) among bits e (inl s) is =
      result 1 d entries
      (stays_set entries 0 (rest 1 (any_driver front) 0 d entries among) (λ c h. bits c (inr h)) (first_any d entries among ∙ ap (λ (z : Entry). at z.condition) s ∙ is))
  any_set_in (d ∷ entries) among bits e (inr h) is =
      result 1 d entries
      (set_later entries 0 (rest 1 (any_driver front) 0 d entries among) (λ c k. bits c (inr k)) (subst (λ z. z < 2) (sym (first_any d entries among)) (bits d (inl refl))) e h is)

  any_clear_in : (entries : List Entry) → IsAmong (any_elements front entries) elements → 0 < length entries → ((d : Entry) → Has entries d → at d.condition ≡ 0) → at (choice front entries) ≡ 0
  any_clear_in [] among some none = absurd (omega arith)
  any_clear_in (d ∷ entries) among some none =
      result 0 d entries (stays_clear entries 0 (rest 1 (any_driver front) 0 d entries among) (λ c h. none c (inr h)) (first_any d entries among ∙ none d (inl refl)))

  any_low_in : (entries : List Entry) → IsAmong (any_elements front entries) elements → 0 < length entries → AreBits entries → at (choice front entries) < 2
  any_low_in [] among some bits = absurd (omega arith)
  any_low_in (d ∷ entries) among some bits =
      let same : 0 + length entries ≡ suc (length entries) - 1 = omega arith in
      subst (λ j. net_at j < 2) same
      (low_later entries 0 (rest 1 (any_driver front) 0 d entries among) (λ c h. bits c (inr h)) (subst (λ z. z < 2) (sym (first_any d entries among)) (bits d (inl refl))))

  -- ---- the value whose condition holds

  abbrev AreOff : ℕ → List Entry → Type 0
  AreOff a entries = (d : Entry) → Has entries d → (at d.condition ≡ 1 → ⊥) ⊎ (atom_value (run n) d.value ≡ a)

  chosen : (width k : ℕ) (d : Entry) (entries : List Entry) → Rest width (pick_driver front) (suc k) (d ∷ entries) → net_at (suc k) ≡ cond (eqb (at d.condition) 1) (atom_value (run n) d.value) (net_at k)
  chosen width k d entries among = wire_driven name elements run f width (numbered front (suc k)) (pick_driver front (suc k) d) (among _ (inl refl)) n

  on : (c v a : ℕ) → (c ≡ 1 → ⊥) ⊎ (v ≡ a) → c ≡ 1 → v ≡ a
  on c v a (inl off) e = absurd (off e)
  on c v a (inr s) e = s

  -- a net that has the result passes it on
  passed : (c v b a : ℕ) → (c ≡ 1 → ⊥) ⊎ (v ≡ a) → b ≡ a → cond (eqb c 1) v b ≡ a
  passed c v b a (inl off) e = ap (λ t. cond t v b) (ne_eqb c 1 off) ∙ e
  passed c v b a (inr s) e = ⊎_elim (λ i. ap (λ t. cond t v b) (eq-eqb c 1 i) ∙ s) (λ i. ap (λ t. cond t v b) (ne_eqb c 1 i) ∙ e) (cases_eq c 1)

  stays : (width a : ℕ) (entries : List Entry) (k : ℕ) → Rest width (pick_driver front) (suc k) entries → AreOff a entries → net_at k ≡ a → net_at (k + length entries) ≡ a
  stays width a [] k among each e = here a k e
  stays width a (d ∷ entries) k among each e =
      ends a k (length entries)
      (stays width a entries (suc k) (rest width (pick_driver front) (suc k) d entries among) (λ c h. each c (inr h))
      (chosen width k d entries among ∙ passed (at d.condition) (atom_value (run n) d.value) (net_at k) a (each d (inl refl)) e))

  picked : (width a : ℕ) (entries : List Entry) (k : ℕ) → Rest width (pick_driver front) (suc k) entries → AreOff a entries → (e : Entry) → Has entries e → at e.condition ≡ 1 → net_at (k + length entries) ≡ a
  picked width a [] k among each e h is = absurd h
  picked width a (d ∷ entries) k among each e (inl s) is =
      let one : at d.condition ≡ 1 = ap (λ (z : Entry). at z.condition) s ∙ is in
      ends a k (length entries)
      (stays width a entries (suc k) (rest width (pick_driver front) (suc k) d entries among) (λ c h. each c (inr h))
      (chosen width k d entries among ∙ ap (λ t. cond t (atom_value (run n) d.value) (net_at k)) (eq-eqb (at d.condition) 1 one) ∙ on (at d.condition) (atom_value (run n) d.value) a (each d (inl refl)) one))
  picked width a (d ∷ entries) k among each e (inr h) is =
      ends a k (length entries) (picked width a entries (suc k) (rest width (pick_driver front) (suc k) d entries among) (λ c i. each c (inr i)) e h is)

  pick_in : (width a : ℕ) (entries : List Entry) → IsAmong (pick_elements width front entries) elements → AreOff a entries → (e : Entry) → Has entries e → at e.condition ≡ 1 → at (choice front entries) ≡ a
  pick_in width a [] among each e h is = absurd h
  pick_in width a (d ∷ entries) among each e (inl s) is =
      result a d entries
      (stays width a entries 0 (rest width (pick_driver front) 0 d entries among) (λ c h. each c (inr h))
      (wire_driven name elements run f width (numbered front 0) (pick_driver front 0 d) (among _ (inl refl)) n
      ∙ on (at d.condition) (atom_value (run n) d.value) a (each d (inl refl)) (ap (λ (z : Entry). at z.condition) s ∙ is)))
  pick_in width a (d ∷ entries) among each e (inr h) is =
      result a d entries (picked width a entries 0 (rest width (pick_driver front) 0 d entries among) (λ c i. each c (inr i)) e h is)

module _ (name : Name) (elements : List Element) (run : ℕ → Cycle) (f : Follows (built name elements) run) where
  pub any_set : (front : Name) (entries : List Entry) → IsAmong (any_elements front entries) elements → (n : ℕ) → ((d : Entry) → Has entries d → (run n).net d.condition < 2) → (e : Entry) → Has entries e
      → (run n).net e.condition ≡ 1 → (run n).net (choice front entries) ≡ 1
  any_set front entries among n bits e h is = any_set_in name elements run f front n entries among bits e h is

  pub any_clear : (front : Name) (entries : List Entry) → IsAmong (any_elements front entries) elements → (n : ℕ) → 0 < length entries → ((d : Entry) → Has entries d → (run n).net d.condition ≡ 0)
      → (run n).net (choice front entries) ≡ 0
  any_clear front entries among n some none = any_clear_in name elements run f front n entries among some none

  pub any_low : (front : Name) (entries : List Entry) → IsAmong (any_elements front entries) elements → (n : ℕ) → 0 < length entries → ((d : Entry) → Has entries d → (run n).net d.condition < 2)
      → (run n).net (choice front entries) < 2
  any_low front entries among n some bits = any_low_in name elements run f front n entries among some bits

  pub pick_chosen : (width : ℕ) (front : Name) (entries : List Entry) → IsAmong (pick_elements width front entries) elements
      → (n a : ℕ) → ((d : Entry) → Has entries d → ((run n).net d.condition ≡ 1 → ⊥) ⊎ (atom_value (run n) d.value ≡ a)) → (e : Entry) → Has entries e → (run n).net e.condition ≡ 1
      → (run n).net (choice front entries) ≡ a
  pick_chosen width front entries among n a each e h is = pick_in name elements run f front n width a entries among each e h is

-- ---- they fit

-- what a row reads is there before each of its nets
abbrev HasParts : (List Element → Entry → Type 0) → List Element → List Entry → Type 0
HasParts Parts before entries = (e : Entry) → Has entries e → Parts before e

abbrev Grows : (List Element → Entry → Type 0) → Type 0
Grows Parts = (before : List Element) (d : Element) (e : Entry) → Parts before e → Parts (before ++ d ∷ []) e

net_last : (before : List Element) (w : ℕ) (x : Name) (v : Value) → IsNet (before ++ Wire w x v ∷ []) x w
net_last before w x v =
    net_more (Wire w x v ∷ []) (before ++ Wire w x v ∷ []) (λ e h. has_right before (Wire w x v ∷ []) e h) x w (inr (has_flat readable (Wire w x v ∷ []) (Wire w x v) (x, w) (inl refl) (inl refl)))

module _ (width : ℕ) (front : Name) (wide : IsTrue (is_width width)) (driver : ℕ → Entry → Value) (Parts : List Element → Entry → Type 0) (grows : Grows Parts)
    (first : (before : List Element) (e : Entry) → Parts before e → ValueIs before width (driver 0 e))
    (next : (before : List Element) (j : ℕ) (e : Entry) → Parts before e → IsNet before (numbered front j) width → ValueIs before width (driver (suc j) e)) where
  later_fit : (before : List Element) (j : ℕ) (entries : List Entry) → HasParts Parts before entries → IsNet before (numbered front j) width → FitInOrder before (row_of width front driver (suc j) entries)
  later_fit before j [] h net = tt
  later_fit before j (e ∷ entries) h net =
      let w : Element = Wire width (numbered front (suc j)) (driver (suc j) e) in (
        (wide, next before j e (h e (inl refl)) net),
        later_fit (before ++ w ∷ []) (suc j) entries (λ d k. grows before w d (h d (inr k))) (net_last before width (numbered front (suc j)) (driver (suc j) e)),
      )

  row_fits : (before : List Element) (entries : List Entry) → HasParts Parts before entries → FitInOrder before (row_of width front driver 0 entries)
  row_fits before [] h = tt
  row_fits before (e ∷ entries) h =
      let w : Element = Wire width (numbered front 0) (driver 0 e) in (
        (wide, first before e (h e (inl refl))),
        later_fit (before ++ w ∷ []) 0 entries (λ d k. grows before w d (h d (inr k))) (net_last before width (numbered front 0) (driver 0 e)),
      )

pub any_fits : AnyFits
any_fits before front entries h =
    row_fits 1 front refl (any_driver front) (λ b e. IsNet b e.condition 1) (λ b d e k. net_more b (b ++ d ∷ []) (λ c i. has_left b (d ∷ []) c i) e.condition 1 k) (λ b e k. k) (λ b j e k net. (net, k)) before entries h

pub pick_fits : PickFits
pick_fits before width front entries w h =
    row_fits width front w (pick_driver front) (λ b e. IsNet b e.condition 1 × AtomIs b width e.value)
    (λ b d e k.
    let among = λ (c : Element) (i : Has b c). has_left b (d ∷ []) c i in (
      net_more b (b ++ d ∷ []) among e.condition 1 k.0,
      atom_more b (b ++ d ∷ []) among width e.value k.1,
    )) (λ b e k. k.1) (λ b j e k net. (k.0, k.1, net)) before entries h
