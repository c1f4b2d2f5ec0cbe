-- In a cycle in one state, the conditions of all other states are 0, so that each choice has what the state gives it.
use Rattle.std.proofs.Common.{◌≡◌, ℕ, zero, suc, ◌<◌, ◌≤◌, Bool, true, false, cond, eqb, max, List, [], ◌∷◌, length, Option, Some, None, inl, inr, refl, sym, ap, subst, ◌∙◌, arith, ⊎_elim}
use Rattle.std.specs.Prelude.{◌⊎◌, bit_and, slice_get}
use Rattle.std.specs.Int.Bits.{and_zero_l}
use Rattle.std.proofs.lemmas.Nat.{and_le_l}
use Rattle.std.proofs.lemmas.Bool.{cases_eq, eq-eqb, ne_eqb}
use Rattle.vlog_tree.specs.declared.tree.Atom.{Atom}
use Rattle.vlog_tree.specs.declared.tree.BinaryOp.TheVariants.{And, Equals}
use Rattle.vlog_tree.specs.declared.tree.Value.TheVariants.{Binary}
use Rattle.tapa_base.specs.Lists.{Has}
use Rattle.vlog_tree.specs.Table.{Name, one_if}
use Rattle.vlog_tree.specs.Cycle.{Cycle, Follows, atom_value}
use Rattle.hw_build.specs.Elements.{Wire, built}
use Rattle.tapa_base.proofs.Lists.{has_right}
use Rattle.hw_build.proofs.Driven.{wire_driven}
use Rattle.hw_build.specs.Choices.{Entry, any_elements, pick_elements, choice}
use Rattle.hw_build.specs.Fits.{IsAmong}
use Rattle.hw_build.proofs.Parts.{has_each, of_each}
use Rattle.hw_build.proofs.Picks.{any_set, any_clear, pick_chosen}
use Rattle.task_fsm.specs.Machine.{StateForm, SetAt, CellAt, TestAt, ReadAt, WriteAt, PeekAt, EotAt, OpenAt, CloseAt, LoadAt, StoreAt, ClearAt, EndAt, TrapAt}
use Rattle.hw_lines.specs.Nets.{Net, State, At, Go, Inside, Into, ReadInside, ReadOn, Datum, Has as HasNet, Eot as EotNet, Ack, name, Choice, ToState, ToEnd, Clear, Set, NextValue, Stores, WriteIndex, WriteData, Reads, ArrayIndex, Puts, Token, Takes, Address, StoreEnable, Data, front}
use Rattle.hw_lines.specs.Shape.{Shape, state_count, form_at}
use Rattle.hw_lines.specs.Wires.{ArrayRead}
use Rattle.hw_lines.specs.States.{net, number_of, reads_at, awaited, needs_go, go_of, more_wires}
use Rattle.hw_lines.specs.Effects.{entry, at, first_value, gives, is_same_number, with_number, without_number, places, contents, spot_of, tokens, takings, askings, savings, endings, effect, entries}
use Rattle.hw_lines.specs.Texts.{asked_of, read_index, most, read_numbers, task_elements}
use Rattle.hw_lines.proofs.Members.{all, decode_in, go_in, more_in, asked_in}
use Rattle.tapa_base.proofs.Got.{got_low}
use Rattle.tapa_base.proofs.Tests.{zero_one as zero_is_not_one}

-- a net that is 1 in this state alone
pub data IsCondition (S : Shape) (k : ℕ) : Name → Type 0 where
  Decoded : IsCondition S k (name (At k))
  Gated : (x : Name) (y : Net) → Has (all S) (Wire 1 x (Binary (net (At k)) And (net y))) → IsCondition S k x

-- a state's numbers of reads are among all
pub most_of : (f : ℕ → ℕ) (n k : ℕ) → k < n → f k ≤ most f n
most_of f zero k h = absurd (omega arith)
most_of f (suc n) k h = ⊎_elim (λ e. subst (λ j. f j ≤ max (most f n) (f n)) (sym e) (omega arith)) (λ e. let r = most_of f n k (omega (arith, h, e)) in omega (arith, r)) (cases_eq k n)

-- what has a number as its value, and what has not, was among the entries
pub with_in : (a : Atom) (es : List Entry) (d : Entry) → Has (with_number a es) d → Has es d
with_in a [] d h = h
with_in a (e ∷ es) d h = here (is_same_number e.value a) (λ k. with_in a es d k) h where
  here : (b : Bool) → (Has (with_number a es) d → Has es d) → Has (cond b (e ∷ with_number a es) (with_number a es)) d → Has (e ∷ es) d
  here true more (inl s) = inl s
  here true more (inr k) = inr (more k)
  here false more k = inr (more k)

pub without_in : (a : Atom) (es : List Entry) (d : Entry) → Has (without_number a es) d → Has es d
without_in a [] d h = h
without_in a (e ∷ es) d h = here (is_same_number e.value a) (λ k. without_in a es d k) h where
  here : (b : Bool) → (Has (without_number a es) d → Has es d) → Has (cond b (without_number a es) (e ∷ without_number a es)) d → Has (e ∷ es) d
  here true more k = inr (more k)
  here false more (inl s) = inl s
  here false more (inr k) = inr (more k)

module _ (S : Shape) (k : ℕ) (low : k < state_count S) where
  go_there : (f : StateForm) → form_at S k ≡ f → (w : Net) → awaited f ≡ Some w → needs_go f ≡ true → Has (all S) (Wire 1 (name (Go k)) (Binary (net (At k)) And (net w)))
  go_there f is w e l =
      let same : go_of k (awaited (form_at S k)) (needs_go (form_at S k)) ≡ Wire 1 (name (Go k)) (Binary (net (At k)) And (net w)) ∷ [] =
      ap (λ g. go_of k (awaited g) (needs_go g)) is ∙ ap (λ o. go_of k o (needs_go f)) e ∙ ap (go_of k (Some w)) l in
      go_in S k low (Wire 1 (name (Go k)) (Binary (net (At k)) And (net w))) (subst (λ es. Has es (Wire 1 (name (Go k)) (Binary (net (At k)) And (net w)))) (sym same) (inl refl))

  into_there : Has (more_wires S k (form_at S k)) (Wire 1 (name (Into k)) (Binary (net (At k)) And (net (Inside k)))) → Has (all S) (Wire 1 (name (Into k)) (Binary (net (At k)) And (net (Inside k))))
  into_there h = more_in S k low (Wire 1 (name (Into k)) (Binary (net (At k)) And (net (Inside k)))) h

  read_there : (p : ℕ) (r : ArrayRead) → slice_get (reads_at S k) p ≡ Some r → Has (all S) (Wire 1 (name (ReadOn k p)) (Binary (net (At k)) And (net (ReadInside k p))))
  read_there p r is =
      let inside : p < read_numbers S = (let a : p < length (reads_at S k) = got_low (reads_at S k) p r is in let b : length (reads_at S k) ≤ read_numbers S = most_of (λ j. length (reads_at S j)) (state_count S) k low in omega (arith, a, b)) in
      asked_in S p k inside low (Wire 1 (name (ReadOn k p)) (Binary (net (At k)) And (net (ReadInside k p))))
      (subst (λ o. Has (asked_of S p k o) (Wire 1 (name (ReadOn k p)) (Binary (net (At k)) And (net (ReadInside k p))))) (sym is) (has_right (read_index p k r).elements _ _ (inr (inl refl))))

  abbrev Own : List Entry → Type 0
  Own es = (d : Entry) → Has es d → IsCondition S k d.condition

  of_entry : (x : Net) (a : Atom) → IsCondition S k (name x) → Own (entry x a)
  of_entry x a c d (inl e) = subst (λ (z : Entry). IsCondition S k z.condition) e c
  of_entry x a c d (inr n) = absurd n

  of_at : (x y : ℕ) (es : List Entry) → Own es → Own (at x y es)
  of_at x y es h d i = here (eqb x y) i where
    here : (b : Bool) → Has (cond b es []) d → IsCondition S k d.condition
    here true j = h d j
    here false j = absurd j

  by_go : (f : StateForm) → form_at S k ≡ f → (w : Net) → awaited f ≡ Some w → needs_go f ≡ true → (a : Atom) → Own (entry (Go k) a)
  by_go f is w e l a = of_entry (Go k) a (Gated (name (Go k)) w (go_there f is w e l))

  own_gives : (r : ℕ) (f : StateForm) → form_at S k ≡ f → Own (gives S r k f)
  own_gives r (SetAt x e next) is d i = of_at x r _ (of_entry (At k) _ Decoded) d i
  own_gives r (CellAt b j e next) is d i = absurd i
  own_gives r (TestAt e y n) is d i = absurd i
  own_gives r (ReadAt s (Some x) next) is d i = of_at x r _ (by_go (ReadAt s (Some x) next) is (Datum s) refl refl _) d i
  own_gives r (ReadAt s None next) is d i = absurd i
  own_gives r (WriteAt s e next) is d i = absurd i
  own_gives r (PeekAt s (Some x) next) is d i = of_at x r _ (by_go (PeekAt s (Some x) next) is (Datum s) refl refl _) d i
  own_gives r (PeekAt s None next) is d i = absurd i
  own_gives r (EotAt s (Some x) next) is d i = of_at x r _ (by_go (EotAt s (Some x) next) is (HasNet s) refl refl _) d i
  own_gives r (EotAt s None next) is d i = absurd i
  own_gives r (OpenAt s next) is d i = absurd i
  own_gives r (CloseAt s next) is d i = absurd i
  own_gives r (LoadAt m j (Some x) next) is d i = of_at x r _ (by_go (LoadAt m j (Some x) next) is (Ack m) refl refl _) d i
  own_gives r (LoadAt m j None next) is d i = absurd i
  own_gives r (StoreAt m j e next) is d i = absurd i
  own_gives r (ClearAt b c next) is d i = of_at c r _ (of_entry (At k) _ Decoded) d i
  own_gives r EndAt is d i = absurd i
  own_gives r TrapAt is d i = absurd i

  -- a condition that rests on the wires of a state that writes a cell
  own_places : (x : Net) (a : ℕ) (f : StateForm) → (Has (more_wires S k f) (Wire 1 (name (Into k)) (Binary (net (At k)) And (net (Inside k)))) → IsCondition S k (name x)) → Own (places S x a k f)
  own_places x a (SetAt y e next) c d i = absurd i
  own_places x a (CellAt b j e next) c d i = of_at b a _ (of_entry x _ (c (inr (inl refl)))) d i
  own_places x a (TestAt e y n) c d i = absurd i
  own_places x a (ReadAt s into next) c d i = absurd i
  own_places x a (WriteAt s e next) c d i = absurd i
  own_places x a (PeekAt s into next) c d i = absurd i
  own_places x a (EotAt s into next) c d i = absurd i
  own_places x a (OpenAt s next) c d i = absurd i
  own_places x a (CloseAt s next) c d i = absurd i
  own_places x a (LoadAt m j into next) c d i = absurd i
  own_places x a (StoreAt m j e next) c d i = absurd i
  own_places x a (ClearAt b r next) c d i = of_at b a _ (of_entry x _ (c (inr (inl refl)))) d i
  own_places x a EndAt c d i = absurd i
  own_places x a TrapAt c d i = absurd i

  own_contents : (a : ℕ) (f : StateForm) → form_at S k ≡ f → Own (contents S a k f)
  own_contents a (SetAt x e next) is d i = absurd i
  own_contents a (CellAt b j e next) is d i = of_at b a _ (of_entry (At k) _ Decoded) d i
  own_contents a (TestAt e y n) is d i = absurd i
  own_contents a (ReadAt s into next) is d i = absurd i
  own_contents a (WriteAt s e next) is d i = absurd i
  own_contents a (PeekAt s into next) is d i = absurd i
  own_contents a (EotAt s into next) is d i = absurd i
  own_contents a (OpenAt s next) is d i = absurd i
  own_contents a (CloseAt s next) is d i = absurd i
  own_contents a (LoadAt m j into next) is d i = absurd i
  own_contents a (StoreAt m j e next) is d i = absurd i
  own_contents a (ClearAt b c next) is d i = of_at b a _ (of_entry (At k) _ Decoded) d i
  own_contents a EndAt is d i = absurd i
  own_contents a TrapAt is d i = absurd i

  own_spot : (x : Net) (p a : ℕ) (o : Option ArrayRead) → ((r : ArrayRead) → o ≡ Some r → IsCondition S k (name x)) → Own (spot_of S x p a k o)
  own_spot x p a None c d i = absurd i
  own_spot x p a (Some r) c d i = of_at r.array a _ (of_entry x _ (c r refl)) d i

  own_tokens : (t : ℕ) (f : StateForm) → form_at S k ≡ f → Own (tokens S t k f)
  own_tokens t (SetAt x e next) is d i = absurd i
  own_tokens t (CellAt b j e next) is d i = absurd i
  own_tokens t (TestAt e y n) is d i = absurd i
  own_tokens t (ReadAt s into next) is d i = absurd i
  own_tokens t (WriteAt s e next) is d i = of_at s t _ (of_entry (At k) _ Decoded) d i
  own_tokens t (PeekAt s into next) is d i = absurd i
  own_tokens t (EotAt s into next) is d i = absurd i
  own_tokens t (OpenAt s next) is d i = absurd i
  own_tokens t (CloseAt s next) is d i = of_at s t _ (of_entry (At k) _ Decoded) d i
  own_tokens t (LoadAt m j into next) is d i = absurd i
  own_tokens t (StoreAt m j e next) is d i = absurd i
  own_tokens t (ClearAt b c next) is d i = absurd i
  own_tokens t EndAt is d i = absurd i
  own_tokens t TrapAt is d i = absurd i

  own_takings : (t : ℕ) (f : StateForm) → form_at S k ≡ f → Own (takings S t k f)
  own_takings t (SetAt x e next) is d i = absurd i
  own_takings t (CellAt b j e next) is d i = absurd i
  own_takings t (TestAt e y n) is d i = absurd i
  own_takings t (ReadAt s into next) is d i = of_at s t _ (by_go (ReadAt s into next) is (Datum s) refl refl _) d i
  own_takings t (WriteAt s e next) is d i = absurd i
  own_takings t (PeekAt s into next) is d i = absurd i
  own_takings t (EotAt s into next) is d i = absurd i
  own_takings t (OpenAt s next) is d i = of_at s t _ (by_go (OpenAt s next) is (EotNet s) refl refl _) d i
  own_takings t (CloseAt s next) is d i = absurd i
  own_takings t (LoadAt m j into next) is d i = absurd i
  own_takings t (StoreAt m j e next) is d i = absurd i
  own_takings t (ClearAt b c next) is d i = absurd i
  own_takings t EndAt is d i = absurd i
  own_takings t TrapAt is d i = absurd i

  own_askings : (t : ℕ) (f : StateForm) → form_at S k ≡ f → Own (askings S t k f)
  own_askings t (SetAt x e next) is d i = absurd i
  own_askings t (CellAt b j e next) is d i = absurd i
  own_askings t (TestAt e y n) is d i = absurd i
  own_askings t (ReadAt s into next) is d i = absurd i
  own_askings t (WriteAt s e next) is d i = absurd i
  own_askings t (PeekAt s into next) is d i = absurd i
  own_askings t (EotAt s into next) is d i = absurd i
  own_askings t (OpenAt s next) is d i = absurd i
  own_askings t (CloseAt s next) is d i = absurd i
  own_askings t (LoadAt m j into next) is d i = of_at m t _ (of_entry (At k) _ Decoded) d i
  own_askings t (StoreAt m j e next) is d i = of_at m t _ (of_entry (At k) _ Decoded) d i
  own_askings t (ClearAt b c next) is d i = absurd i
  own_askings t EndAt is d i = absurd i
  own_askings t TrapAt is d i = absurd i

  own_savings : (t : ℕ) (f : StateForm) → form_at S k ≡ f → Own (savings S t k f)
  own_savings t (SetAt x e next) is d i = absurd i
  own_savings t (CellAt b j e next) is d i = absurd i
  own_savings t (TestAt e y n) is d i = absurd i
  own_savings t (ReadAt s into next) is d i = absurd i
  own_savings t (WriteAt s e next) is d i = absurd i
  own_savings t (PeekAt s into next) is d i = absurd i
  own_savings t (EotAt s into next) is d i = absurd i
  own_savings t (OpenAt s next) is d i = absurd i
  own_savings t (CloseAt s next) is d i = absurd i
  own_savings t (LoadAt m j into next) is d i = absurd i
  own_savings t (StoreAt m j e next) is d i = of_at m t _ (of_entry (At k) _ Decoded) d i
  own_savings t (ClearAt b c next) is d i = absurd i
  own_savings t EndAt is d i = absurd i
  own_savings t TrapAt is d i = absurd i

  own_endings : (f : StateForm) → form_at S k ≡ f → Own (endings k f)
  own_endings (SetAt x e next) is d i = absurd i
  own_endings (CellAt b j e next) is d i = absurd i
  own_endings (TestAt e y n) is d i = absurd i
  own_endings (ReadAt s into next) is d i = absurd i
  own_endings (WriteAt s e next) is d i = absurd i
  own_endings (PeekAt s into next) is d i = absurd i
  own_endings (EotAt s into next) is d i = absurd i
  own_endings (OpenAt s next) is d i = absurd i
  own_endings (CloseAt s next) is d i = absurd i
  own_endings (LoadAt m j into next) is d i = absurd i
  own_endings (StoreAt m j e next) is d i = absurd i
  own_endings (ClearAt b c next) is d i = absurd i
  own_endings EndAt is d i = of_entry (At k) _ Decoded d i
  own_endings TrapAt is d i = absurd i

  -- each entry that a state gives has a condition of the state's
  pub own : (c : Choice) → Own (effect S c k)
  own ToState d i = of_entry (At k) _ Decoded d i
  own ToEnd d i = own_endings (form_at S k) refl d i
  own (Clear r) d i = own_gives r (form_at S k) refl d (with_in (first_value S r) (gives S r k (form_at S k)) d i)
  own (Set r) d i = own_gives r (form_at S k) refl d (without_in (first_value S r) (gives S r k (form_at S k)) d i)
  own (NextValue r) d i = own_gives r (form_at S k) refl d (without_in (first_value S r) (gives S r k (form_at S k)) d i)
  own (Stores a) d i = own_places (Into k) a (form_at S k) (λ h. Gated (name (Into k)) (Inside k) (into_there h)) d i
  own (WriteIndex a) d i = own_places (At k) a (form_at S k) (λ h. Decoded) d i
  own (WriteData a) d i = own_contents a (form_at S k) refl d i
  own (Reads p a) d i = own_spot (ReadOn k p) p a (slice_get (reads_at S k) p) (λ r is. Gated (name (ReadOn k p)) (ReadInside k p) (read_there p r is)) d i
  own (ArrayIndex p a) d i = own_spot (At k) p a (slice_get (reads_at S k) p) (λ r is. Decoded) d i
  own (Puts s) d i = own_tokens s (form_at S k) refl d i
  own (Token s) d i = own_tokens s (form_at S k) refl d i
  own (Takes s) d i = own_takings s (form_at S k) refl d i
  own (Address m) d i = own_askings m (form_at S k) refl d i
  own (StoreEnable m) d i = own_savings m (form_at S k) refl d i
  own (Data m) d i = own_savings m (form_at S k) refl d i

module _ (S : Shape) (title : Name) (run : ℕ → Cycle) (f : Follows (built title (task_elements S)) run) where
  abbrev number : Name → ℕ → ℕ
  number x n = (run n).net x

  -- one state's decode
  pub at_is : (n k : ℕ) → k < state_count S → number (name (At k)) n ≡ one_if (eqb (number (name State) n) k)
  at_is n k h = wire_driven title (task_elements S) run f 1 (name (At k)) (Binary (net State) Equals (number_of S k)) (decode_in S k h) n

  pub at_here : (n k : ℕ) → k < state_count S → number (name State) n ≡ k → number (name (At k)) n ≡ 1
  at_here n k h e = at_is n k h ∙ ap one_if (eq-eqb (number (name State) n) k e)

  pub at_other : (n k : ℕ) → k < state_count S → (number (name State) n ≡ k → ⊥) → number (name (At k)) n ≡ 0
  at_other n k h e = at_is n k h ∙ ap one_if (ne_eqb (number (name State) n) k e)

  gated : (x : Name) (k n : ℕ) (y : Net) → Has (all S) (Wire 1 x (Binary (net (At k)) And (net y))) → number x n ≡ bit_and (number (name (At k)) n) (number (name y) n)
  gated x k n y h = wire_driven title (task_elements S) run f 1 x (Binary (net (At k)) And (net y)) h n

  -- the conditions of other states are 0
  pub others_off : (n k : ℕ) → k < state_count S → (number (name State) n ≡ k → ⊥) → (x : Name) → IsCondition S k x → number x n ≡ 0
  others_off n k h e x Decoded = at_other n k h e
  others_off n k h e x (Gated z y there) = gated x k n y there ∙ ap (λ b. bit_and b (number (name y) n)) (at_other n k h e) ∙ and_zero_l (number (name y) n)

  bit_low : (a b : ℕ) → a < 2 → bit_and a b < 2
  bit_low a b h = let e : bit_and a b ≤ a = and_le_l a b in omega (arith, e, h)

  at_low : (n k : ℕ) → k < state_count S → number (name (At k)) n < 2
  at_low n k h = let e = at_is n k h in subst (λ z. z < 2) (sym e) (bit (eqb (number (name State) n) k)) where
    bit : (b : Bool) → one_if b < 2
    bit true = omega arith
    bit false = omega arith

  pub conditions_low : (n k : ℕ) → k < state_count S → (x : Name) → IsCondition S k x → number x n < 2
  conditions_low n k h x Decoded = at_low n k h
  conditions_low n k h x (Gated z y there) = subst (λ v. v < 2) (sym (gated x k n y there)) (bit_low (number (name (At k)) n) (number (name y) n) (at_low n k h))

  -- so a choice has what the state gives it
  pub any_on : (c : Choice) → IsAmong (any_elements (front c) (entries S c)) (all S) → (n k : ℕ) → k < state_count S → (e : Entry) → Has (effect S c k) e → number e.condition n ≡ 1
      → number (choice (front c) (entries S c)) n ≡ 1
  any_on c among n k h e has is =
      any_set title (task_elements S) run f (front c) (entries S c) among n
      (λ d i. let r = of_each (effect S c) (state_count S) d i in conditions_low n r.0 r.1 d.condition (own S r.0 r.1 c d r.2))
      e (has_each (effect S c) (state_count S) k e h has) is

  pub any_off : (c : Choice) → IsAmong (any_elements (front c) (entries S c)) (all S) → (n k : ℕ) → number (name State) n ≡ k → 0 < length (entries S c)
      → ((d : Entry) → Has (effect S c k) d → number d.condition n ≡ 0) → number (choice (front c) (entries S c)) n ≡ 0
  any_off c among n k at some none =
      any_clear title (task_elements S) run f (front c) (entries S c) among n some
      (λ d i.
      let r = of_each (effect S c) (state_count S) d i in
      ⊎_elim (λ e. none d (subst (λ j. Has (effect S c j) d) (sym e) r.2)) (λ e. others_off n r.0 r.1 (λ s. e (sym at ∙ s)) d.condition (own S r.0 r.1 c d r.2)) (cases_eq k r.0))

  pub pick_on : (c : Choice) (w : ℕ) → IsAmong (pick_elements w (front c) (entries S c)) (all S) → (n k a : ℕ) → number (name State) n ≡ k → k < state_count S
      → ((d : Entry) → Has (effect S c k) d → (number d.condition n ≡ 1 → ⊥) ⊎ (atom_value (run n) d.value ≡ a)) → (e : Entry) → Has (effect S c k) e → number e.condition n ≡ 1
      → number (choice (front c) (entries S c)) n ≡ a
  pick_on c w among n k a at h each_is e has is =
      pick_chosen title (task_elements S) run f w (front c) (entries S c) among n a
      (λ d i.
      let r = of_each (effect S c) (state_count S) d i in
      ⊎_elim (λ s. each_is d (subst (λ j. Has (effect S c j) d) (sym s) r.2))
      (λ s. inl (λ one. zero_is_not_one (sym (others_off n r.0 r.1 (λ t. s (sym at ∙ t)) d.condition (own S r.0 r.1 c d r.2)) ∙ one)))
      (cases_eq k r.0))
      e (has_each (effect S c) (state_count S) k e h has) is
