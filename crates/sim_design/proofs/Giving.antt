-- Slots that are given from outside, as a tape grows.
use Rattle.std.proofs.Common.{◌≡◌, ℕ, zero, suc, ◌<◌, ◌≤◌, true, false, List, [], ◌∷◌, ◌++◌, Option, Some, None, length, get_or, inl, inr, sym, ap, subst, ◌∙◌, arith}
use Rattle.std.specs.Prelude.{◌⊎◌, IfSome, IsSome, is_some}
use Rattle.std.proofs.lemmas.Bool.{cases_eq, cases_lt}
use Rattle.std.proofs.lemmas.List.{get_or_append_left, get_or_push, get_or_past, length_push}
use Rattle.vlog_tree.specs.Form.{ModuleTree}
use Rattle.vlog_tree.specs.Flattened.{FlatNet}
use Rattle.vlog_tree.specs.Cycle.{module_at}
use Rattle.vlog_tree.specs.Table.{is_clk, declared, net_kind_of, net_kind_is_read, bits_of}
use Rattle.std.proofs.lemmas.Option.{same_Some}
use Rattle.tapa_base.proofs.Lists.{some_of}
use Rattle.sim_tape.specs.declared.gates.Pair.{Pair}
use Rattle.sim_tape.specs.declared.gates.Gate.{Gate}
use Rattle.sim_tape.specs.declared.gates.Rule.TheVariants.{Given, Constant}
use Rattle.sim_tape.specs.Tape.{TapeTree, IsTape, Extends, PairBefore, gate_at}
use Rattle.sim_tape.proofs.Growing.{pair_later, slot_on}
use Rattle.sim_gates.specs.Nets.{SlotsBefore}
use Rattle.sim_gates.proofs.AtomSlots.{some_is}
use Rattle.sim_flat.specs.declared.flat.Flat.{Flat}
use Rattle.sim_flat.specs.Flat.{HasNumber}
use Rattle.sim_design.specs.States.{IsFree, AreRead}
use Rattle.sim_design.specs.Placed.{AreFree, AllFree, AreKept}
use Rattle.sim_design.specs.Given.{IsGivenSlot, IsGivenPair, HaveOwnSlots, IsBehind, HaveOwn, IsGivenNet, AreGivenNets, AreGiven}

-- slot 0 is a constant
positive : (t : TapeTree) → IsTape t → (s : ℕ) → (gate_at t.gates s).rule ≡ Given → 0 < s
positive t tape zero g = let clash : Constant ≡ Given = sym (ap (λ (g : Gate). g.rule) tape.zero_first) ∙ g in cc
positive t tape (suc s) g = omega arith

pub is_given_slot : (t : TapeTree) → IsTape t → (s : ℕ) → s < length t.gates → (gate_at t.gates s).rule ≡ Given → IsGivenSlot t s
is_given_slot t tape s low g = (positive t tape s g, low, g)

module _ (s t : TapeTree) (g : Extends s t) where
  pub slot_given_on : (i : ℕ) → IsGivenSlot s i → IsGivenSlot t i
  slot_given_on i h = (h.0, slot_on s t i g h.1, ap (λ (q : Gate). q.rule) (g.grows.same_gates i h.1) ∙ h.2)

  slots_given_on : (bits : ℕ) (p : Pair) → IsGivenPair s bits p → IsGivenPair t bits p
  slots_given_on bits p h = (slot_given_on p.low h.0, elim h.1 [ inl e ↦ inl e | inr e ↦ inr (e.0, slot_given_on p.high e.1, e.2) ])

  module _ (ms : List ModuleTree) (top : ModuleTree) where
    net_given_on : (n : FlatNet) (p : Pair) → IsGivenNet ms top n s p → IsGivenNet ms top n t p
    net_given_on n p h = record { tree = h.tree; at = h.at; free = h.free; clock = h.clock; given = slots_given_on (bits_of (declared h.tree) n.1) p h.given }

    module _ (f : Flat) (pairs : List (Option Pair)) (pair : Option Pair) where
      past : (i : ℕ) → length pairs ≤ i → (i ≡ length pairs → ⊥) → get_or (pairs ++ pair ∷ []) i None ≡ None
      past i h ne = get_or_past (pairs ++ pair ∷ []) i None (let long = length_push pairs pair in omega arith)

      pub given_more : AreGivenNets ms top f pairs s → ((n : FlatNet) → HasNumber ms f (length pairs) n → IfSome pair (λ p. IsGivenNet ms top n t p)) → AreGivenNets ms top f (pairs ++ pair ∷ []) t
      given_more was here i n p h got = elim (cases_lt i (length pairs)) [
        | inl lt ↦ net_given_on n p (was i n p h (sym (get_or_append_left pairs (pair ∷ []) None i lt) ∙ got))
        | inr ge ↦ elim (cases_eq i (length pairs)) [
          | inl e ↦ some_is (λ p. IsGivenNet ms top n t p) pair p (sym (get_or_push pairs pair None i (sym e)) ∙ got) (here n (subst (λ k. HasNumber ms f k n) e h))
          | inr ne ↦ let clash : None ≡ Some p = sym (past i ge ne) ∙ got in cc
        ]
      ]

-- the slots of one more pair come before a place, too
pub slots_more : (pairs : List (Option Pair)) (pair : Option Pair) (m n : ℕ) → m ≤ n → SlotsBefore pairs m → IfSome pair (λ p. PairBefore n p) → SlotsBefore (pairs ++ pair ∷ []) n
slots_more pairs pair m n le slots here i p got = elim (cases_lt i (length pairs)) [
  | inl lt ↦ pair_later m n p le (slots i p (sym (get_or_append_left pairs (pair ∷ []) None i lt) ∙ got))
  | inr ge ↦ elim (cases_eq i (length pairs)) [
    | inl e ↦ some_is (λ p. PairBefore n p) pair p (sym (get_or_push pairs pair None i (sym e)) ∙ got) here
    | inr ne ↦
        let none : get_or (pairs ++ pair ∷ []) i None ≡ None = get_or_past (pairs ++ pair ∷ []) i None (let long = length_push pairs pair in omega arith) in
        let clash : None ≡ Some p = sym none ∙ got in cc
  ]
]

pub none_given : (ms : List ModuleTree) (top : ModuleTree) (f : Flat) (t : TapeTree) → AreGivenNets ms top f [] t
none_given ms top f t i n p h got = let clash : None ≡ Some p = got in cc

pub no_slots : (n : ℕ) → SlotsBefore [] n
no_slots n i p got = let clash : None ≡ Some p = got in cc

-- a pair of new slots has none in common with one of slots before them
new_after : (m : ℕ) (p q : Pair) → 0 < p.low → PairBefore m p → IsBehind m q → HaveOwnSlots p q
new_after m p q some before behind =
    let low : p.low < m = before.0 in
    let high : p.high < m = before.1 in
    let from : m ≤ q.low = behind.0 in (
      (λ e. let s : p.low ≡ q.low = e in absurd (omega arith)),
      elim behind.1 [ inl z ↦ (λ e. let s : p.low ≡ q.high = e in absurd (omega (arith, z))) | inr ge ↦ (λ e. let s : p.low ≡ q.high = e in absurd (omega (arith, ge))) ],
      (λ e. let s : p.high ≡ q.low = e in absurd (omega arith)),
      elim behind.1 [
        | inl z ↦ elim (cases_eq p.high 0) [ inl e ↦ inl e | inr ne ↦ inr (λ e. ne (e ∙ z)) ]
        | inr ge ↦ inr (λ e. let s : p.high ≡ q.high = e in absurd (omega (arith, ge)))
      ],
    )

own_turned : (p q : Pair) → HaveOwnSlots p q → HaveOwnSlots q p
own_turned p q h = (
  (λ e. h.0 (sym e)),
  (λ e. h.2 (sym e)),
  (λ e. h.1 (sym e)),
  elim (cases_eq q.high 0) [
    | inl e ↦ inl e
    | inr ne ↦ inr (λ e. elim h.3 [ inl z ↦ ne (e ∙ z) | inr other ↦ other (sym e) ])
  ],
)

module _ (pairs : List (Option Pair)) (pair : Option Pair) (m : ℕ) (slots : SlotsBefore pairs m) (behind : IfSome pair (λ p. IsBehind m p)) (zero_before : 0 < m) (was : HaveOwn pairs) where
  abbrev more : List (Option Pair)
  more = pairs ++ pair ∷ []

  -- a pair among them is one of the former or the new one
  among : (i : ℕ) (p : Pair) → get_or more i None ≡ Some p → (get_or pairs i None ≡ Some p) ⊎ ((i ≡ length pairs) × (pair ≡ Some p))
  among i p got = elim (cases_lt i (length pairs)) [
    | inl lt ↦ inl (sym (get_or_append_left pairs (pair ∷ []) None i lt) ∙ got)
    | inr ge ↦ elim (cases_eq i (length pairs)) [
      | inl e ↦ inr (e, sym (get_or_push pairs pair None i (sym e)) ∙ got)
      | inr ne ↦
          let none : get_or more i None ≡ None = get_or_past more i None (let long = length_push pairs pair in omega arith) in
          let clash : None ≡ Some p = sym none ∙ got in cc
    ]
  ]

  new_one : (p : Pair) → pair ≡ Some p → IsBehind m p
  new_one p e = some_is (λ p. IsBehind m p) pair p e behind

  some_more : (p : Pair) → IsBehind m p → 0 < p.low
  some_more p b = let ge : m ≤ p.low = b.0 in omega arith

  pub own_more : HaveOwn more
  own_more = record {
    some = λ i p got. elim (among i p got) [ inl old ↦ was.some i p old | inr new ↦ some_more p (new_one p new.1) ];
    own = λ i j p q ne got other. elim (among i p got) [
      | inl old ↦ elim (among j q other) [ inl o ↦ was.own i j p q ne old o | inr o ↦ new_after m p q (was.some i p old) (slots i p old) (new_one q o.1) ]
      | inr new ↦ elim (among j q other) [
        | inl o ↦ own_turned q p (new_after m q p (was.some j q o) (slots j q o) (new_one p new.1))
        | inr o ↦ absurd (ne (new.0 ∙ sym o.0))
      ]
    ];
  }

pub none_own : HaveOwn []
none_own = record { some = λ i p got. (let clash : None ≡ Some p = got in cc); own = λ i j p q ne got other. (let clash : None ≡ Some p = got in cc) }

-- all nets of some numbers that have their numbers from no other net have pairs
abbrev pub AllFreeBelow : List ModuleTree → ModuleTree → Flat → List (Option Pair) → Type 0
AllFreeBelow ms top f pairs = (i : ℕ) (n : FlatNet) → i < length pairs → HasNumber ms f i n → IsFree ms top n → is_clk n.1 ≡ false → IsSome (get_or pairs i None)

module _ (ms : List ModuleTree) (top : ModuleTree) (f : Flat) where
  pub none_free : AllFreeBelow ms top f []
  none_free i n low h free clock = absurd (omega (arith, low))

  pub all_more : (pairs : List (Option Pair)) (pair : Option Pair) → AllFreeBelow ms top f pairs → ((n : FlatNet) → HasNumber ms f (length pairs) n → IsFree ms top n → is_clk n.1 ≡ false → IsSome pair) → AllFreeBelow ms top f (pairs ++ pair ∷ [])
  all_more pairs pair was here i n low h free clock = elim (cases_lt i (length pairs)) [
    | inl lt ↦ ap is_some (get_or_append_left pairs (pair ∷ []) None i lt) ∙ was i n lt h free clock
    | inr ge ↦
        let long = length_push pairs pair in
        let same : i ≡ length pairs = omega (arith, ge, low) in
        ap is_some (get_or_push pairs pair None i (sym same)) ∙ here n (subst (λ k. HasNumber ms f k n) same h) free clock
  ]

  -- given nets are such that have their numbers from no other net, and can be read
  module _ (pairs : List (Option Pair)) (t : TapeTree) (nets : AreGivenNets ms top f pairs t) where
    pub given_free : AreFree ms top f pairs
    given_free number n p h got = (nets number n p h got).free

    pub given_read : AreRead ms top f pairs
    given_read number n m p h at got =
        let i = nets number n p h got in
        let same : i.free.tree ≡ m = same_Some i.free.tree m (sym i.free.at ∙ at) in
        let read : net_kind_is_read (net_kind_of (declared i.free.tree) n.1) ≡ true = elim i.free.by [ inl r ↦ ap net_kind_is_read r | inr q ↦ ap net_kind_is_read q.1 ] in
        (subst (λ (k : ModuleTree). net_kind_is_read (net_kind_of (declared k) n.1) ≡ true) same read, i.clock)

  -- pairs that stay among more ones, where clocks have none
  module _ (old new : List (Option Pair)) (s t : TapeTree) (g : Extends s t) (nets : AreGivenNets ms top f old s) (own : HaveOwn old) (all : AllFree ms top f old) (kept : AreKept old new) (read : AreRead ms top f new) where
    was_there : (number : ℕ) (n : FlatNet) (p : Pair) → HasNumber ms f number n → IsFree ms top n → get_or new number None ≡ Some p → get_or old number None ≡ Some p
    was_there number n p h free got =
        let q = some_of (get_or old number None) (all number n h free (read number n free.tree p h free.at got).1) in
        q.1 ∙ ap (λ z. Some z) (same_Some q.0 p (sym (kept number q.0 q.1) ∙ got))

    given_net : (number : ℕ) (n : FlatNet) (m : ModuleTree) (p : Pair) → HasNumber ms f number n → module_at ms top n.0 ≡ Some m → IsFree ms top n → get_or new number None ≡ Some p → IsGivenPair t (bits_of (declared m) n.1) p
    given_net number n m p h at free got =
        let i = nets number n p h (was_there number n p h free got) in
        let same : i.tree ≡ m = same_Some i.tree m (sym i.at ∙ at) in
        slots_given_on s t g (bits_of (declared m) n.1) p (subst (λ (k : ModuleTree). IsGivenPair s (bits_of (declared k) n.1) p) same i.given)

    pub are_given : AreGiven ms top f new t
    are_given = record {
      given = λ number n m p h at free got. given_net number n m p h at free got;
      own = λ number other n k p q h e free also ne got and. own.own number other p q ne (was_there number n p h free got) (was_there other k q e also and);
    }
