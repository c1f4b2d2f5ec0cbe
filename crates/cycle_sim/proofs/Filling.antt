-- The registers of a design by their nets' numbers, and their slots in the first cycle.
use Rattle.std.proofs.Common.{◌≡◌, ◌≢◌, ℕ, ◌+◌, ◌%◌, ◌^◌, ◌<◌, true, List, Option, Some, None, length, get_or, inl, inr, refl, sym, ap, subst, ◌∙◌, arith}
use Rattle.std.specs.Prelude.{◌⊎◌, slice_get}
use Rattle.std.proofs.lemmas.Bool.{cases_eq, cases_lt}
use Rattle.std.proofs.lemmas.List.{get_or_past}
use Rattle.std.proofs.lemmas.Option.{same_Some}
use Rattle.vlog_tree.specs.declared.tree.Item.TheVariants.{Reg}
use Rattle.vlog_tree.specs.declared.table.Declaration.{Declaration}
use Rattle.vlog_tree.specs.declared.table.NetKind.{NetKind}
use Rattle.vlog_tree.specs.declared.table.NetKind.TheVariants.{Unknown, Input as InputKind, Output, WireNet, Register, MemoryArray, ChildInstance}
use Rattle.vlog_tree.specs.Form.{ModuleTree}
use Rattle.tapa_base.specs.Lists.{Has}
use Rattle.vlog_tree.specs.Flattened.{FlatNet}
use Rattle.vlog_tree.specs.Cycle.{module_at}
use Rattle.vlog_tree.specs.Table.{declared, find_name, net_kind_of, net_kind_is_register, bits_of}
use Rattle.tapa_base.proofs.Lists.{has_got}
use Rattle.vlog_run_laws.proofs.runs.Alone.{stands_for}
use Rattle.vlog_run_laws.proofs.runs.Settled.{module_in}
use Rattle.vlog_run_laws.proofs.runs.Sizes.{has_line}
use Rattle.sim_tape.specs.declared.gates.Pair.{Pair}
use Rattle.sim_tape.specs.Operators.{Cells}
use Rattle.sim_tape.specs.Tape.{number_at, pair_value}
use Rattle.sim_tape.specs.Solved.{IsSolved, SameGiven}
use Rattle.sim_flat.specs.declared.flat.Flat.{Flat}
use Rattle.sim_flat.specs.Flat.{IsFlat, HasNumber}
use Rattle.sim_flat.proofs.Standing.{in_top, net_of}
use Rattle.sim_design.proofs.Numbering.{declaration_is}
use Rattle.sim_design.specs.States.{IsFree}
use Rattle.sim_design.specs.Given.{HaveOwnSlots, IsGivenPair}
use Rattle.cycle_sim.specs.declared.inputs.Input.{Input}
use Rattle.cycle_sim.specs.Firsts.{IsHeldAt, AreHeld}
use Rattle.cycle_sim.specs.Steps.{IsAway, PairHas}
use Rattle.cycle_sim.specs.declared.parts.Parts.{Parts}
use Rattle.cycle_sim.specs.Wholes.{AreParts}
use Rattle.cycle_sim.proofs.Numbering.{tree_at}
use Rattle.cycle_sim.proofs.Stepping.{given_pair, pair_room, register_away}

-- a register that the code found, as a net
pub record IsRegisterNet (ms : List ModuleTree) (top : ModuleTree) (f : Flat) (number bits : ℕ) : Type 0 where
  pub net : FlatNet
  pub has_number : HasNumber ms f number net
  pub tree : ModuleTree
  pub at : module_at ms top net.0 ≡ Some tree
  pub is_register : net_kind_of (declared tree) net.1 ≡ Register
  pub wide : bits_of (declared tree) net.1 ≡ bits

pub register_is : (k : NetKind) → net_kind_is_register k ≡ true → k ≡ Register
register_is Unknown h = cc
register_is InputKind h = cc
register_is Output h = cc
register_is WireNet h = cc
register_is Register h = refl
register_is MemoryArray h = cc
register_is ChildInstance h = cc

pub same_held : (p q : Pair) (b c : ℕ) → ◌≡◌ {A = Option (Pair × ℕ)} (Some (p, b)) (Some (q, c)) → (p ≡ q) × (b ≡ c)
same_held p q b c e =
    let x : Pair × ℕ = (p, b) in
    let y : Pair × ℕ = (q, c) in
    let same : x ≡ y = same_Some x y e in
    (ap (λ (z : Pair × ℕ). z.0) same, ap (λ (z : Pair × ℕ). z.1) same)

-- a number with a pair is one of the pairs
pub below : (pairs : List (Option Pair)) (number : ℕ) (p : Pair) → get_or pairs number None ≡ Some p → number < length pairs
below pairs number p e = elim (cases_lt number (length pairs)) [ inl lt ↦ lt | inr ge ↦ absurd (let none : None ≡ Some p = sym (get_or_past pairs number None ge) ∙ e in cc) ]

-- slots of its own
pub away_of : (p q : Pair) → HaveOwnSlots p q → IsAway p.low q × ((p.high ≡ 0) ⊎ IsAway p.high q)
away_of p q h = ((h.0, inr h.1), elim h.3 [ inl z ↦ inl z | inr y ↦ inr (h.2, inr y) ])

module _ (ms : List ModuleTree) (top : ModuleTree) (f : Flat) (flat : IsFlat ms top f) where
  in_ms : (number : ℕ) (n : FlatNet) (h : HasNumber ms f number n) → Has ms h.at.tree
  in_ms number n h = module_in ms top (in_top ms top f flat) n.0 h.at.tree (tree_at ms top f flat number n h)

  stands_here : (number : ℕ) (n : FlatNet) (h : HasNumber ms f number n) → find_name (declared h.at.tree) h.at.declared_at.0.name ≡ h.at.declared_at.0
  stands_here number n h = stands_for ms flat.design.sound.names h.at.tree (in_ms number n h) h.at.declared_at.0 (has_got (declared h.at.tree) h.place h.at.declared_at.0 h.at.declared_at.1)

  pub held_net : (pairs : List (Option Pair)) → length pairs ≡ length f.owners.items → (number bits : ℕ) (p : Pair) → IsHeldAt f pairs number bits p → IsRegisterNet ms top f number bits
  held_net pairs count number bits p h =
      let low : number < length pairs = below pairs number p h.placed in
      let n = net_of ms top f flat number (omega arith) in
      let m : ModuleTree = n.1.at.tree in
      let d : Declaration = n.1.at.declared_at.0 in
      let same : d ≡ h.declaration = same_Some d h.declaration (sym (declaration_is ms top f flat number n.0 n.1) ∙ h.named) in
      let is : find_name (declared m) n.0.1 ≡ h.declaration = ap (find_name (declared m)) (sym n.1.at.declared_at.2) ∙ stands_here number n.0 n.1 ∙ same in
      record {
        net = n.0;
        has_number = n.1;
        tree = m;
        at = tree_at ms top f flat number n.0 n.1;
        is_register = ap (λ (d : Declaration). d.net_kind) is ∙ h.is_register;
        wide = ap (λ (d : Declaration). d.bits) is ∙ h.wide;
      }

  pub register_held : (pairs : List (Option Pair)) (number : ℕ) (n : FlatNet) (m : ModuleTree) (w : ℕ) (p : Pair) → HasNumber ms f number n → module_at ms top n.0 ≡ Some m → Has m.items (Reg w n.1) → get_or pairs number None ≡ Some p → IsHeldAt f pairs number w p
  register_held pairs number n m w p h at line e =
      let d : Declaration = h.at.declared_at.0 in
      let r : Declaration = record { name = n.1; net_kind = Register; bits = w; cells = 0 } in
      let tree : h.at.tree ≡ m = same_Some h.at.tree m (sym (tree_at ms top f flat number n h) ∙ at) in
      let there : Has ms m = subst (λ (q : ModuleTree). Has ms q) tree (in_ms number n h) in
      let one : find_name (declared m) d.name ≡ d = subst (λ (q : ModuleTree). find_name (declared q) d.name ≡ d) tree (stands_here number n h) in
      let two : find_name (declared m) n.1 ≡ r = stands_for ms flat.design.sound.names m there r (has_line m ms flat.design.sound.names there (Reg w n.1) line r (inl refl)) in
      let same : d ≡ r = sym one ∙ ap (find_name (declared m)) h.at.declared_at.2 ∙ two in
      record { declaration = d; named = declaration_is ms top f flat number n h; is_register = ap (λ (d : Declaration). d.net_kind) same; wide = ap (λ (d : Declaration). d.bits) same; placed = e }

-- one more register has its number
module _ (f : Flat) (pairs : List (Option Pair)) (fill i room : ℕ) (are : AreHeld f pairs room) (now new : List ℕ)
    (value : (bits : ℕ) (p : Pair) → IsHeldAt f pairs i bits p → PairHas new p (fill % 2 ^ bits))
    (kept : (k : ℕ) → ((bits : ℕ) (p : Pair) → IsHeldAt f pairs i bits p → IsAway k p) → number_at new k ≡ number_at now k)
    (before : (j bits : ℕ) (p : Pair) → j < i → IsHeldAt f pairs j bits p → PairHas now p (fill % 2 ^ bits)) where
  old_kept : (j bits : ℕ) (p : Pair) → (j ≢ i) → IsHeldAt f pairs j bits p → PairHas now p (fill % 2 ^ bits) → PairHas new p (fill % 2 ^ bits)
  old_kept j bits p ne h has = (
    kept p.low (λ b q g. (away_of p q (are.own j i bits b p q ne h g)).0) ∙ has.0,
    elim (cases_eq p.high 0) [
      | inl z ↦ inl z
      | inr pos ↦ elim has.1 [
        | inl z ↦ inl z
        | inr e ↦ inr (kept p.high (λ b q g. elim (away_of p q (are.own j i bits b p q ne h g)).1 [ inl z ↦ absurd (pos z) | inr y ↦ y ]) ∙ e)
      ]
    ],
  )

  pub filled_more : (j bits : ℕ) (p : Pair) → j < i + 1 → IsHeldAt f pairs j bits p → PairHas new p (fill % 2 ^ bits)
  filled_more j bits p low h = elim (cases_eq j i) [
    | inl e ↦ value bits p (subst (λ k. IsHeldAt f pairs k bits p) e h)
    | inr ne ↦ old_kept j bits p ne h (before j bits p (omega arith) h)
  ]

module _ (whole : Parts) (are : AreParts whole) where
  open whole use {design.{modules as ms}, flat as f, machine.{pairs.{items as pairs}, program as t}, around.{inputs.{items as inputs}}}
  open are use {top, machine}

  free : (number bits : ℕ) (r : IsRegisterNet ms top f number bits) → IsFree ms top r.net
  free number bits r = record { tree = r.tree; at = r.at; by = inl r.is_register }

  pub net_held : (number bits : ℕ) (p : Pair) → IsHeldAt f pairs number bits p → IsRegisterNet ms top f number bits
  net_held number bits p h = held_net ms top f machine.flat pairs machine.placed.count number bits p h

  given_held : (number bits : ℕ) (p : Pair) (h : IsHeldAt f pairs number bits p) (r : IsRegisterNet ms top f number bits) → IsGivenPair t (bits_of (declared r.tree) r.net.1) p
  given_held number bits p h r = machine.given.given number r.net r.tree p r.has_number r.at (free number bits r) h.placed

  -- registers have slots of their own
  pub are_held : AreHeld f pairs (length t.gates)
  are_held = record {
    room = λ number bits p h.
        let r = net_held number bits p h in
        pair_room whole are (bits_of (declared r.tree) r.net.1) p (given_held number bits p h r);
    own = λ i j b c p q ne h g.
        let r = net_held i b p h in
        let s = net_held j c q g in
        machine.given.own i j r.net s.net p q r.has_number s.has_number (free i b r) (free j c s) ne h.placed g.placed;
  }

  -- what a register is given first it has after a pass
  pub held_first : (cells : Cells) (filled_ns given_ns ns : List ℕ) (number bits v : ℕ) (p : Pair) → IsHeldAt f pairs number bits p → PairHas filled_ns p v
      → ((k : ℕ) → ((i : ℕ) (a : Input) → slice_get inputs i ≡ Some a → IsAway k a.pair) → number_at given_ns k ≡ number_at filled_ns k) → IsSolved t cells ns → SameGiven t.gates given_ns ns → pair_value ns p ≡ v
  held_first cells filled_ns given_ns ns number bits v p h has kept solved same =
      let r = net_held number bits p h in
      let g = given_held number bits p h r in
      let away = register_away whole are number r.net r.tree p r.has_number r.at r.is_register h.placed g in
      let still : PairHas given_ns p v = (
        kept p.low (λ i a got. (away i a got).0) ∙ has.0,
        elim (cases_eq p.high 0) [
          | inl z ↦ inl z
          | inr pos ↦ elim has.1 [ inl z ↦ inl z | inr e ↦ inr (kept p.high (λ i a got. elim (away i a got).1 [ inl z ↦ absurd (pos z) | inr y ↦ y ]) ∙ e) ]
        ],
      ) in
      given_pair whole are (bits_of (declared r.tree) r.net.1) p cells given_ns ns v g solved same still
