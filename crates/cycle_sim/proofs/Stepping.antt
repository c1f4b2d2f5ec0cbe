-- What slots and cells show of a run's cycle they show of its next cycle after a step.
use Rattle.std.proofs.Common.{◌≡◌, ◌≢◌, ℕ, zero, suc, ◌+◌, ◌*◌, ◌^◌, ◌<◌, ◌≤◌, Bool, true, false, cond, ◌&&◌, List, [], Some, None, length, get_or, inl, inr, refl, sym, ap, subst, ◌∙◌, arith}
use Rattle.std.specs.Prelude.{◌⊎◌, ◌==◌, slice_get, slice_index_or}
use Rattle.std.proofs.Math.Pow.{pow_mono}
use Rattle.std.proofs.lemmas.Bool.{cases_lt, cases_eq}
use Rattle.std.proofs.lemmas.Bool.Decides.{nat_tests}
use Rattle.std.proofs.lemmas.List.{get_or_past}
use Rattle.std.proofs.lemmas.Option.{unwrap_or-slice_get, slice_get_within}
use Rattle.tapa_base.specs.declared.shape.Port.{Port}
use Rattle.vlog_tree.specs.declared.tree.Item.TheVariants.{Reg, Memory}
use Rattle.vlog_tree.specs.declared.table.NetKind.TheVariants as kind
use Rattle.vlog_tree.specs.Form.{ModuleTree}
use Rattle.tapa_base.specs.Lists.{Has}
use Rattle.vlog_tree.specs.Flattened.{FlatNet}
use Rattle.vlog_tree.specs.Labels.{rdata_of, m_ack, m_we, m_addr, m_wdata}
use Rattle.vlog_tree.specs.Table.{Name, declared, net_kind_of, bits_of}
use Rattle.vlog_tree.specs.Cycle.{Cycle, Path, Takes, module_at, run_items}
use Rattle.vlog_tree.specs.Environment.{Environment, FitsShape, RunsIn, shape_of, cells_at, ready_at, set_cell}
use Rattle.tapa_base.proofs.Lists.{has_got, got_has}
use Rattle.vlog_run_laws.proofs.runs.Settled.{module_in}
use Rattle.vlog_run_laws.proofs.runs.Sizes.{memory_item, register_item, declared_net_kind, has_line}
use Rattle.vlog_run_laws.specs.widths.Widths.{RunFits}
use Rattle.vlog_run_laws.proofs.widths.Fitting.{run_fits}
use Rattle.vlog_run_laws.proofs.widths.Ruled.{widths_in_range}
use Rattle.sim_tape.specs.declared.gates.Pair.{Pair}
use Rattle.sim_tape.specs.declared.gates.Rule.TheVariants.{Given, Constant}
use Rattle.sim_tape.specs.Operators.{Cells, cell_in}
use Rattle.sim_tape.specs.Tape.{gate_value, number_at, pair_value}
use Rattle.sim_tape.specs.Solved.{IsSolved, SameGiven}
use Rattle.sim_gates.specs.declared.writes.Store.{Store}
use Rattle.sim_gates.specs.Next.{cell_after}
use Rattle.sim_flat.specs.Flat.{HasNumber}
use Rattle.sim_flat.proofs.Standing.{in_top, net_of, net_single}
use Rattle.sim_design.specs.declared.drafts.Commit.{Commit}
use Rattle.sim_design.specs.Valuations.{IsLawful, IsValuation}
use Rattle.sim_design.specs.States.{IsFree, HasCellsOf, CellsAre}
use Rattle.sim_design.specs.Given.{IsGivenSlot, IsGivenPair}
use Rattle.cycle_sim.specs.declared.inputs.Supply.{Supply}
use Rattle.cycle_sim.specs.declared.inputs.Supply.TheVariants.{Reset, Scalar, Ready}
use Rattle.cycle_sim.specs.declared.inputs.Input.{Input}
use Rattle.cycle_sim.specs.declared.cells.Outside.{Outside}
use Rattle.cycle_sim.specs.Steps.{IsAway, PairHas, HasRoom, HaveSlots, supplied, stored_all, is_one, outside_list}
use Rattle.cycle_sim.specs.declared.parts.Parts.{Parts}
use Rattle.cycle_sim.specs.Machines.{IsSuppliedBy, IsInput, IsPairOf, IsOutside, HasCells, IsShown}
use Rattle.cycle_sim.specs.Wholes.{AreParts}
use Rattle.cycle_sim.proofs.Numbering.{tree_at}
use Rattle.cycle_sim.proofs.Telling.{cells_are, cell_is}
use Rattle.cycle_sim.proofs.Storing.{AreApart, set_past, all_length, all_stay, all_stores}
use Rattle.tapa_base.proofs.Got.{all_at}
use Rattle.tapa_base.proofs.Tests.{zero_one}

-- a number of at most 64 bits has no high half
no_high : (h l v : ℕ) → v ≡ h * 2 ^ 64 + l → v < 2 ^ 64 → h ≡ 0
no_high zero l v e low = refl
no_high (suc h) l v e low =
    let m : suc h * 2 ^ 64 ≡ 2 ^ 64 + h * 2 ^ 64 = omega arith in absurd (omega arith)

pub low_alone : (ns : List ℕ) (p : Pair) (v : ℕ) → number_at ns p.high ≡ 0 → number_at ns p.low ≡ v → pair_value ns p ≡ v
low_alone ns p v h l = let z : 0 * 2 ^ 64 + number_at ns p.low ≡ number_at ns p.low = omega arith in ap (λ z. z * 2 ^ 64 + number_at ns p.low) h ∙ z ∙ l

-- whether a pair has the number 1
pub one_test : (ns : List ℕ) (p : Pair) → (pair_value ns p == 1) ≡ is_one ns p
one_test ns p = by_high (cases_eq (number_at ns p.high) 0) where
  by_high : (number_at ns p.high ≡ 0) ⊎ (number_at ns p.high ≢ 0) → (pair_value ns p == 1) ≡ is_one ns p
  by_high (inl e) =
      let t : (number_at ns p.high == 0) ≡ true = grind (arith, nat_tests) in
      ap (λ z. z == 1) (low_alone ns p (number_at ns p.low) e refl) ∙ ap (λ b. b && (number_at ns p.low == 1)) (sym t)
  by_high (inr ne) =
      let t : (number_at ns p.high == 0) ≡ false = grind (arith, nat_tests) in
      let big : pair_value ns p ≢ 1 = λ e. ne (no_high (number_at ns p.high) (number_at ns p.low) 1 (sym e) (omega arith)) in
      let f : (pair_value ns p == 1) ≡ false = grind (arith, nat_tests) in
      f ∙ ap (λ b. b && (number_at ns p.low == 1)) (sym t)

module _ (whole : Parts) (are : AreParts whole) where
  open whole use {design.{modules as ms}, flat as f, machine.{pairs.{items as pairs}, memories.{items as memories}, program as t, commits.{items as commits}, stores.{items as stores}}, around.{inputs.{items as inputs}, outside.{items as outside}}, scalars.{items as scalars}}
  open are use {top, machine, around.{inputs as given, outside as around}}

  abbrev HasTop : FlatNet → ModuleTree → Type 0
  HasTop n m = module_at ms top n.0 ≡ Some m

  in_ms : (path : Path) (m : ModuleTree) → module_at ms top path ≡ Some m → Has ms m
  in_ms path m at = module_in ms top (in_top ms top f machine.flat) path m at

  -- slot 0 is 0
  pub slot_zero : (cells : Cells) (ns : List ℕ) → IsSolved t cells ns → number_at ns 0 ≡ 0
  slot_zero cells ns s = s.slots 0 machine.tape.some (λ e. not_given (ap (λ g. g.rule) (sym machine.tape.zero_first) ∙ e)) ∙ ap (λ g. gate_value t.wides cells g ns) machine.tape.zero_first where
    not_given : Constant ≡ Given → ⊥
    not_given e = cc

  -- the numbers of a pair's slots
  pub given_pair : (bits : ℕ) (p : Pair) (cells : Cells) (old ns : List ℕ) (v : ℕ) → IsGivenPair t bits p → IsSolved t cells ns → SameGiven t.gates old ns → PairHas old p v → pair_value ns p ≡ v
  given_pair bits p cells old ns v g s same h = low_alone ns p v (high g.1 h.1) (same p.low g.0.2 g.0.1 ∙ h.0) where
    high : ((bits ≤ 64) × (p.high ≡ 0)) ⊎ ((64 < bits) × IsGivenSlot t p.high × (p.low ≢ p.high)) → (p.high ≡ 0) ⊎ (number_at old p.high ≡ 0) → number_at ns p.high ≡ 0
    high (inl z) w = ap (number_at ns) z.1 ∙ slot_zero cells ns s
    high (inr k) (inl z) = ap (number_at ns) z ∙ slot_zero cells ns s
    high (inr k) (inr e) = same p.high k.1.2 k.1.1 ∙ e

  -- an input of the top is no register, and what it is given has slots of its own
  pub input_free : (number : ℕ) (a : Input) → IsInput ms top f pairs scalars number a → (x : Name) × HasNumber ms f number ([], x) × IsFree ms top ([], x)
  input_free number a i = (i.name, i.has_number, record { tree = top; at = refl; by = inr (refl, i.net_kind, i.no_answer) })

  register_apart : (number other : ℕ) (n : FlatNet) (m : ModuleTree) (a : Input) → HasNumber ms f number n → HasTop n m → net_kind_of (declared m) n.1 ≡ kind.Register → IsInput ms top f pairs scalars other a → number ≢ other
  register_apart number other n m a h at r i e =
      let same : n ≡ ([], i.name) = net_single ms top f machine.flat number n ([], i.name) h (subst (λ z. HasNumber ms f z ([], i.name)) (sym e) i.has_number) in
      let here : Some m ≡ Some top = sym at ∙ ap (λ (k : FlatNet). module_at ms top k.0) same in
      let tree : m ≡ top = cc here in
      let two : kind.Register ≡ kind.Input = sym r ∙ ap (λ (q : ModuleTree). net_kind_of (declared q) n.1) tree ∙ ap (λ (k : FlatNet). net_kind_of (declared top) k.1) same ∙ i.net_kind in
      cc two

  -- a register's slots are none of an input's
  pub register_away : (number : ℕ) (n : FlatNet) (m : ModuleTree) (p : Pair) → HasNumber ms f number n → HasTop n m → net_kind_of (declared m) n.1 ≡ kind.Register → get_or pairs number None ≡ Some p → IsGivenPair t (bits_of (declared m) n.1) p
      → (i : ℕ) (a : Input) → slice_get inputs i ≡ Some a → IsAway p.low a.pair × ((p.high ≡ 0) ⊎ IsAway p.high a.pair)
  register_away number n m p h at r e g i a got =
      let k = given.each i a got in
      let free : IsFree ms top n = record { tree = m; at = at; by = inl r } in
      let x = input_free k.0 a k.1 in
      let own = machine.given.own k.0 number ([], x.0) n a.pair p x.1 h x.2 free (λ e. register_apart number k.0 n m a h at r k.1 (sym e)) k.1.placed e in
      let back = machine.given.own number k.0 n ([], x.0) p a.pair h x.1 free x.2 (register_apart number k.0 n m a h at r k.1) e k.1.placed in
      ((back.0, inr back.1), high back.2 back.3) where
        high : (p.high ≢ a.pair.low) → (p.high ≡ 0) ⊎ (p.high ≢ a.pair.high) → (p.high ≡ 0) ⊎ IsAway p.high a.pair
        high x (inl z) = inl z
        high x (inr y) = inr (x, inr y)

  -- the memory of a store, beside one inside
  store_known : (u : Store) → Has stores u → (i : ℕ) × (u.memory ≡ record { low = length (shape_of top).memories + 2 * i; high = length (shape_of top).memories + 2 * i + 1 })
  store_known u has =
      let k = machine.next.known u has in
      let there : (k.0 < length memories) ⊎ (length memories ≤ k.0) = cases_lt k.0 (length memories) in
      by_case k.0 k.1 there where
        by_case : (number : ℕ) → get_or memories number None ≡ Some u.memory → (number < length memories) ⊎ (length memories ≤ number) → (i : ℕ) × (u.memory ≡ record { low = length (shape_of top).memories + 2 * i; high = length (shape_of top).memories + 2 * i + 1 })
        by_case number e (inr far) = absurd (let none : None ≡ Some u.memory = sym (get_or_past memories number None far) ∙ e in cc)
        by_case number e (inl low) =
            let c : length memories ≡ length f.owners.items = machine.numbered.count in
            let n = net_of ms top f machine.flat number (omega arith) in
            let m : ModuleTree = n.1.at.tree in
            let at = tree_at ms top f machine.flat number n.0 n.1 in
            let line = memory_item m n.0.1 (machine.numbered.only number n.0 m u.memory n.1 at e) in
            let q = machine.numbered.all number n.0 m line.0 line.1 n.1 at line.2 in
            let same : Some u.memory ≡ Some (record { low = length (shape_of top).memories + 2 * q.0; high = length (shape_of top).memories + 2 * q.0 + 1 }) = sym e ∙ q.2 in
            (q.0, cc same)

  known_beside : (u : Store) → Has stores u → (i : ℕ) (q : Pair) → q ≡ record { low = length (shape_of top).memories + 2 * i; high = length (shape_of top).memories + 2 * i + 1 } → (u.memory ≡ q) ⊎ AreApart u.memory q
  known_beside u has i q is = by_case (store_known u has) where
    by_case : (j : ℕ) × (u.memory ≡ record { low = length (shape_of top).memories + 2 * j; high = length (shape_of top).memories + 2 * j + 1 }) → (u.memory ≡ q) ⊎ AreApart u.memory q
    by_case k = elim (cases_eq k.0 i) [
      | inl e ↦ inl (k.1 ∙ ap (λ i. record { low = length (shape_of top).memories + 2 * i; high = length (shape_of top).memories + 2 * i + 1 }) e ∙ sym is)
      | inr ne ↦ (
          let a : u.memory.low ≡ length (shape_of top).memories + 2 * k.0 = ap (λ (p : Pair). p.low) k.1 in
          let b : u.memory.high ≡ length (shape_of top).memories + 2 * k.0 + 1 = ap (λ (p : Pair). p.high) k.1 in
          let c : q.low ≡ length (shape_of top).memories + 2 * i = ap (λ (p : Pair). p.low) is in
          let d : q.high ≡ length (shape_of top).memories + 2 * i + 1 = ap (λ (p : Pair). p.high) is in
          inr (λ e. absurd (omega arith), λ e. absurd (omega arith), λ e. absurd (omega arith), λ e. absurd (omega arith)))
    ]

  store_inside : (u : Store) → Has stores u → (m : ℕ) → m < length (shape_of top).memories → (m ≢ u.memory.low) × (m ≢ u.memory.high)
  store_inside u has m low =
      let k = store_known u has in
      let a : u.memory.low ≡ length (shape_of top).memories + 2 * k.0 = ap (λ (p : Pair). p.low) k.1 in
      let b : u.memory.high ≡ length (shape_of top).memories + 2 * k.0 + 1 = ap (λ (p : Pair). p.high) k.1 in
      (λ e. absurd (omega arith), λ e. absurd (omega arith))

  -- the numbers of a memory inside
  pub memory_numbers : (number : ℕ) (n : FlatNet) (m : ModuleTree) (w k : ℕ) (q : Pair) → HasNumber ms f number n → HasTop n m → Has m.items (Memory w n.1 k) → get_or memories number None ≡ Some q
      → (i : ℕ) × (q ≡ record { low = length (shape_of top).memories + 2 * i; high = length (shape_of top).memories + 2 * i + 1 })
  memory_numbers number n m w k q h at line e =
      let a = machine.numbered.all number n m w k h at line in
      let same : Some q ≡ Some (record { low = length (shape_of top).memories + 2 * a.0; high = length (shape_of top).memories + 2 * a.0 + 1 }) = sym e ∙ a.2 in
      (a.0, cc same)

  few_cells : (path : Path) (m : ModuleTree) (w k : ℕ) (x : Name) → module_at ms top path ≡ Some m → Has m.items (Memory w x k) → k < 2 ^ 64
  few_cells path m w k x at line = let b : k ≤ 1048576 = ((widths_in_range ms machine.flat.design.sound.widths m (in_ms path m at)).cells w x k line).1 in omega arith

  -- memories inside after stores
  module _ (cells next_cells : Cells) (ns : List ℕ) (has : HasCells ms top f memories cells) (behind : (m : ℕ) → length outside ≤ m → get_or next_cells m [] ≡ stored_all ns m (get_or cells m []) stores) where
    behind_all : (number : ℕ) (b : FlatNet) (m : ModuleTree) (w k : ℕ) (q : Pair) → HasNumber ms f number b → HasTop b m → Has m.items (Memory w b.1 k) → get_or memories number None ≡ Some q
        → (get_or next_cells q.low [] ≡ stored_all ns q.low (get_or cells q.low []) stores) × (get_or next_cells q.high [] ≡ stored_all ns q.high (get_or cells q.high []) stores) × (q.low ≢ q.high)
    behind_all number b m w k q h at line e =
        let i = memory_numbers number b m w k q h at line e in
        let low : q.low ≡ length (shape_of top).memories + 2 * i.0 = ap (λ (p : Pair). p.low) i.1 in
        let high : q.high ≡ length (shape_of top).memories + 2 * i.0 + 1 = ap (λ (p : Pair). p.high) i.1 in
        let c : length outside ≡ length (shape_of top).memories = around.count in
        (behind q.low (omega arith), behind q.high (omega arith), λ z. absurd (omega arith))

    pub has_next : HasCells ms top f memories next_cells
    has_next number b m w k q h at line e =
        let p = behind_all number b m w k q h at line e in
        let long = has number b m w k q h at line e in
        let few = few_cells b.0 m w k b.1 at line in (
          ap length p.0 ∙ all_length ns k few q p.2 stores q.low (get_or cells q.low []) ∙ long.0,
          ap length p.1 ∙ all_length ns k few q p.2 stores q.high (get_or cells q.high []) ∙ long.1,
        )

  -- inputs have slots of their own
  input_given : (number : ℕ) (a : Input) → IsInput ms top f pairs scalars number a → (bits : ℕ) × IsGivenPair t bits a.pair
  input_given number a i =
      let x = input_free number a i in
      (bits_of (declared top) i.name, machine.given.given number ([], i.name) top a.pair i.has_number refl (record { tree = top; at = refl; by = inr (refl, i.net_kind, i.no_answer) }) i.placed)

  pub pair_room : (bits : ℕ) (p : Pair) → IsGivenPair t bits p → HasRoom (length t.gates) p
  pair_room bits p g = let h = by_high g.1 in (g.0.1, h.0, h.1) where
    by_high : ((bits ≤ 64) × (p.high ≡ 0)) ⊎ ((64 < bits) × IsGivenSlot t p.high × (p.low ≢ p.high)) → (p.high < length t.gates) × ((p.high ≡ 0) ⊎ (p.low ≢ p.high))
    by_high (inl z) = (subst (λ k. k < length t.gates) (sym z.1) machine.tape.some, inl z.1)
    by_high (inr k) = (k.1.1, inr k.2)

  pub have_slots : HaveSlots (length t.gates) inputs
  have_slots = record {
    room = λ i a got. let k = given.each i a got in let g = input_given k.0 a k.1 in pair_room g.0 a.pair g.1;
    own = λ i j a b before ga gb.
        let k = given.each i a ga in
        let l = given.each j b gb in
        let apart : k.0 ≢ l.0 = λ e. (let same : i ≡ j = given.once i j k.0 a b ga gb k.1 (subst (λ z. IsInput ms top f pairs scalars z b) (sym e) l.1) in absurd (omega arith)) in
        let own = machine.given.own k.0 l.0 ([], k.1.name) ([], l.1.name) a.pair b.pair k.1.has_number l.1.has_number (record { tree = top; at = refl; by = inr (refl, k.1.net_kind, k.1.no_answer) })
        (record { tree = top; at = refl; by = inr (refl, l.1.net_kind, l.1.no_answer) }) apart k.1.placed l.1.placed in
        ((own.0, inr own.1), high a.pair b.pair own.2 own.3);
  } where
    high : (p q : Pair) → (p.high ≢ q.low) → (p.high ≡ 0) ⊎ (p.high ≢ q.high) → (p.high ≡ 0) ⊎ IsAway p.high q
    high p q x (inl z) = inl z
    high p q x (inr y) = inr (x, inr y)

  -- registers that take over have slots
  pub commit_room : (i : ℕ) (a : Commit) → slice_get commits i ≡ Some a → a.slot < length t.gates
  commit_room i a got =
      let s = machine.next.slots a (has_got commits i a got) in
      let line : Has s.tree.items (Reg s.width s.net.1) = s.line in
      let in_tree : Has ms s.tree = in_ms s.net.0 s.tree s.at in
      let reg : net_kind_of (declared s.tree) s.net.1 ≡ kind.Register = declared_net_kind s.tree ms machine.flat.design.sound.names in_tree _ (has_line s.tree ms machine.flat.design.sound.names in_tree (Reg s.width s.net.1) line (record { name = s.net.1; net_kind = kind.Register; bits = s.width; cells = 0 }) (inl refl)) in
      let g = machine.given.given s.number s.net s.tree s.pair s.has_number s.at (record { tree = s.tree; at = s.at; by = inl reg }) s.placed in
      let room = pair_room (bits_of (declared s.tree) s.net.1) s.pair g in
      by_slot s.pair room s.is where
        by_slot : (p : Pair) → HasRoom (length t.gates) p → (a.slot ≡ p.low) ⊎ (a.slot ≡ p.high) → a.slot < length t.gates
        by_slot p room (inl e) = subst (λ k. k < length t.gates) (sym e) room.0
        by_slot p room (inr e) = subst (λ k. k < length t.gates) (sym e) room.1

  -- what inputs are given they have after a pass
  pub given_next : (cells : Cells) (old ns : List ℕ) (ready : List (List Bool)) (n : ℕ) → IsSolved t cells ns → SameGiven t.gates old ns → ((i : ℕ) (a : Input) → slice_get inputs i ≡ Some a → PairHas old a.pair (supplied ready n a.supply))
      → (i : ℕ) (a : Input) → slice_get inputs i ≡ Some a → pair_value ns a.pair ≡ supplied ready n a.supply
  given_next cells old ns ready n s same has i a got =
      let k = given.each i a got in
      let g = input_given k.0 a k.1 in
      given_pair g.0 a.pair cells old ns (supplied ready n a.supply) g.1 s same (has i a got)

  -- a run that is shown
  module _ (env : Environment) (env_fits : FitsShape env (shape_of top)) (nets : ℕ → Path → Cycle) (r : RunsIn ms top env nets) where
    pub fits : RunFits ms top env nets
    fits = run_fits ms machine.flat.top_place top machine.flat.design machine.flat.top_at env env_fits nets r

    -- what a run has in a cycle is allowed
    pub valuation : (n : ℕ) → IsValuation ms top (nets n)
    valuation n = record {
      lines = λ path m at. ((r.runs.each path m at).sizes, record { ports = (r.runs.each path m at).ports; lines = (r.runs.each path m at).lines n });
      connections = r.runs.connections n;
      fits = fits.modules n;
    }

    module _ (n : ℕ) (cells next_cells : Cells) (ns taken_ns given_ns next_ns : List ℕ) (now : IsShown ms top f pairs memories env nets n cells ns) (solved : IsSolved t cells ns)
        (ready : List (List Bool)) (ready_is : env.ready ≡ ready) (kept_inputs : (i : ℕ) (a : Input) → slice_get inputs i ≡ Some a → pair_value ns a.pair ≡ supplied ready n a.supply)
        (has : HasCells ms top f memories cells) (short : (i : ℕ) → length (get_or cells i []) < 2 ^ 64)
        (taken : (i : ℕ) (a : Commit) → slice_get commits i ≡ Some a → number_at taken_ns a.slot ≡ number_at ns a.next)
        (values : (i : ℕ) (a : Input) → slice_get inputs i ≡ Some a → PairHas given_ns a.pair (supplied ready (suc n) a.supply))
        (kept : (k : ℕ) → ((i : ℕ) (a : Input) → slice_get inputs i ≡ Some a → IsAway k a.pair) → number_at given_ns k ≡ number_at taken_ns k)
        (next_solved : IsSolved t next_cells next_ns) (same : SameGiven t.gates given_ns next_ns)
        (asked : (i : ℕ) (o : Outside) → slice_get outside i ≡ Some o → get_or next_cells i [] ≡ outside_list ns o (stored_all ns i (get_or cells i []) stores))
        (behind : (m : ℕ) → length outside ≤ m → get_or next_cells m [] ≡ stored_all ns m (get_or cells m []) stores) where
      register_next : (number : ℕ) (k : FlatNet) (p : Pair) (m : ModuleTree) → HasNumber ms f number k → HasTop k m → IsFree ms top k → net_kind_of (declared m) k.1 ≡ kind.Register → get_or pairs number None ≡ Some p → (nets (suc n) k.0).net k.1 ≡ pair_value next_ns p
      register_next number k p m h at free reg e =
          let line = register_item m k.1 reg in
          let q = machine.next.registers number k m line.0 p h at line.1 e in
          let follows = r.runs.each k.0 m at in
          let law : IsLawful m follows.sizes (nets n k.0) = record { ports = follows.ports; lines = follows.lines n } in
          let takes : (nets (suc n) k.0).net k.1 ≡ (run_items follows.sizes (nets n k.0) m.items (nets n k.0)).net k.1 = all_at (Takes follows.sizes m.items (nets n k.0) (nets (suc n) k.0)) m.items (Reg line.0 k.1) (follows.registers n) line.1 in
          let is : (nets (suc n) k.0).net k.1 ≡ pair_value ns q.0 = takes ∙ q.2 cells ns (nets n) follows.sizes solved (valuation n) now.placed law in
          let g = machine.given.given number k m p h at free e in
          let read = machine.placed.only number k m p h at e in
          let low_fits : (nets (suc n) k.0).net k.1 < 2 ^ bits_of (declared m) k.1 = (fits.modules (suc n) k.0 m at).nets k.1 read.0 read.1 in
          let away : (i : ℕ) (a : Input) → slice_get inputs i ≡ Some a → IsAway p.low a.pair × ((p.high ≡ 0) ⊎ IsAway p.high a.pair) = register_away number k m p h at reg e g in
          let low : number_at next_ns p.low ≡ number_at ns q.0.low =
          same p.low g.0.2 g.0.1 ∙ kept p.low (λ i a got. (away i a got).0) ∙ slot_taken p.low q.0.low q.1.0 in
          is ∙ ap (λ z. z * 2 ^ 64 + number_at ns q.0.low) (sym (high p q.0 (bits_of (declared m) k.1) g.1 q.1.1 away ((nets (suc n) k.0).net k.1) is low_fits)) ∙ ap (λ z. number_at next_ns p.high * 2 ^ 64 + z) (sym low) where
            slot_taken : (slot from : ℕ) → Has commits (record { slot = slot; next = from }) → number_at taken_ns slot ≡ number_at ns from
            slot_taken slot from h = let i = got_has commits (record { slot = slot; next = from }) h in taken i.0 (record { slot = slot; next = from }) i.2

            far : (p : Pair) → 0 < p.high → (i : ℕ) (a : Input) → IsAway p.low a.pair × ((p.high ≡ 0) ⊎ IsAway p.high a.pair) → IsAway p.high a.pair
            far p pos i a w = elim w.1 [ inl z ↦ absurd (omega arith) | inr y ↦ y ]

            high : (p q : Pair) (bits : ℕ) → ((bits ≤ 64) × (p.high ≡ 0)) ⊎ ((64 < bits) × IsGivenSlot t p.high × (p.low ≢ p.high)) → (p.high ≡ 0) ⊎ Has commits (record { slot = p.high; next = q.high })
                → ((i : ℕ) (a : Input) → slice_get inputs i ≡ Some a → IsAway p.low a.pair × ((p.high ≡ 0) ⊎ IsAway p.high a.pair)) → (v : ℕ) → v ≡ pair_value ns q → v < 2 ^ bits → number_at next_ns p.high ≡ number_at ns q.high
            high p q bits (inl z) c away v is low =
                let most : 2 ^ bits ≤ 2 ^ 64 = pow_mono z.0 in
                ap (number_at next_ns) z.1 ∙ slot_zero next_cells next_ns next_solved ∙ sym (no_high (number_at ns q.high) (number_at ns q.low) v is (omega arith))
            high p q bits (inr g) (inl z) away v is low = let pos : 0 < p.high = g.1.0 in absurd (omega arith)
            high p q bits (inr g) (inr c) away v is low = same p.high g.1.2 g.1.1 ∙ kept p.high (λ i a got. far p g.1.0 i a (away i a got)) ∙ slot_taken p.high q.high c

      -- what stands around the design in the next cycle
      supplied_next : (number : ℕ) (x : Name) (p : Pair) (i : ℕ) (a : Input) → HasNumber ms f number ([], x) → get_or pairs number None ≡ Some p → slice_get inputs i ≡ Some a → a.pair ≡ p → (s : Supply) → a.supply ≡ s → IsSuppliedBy top scalars x s → (nets (suc n) []).net x ≡ supplied ready (suc n) s
      supplied_next number x p i a h e got is Reset se by = let later : (suc n == 0) ≡ false = grind (arith, nat_tests) in ap (λ z. (nets (suc n) []).net z) by ∙ r.stands.runs n ∙ ap (λ b. cond b 1 0) (sym later)
      supplied_next number x p i a h e got is (Scalar v) se by =
          ap (λ z. (nets (suc n) []).net z) by.3 ∙ r.stands.scalars (suc n) by.0 by.1 by.2 ∙ sym (r.stands.scalars n by.0 by.1 by.2) ∙ ap (λ z. (nets n []).net z) (sym by.3)
          ∙ now.placed number ([], x) p h e ∙ ap (pair_value ns) (sym is) ∙ kept_inputs i a got ∙ ap (supplied ready n) se
      supplied_next number x p i a h e got is (Ready j) se by =
          ap (λ z. (nets (suc n) []).net z) by.2 ∙ (r.stands.memories j by.0 by.1).ack (suc n) ∙ ap (λ z. ready_at (get_or z j []) (suc n)) ready_is

      input_next : (number : ℕ) (x : Name) (p : Pair) → HasNumber ms f number ([], x) → net_kind_of (declared top) x ≡ kind.Input → rdata_of x ≡ None → get_or pairs number None ≡ Some p → (nets (suc n) []).net x ≡ pair_value next_ns p
      input_next number x p h input silent e =
          let s = given.all number x p h input silent e in
          let a : Input = s.1 in
          let free : IsFree ms top ([], x) = record { tree = top; at = refl; by = inr (refl, input, silent) } in
          let g = machine.given.given number ([], x) top p h refl free e in
          let v : PairHas given_ns p (supplied ready (suc n) a.supply) = subst (λ z. PairHas given_ns z (supplied ready (suc n) a.supply)) s.3 (values s.0 a s.2) in
          supplied_next number x p s.0 a h e s.2 s.3 a.supply refl s.4 ∙ sym (given_pair (bits_of (declared top) x) p next_cells given_ns next_ns (supplied ready (suc n) a.supply) g next_solved same v)

      free_next : (number : ℕ) (k : FlatNet) (p : Pair) → HasNumber ms f number k → IsFree ms top k → get_or pairs number None ≡ Some p → (nets (suc n) k.0).net k.1 ≡ pair_value next_ns p
      free_next number k p h free e = by_kind k.0 k.1 h free free.by where
        by_kind : (path : Path) (x : Name) → HasNumber ms f number (path, x) → (free : IsFree ms top (path, x)) → (net_kind_of (declared free.tree) x ≡ kind.Register) ⊎ ((path ≡ []) × (net_kind_of (declared free.tree) x ≡ kind.Input) × (rdata_of x ≡ None)) → (nets (suc n) path).net x ≡ pair_value next_ns p
        by_kind path x h free (inl reg) = register_next number (path, x) p free.tree h free.at free reg e
        by_kind path x h free (inr i) =
            let here : Some free.tree ≡ Some top = sym free.at ∙ ap (module_at ms top) i.0 in
            let tree : free.tree ≡ top = cc here in
            let input : net_kind_of (declared top) x ≡ kind.Input = ap (λ (q : ModuleTree). net_kind_of (declared q) x) (sym tree) ∙ i.1 in
            ap (λ z. (nets (suc n) z).net x) i.0 ∙ input_next number x p (subst (λ z. HasNumber ms f number (z, x)) i.0 h) input i.2 e

      -- cells inside
      cell_next : (number : ℕ) (b : FlatNet) (q : Pair) (m : ModuleTree) (w k : ℕ) → HasNumber ms f number b → HasTop b m → Has m.items (Memory w b.1 k) → get_or memories number None ≡ Some q
          → (a : ℕ) → a < k → (nets (suc n) b.0).cell b.1 a ≡ cell_in next_cells q.high a * 2 ^ 64 + cell_in next_cells q.low a
      cell_next number b q m w k h at line e a low =
          let follows = r.runs.each b.0 m at in
          let law : IsLawful m follows.sizes (nets n b.0) = record { ports = follows.ports; lines = follows.lines n } in
          let i = memory_numbers number b m w k q h at line e in
          let p = behind_all cells next_cells ns has behind number b m w k q h at line e in
          let long = has number b m w k q h at line e in
          let takes = all_at (Takes follows.sizes m.items (nets n b.0) (nets (suc n) b.0)) m.items (Memory w b.1 k) (follows.registers n) line in
          takes a low ∙ machine.next.cells number b m w k q h at line e cells ns (nets n) follows.sizes solved (valuation n) now.placed law a
          ∙ ap (λ z. cell_after ns k q a stores z) (cell_is (nets n b.0) b.1 cells q k a (now.inside number b q m w k h at line e) low)
          ∙ sym (all_stores ns k (few_cells b.0 m w k b.1 at line) q p.2 stores (λ u has. known_beside u has i.0 q i.1) (get_or cells q.low []) (get_or cells q.high []) long.0 long.1 a low)
          ∙ ap (λ l. get_or l a 0 * 2 ^ 64 + get_or (stored_all ns q.low (get_or cells q.low []) stores) a 0) (sym p.1)
          ∙ ap (λ l. cell_in next_cells q.high a * 2 ^ 64 + get_or l a 0) (sym p.0)

      inside_next : (number : ℕ) (b : FlatNet) (q : Pair) (m : ModuleTree) (w k : ℕ) → HasNumber ms f number b → HasTop b m → Has m.items (Memory w b.1 k) → get_or memories number None ≡ Some q → CellsAre (nets (suc n) b.0) b.1 k next_cells q
      inside_next number b q m w k h at line e =
          let long = has_next cells next_cells ns has behind number b m w k q h at line e in
          cells_are (nets (suc n) b.0) b.1 next_cells q k long.0 long.1 (cell_next number b q m w k h at line e)

      -- cells outside
      net_here : (x : Name) (p : Pair) → IsPairOf ms f pairs x p → (nets n []).net x ≡ pair_value ns p
      net_here x p i = now.placed i.0 ([], x) p i.1 i.2

      store_or : (c : List ℕ) (o : Outside) (d : ℕ) → length c < 2 ^ 64 → d ≡ number_at ns o.wdata
          → cond (is_one ns o.ack && is_one ns o.we) (set_cell c (pair_value ns o.addr) d) c ≡ cond (is_one ns o.ack && (is_one ns o.we && (number_at ns o.addr.high == 0))) (set_cell c (number_at ns o.addr.low) (number_at ns o.wdata)) c
      store_or c o d short de = by_both (is_one ns o.ack) (is_one ns o.we) (cases_eq (number_at ns o.addr.high) 0) where
        by_both : (x y : Bool) → (number_at ns o.addr.high ≡ 0) ⊎ (number_at ns o.addr.high ≢ 0) → cond (x && y) (set_cell c (pair_value ns o.addr) d) c ≡ cond (x && (y && (number_at ns o.addr.high == 0))) (set_cell c (number_at ns o.addr.low) (number_at ns o.wdata)) c
        by_both false y h = refl
        by_both true false h = refl
        by_both true true (inl e) =
            let z : (number_at ns o.addr.high == 0) ≡ true = grind (arith, nat_tests) in
            ap (λ a. set_cell c a d) (low_alone ns o.addr (number_at ns o.addr.low) e refl) ∙ ap (set_cell c (number_at ns o.addr.low)) de ∙ ap (λ b. cond b (set_cell c (number_at ns o.addr.low) (number_at ns o.wdata)) c) (sym z)
        by_both true true (inr ne) =
            let z : (number_at ns o.addr.high == 0) ≡ false = grind (arith, nat_tests) in
            let pos : 0 < number_at ns o.addr.high = omega arith in
            let far : length c ≤ pair_value ns o.addr = omega arith in
            set_past c (pair_value ns o.addr) d far ∙ ap (λ b. cond b (set_cell c (number_at ns o.addr.low) (number_at ns o.wdata)) c) (sym z)

      module _ (data_low : (l : Port) → Has (shape_of top).memories l → (nets n []).net (m_wdata l.name) < 2 ^ 64) where
        outside_next : (i : ℕ) (l : Port) → slice_get (shape_of top).memories i ≡ Some l → get_or next_cells i [] ≡ cells_at (λ n. nets n []) l.name (slice_index_or env.memories i []) (suc n)
        outside_next i l got =
            let o = around.each i l got in
            let asks : IsOutside ms f pairs l.name o.0 = o.2 in
            let c : List ℕ = get_or cells i [] in
            let run : ℕ → Cycle = λ n. nets n [] in
            let old : c ≡ cells_at run l.name (slice_index_or env.memories i []) n = now.outside i l got in
            let in_shape : i < length (shape_of top).memories = slice_get_within (shape_of top).memories i l got in
            let few : 0 < 2 ^ 64 = omega arith in
            let stay : stored_all ns i c stores ≡ c = all_stay ns 0 few (record { low = 0; high = 1 }) zero_one stores i c (λ u h. store_inside u h i in_shape) in
            let w : (run n).net (m_wdata l.name) ≡ pair_value ns asks.written = net_here (m_wdata l.name) asks.written asks.wdata in
            let zero_high : number_at ns asks.written.high ≡ 0 = no_high (number_at ns asks.written.high) (number_at ns asks.written.low) ((run n).net (m_wdata l.name)) w (data_low l (has_got (shape_of top).memories i l got)) in
            let d : (run n).net (m_wdata l.name) ≡ number_at ns o.0.wdata = w ∙ low_alone ns asks.written (number_at ns o.0.wdata) zero_high (ap (number_at ns) asks.low) in
            asked i o.0 o.1 ∙ ap (outside_list ns o.0) stay
            ∙ sym (store_or c o.0 ((run n).net (m_wdata l.name)) (short i) d)
            ∙ ap (λ b. cond (b && is_one ns o.0.we) (set_cell c (pair_value ns o.0.addr) ((run n).net (m_wdata l.name))) c) (sym (one_test ns o.0.ack) ∙ ap (λ z. z == 1) (sym (net_here (m_ack l.name) o.0.ack asks.ack)))
            ∙ ap (λ b. cond (((run n).net (m_ack l.name) == 1) && b) (set_cell c (pair_value ns o.0.addr) ((run n).net (m_wdata l.name))) c) (sym (one_test ns o.0.we) ∙ ap (λ z. z == 1) (sym (net_here (m_we l.name) o.0.we asks.we)))
            ∙ ap (λ z. cond (((run n).net (m_ack l.name) == 1) && ((run n).net (m_we l.name) == 1)) (set_cell c z ((run n).net (m_wdata l.name))) c) (sym (net_here (m_addr l.name) o.0.addr asks.addr))
            ∙ ap (λ z. cond (((run n).net (m_ack l.name) == 1) && ((run n).net (m_we l.name) == 1)) (set_cell z ((run n).net (m_addr l.name)) ((run n).net (m_wdata l.name))) z) old

        state_next : HasCellsOf ms top f memories (nets (suc n)) next_cells
        state_next = record {
          inside = inside_next;
          outside = λ i l got.
              let run : ℕ → Cycle = λ n. nets n [] in
              let held : List ℕ = cells_at run l.name (slice_index_or env.memories i []) (suc n) in
              (r.stands.memories i l got).rdata (suc n) ∙ unwrap_or-slice_get held ((run (suc n)).net (m_addr l.name)) 0 ∙ ap (λ z. get_or z ((run (suc n)).net (m_addr l.name)) 0) (sym (outside_next i l got));
        }

        -- the next cycle is shown
        pub shown_next : IsShown ms top f pairs memories env nets (suc n) next_cells next_ns
        shown_next = record { placed = machine.tells next_cells next_ns (nets (suc n)) next_solved (valuation (suc n)) state_next free_next; inside = inside_next; outside = outside_next }
