-- The first cycle of a design: its cells, and what is told of it.
use Rattle.std.proofs.Common.{◌≡◌, ◌≢◌, ℕ, zero, suc, ◌+◌, ◌*◌, ◌%◌, ◌^◌, ◌<◌, true, false, List, [], ◌∷◌, ◌++◌, Some, None, length, get_or, replicate, inl, inr, sym, ap, subst, ◌∙◌, arith}
use Rattle.std.specs.Prelude.{◌⊎◌, Vec, slice_get, slice_index_or}
use Rattle.std.specs.List.{flat_map}
use Rattle.std.specs.declared.alloc.Global.{Global}
use Rattle.std.proofs.lemmas.Bool.{cases_eq}
use Rattle.std.proofs.lemmas.List.{length-replicate, map-append, get_or_push, get_or_append_left, get_or-replicate, get_or-append-add}
use Rattle.std.proofs.lemmas.Option.{same_Some, slice_get_within}
use Rattle.tapa_base.specs.declared.shape.Port.{Port}
use Rattle.vlog_tree.specs.declared.tree.Item.TheVariants.{Memory}
use Rattle.vlog_tree.specs.Form.{ModuleTree}
use Rattle.tapa_base.specs.Lists.{Has}
use Rattle.vlog_tree.specs.Flattened.{FlatNet}
use Rattle.vlog_tree.specs.Cycle.{module_at}
use Rattle.vlog_tree.specs.Environment.{Environment, FitsShape, shape_of}
use Rattle.vlog_design.specs.Designs.{TopOf}
use Rattle.vlog_run_laws.specs.runs.OneRun.{IsRunFrom}
use Rattle.vlog_run_laws.specs.runs.Filled.{IsFilled}
use Rattle.vlog_design.specs.Environments.{lists_of}
use Rattle.cycle_sim.specs.Told.{IsToldOf, TellsEachRun}
use Rattle.sim_tape.specs.declared.gates.Pair.{Pair}
use Rattle.sim_tape.specs.Operators.{Cells, cells_of, cell_in}
use Rattle.sim_tape.specs.Tape.{number_at, pair_value}
use Rattle.sim_tape.specs.Solved.{IsSolved, SameGiven}
use Rattle.sim_flat.specs.Flat.{HasNumber}
use Rattle.sim_design.specs.declared.drafts.Width.{Width}
use Rattle.cycle_sim.specs.declared.inputs.Input.{Input}
use Rattle.cycle_sim.specs.declared.parts.Parts.{Parts}
use Rattle.cycle_sim.specs.declared.parts.State.{State}
use Rattle.cycle_sim.specs.Firsts.{width_lists, IsHeldAt, AreHeld}
use Rattle.cycle_sim.specs.SlotsTold.{told_by}
use Rattle.cycle_sim.specs.Steps.{IsAway, PairHas, HaveSlots, supplied}
use Rattle.cycle_sim.specs.Machines.{HasCells, IsFilledWith}
use Rattle.cycle_sim.specs.Wholes.{AreParts, IsSim, sim_tree}
use Rattle.cycle_sim.proofs.Stepping.{have_slots, given_next}
use Rattle.cycle_sim.proofs.Telling.{told_of}
use Rattle.cycle_sim.proofs.Beginning.{shown_first}
use Rattle.cycle_sim.proofs.Filling.{are_held, held_first, register_held}
use Rattle.sim_pass.proofs.Reading.{cells_long}

-- each memory has two lists, one behind the other
lists_at : (fill : ℕ) (ws : List Width) (i : ℕ) (w : Width) → slice_get ws i ≡ Some w
    → (get_or (flat_map (width_lists fill) ws) (2 * i) [] ≡ replicate w.cells (fill % 2 ^ w.bits)) × (get_or (flat_map (width_lists fill) ws) (2 * i + 1) [] ≡ replicate w.cells 0)
lists_at fill [] i w got = absurd (let none : None ≡ Some w = got in cc)
lists_at fill (v ∷ ws) zero w got =
    let same : v ≡ w = same_Some v w got in
    (ap (λ (z : Width). replicate z.cells (fill % 2 ^ z.bits)) same, ap (λ (z : Width). replicate z.cells 0) same)
lists_at fill (v ∷ ws) (suc i) w got =
    let r = lists_at fill ws i w got in
    let low : 2 * suc i ≡ suc (suc (2 * i)) = omega arith in
    let high : 2 * suc i + 1 ≡ suc (suc (2 * i + 1)) = omega arith in
    (ap (λ n. get_or (flat_map (width_lists fill) (v ∷ ws)) n []) low ∙ r.0, ap (λ n. get_or (flat_map (width_lists fill) (v ∷ ws)) n []) high ∙ r.1)

pub lists_behind : (fill : ℕ) (before : Cells) (count : ℕ) (ws : List Width) (i : ℕ) (w : Width) → length before ≡ count → slice_get ws i ≡ Some w
    → (get_or (before ++ flat_map (width_lists fill) ws) (count + 2 * i) [] ≡ replicate w.cells (fill % 2 ^ w.bits)) × (get_or (before ++ flat_map (width_lists fill) ws) (count + 2 * i + 1) [] ≡ replicate w.cells 0)
lists_behind fill before count ws i w long got =
    let r = lists_at fill ws i w got in
    let lists : Cells = flat_map (width_lists fill) ws in
    let low : count + 2 * i ≡ length before + 2 * i = omega arith in
    let high : count + 2 * i + 1 ≡ length before + (2 * i + 1) = omega arith in (
      ap (λ n. get_or (before ++ lists) n []) low ∙ get_or-append-add before lists (2 * i) [] ∙ r.0,
      ap (λ n. get_or (before ++ lists) n []) high ∙ get_or-append-add before lists (2 * i + 1) [] ∙ r.1,
    )

-- one more list of cells
pub cells_more : (vs : List (Vec ℕ Global)) (v : Vec ℕ Global) (wanted : ℕ → List ℕ) (n : ℕ) → length vs ≡ n → ((j : ℕ) → j < n → get_or (cells_of vs) j [] ≡ wanted j) → v.items ≡ wanted n
    → (j : ℕ) → j < n + 1 → get_or (cells_of (vs ++ v ∷ [])) j [] ≡ wanted j
cells_more vs v wanted n long was is j low = ap (λ l. get_or l j []) (map-append (λ (v : Vec ℕ Global). v.items) vs (v ∷ [])) ∙ by_case (cases_eq j n) where
  size : length (cells_of vs) ≡ n
  size = cells_long vs ∙ long

  by_case : (j ≡ n) ⊎ (j ≢ n) → get_or (cells_of vs ++ v.items ∷ []) j [] ≡ wanted j
  by_case (inl e) = get_or_push (cells_of vs) v.items [] j (size ∙ sym e) ∙ is ∙ ap wanted (sym e)
  by_case (inr ne) =
      let before : j < n = omega arith in
      get_or_append_left (cells_of vs) (v.items ∷ []) [] j (subst (λ k. j < k) (sym size) before) ∙ was j before

module _ (p : Parts) (are : AreParts p) where
  -- registers and inputs have slots of their own
  pub held : AreHeld p.flat p.machine.pairs.items (length p.machine.program.gates)
  held = are_held p are

  pub slots : HaveSlots (length p.machine.program.gates) p.around.inputs.items
  slots = have_slots p are

  module _ (cells : Cells) (filled_ns given_ns ns : List ℕ) (solved : IsSolved p.machine.program cells ns) (same : SameGiven p.machine.program.gates given_ns ns) where
    pub inputs_first : ((i : ℕ) (a : Input) → slice_get p.around.inputs.items i ≡ Some a → PairHas given_ns a.pair (supplied (lists_of p.ready.items) 0 a.supply))
        → (i : ℕ) (a : Input) → slice_get p.around.inputs.items i ≡ Some a → pair_value ns a.pair ≡ supplied (lists_of p.ready.items) 0 a.supply
    inputs_first values =
        given_next p are
        cells given_ns ns (lists_of p.ready.items) 0 solved same values

    pub registers_first : (fill : ℕ) → ((number bits : ℕ) (q : Pair) → IsHeldAt p.flat p.machine.pairs.items number bits q → PairHas filled_ns q (fill % 2 ^ bits))
        → ((k : ℕ) → ((i : ℕ) (a : Input) → slice_get p.around.inputs.items i ≡ Some a → IsAway k a.pair) → number_at given_ns k ≡ number_at filled_ns k)
        → (number bits : ℕ) (q : Pair) → IsHeldAt p.flat p.machine.pairs.items number bits q → pair_value ns q ≡ fill % 2 ^ bits
    registers_first fill values kept number bits q h =
        held_first p are
        cells filled_ns given_ns ns number bits (fill % 2 ^ bits) q h (values number bits q h) kept solved same

  module _ (s : State) (fill : ℕ) (cycle : s.cycle ≡ 0)
      (inside : (i : ℕ) (w : Width) → slice_get p.machine.widths.items i ≡ Some w → (get_or (cells_of s.cells.items) (length p.around.outside.items + 2 * i) [] ≡ replicate w.cells (fill % 2 ^ w.bits)) × (get_or (cells_of s.cells.items) (length p.around.outside.items + 2 * i + 1) [] ≡ replicate w.cells 0))
      (solved : IsSolved p.machine.program (cells_of s.cells.items) s.numbers.items)
      (given : (i : ℕ) (a : Input) → slice_get p.around.inputs.items i ≡ Some a → pair_value s.numbers.items a.pair ≡ supplied (lists_of p.ready.items) 0 a.supply)
      (registers : (number bits : ℕ) (q : Pair) → IsHeldAt p.flat p.machine.pairs.items number bits q → pair_value s.numbers.items q ≡ fill % 2 ^ bits) where
    abbrev cells : Cells
    cells = cells_of s.cells.items

    abbrev ns : List ℕ
    ns = s.numbers.items

    lists : (number : ℕ) (n : FlatNet) (m : ModuleTree) (w k : ℕ) (q : Pair) → HasNumber p.design.modules p.flat number n → module_at p.design.modules are.top n.0 ≡ Some m → Has m.items (Memory w n.1 k) → get_or p.machine.memories.items number None ≡ Some q
        → (get_or cells q.low [] ≡ replicate k (fill % 2 ^ w)) × (get_or cells q.high [] ≡ replicate k 0)
    lists number n m w k q h at line e =
        let a = are.machine.numbered.all number n m w k h at line in
        let many : ℕ = length (shape_of are.top).memories in
        let pair : Pair = record { low = many + 2 * a.0; high = many + 2 * a.0 + 1 } in
        let same : q ≡ pair = same_Some q pair (sym e ∙ a.2) in
        let count : length p.around.outside.items ≡ many = are.around.outside.count in
        let r = inside a.0 (record { pair = pair; bits = w; cells = k }) a.1 in
        let low : q.low ≡ length p.around.outside.items + 2 * a.0 = ap (λ (z : Pair). z.low) same ∙ ap (λ z. z + 2 * a.0) (sym count) in
        let high : q.high ≡ length p.around.outside.items + 2 * a.0 + 1 = ap (λ (z : Pair). z.high) same ∙ ap (λ z. z + 2 * a.0 + 1) (sym count) in
        (ap (λ z. get_or cells z []) low ∙ r.0, ap (λ z. get_or cells z []) high ∙ r.1)

    has_cells : HasCells p.design.modules are.top p.flat p.machine.memories.items cells
    has_cells number n m w k q h at line e =
        let r = lists number n m w k q h at line e in
        (ap length r.0 ∙ length-replicate k (fill % 2 ^ w), ap length r.1 ∙ length-replicate k 0)

    filled_with : IsFilledWith p.design.modules are.top p.flat p.machine.pairs.items p.machine.memories.items fill cells ns
    filled_with = record {
      registers = λ number n m w q h at line e. registers number w q (register_held p.design.modules are.top p.flat are.machine.flat p.machine.pairs.items number n m w q h at line e);
      inside = λ number n m w k q h at line e a low.
          let r = lists number n m w k q h at line e in
          let v : ℕ = fill % 2 ^ w in
          let x : cell_in cells q.high a ≡ 0 = ap (λ l. get_or l a 0) r.1 ∙ get_or-replicate k a 0 0 low in
          let y : cell_in cells q.low a ≡ v = ap (λ l. get_or l a 0) r.0 ∙ get_or-replicate k a v 0 low in
          let z : 0 * 2 ^ 64 + v ≡ v = omega arith in
          ap (λ h. h * 2 ^ 64 + cell_in cells q.low a) x ∙ ap (λ l. 0 * 2 ^ 64 + l) y ∙ z;
    }

    -- it is a simulator
    pub sim_first : length ns ≡ length p.machine.program.gates → length s.given.items ≡ length p.machine.program.gates → s.is_still ≡ false → IsSim p s
    sim_first size room moves = record {
      parts = are;
      size = size;
      room = room;
      solved = solved;
      cells = has_cells;
      given = λ i a got. subst (λ n. pair_value ns a.pair ≡ supplied (lists_of p.ready.items) n a.supply) (sym cycle) (given i a got);
      still = λ e. absurd (let both : true ≡ false = sym e ∙ moves in cc);
    }

    -- what is told of the first cycle is what each run has there that begins with one number everywhere
    pub told_first : (memories : List (List ℕ)) → ((i : ℕ) → i < length p.around.outside.items → get_or cells i [] ≡ slice_index_or memories i [])
        → (m : ModuleTree) (env : Environment) → TopOf p.design m → FitsShape env (shape_of m) → env.scalars ≡ p.scalars.items → env.memories ≡ memories → TellsEachRun p.design.modules m env fill (sim_tree p s).told
    told_first memories first m env at fits scalars are_memories contents nets filled r =
        let same : are.top ≡ m = same_Some are.top m (sym are.at ∙ at) in
        let ms : List ModuleTree = p.design.modules in
        let env_fits : FitsShape env (shape_of are.top) = subst (λ (q : ModuleTree). FitsShape env (shape_of q)) (sym same) fits in
        let is_filled : IsFilled ms are.top fill contents = subst (λ (q : ModuleTree). IsFilled ms q fill contents) (sym same) filled in
        let run : IsRunFrom ms are.top env contents nets = subst (λ (q : ModuleTree). IsRunFrom ms q env contents nets) (sym same) r in
        let shown = shown_first p are
        env env_fits scalars nets fill contents is_filled run cells ns solved (lists_of p.ready.items) has_cells filled_with given (outside env are_memories) in
        let told = told_of p are env nets 0 cells ns shown in
        subst (λ (q : ModuleTree). IsToldOf ms q env nets (sim_tree p s).told) same
        (subst (λ n. IsToldOf ms are.top env nets (told_by ms p.flat p.machine.pairs.items p.machine.memories.items n cells ns)) (sym cycle) told) where
          outside : (env : Environment) → env.memories ≡ memories → (i : ℕ) (l : Port) → slice_get (shape_of are.top).memories i ≡ Some l → get_or cells i [] ≡ slice_index_or env.memories i []
          outside env is i l got =
              let there : i < length (shape_of are.top).memories = slice_get_within (shape_of are.top).memories i l got in
              let count : length p.around.outside.items ≡ length (shape_of are.top).memories = are.around.outside.count in
              first i (omega arith) ∙ ap (λ (z : List (List ℕ)). slice_index_or z i []) (sym is)
