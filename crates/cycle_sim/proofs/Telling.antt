-- What slots and cells tell of a cycle is what they show of it.
use Rattle.std.proofs.Common.{◌≡◌, ℕ, ◌+◌, ◌*◌, ◌^◌, ◌<◌, ◌≤◌, cond, List, [], Option, Some, None, length, get_or, inl, inr, refl, sym, ap, ◌∙◌, arith}
use Rattle.std.specs.Prelude.{◌⊎◌, IsSome, nat_lt, option_and_then}
use Rattle.std.proofs.lemmas.Bool.{cases_lt, lt-ltb, le-ltb}
use Rattle.std.proofs.lemmas.List.{get_or_past}
use Rattle.vlog_tree.specs.declared.tree.Item.TheVariants.{Memory}
use Rattle.vlog_tree.specs.declared.table.Declaration.{Declaration}
use Rattle.vlog_tree.specs.declared.table.NetKind.TheVariants.{MemoryArray}
use Rattle.vlog_tree.specs.Form.{ModuleTree}
use Rattle.vlog_tree.specs.Flattened.{FlatNet}
use Rattle.vlog_tree.specs.Cycle.{Cycle, Path, module_at}
use Rattle.vlog_tree.specs.Table.{Name, declared, declaration_name}
use Rattle.vlog_tree.specs.Environment.{Environment, shape_of}
use Rattle.tapa_base.proofs.Lists.{has_map}
use Rattle.vlog_run_laws.proofs.runs.Settled.{module_in}
use Rattle.vlog_run_laws.proofs.runs.Sizes.{has_line}
use Rattle.cycle_sim.specs.Told.{IsToldOf}
use Rattle.sim_tape.specs.declared.gates.Pair.{Pair}
use Rattle.sim_tape.specs.Operators.{Cells, cell_in}
use Rattle.sim_tape.specs.Tape.{pair_value}
use Rattle.sim_flat.specs.Flat.{HasNumber}
use Rattle.sim_flat.proofs.Standing.{in_top}
use Rattle.sim_design.specs.States.{CellsAre}
use Rattle.cycle_sim.specs.SlotsTold.{number_told, cell_told, pair_of, told_by}
use Rattle.cycle_sim.specs.declared.parts.Parts.{Parts}
use Rattle.cycle_sim.specs.Machines.{HasCells, IsShown}
use Rattle.cycle_sim.specs.Wholes.{AreParts}
use Rattle.cycle_sim.proofs.Numbering.{number_is_found, net_number, named_number, tree_at}

pub some_is : {A : Type 0} (o : Option A) → IsSome o → (x : A) × (o ≡ Some x)
some_is None h = cc
some_is (Some x) h = (x, refl)

-- past the end of both halves a cell is 0
pub cell_past : (cells : Cells) (q : Pair) (k a : ℕ) → length (get_or cells q.low []) ≡ k → length (get_or cells q.high []) ≡ k → k ≤ a → 0 ≡ cell_in cells q.high a * 2 ^ 64 + cell_in cells q.low a
cell_past cells q k a low high h =
    let x : cell_in cells q.low a ≡ 0 = get_or_past (get_or cells q.low []) a 0 (omega arith) in
    let y : cell_in cells q.high a ≡ 0 = get_or_past (get_or cells q.high []) a 0 (omega arith) in
    ap (λ z. z * 2 ^ 64 + 0) (sym y) ∙ ap (λ z. cell_in cells q.high a * 2 ^ 64 + z) (sym x)

-- halves show a memory's cells where they do so before its end
pub cells_are : (c : Cycle) (x : Name) (cells : Cells) (q : Pair) (k : ℕ) → length (get_or cells q.low []) ≡ k → length (get_or cells q.high []) ≡ k
    → ((a : ℕ) → a < k → c.cell x a ≡ cell_in cells q.high a * 2 ^ 64 + cell_in cells q.low a) → CellsAre c x k cells q
cells_are c x cells q k low high is a = by_case (cases_lt a k) where
  by_case : (a < k) ⊎ (k ≤ a) → cond (nat_lt a k) (c.cell x a) 0 ≡ cell_in cells q.high a * 2 ^ 64 + cell_in cells q.low a
  by_case (inl l) = ap (λ b. cond b (c.cell x a) 0) (lt-ltb a k l) ∙ is a l
  by_case (inr h) = ap (λ b. cond b (c.cell x a) 0) (le-ltb a k h) ∙ cell_past cells q k a low high h

pub cell_is : (c : Cycle) (x : Name) (cells : Cells) (q : Pair) (k a : ℕ) → CellsAre c x k cells q → a < k → c.cell x a ≡ cell_in cells q.high a * 2 ^ 64 + cell_in cells q.low a
cell_is c x cells q k a h low = ap (λ b. cond b (c.cell x a) 0) (sym (lt-ltb a k low)) ∙ h a

module _ (whole : Parts) (are : AreParts whole) (env : Environment) (nets : ℕ → Path → Cycle) (n : ℕ) (cells : Cells) (ns : List ℕ) where
  open whole use {design.{modules as ms}, flat as f, machine.{pairs.{items as pairs}, memories.{items as memories}}}
  open are use {top, machine}

  pair_found : (ps : List (Option Pair)) (number : ℕ) (k : FlatNet) (p : Pair) → HasNumber ms f number k → get_or ps number None ≡ Some p → pair_of ms f ps k.0 k.1 ≡ Some p
  pair_found ps number k p h e = ap (λ o. option_and_then (λ number. get_or ps number None) o) (number_is_found ms top f machine.flat number k h) ∙ e

  number_is : (number : ℕ) (k : FlatNet) (p : Pair) → HasNumber ms f number k → get_or pairs number None ≡ Some p → number_told ns (pair_of ms f pairs k.0 k.1) ≡ pair_value ns p
  number_is number k p h e = ap (number_told ns) (pair_found pairs number k p h e)

  cell_here : (number : ℕ) (k : FlatNet) (q : Pair) (a : ℕ) → HasNumber ms f number k → get_or memories number None ≡ Some q → cell_told cells (pair_of ms f memories k.0 k.1) a ≡ cell_in cells q.high a * 2 ^ 64 + cell_in cells q.low a
  cell_here number k q a h e = ap (λ o. cell_told cells o a) (pair_found memories number k q h e)

  -- what is told is shown
  pub shown_of : IsToldOf ms top env nets (told_by ms f pairs memories n cells ns) → HasCells ms top f memories cells → IsShown ms top f pairs memories env nets n cells ns
  shown_of told has = record {
    placed = λ number k p h e.
        let m : ModuleTree = h.at.tree in
        let at : module_at ms top k.0 ≡ Some m = tree_at ms top f machine.flat number k h in
        let o = machine.placed.only number k m p h at e in
        sym (told.numbers k.0 m k.1 at o.0 o.1) ∙ number_is number k p h e;
    inside = λ number k q m w c h at line e.
        let long = has number k m w c q h at line e in
        cells_are (nets n k.0) k.1 cells q c long.0 long.1 (λ a low. sym (told.cells k.0 m w k.1 c a at line low) ∙ cell_here number k q a h e);
    outside = λ i l got. told.outside i l got;
  }

  -- what is shown is told
  pub told_of : IsShown ms top f pairs memories env nets n cells ns → IsToldOf ms top env nets (told_by ms f pairs memories n cells ns)
  told_of shown = record {
    numbers = λ path m x at read clock.
        let k = net_number ms top f machine.flat path m x at read in
        let p = some_is (get_or pairs k.0 None) (machine.placed.all k.0 (path, x) m k.1 at read clock) in
        number_is k.0 (path, x) p.0 k.1 p.1 ∙ sym (shown.placed k.0 (path, x) p.0 k.1 p.1);
    cells = λ path m w x c a at line low.
        let d : Declaration = record { name = x; net_kind = MemoryArray; bits = w; cells = c } in
        let there = has_line m ms machine.flat.design.sound.names (module_in ms top (in_top ms top f machine.flat) path m at) (Memory w x c) line d (inl refl) in
        let k = named_number ms top f machine.flat path m x at (has_map declaration_name (declared m) d there) in
        let q = machine.numbered.all k.0 (path, x) m w c k.1 at line in
        let pair : Pair = record { low = length (shape_of top).memories + 2 * q.0; high = length (shape_of top).memories + 2 * q.0 + 1 } in
        cell_here k.0 (path, x) pair a k.1 q.2 ∙ sym (cell_is (nets n path) x cells pair c a (shown.inside k.0 (path, x) pair m w c k.1 at line q.2) low);
    outside = λ i l got. shown.outside i l got;
  }
