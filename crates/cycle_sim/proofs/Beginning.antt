-- What slots and cells show of the first cycle of a run, where every register and every cell begins with one number.
use Rattle.std.proofs.Common.{◌≡◌, ℕ, Bool, List, [], Some, None, get_or, inl, inr, sym, ap, subst, ◌∙◌}
use Rattle.std.specs.Prelude.{◌⊎◌, slice_get, slice_index, slice_index_or}
use Rattle.std.proofs.lemmas.Option.{unwrap_or-slice_get}
use Rattle.tapa_base.specs.declared.shape.Port.{Port}
use Rattle.vlog_tree.specs.declared.tree.Item.TheVariants.{Reg, Memory}
use Rattle.vlog_tree.specs.declared.table.NetKind.TheVariants as kind
use Rattle.vlog_tree.specs.Form.{ModuleTree}
use Rattle.tapa_base.specs.Lists.{Has}
use Rattle.vlog_tree.specs.Flattened.{FlatNet}
use Rattle.vlog_tree.specs.Labels.{rdata_of, m_addr}
use Rattle.vlog_tree.specs.Table.{Name, declared, net_kind_of}
use Rattle.vlog_tree.specs.Cycle.{Cycle, Path, module_at}
use Rattle.vlog_tree.specs.Environment.{Environment, FitsShape, shape_of}
use Rattle.vlog_run_laws.specs.runs.OneRun.{SameHeld, IsRunFrom}
use Rattle.vlog_run_laws.specs.runs.Filled.{HoldsFill, IsFilled}
use Rattle.vlog_run_laws.proofs.runs.Sizes.{register_item}
use Rattle.sim_tape.specs.declared.gates.Pair.{Pair}
use Rattle.sim_tape.specs.Operators.{Cells}
use Rattle.sim_tape.specs.Tape.{pair_value}
use Rattle.sim_tape.specs.Solved.{IsSolved}
use Rattle.sim_flat.specs.Flat.{HasNumber}
use Rattle.sim_design.specs.States.{IsFree, HasCellsOf, CellsAre}
use Rattle.cycle_sim.specs.declared.inputs.Supply.{Supply}
use Rattle.cycle_sim.specs.declared.inputs.Supply.TheVariants.{Reset, Scalar, Ready}
use Rattle.cycle_sim.specs.declared.inputs.Input.{Input}
use Rattle.cycle_sim.specs.Steps.{supplied}
use Rattle.cycle_sim.specs.declared.parts.Parts.{Parts}
use Rattle.cycle_sim.specs.Machines.{IsSuppliedBy, HasCells, IsShown, IsFilledWith}
use Rattle.cycle_sim.specs.Wholes.{AreParts}
use Rattle.cycle_sim.proofs.Telling.{cells_are}
use Rattle.cycle_sim.proofs.Stepping.{valuation}
use Rattle.tapa_base.proofs.Got.{all_at}

module _ (whole : Parts) (are : AreParts whole) where
  open whole use {design.{modules as ms}, flat as f, machine.{pairs.{items as pairs}, memories.{items as memories}, program as t}, around.{inputs.{items as inputs}}, scalars.{items as scalars}}
  open are use {top, machine, around.{inputs as given}}

  module _ (env : Environment) (env_fits : FitsShape env (shape_of top)) (same_scalars : env.scalars ≡ scalars) (nets : ℕ → Path → Cycle) (fill : ℕ) (contents : Path → Cycle) (filled : IsFilled ms top fill contents) (r : IsRunFrom ms top env contents nets)
      (cells : Cells) (ns : List ℕ) (solved : IsSolved t cells ns) (ready : List (List Bool)) (has : HasCells ms top f memories cells) (full : IsFilledWith ms top f pairs memories fill cells ns)
      (kept_inputs : (i : ℕ) (a : Input) → slice_get inputs i ≡ Some a → pair_value ns a.pair ≡ supplied ready 0 a.supply)
      (first_outside : (i : ℕ) (l : Port) → slice_get (shape_of top).memories i ≡ Some l → get_or cells i [] ≡ slice_index_or env.memories i []) where
    register_first : (number : ℕ) (path : Path) (x : Name) (p : Pair) (m : ModuleTree) → HasNumber ms f number (path, x) → module_at ms top path ≡ Some m → net_kind_of (declared m) x ≡ kind.Register → get_or pairs number None ≡ Some p → (nets 0 path).net x ≡ pair_value ns p
    register_first number path x p m h at reg e =
        let line = register_item m x reg in
        all_at (SameHeld (nets 0 path) (contents path)) m.items (Reg line.0 x) (r.begins path m at) line.1 ∙ all_at (HoldsFill fill (contents path)) m.items (Reg line.0 x) (filled path m at) line.1
        ∙ sym (full.registers number (path, x) m line.0 p h at line.1 e)

    supplied_first : (x : Name) (s : Supply) → IsSuppliedBy top scalars x s → (nets 0 []).net x ≡ supplied ready 0 s
    supplied_first x Reset by = ap (λ z. (nets 0 []).net z) by ∙ r.runs_in.stands.reset
    supplied_first x (Scalar v) by = ap (λ z. (nets 0 []).net z) by.3 ∙ r.runs_in.stands.scalars 0 by.0 by.1 by.2 ∙ ap (λ l. slice_index l by.0) same_scalars ∙ sym by.4
    supplied_first x (Ready j) by = ap (λ z. (nets 0 []).net z) by.2 ∙ (r.runs_in.stands.memories j by.0 by.1).ack 0

    input_first : (number : ℕ) (x : Name) (p : Pair) → HasNumber ms f number ([], x) → net_kind_of (declared top) x ≡ kind.Input → rdata_of x ≡ None → get_or pairs number None ≡ Some p → (nets 0 []).net x ≡ pair_value ns p
    input_first number x p h input silent e =
        let s = given.all number x p h input silent e in
        let a : Input = s.1 in
        supplied_first x a.supply s.4 ∙ sym (kept_inputs s.0 a s.2) ∙ ap (pair_value ns) s.3

    free_first : (number : ℕ) (k : FlatNet) (p : Pair) → HasNumber ms f number k → IsFree ms top k → get_or pairs number None ≡ Some p → (nets 0 k.0).net k.1 ≡ pair_value ns p
    free_first number k p h free e = by_kind k.0 k.1 h free free.by where
      by_kind : (path : Path) (x : Name) → HasNumber ms f number (path, x) → (free : IsFree ms top (path, x)) → (net_kind_of (declared free.tree) x ≡ kind.Register) ⊎ ((path ≡ []) × (net_kind_of (declared free.tree) x ≡ kind.Input) × (rdata_of x ≡ None)) → (nets 0 path).net x ≡ pair_value ns p
      by_kind path x h free (inl reg) = register_first number path x p free.tree h free.at reg e
      by_kind path x h free (inr i) =
          let here : Some free.tree ≡ Some top = sym free.at ∙ ap (module_at ms top) i.0 in
          let tree : free.tree ≡ top = cc here in
          let input : net_kind_of (declared top) x ≡ kind.Input = ap (λ (q : ModuleTree). net_kind_of (declared q) x) (sym tree) ∙ i.1 in
          ap (λ z. (nets 0 z).net x) i.0 ∙ input_first number x p (subst (λ z. HasNumber ms f number (z, x)) i.0 h) input i.2 e

    inside_first : (number : ℕ) (b : FlatNet) (q : Pair) (m : ModuleTree) (w k : ℕ) → HasNumber ms f number b → module_at ms top b.0 ≡ Some m → Has m.items (Memory w b.1 k) → get_or memories number None ≡ Some q → CellsAre (nets 0 b.0) b.1 k cells q
    inside_first number b q m w k h at line e =
        let long = has number b m w k q h at line e in
        let held = all_at (SameHeld (nets 0 b.0) (contents b.0)) m.items (Memory w b.1 k) (r.begins b.0 m at) line in
        let fills = all_at (HoldsFill fill (contents b.0)) m.items (Memory w b.1 k) (filled b.0 m at) line in
        cells_are (nets 0 b.0) b.1 cells q k long.0 long.1 (λ a low. held a low ∙ fills a low ∙ sym (full.inside number b m w k q h at line e a low))

    state_first : HasCellsOf ms top f memories (nets 0) cells
    state_first = record {
      inside = inside_first;
      outside = λ i l got.
          let run : ℕ → Cycle = λ n. nets n [] in
          (r.runs_in.stands.memories i l got).rdata 0 ∙ unwrap_or-slice_get (slice_index_or env.memories i []) ((run 0).net (m_addr l.name)) 0 ∙ ap (λ z. get_or z ((run 0).net (m_addr l.name)) 0) (sym (first_outside i l got));
    }

    -- the first cycle is shown
    pub shown_first : IsShown ms top f pairs memories env nets 0 cells ns
    shown_first = record {
      placed = machine.tells cells ns (nets 0) solved (valuation whole are env env_fits nets r.runs_in 0) state_first free_first;
      inside = inside_first;
      outside = first_outside;
    }
