-- In a run of one module each net fits its width, where what the module is given does.
use Rattle.std.proofs.Common.{◌≡◌, ℕ, zero, suc, ◌^◌, ◌<◌, Bool, true, false, cond, List, None, inl, inr, refl, sym, ap, subst, ◌∙◌}
use Rattle.std.specs.Prelude.{nat_lt}
use Rattle.std.specs.List.{AllByRecursion, flat_map}
use Rattle.vlog_tree.specs.declared.tree.Value.{Value}
use Rattle.vlog_tree.specs.declared.tree.Value.TheVariants.{Plain, Invert, Binary, Choose, Concat, Repeat, Cell}
use Rattle.vlog_tree.specs.declared.tree.Item.{Item}
use Rattle.vlog_tree.specs.declared.tree.Item.TheVariants.{Wire, Reg, Memory, Assign, Always, Instance}
use Rattle.vlog_tree.specs.declared.table.NetKind.{NetKind}
use Rattle.vlog_tree.specs.declared.table.NetKind.TheVariants.{Unknown, Input, Output, WireNet, Register, MemoryArray, ChildInstance}
use Rattle.vlog_tree.specs.Form.{ModuleTree}
use Rattle.tapa_base.specs.Lists.{Has}
use Rattle.vlog_tree.specs.Cycle.{Cycle, Holds, PowersUp, Takes, Follows, driven, run_items}
use Rattle.vlog_tree.specs.Table.{Name, is_clk, declared, net_kind_of, bits_of, net_kind_is_read, net_kind_is_driven}
use Rattle.vlog_tree.specs.Refused.{IsSound}
use Rattle.vlog_tree.specs.Loops.{Rests, directly, IsLoopless, value_nets, line_edges}
use Rattle.tapa_base.proofs.Lists.{has_flat, of_flat, has_map, has_left}
use Rattle.vlog_run_laws.proofs.runs.Ending.{Ends, ends}
use Rattle.vlog_run_laws.proofs.runs.Sound.{assign_driven, assign_reads, assign_cell}
use Rattle.vlog_run_laws.proofs.runs.Alone.{register_clock}
use Rattle.vlog_run_laws.proofs.runs.Alike.{memory_is}
use Rattle.vlog_run_laws.proofs.runs.Module.{wires_end}
use Rattle.vlog_run_laws.proofs.runs.Sizes.{sizes_of, cells_of, memory_item, memory_cells, register_item, width_held, declared_net_kind, has_line}
use Rattle.vlog_run_laws.proofs.runs.Drivers.{Source, value, output, sources, line_sources, source_of, source_cases, value_line, output_line, IsDrivenBy, has_source}
use Rattle.vlog_run_laws.proofs.runs.Values.{ReadsAlike, driven_same}
use Rattle.vlog_run_laws.specs.widths.Widths.{NumbersFit, GivenFits}
use Rattle.vlog_run_laws.proofs.widths.Bits.{CellsBelow, value_below}
use Rattle.vlog_run_laws.proofs.widths.Ruled.{assign_width, step_fits}
use Rattle.vlog_run_laws.proofs.widths.Steps.{memory_bits, register_bits, items_fit}
use Rattle.tapa_base.proofs.Got.{all_at, all_from}

module _ (ms : List ModuleTree) (is_top : Name → Bool) (sound : IsSound ms) (loopless : IsLoopless ms is_top) (m : ModuleTree) (in_ms : Has ms m) (run : ℕ → Cycle) (f : Follows m run)
    (given : (n : ℕ) → GivenFits ms m (run n)) where
  abbrev Held : ℕ → Type 0
  Held n = AllByRecursion (PowersUp (run n)) m.items

  abbrev Fits : ℕ → Name → Type 0
  Fits n x = net_kind_is_read (net_kind_of (declared m) x) ≡ true → is_clk x ≡ false → (run n).net x < 2 ^ bits_of (declared m) x

  module _ (n : ℕ) (held : Held n) where
    cell_fits : (w : ℕ) (y : Name) (k : ℕ) → Has m.items (Memory w y k) → (a : ℕ) → a < k → (run n).cell y a < 2 ^ w
    cell_fits w y k has a low = all_at (PowersUp (run n)) m.items (Memory w y k) held has a low

    register_fits : (x : Name) → net_kind_of (declared m) x ≡ Register → (run n).net x < 2 ^ bits_of (declared m) x
    register_fits x s =
        let t = register_item m x s in
        let low : (run n).net x < 2 ^ t.0 = all_at (PowersUp (run n)) m.items (Reg t.0 x) held t.1 in
        subst (λ w. (run n).net x < 2 ^ w) (sym (register_bits ms sound.names m in_ms t.0 x t.1)) low

    cells_below : (x : Name) (e : Value) → Has m.items (Assign x e) → CellsBelow (declared m) (cells_of m.items) (run n) e
    cells_below x (Cell y z) has =
        let t = memory_item m y (memory_is _ (assign_cell ms sound.names m in_ms x y z has)) in
        λ a low.
        subst (λ w. (run n).cell y a < 2 ^ w) (sym (memory_bits ms sound.names m in_ms t.0 y t.1 t.2))
        (cell_fits t.0 y t.1 t.2 a (subst (λ k. a < k) (memory_cells m ms sound.names in_ms t.0 y t.1 t.2) low))
    cells_below x (Plain a) has = tt
    cells_below x (Invert a) has = tt
    cells_below x (Binary a op b) has = tt
    cells_below x (Choose t a b) has = tt
    cells_below x (Concat atoms) has = tt
    cells_below x (Repeat k a) has = tt

    cells_same : (w : ℕ) (k : Name) (count : ℕ) → Has m.items (Memory w k count) → f.sizes.cells k ≡ cells_of m.items k
    cells_same w k count has = (all_at (Holds f.sizes (run n)) m.items (Memory w k count) (f.lines n) has).1 ∙ sym (memory_cells m ms sound.names in_ms w k count has)

    reads_alike : (x : Name) (e : Value) → Has m.items (Assign x e) → ReadsAlike (run n) (run n) f.sizes (sizes_of m) e
    reads_alike x (Cell k y) has =
        let t = memory_item m k (memory_is _ (assign_cell ms sound.names m in_ms x k y has)) in
        λ a. ap (λ count. cond (nat_lt a count) ((run n).cell k a) 0) (cells_same t.0 k t.1 t.2)
    reads_alike x (Plain a) has = tt
    reads_alike x (Invert a) has = tt
    reads_alike x (Binary a op b) has = tt
    reads_alike x (Choose t a b) has = tt
    reads_alike x (Concat atoms) has = tt
    reads_alike x (Repeat k a) has = tt

    assign_is : (x : Name) (e : Value) → Has m.items (Assign x e) → (run n).net x ≡ driven (sizes_of m) (bits_of (declared m) x) (run n) e
    assign_is x e has =
        all_at (Holds f.sizes (run n)) m.items (Assign x e) (f.lines n) has
        ∙ driven_same (run n) (run n) f.sizes (sizes_of m) (f.sizes.width x) (bits_of (declared m) x) e
        (width_held m f.sizes (run n) f.ports (f.lines n) x net_kind_is_driven refl refl (assign_driven ms sound.names m in_ms x e has))
        (λ z h. refl)
        (λ z h. width_held m f.sizes (run n) f.ports (f.lines n) z net_kind_is_read refl refl (assign_reads ms sound.names m in_ms x e has z h).0)
        (reads_alike x e has)

    driver_rests : (x : Name) (e : Value) → Has m.items (Assign x e) → (z : Name) → Has (value_nets e) z → Rests ms is_top m x z
    driver_rests x e has z h = directly (has_left (flat_map (line_edges ms) m.items) _ (x, z) (has_flat (line_edges ms) m.items (Assign x e) (x, z) has (has_map (λ y. (x, y)) (value_nets e) z h)))

    assign_fits : (x : Name) → ((z : Name) → Rests ms is_top m x z → Fits n z) → (e : Value) → Has m.items (Assign x e) → (run n).net x < 2 ^ bits_of (declared m) x
    assign_fits x below e has =
        subst (λ v. v < 2 ^ bits_of (declared m) x) (sym (assign_is x e has))
        (value_below (declared m) (cells_of m.items) (run n) (bits_of (declared m) x) e (assign_width ms sound.widths m in_ms x e has)
        (λ z h. let r = assign_reads ms sound.names m in_ms x e has z h in below z (driver_rests x e has z h) r.0 r.1)
        (cells_below x e has))

    source_fits : (x : Name) → ((z : Name) → Rests ms is_top m x z → Fits n z) → (s : Source) → Has (sources ms m.items) (x, s) → (run n).net x < 2 ^ bits_of (declared m) x
    source_fits x below (value e) h = let t = of_flat (line_sources ms) m.items (x, value e) h in assign_fits x below e (subst (λ z. Has m.items z) (value_line ms t.0 x e t.2) t.1)
    source_fits x below (output i p) h =
        let t = of_flat (line_sources ms) m.items (x, output i p) h in
        let d : IsDrivenBy ms m.items x i p = output_line ms m.items t.0 t.1 x i p t.2 in
        subst (λ z. (run n).net z < 2 ^ bits_of (declared m) z) d.net ((given n).outputs d.kn i d.connections d.has d.connection d.connected d.output)

    undriven_fits : (x : Name) → is_clk x ≡ false → source_of (sources ms m.items) x ≡ None → (s : NetKind) → net_kind_of (declared m) x ≡ s → net_kind_is_read s ≡ true → (run n).net x < 2 ^ bits_of (declared m) x
    undriven_fits x no_clock none Input e r = (given n).inputs x e no_clock
    undriven_fits x no_clock none Register e r = register_fits x e
    undriven_fits x no_clock none Output e r = absurd (has_source ms sound.drivers m in_ms x (ap net_kind_is_driven e) (λ i. cc (sym e ∙ i)) none)
    undriven_fits x no_clock none WireNet e r = absurd (has_source ms sound.drivers m in_ms x (ap net_kind_is_driven e) (λ i. cc (sym e ∙ i)) none)
    undriven_fits x no_clock none Unknown e r = cc
    undriven_fits x no_clock none MemoryArray e r = cc
    undriven_fits x no_clock none ChildInstance e r = cc

    net_fits : (x : Name) → Ends (Rests ms is_top m) x → Fits n x
    net_fits x (ends g) r no_clock = elim (source_cases (sources ms m.items) x) [
      | inl none ↦ undriven_fits x no_clock none (net_kind_of (declared m) x) refl r
      | inr t ↦ source_fits x (λ z h. net_fits z (g z h)) t.0 t.1
    ]

    numbers_fit : NumbersFit m (run n)
    numbers_fit = record { nets = λ x r no_clock. net_fits x (wires_end ms is_top sound.names loopless m in_ms x) r no_clock; cells = cell_fits }

    left_fits : NumbersFit m (run_items f.sizes (run n) m.items (run n))
    left_fits = items_fit ms sound.names m in_ms f.sizes (run n) numbers_fit m.items (λ b has. step_fits ms sound.widths m in_ms sound.names b has) (run n) numbers_fit

    held_next : (it : Item) → Has m.items it → Takes f.sizes m.items (run n) (run (suc n)) it → PowersUp (run (suc n)) it
    held_next (Reg w x) has t =
        let net_kind : net_kind_of (declared m) x ≡ Register = declared_net_kind m ms sound.names in_ms _ (has_line m ms sound.names in_ms (Reg w x) has (record { name = x; net_kind = Register; bits = w; cells = 0 }) (inl refl)) in
        let low = left_fits.nets x (ap net_kind_is_read net_kind) (register_clock ms sound.names m in_ms w x has) in
        subst (λ v. v < 2 ^ w) (sym t) (subst (λ k. (run_items f.sizes (run n) m.items (run n)).net x < 2 ^ k) (register_bits ms sound.names m in_ms w x has) low)
    held_next (Memory w x k) has t = λ a low. subst (λ v. v < 2 ^ w) (sym (t a low)) (left_fits.cells w x k has a low)
    held_next (Wire w x) has t = tt
    held_next (Assign x e) has t = tt
    held_next (Always b) has t = tt
    held_next (Instance k i connections) has t = tt

  held_at : (n : ℕ) → Held n
  held_at zero = f.power_up
  held_at (suc n) = all_from (PowersUp (run (suc n))) m.items (λ it has. held_next n (held_at n) it has (all_at (Takes f.sizes m.items (run n) (run (suc n))) m.items it (f.registers n) has))

  pub all_fit : (n : ℕ) → NumbersFit m (run n)
  all_fit n = numbers_fit n (held_at n)
