-- A driver's value, from what is held and from the numbers that were read, is the number of its target.
use Rattle.std.proofs.Common.{◌≡◌, Bool, true, false, ◌&&◌, List, [], ◌∷◌, inl, inr, refl, sym, ◌∙◌, map}
use Rattle.std.specs.List.{AllByRecursion}
use Rattle.vlog_tree.specs.declared.tree.Value.{Value}
use Rattle.vlog_tree.specs.declared.tree.Item.TheVariants.{Assign}
use Rattle.vlog_tree.specs.declared.table.Declaration.{Declaration}
use Rattle.vlog_tree.specs.Form.{ModuleTree}
use Rattle.vlog_tree.specs.Grounded.{AllTwo}
use Rattle.tapa_base.specs.Lists.{Has}
use Rattle.vlog_tree.specs.Table.{Name, declared, net_kind_of, bits_of, net_kind_is_read}
use Rattle.vlog_tree.specs.Cycle.{Cycle, Sizes, Holds, PortHolds, driven}
use Rattle.vlog_tree.specs.Loops.{value_nets}
use Rattle.vlog_run_laws.proofs.runs.Sizes.{width_held}
use Rattle.vlog_run_laws.proofs.runs.Values.{driven_same}
use Rattle.vlog_values.specs.declared.numbers.NetNumber.{NetNumber}
use Rattle.vlog_values.specs.declared.numbers.MemoryCells.{MemoryCells}
use Rattle.vlog_values.specs.Numbers.{net_in, bits_in, cycle_of, sizes_of}
use Rattle.vlog_ref_cycle.specs.Sources.{net_read, are_read, has_cells, can_drive}
use Rattle.vlog_ref_cycle.specs.Moments.{MemoryIs}
use Rattle.vlog_ref_cycle.proofs.Sound.{IsRead, read_found, reads_alike}
use Rattle.std.proofs.lemmas.Bool.{and_from as both}
use Rattle.tapa_base.proofs.Got.{all_at}

all_read : (ds : List Declaration) (names : List Name) → ((z : Name) → Has names z → net_kind_is_read (net_kind_of ds z) ≡ true) → are_read ds (map (net_read ds) names) ≡ true
all_read ds [] f = refl
all_read ds (y ∷ names) f = both (net_kind_is_read (net_kind_of ds y)) (are_read ds (map (net_read ds) names)) (f y (inl refl)) (all_read ds names (λ z h. f z (inr h)))

module _ (m : ModuleTree) (memories : List MemoryCells) (x : Name) (e : Value) (read : net_kind_is_read (net_kind_of (declared m) x) ≡ true) (reads : (z : Name) → Has (value_nets e) z → net_kind_is_read (net_kind_of (declared m) z) ≡ true)
    (has : has_cells memories e ≡ true) where
  -- each name in the driver stands for what it has to
  pub drives : can_drive (declared m) memories x e ≡ true
  drives = both (net_kind_is_read (net_kind_of (declared m) x) && are_read (declared m) (map (net_read (declared m)) (value_nets e))) (has_cells memories e)
      (both (net_kind_is_read (net_kind_of (declared m) x)) (are_read (declared m) (map (net_read (declared m)) (value_nets e))) read (all_read (declared m) (value_nets e) reads)) has

  module _ (c : Cycle) (s : Sizes) (ports : AllByRecursion (PortHolds s) m.ports) (lines : AllByRecursion (Holds s c) m.items) (held : AllByRecursion (MemoryIs m.items c) memories) where
    pub driver_number : Has m.items (Assign x e) → (ns : List NetNumber) → AllTwo (IsRead c) (map (net_read (declared m)) (value_nets e)) ns → c.net x ≡ driven (sizes_of ns memories) (bits_of (declared m) x) (cycle_of ns memories) e
    driver_number h ns a =
        let line : c.net x ≡ driven s (s.width x) c e = all_at (Holds s c) m.items (Assign x e) lines h in
        let width : s.width x ≡ bits_of (declared m) x = width_held m s c ports lines x net_kind_is_read refl refl read in
        let found : (z : Name) → Has (value_nets e) z → (net_in ns z ≡ c.net z) × (bits_in ns z ≡ bits_of (declared m) z) = read_found c (declared m) (value_nets e) ns a in
        line
        ∙ driven_same c (cycle_of ns memories) s (sizes_of ns memories) (s.width x) (bits_of (declared m) x) e width (λ z k. sym (found z k).0)
        (λ z k. width_held m s c ports lines z net_kind_is_read refl refl (reads z k) ∙ sym (found z k).1) (reads_alike m.items s c lines memories held ns e has)
