-- In each run of a design every number fits.
use Rattle.std.proofs.Common.{◌≡◌, ℕ, zero, suc, ◌^◌, ◌<◌, Bool, true, List, [], get_or, Some, inl, refl, sym, ap, subst, ◌∙◌}
use Rattle.std.specs.Prelude.{slice_get}
use Rattle.vlog_tree.specs.declared.tree.Item.{Item}
use Rattle.vlog_tree.specs.declared.tree.Item.TheVariants.{Wire, Reg, Memory, Assign, Always, Instance}
use Rattle.vlog_tree.specs.declared.table.NetKind.TheVariants.{Register}
use Rattle.vlog_tree.specs.Form.{ModuleTree}
use Rattle.tapa_base.specs.Lists.{Has}
use Rattle.vlog_run_laws.specs.Beside.{RunsBeside}
use Rattle.vlog_run_laws.specs.runs.Among.{StandsAmong}
use Rattle.tapa_base.specs.declared.shape.Port.{Port}
use Rattle.vlog_tree.specs.Cycle.{Cycle, Path, Holds, PowersUp, Takes, Runs, driven, run_items, module_at}
use Rattle.vlog_tree.specs.Table.{declared, net_kind_of, bits_of, net_kind_is_read, net_kind_is_driven}
use Rattle.vlog_tree.specs.Environment.{Environment, FitsShape, shape_of, RunsIn}
use Rattle.vlog_tree.specs.Refused.{IsDesign}
use Rattle.vlog_run_laws.specs.runs.OneRun.{FitsPowerUp}
use Rattle.vlog_run_laws.proofs.runs.Sound.{assign_driven, assign_reads, driven_is_read}
use Rattle.vlog_run_laws.proofs.runs.Alone.{register_clock}
use Rattle.vlog_run_laws.proofs.runs.Settled.{design_settles, top_tree, IsTopTree, module_in}
use Rattle.vlog_run_laws.proofs.runs.Sizes.{declared_net_kind, has_line, width_held}
use Rattle.vlog_run_laws.proofs.runs.Solved.{Allowed}
use Rattle.vlog_run_laws.specs.widths.Widths.{NumbersFit, OutsideFits, RunFits, DriversFit}
use Rattle.vlog_run_laws.proofs.widths.Bits.{value_operates}
use Rattle.vlog_run_laws.proofs.widths.Ruled.{assign_width, assign_clock, net_width, step_fits}
use Rattle.vlog_run_laws.proofs.widths.Steps.{register_bits, items_fit}
use Rattle.vlog_run_laws.proofs.widths.Nets.{cycle_fits}
use Rattle.vlog_run_laws.proofs.widths.Given.{GivesTop, stands_give, beside_gives, among_gives, input_below, outside_next, mapped_got, listed}
use Rattle.tapa_base.proofs.Got.{all_at, all_from}

module _ (ms : List ModuleTree) (place : ℕ) (root : ModuleTree) (d : IsDesign ms place) (at_place : slice_get ms place ≡ Some root) (env : Environment) (env_fits : FitsShape env (shape_of root)) (nets : ℕ → Path → Cycle) (runs : Runs ms root nets) (given : GivesTop root env (λ n. nets n [])) where
  tree : IsTopTree ms root
  tree = top_tree ms place d root at_place

  abbrev run : ℕ → Cycle
  run n = nets n []

  allowed : (n : ℕ) → Allowed ms root (nets n)
  allowed n = record {
    each = λ path m at. record { sizes = (runs.each path m at).sizes; ports = (runs.each path m at).ports; lines = (runs.each path m at).lines n };
    connections = runs.connections n;
  }

  abbrev AllFit : ℕ → Type 0
  AllFit n = (path : Path) (m : ModuleTree) → module_at ms root path ≡ Some m → NumbersFit m (nets n path)

  nets_fit : (n : ℕ) → FitsPowerUp ms root (nets n) → OutsideFits root env run n → AllFit n
  nets_fit n held cells path m at =
      cycle_fits ms root d.sound.names d.sound.widths d.sound.drivers d.outside tree.has (nets n) (allowed n) held
      (input_below ms d.sound.names d.outside root tree.has tree.is_top env env_fits run given n cells) (design_settles ms place d root at_place) path m at

  module _ (n : ℕ) (fit : AllFit n) (path : Path) (m : ModuleTree) (at : module_at ms root path ≡ Some m) where
    here : Has ms m
    here = module_in ms root tree.has path m at

    left_fits : NumbersFit m (run_items (runs.each path m at).sizes (nets n path) m.items (nets n path))
    left_fits = items_fit ms d.sound.names m here (runs.each path m at).sizes (nets n path) (fit path m at) m.items (λ b has. step_fits ms d.sound.widths m here d.sound.names b has) (nets n path) (fit path m at)

    held_next : (it : Item) → Has m.items it → Takes (runs.each path m at).sizes m.items (nets n path) (nets (suc n) path) it → PowersUp (nets (suc n) path) it
    held_next (Reg w x) has t =
        let net_kind : net_kind_of (declared m) x ≡ Register = declared_net_kind m ms d.sound.names here _ (has_line m ms d.sound.names here (Reg w x) has (record { name = x; net_kind = Register; bits = w; cells = 0 }) (inl refl)) in
        let low = left_fits.nets x (ap net_kind_is_read net_kind) (register_clock ms d.sound.names m here w x has) in
        subst (λ v. v < 2 ^ w) (sym t) (subst (λ k. (run_items (runs.each path m at).sizes (nets n path) m.items (nets n path)).net x < 2 ^ k) (register_bits ms d.sound.names m here w x has) low)
    held_next (Memory w x k) has t = λ a low. subst (λ v. v < 2 ^ w) (sym (t a low)) (left_fits.cells w x k has a low)
    held_next (Wire w x) has t = tt
    held_next (Assign x e) has t = tt
    held_next (Always b) has t = tt
    held_next (Instance k i connections) has t = tt

  all_held_next : (n : ℕ) → AllFit n → FitsPowerUp ms root (nets (suc n))
  all_held_next n fit path m at =
      let s = (runs.each path m at).sizes in
      all_from (PowersUp (nets (suc n) path)) m.items (λ it has. held_next n fit path m at it has (all_at (Takes s m.items (nets n path) (nets (suc n) path)) m.items it ((runs.each path m at).registers n) has))

  each_cycle : (n : ℕ) → FitsPowerUp ms root (nets n) × OutsideFits root env run n
  each_cycle zero = ((λ path m at. (runs.each path m at).power_up), λ i l got. listed (λ v. v < 2 ^ l.bits) (get_or env.memories i []) (env_fits.numbers.cells_fit i l.bits (mapped_got (shape_of root).memories i l got)))
  each_cycle (suc n) =
      let p = each_cycle n in
      let fit : AllFit n = nets_fit n p.0 p.1 in
      (all_held_next n fit, outside_next ms d.sound.names d.outside root tree.has tree.is_top env env_fits run given n (fit [] root refl) p.1)

  pub all_fit : RunFits ms root env nets
  all_fit = record { modules = λ n. nets_fit n (each_cycle n).0 (each_cycle n).1; outside = λ n. (each_cycle n).1 }

  pub each_driver_fits : (n : ℕ) (path : Path) (m : ModuleTree) → module_at ms root path ≡ Some m → DriversFit m (nets n path)
  each_driver_fits n path m at s ports lines x e has =
      let here : Has ms m = module_in ms root tree.has path m at in
      let fit : NumbersFit m (nets n path) = nets_fit n (each_cycle n).0 (each_cycle n).1 path m at in
      let drives = assign_driven ms d.sound.names m here x e has in
      let read : net_kind_is_read (net_kind_of (declared m) x) ≡ true = driven_is_read _ drives in
      let width : s.width x ≡ bits_of (declared m) x = width_held m s (nets n path) ports lines x net_kind_is_driven refl refl drives in
      let is : (nets n path).net x ≡ driven s (s.width x) (nets n path) e = all_at (Holds s (nets n path)) m.items (Assign x e) lines has in
      record {
        bits = net_width ms d.sound.widths m here x read;
        operands = value_operates (declared m) s.cells (nets n path) (bits_of (declared m) x) e (assign_width ms d.sound.widths m here x e has) (λ z h. let q = assign_reads ms d.sound.names m here x e has z h in fit.nets z q.0 q.1);
        value = subst (λ v. v < 2 ^ bits_of (declared m) x) (is ∙ ap (λ w. driven s w (nets n path) e) width) (fit.nets x read (assign_clock ms d.sound.names m here x e has));
      }

-- in an environment, and beside memories that show a cell where they answer and nothing is stored
module _ (ms : List ModuleTree) (place : ℕ) (root : ModuleTree) (d : IsDesign ms place) (at_place : slice_get ms place ≡ Some root) (env : Environment) (env_fits : FitsShape env (shape_of root)) where
  pub run_fits : (nets : ℕ → Path → Cycle) → RunsIn ms root env nets → RunFits ms root env nets
  run_fits nets r = all_fit ms place root d at_place env env_fits nets r.runs (stands_give root env (λ n. nets n []) r.stands)

  pub run_fits_beside : (acks : ℕ → ℕ → Bool) (nets : ℕ → Path → Cycle) → RunsBeside ms root env acks nets → RunFits ms root env nets
  run_fits_beside acks nets r = all_fit ms place root d at_place env env_fits nets r.runs (beside_gives root env acks (λ n. nets n []) r.stands)

  pub run_fits_among : (acks shows : ℕ → ℕ → Bool) (others : ℕ → ℕ → ℕ) → ((i n : ℕ) (l : Port) → slice_get (shape_of root).memories i ≡ Some l → others i n < 2 ^ l.bits)
      → (nets : ℕ → Path → Cycle) → Runs ms root nets → StandsAmong root env acks shows others (λ n. nets n []) → RunFits ms root env nets
  run_fits_among acks shows others low nets runs s = all_fit ms place root d at_place env env_fits nets runs (among_gives root env acks shows others low (λ n. nets n []) s)

  pub drivers_fit : (nets : ℕ → Path → Cycle) → RunsIn ms root env nets → (n : ℕ) (path : Path) (m : ModuleTree) → module_at ms root path ≡ Some m → DriversFit m (nets n path)
  drivers_fit nets r n path m at = each_driver_fits ms place root d at_place env env_fits nets r.runs (stands_give root env (λ n. nets n []) r.stands) n path m at
