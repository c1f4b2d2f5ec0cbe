-- The nets of a module that have a number in each cycle: its ports but the clock, its wires and its registers.
use Rattle.std.specs.Prelude.{◌≡◌, ℕ, Bool, not, ◌&&◌, List, Option, Some, length, slice_get}
use Rattle.std.specs.List.{filter}
use Rattle.vlog_tree.specs.declared.table.Declaration.{Declaration}
use Rattle.vlog_tree.specs.Form.{ModuleTree}
use Rattle.vlog_tree.specs.Table.{is_clk, declared, net_kind_is_read}
use Rattle.sim_tape.specs.declared.gates.Pair.{Pair}
use Rattle.sim_flat.specs.declared.flat.Flat.{Flat}
use Rattle.cycle_sim.specs.Machines.{IsPairOf}

abbrev pub is_shown : Declaration → Bool
is_shown d = net_kind_is_read d.net_kind && not (is_clk d.name)

-- in the order of the text
abbrev pub shown_nets : ModuleTree → List Declaration
shown_nets m = filter is_shown (declared m)

-- the pairs of the nets of a design's top that have a number, in their order
pub record AreShown (ms : List ModuleTree) (top : ModuleTree) (f : Flat) (pairs : List (Option Pair)) (shown : List Pair) : Type 0 where
  pub count : length shown ≡ length (shown_nets top)
  pub each : (i : ℕ) (d : Declaration) → slice_get (shown_nets top) i ≡ Some d → (p : Pair) × (slice_get shown i ≡ Some p) × IsPairOf ms f pairs d.name p
