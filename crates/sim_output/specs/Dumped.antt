-- The dump of a design's run.
use Rattle.std.specs.Prelude.{◌≡◌, ℕ, List, [], map, Option, slice_get}
use Rattle.std.specs.Option.{option_map_or}
use Rattle.tapa_base.specs.Gaps.{Bytes}
use Rattle.vlog_tree.specs.declared.table.Declaration.{Declaration}
use Rattle.vlog_tree.specs.Form.{ModuleTree}
use Rattle.vlog_tree.specs.Table.{Name, net_kind_is_register}
use Rattle.vlog_tree.specs.Cycle.{Cycle, Path}
use Rattle.vlog_tree.specs.Environment.{Environment}
use Rattle.vlog_design.specs.Designs.{DesignTree, TopOf}
use Rattle.vlog_run_laws.specs.runs.Filled.{IsFilled}
use Rattle.vlog_run_laws.specs.runs.OneRun.{IsRunFrom}
use Rattle.cycle_sim.specs.ShownNets.{shown_nets}
use Rattle.cycle_sim.specs.Sims.{IsDoneAt, last_cycle}
use Rattle.vcd_text.specs.Nets.{Net}
use Rattle.vcd_text.specs.Dump.{Values, dump_text}

abbrev pub net_of : Declaration → Net
net_of d = record { name = d.name; bits = d.bits; is_reg = net_kind_is_register d.net_kind }

-- the ports of a module but the clock, and then its wires and registers, in the order of the text
abbrev pub nets_of : ModuleTree → List Net
nets_of m = map net_of (shown_nets m)

abbrev pub widths_of : List Net → List ℕ
widths_of nets = map (λ (n : Net). n.bits) nets

abbrev pub name_at : List Net → ℕ → Name
name_at nets k = option_map_or (λ (n : Net). n.name) (slice_get nets k) []

-- the values of nets in a run, by cycle and index
abbrev pub values_in : List Net → (ℕ → Cycle) → Values
values_in nets run n k = (run n).net (name_at nets k)

-- the dump of a top module's run in the cycles up to one
abbrev pub dump_of : ModuleTree → (ℕ → Cycle) → ℕ → Bytes
dump_of top run last = dump_text top.name (nets_of top) (values_in (nets_of top) run) last

-- A design runs in an environment from power-up with 0 in every register and every cell. It is done first in this cycle, or in
-- none up to a limit; and this is the dump up to there.
pub record IsDumped (design : DesignTree) (env : Environment) (limit : ℕ) (done_at : Option ℕ) (text : Bytes) : Type 0 where
  pub top : ModuleTree
  pub is_top : TopOf design top
  pub contents : Path → Cycle
  pub zeros : IsFilled design.modules top 0 contents
  pub nets : ℕ → Path → Cycle
  pub run : IsRunFrom design.modules top env contents nets
  pub done : IsDoneAt (λ n. nets n []) limit done_at
  pub shown : text ≡ dump_of top (λ n. nets n []) (last_cycle limit done_at)
