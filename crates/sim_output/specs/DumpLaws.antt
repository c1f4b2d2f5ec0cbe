-- A design in an environment has one dump, and it shows the design's run.
use Rattle.std.specs.Prelude.{◌≡◌, ℕ, List, [], Option}
use Rattle.tapa_base.specs.Lists.{Has}
use Rattle.vlog_tree.specs.declared.table.Declaration.{Declaration}
use Rattle.vlog_tree.specs.Environment.{Environment, FitsShape, shape_of}
use Rattle.vlog_tree.specs.Form.{ModuleTree}
use Rattle.vlog_tree.specs.Refused.{IsDesign}
use Rattle.vlog_design.specs.Designs.{DesignTree, TopOf}
use Rattle.cycle_sim.specs.ShownNets.{shown_nets}
use Rattle.cycle_sim.specs.Sims.{last_cycle}
use Rattle.vcd_text.specs.Dump.{IsDumpOf}
use Rattle.vcd_text.specs.NetLines.{IsNetShown, value_lines}
use Rattle.sim_output.specs.Dumped.{IsDumped, nets_of, values_in}

-- up to a limit it is done first in one cycle or in none, and has one dump
abbrev pub DesignsHaveOneDump : Type 0
DesignsHaveOneDump =
    (design : DesignTree) → IsDesign design.modules design.top → (env : Environment) (limit : ℕ) (at other : Option ℕ) (text told : List ℕ)
    → IsDumped design env limit at text → IsDumped design env limit other told → (at ≡ other) × (text ≡ told)

abbrev pub DesignsHaveADump : Type 0
DesignsHaveADump = (design : DesignTree) → IsDesign design.modules design.top → (env : Environment) (limit : ℕ) → (at : Option ℕ) × (text : List ℕ) × IsDumped design env limit at text

-- an environment fits a design
abbrev pub FitsDesign : DesignTree → Environment → Type 0
FitsDesign design env = (m : ModuleTree) → TopOf design m → FitsShape env (shape_of m)

-- the dump of a design in an environment that fits it is a value change dump of the nets of its top, with their values in the run
abbrev pub DumpsAreDumps : Type 0
DumpsAreDumps =
    (design : DesignTree) → IsDesign design.modules design.top → (env : Environment) → FitsDesign design env
    → (limit : ℕ) (at : Option ℕ) (text : List ℕ) (h : IsDumped design env limit at text)
    → IsDumpOf h.top.name (nets_of h.top) (values_in (nets_of h.top) (λ n. h.nets n [])) (last_cycle limit at) text

-- so what is shown of a net of it are the numbers of that net in the run
abbrev pub DumpsShowTheRun : Type 0
DumpsShowTheRun =
    (design : DesignTree) → IsDesign design.modules design.top → (env : Environment) → FitsDesign design env
    → (limit : ℕ) (at : Option ℕ) (text name told : List ℕ) (h : IsDumped design env limit at text)
    → IsNetShown text name told → (d : Declaration) × Has (shown_nets h.top) d × (d.name ≡ name) × (told ≡ value_lines (λ n. (h.nets n []).net name) (last_cycle limit at))
