-- A design in an environment has one report.
use Rattle.std.specs.Prelude.{◌≡◌, ℕ, List, Option}
use Rattle.vlog_tree.specs.Environment.{Environment}
use Rattle.vlog_tree.specs.Refused.{IsDesign}
use Rattle.vlog_design.specs.Designs.{DesignTree}
use Rattle.sim_output.specs.Reports.{IsSimulated}

-- up to a limit it is done first in one cycle or in none, and has one report
abbrev pub DesignsHaveOneReport : Type 0
DesignsHaveOneReport =
    (design : DesignTree) → IsDesign design.modules design.top → (env : Environment) (limit : ℕ) (at other : Option ℕ) (report told : List ℕ)
    → IsSimulated design env limit at report → IsSimulated design env limit other told → (at ≡ other) × (report ≡ told)

abbrev pub DesignsHaveAReport : Type 0
DesignsHaveAReport =
    (design : DesignTree) → IsDesign design.modules design.top → (env : Environment) (limit : ℕ) → (at : Option ℕ) × (report : List ℕ) × IsSimulated design env limit at report
