-- How the snapshots that are computed begin and go on, and that they are those of a run.
use Rattle.std.specs.Prelude.{◌≡◌, ℕ, ◌+◌, ◌<◌, ◌≤◌, ◌^◌, List, Some, false, slice_get, IsTrue}
use Rattle.vlog_tree.specs.Form.{ModuleTree}
use Rattle.vlog_tree.specs.Refused.{IsDesign}
use Rattle.vlog_tree.specs.Table.{Name, is_clk, declared, net_kind_of, net_kind_is_read}
use Rattle.vlog_tree.specs.Cycle.{Cycle, Path, module_at}
use Rattle.vlog_tree.specs.Environment.{Environment, FitsShape, shape_of}
use Rattle.vlog_run_laws.specs.runs.OneRun.{IsRunFrom}
use Rattle.vlog_run_laws.specs.runs.Filled.{IsFilled}
use Rattle.vlog_values.specs.declared.moment.Circuit.{Circuit}
use Rattle.vlog_values.specs.declared.moment.Moment.{Moment}
use Rattle.vlog_ref_cycle.specs.Numbers.{net_within}
use Rattle.vlog_ref_cycle.specs.Moments.{InEachRun, IsAt}
use Rattle.vlog_ref_cycle.specs.Next.{IsKept, next_known}
use Rattle.vlog_ref_start.specs.Whole.{IsWhole, HasNoMore}

-- The snapshot of cycle 0 of each run in an environment in which every register and every cell begins with a number, cut to
-- its width. It leaves out nothing, and has nothing but parts of the design.
pub record IsStart (ms : List ModuleTree) (top : ModuleTree) (env : Environment) (fill : ℕ) (now : Moment) : Type 0 where
  pub cycle : now.cycle ≡ 0
  pub runs : (contents : Path → Cycle) (nets : ℕ → Path → Cycle) → IsFilled ms top fill contents → IsRunFrom ms top env contents nets → IsAt ms top env nets now
  pub whole : IsWhole ms top now
  pub no_more : HasNoMore ms top now

-- what is said of a snapshot that is computed as the next one
pub record IsNextOf (c : Circuit) (now after : Moment) : Type 0 where
  pub cycle : after.cycle ≡ now.cycle + 1
  pub kept : IsKept now after
  pub runs : InEachRun c now (λ env nets. IsAt c.modules.now c.top.now env nets after)

-- a snapshot that is computed from the first one, step by step
pub data IsComputed (c : Circuit) (first : Moment) : Moment → Type 0 where
  at_first : IsComputed c first first
  at_next : {now after : Moment} → IsComputed c first now → IsNextOf c now after → IsComputed c first after

-- a snapshot is that of a run: enough steps give each net its number in this cycle, and all that the next snapshot needs
pub record IsMomentOf (c : Circuit) (env : Environment) (nets : ℕ → Path → Cycle) (now : Moment) : Type 0 where
  pub at : IsAt c.modules.now c.top.now env nets now
  pub numbers : (path : Path) (m : ModuleTree) (x : Name) → module_at c.modules.now c.top.now path ≡ Some m → IsTrue (net_kind_is_read (net_kind_of (declared m) x)) → is_clk x ≡ false
      → (d : ℕ) × ((e : ℕ) → d ≤ e → net_within c.modules.now c.top.now now e path x ≡ Some ((nets now.cycle path).net x))
  pub next : now.cycle + 1 < 2 ^ 64 → (d : ℕ) × ((e : ℕ) → d ≤ e → IsTrue (next_known c now e))

abbrev pub ReferenceIsRun : Type 0
ReferenceIsRun =
    (c : Circuit) (top : ℕ) (env : Environment) (fill : ℕ) (contents : Path → Cycle) (nets : ℕ → Path → Cycle) (first now : Moment)
    → IsDesign c.modules.now top → slice_get c.modules.now top ≡ Some c.top.now → FitsShape env (shape_of c.top.now)
    → IsFilled c.modules.now c.top.now fill contents → IsRunFrom c.modules.now c.top.now env contents nets
    → IsStart c.modules.now c.top.now env fill first → IsComputed c first now → IsMomentOf c env nets now
