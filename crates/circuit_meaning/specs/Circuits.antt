-- What the circuit of a program is.
use Rattle.std.specs.Prelude.{◌≡◌, ℕ, Bool, List, ◌++◌, codes, map}
use Rattle.tapa_syntax.specs.declared.program.Program.{Program}
use Rattle.vlog_design.specs.Designs.{DesignTree, TopOf}
use Rattle.vlog_run_laws.specs.Beside.{RunsBeside, answers_in}
use Rattle.vlog_tree.specs.Cycle.{Cycle, Path}
use Rattle.vlog_tree.specs.Environment.{Environment, FitsShape, RunsIn, shape_of, streams_of}
use Rattle.vlog_tree.specs.Form.{ModuleTree}
use Rattle.vlog_tree.specs.Loops.{Rests}
use Rattle.vlog_tree.specs.Refused.{IsDesign}
use Rattle.vlog_tree.specs.Table.{Name, port_declared, net_kind_of}
use Rattle.vlog_tree.specs.V6.{is_top as is_top_name}
use Rattle.vlog_tree.specs.declared.table.NetKind.TheVariants.{Input, Output}
use Rattle.circuit_meaning.specs.Carries.{Carries}
use Rattle.circuit_meaning.specs.Clock.{clock_of}
use Rattle.circuit_meaning.specs.Ports.{scalar_ports, memory_ports, stream_ports}

-- A design is the circuit of a program, with these added latencies. `carries` and `beside` hold from any power-up contents.
pub record IsCircuitOf (program : Program) (added : List ℕ) (design : DesignTree) : Type 0 where
  -- its top module
  pub top : ModuleTree
  pub is_top : TopOf design top
  -- the name of the top is `t_` and the program's name
  pub named : top.name ≡ codes "t_" ++ program.top
  -- the design breaks no rule
  pub legal : IsDesign design.modules design.top
  -- the top's scalars, memories and streams are the program's in order, with their labels and bits
  pub scalars : (shape_of top).scalars ≡ scalar_ports program
  pub memories : (shape_of top).memories ≡ memory_ports program
  pub streams : streams_of top ≡ stream_ports program
  -- No output depends on an input within a cycle. So a memory may answer by what is requested in the same cycle.
  pub rests : (x y : Name) → net_kind_of (map port_declared top.ports) x ≡ Output → net_kind_of (map port_declared top.ports) y ≡ Input
      → Rests design.modules (is_top_name design.modules) top x y → ⊥
  -- in each run in an environment that fits it, the design carries what the timed counts say, by the clock of the environment's answers
  pub carries : (env : Environment) → FitsShape env (shape_of top) → (nets : ℕ → Path → Cycle) → RunsIn design.modules top env nets
      → Carries program env (clock_of program added (answers_in env)) nets
  -- In each run with memories that answer in any cycles, the design carries what the timed counts say, by the clock of these answers. A
  -- memory shows its cell in the cycles in which it answers and nothing is stored, and any number of its width in the others.
  pub beside : (env : Environment) → FitsShape env (shape_of top) → (answers : ℕ → ℕ → Bool) (nets : ℕ → Path → Cycle) → RunsBeside design.modules top env answers nets
      → Carries program env (clock_of program added answers) nets
