-- The text of the circuit of a source's program.
use Rattle.std.specs.Prelude.{◌≡◌, ℕ, List, []}
use Rattle.tapa_syntax.specs.declared.program.Program.{Program}
use Rattle.vlog_design.specs.Designs.{DesignTree}
use Rattle.vlog_tree.specs.Spelling.{spelling}
use Rattle.circuit_meaning.specs.Circuits.{IsCircuitOf}
use Rattle.command_source.specs.Source.{IsProgramOf}

-- the text of a circuit of a program, to whose streams these latencies are added
pub record IsCircuitText (program : Program) (added text : List ℕ) : Type 0 where
  pub design : DesignTree
  pub circuit : IsCircuitOf program added design
  pub told : text ≡ spelling design.modules

-- without a device no latency is added to the streams: each has a FIFO alone
pub record HasCircuit (text top told : List ℕ) : Type 0 where
  pub program : Program
  pub means : IsProgramOf text top program
  pub is : IsCircuitText program [] told
