-- A whole simulator.
use Rattle.std.specs.Prelude.{◌≡◌, ℕ, ◌≤◌, true, ◌&&◌, List, Option, Some, None, length, slice_get, if◌then◌else◌}
use Rattle.tapa_base.specs.declared.shape.Port.{Port}
use Rattle.vlog_tree.specs.Form.{ModuleTree}
use Rattle.vlog_tree.specs.Labels.{s_wr, s_rdy, s_din, done}
use Rattle.tapa_base.specs.declared.token.Token.{Token}
use Rattle.vlog_tree.specs.Environment.{streams_of, token_of}
use Rattle.vlog_design.specs.Designs.{TopOf}
use Rattle.vlog_design.specs.Environments.{lists_of}
use Rattle.sim_tape.specs.declared.gates.Pair.{Pair}
use Rattle.sim_tape.specs.Operators.{cells_of}
use Rattle.sim_tape.specs.Tape.{number_at, pair_value}
use Rattle.sim_tape.specs.Solved.{IsSolved, SameGiven}
use Rattle.sim_flat.specs.declared.flat.Flat.{Flat}
use Rattle.sim_design.specs.declared.drafts.Commit.{Commit}
use Rattle.cycle_sim.specs.declared.inputs.Input.{Input}
use Rattle.cycle_sim.specs.declared.around.Around.{Around}
use Rattle.cycle_sim.specs.declared.parts.Stream.{Stream}
use Rattle.cycle_sim.specs.declared.parts.Parts.{Parts}
use Rattle.cycle_sim.specs.declared.parts.State.{State}
use Rattle.cycle_sim.specs.SlotsTold.{told_by}
use Rattle.cycle_sim.specs.Sims.{SimTree}
use Rattle.cycle_sim.specs.Steps.{IsAway, supplied, is_one}
use Rattle.cycle_sim.specs.Writes.{AreUnmade, AreUnwritten}
use Rattle.cycle_sim.specs.ShownNets.{AreShown}
use Rattle.cycle_sim.specs.Machines.{AreInputs, AreOutside, IsPairOf, IsMachine, HasCells}

-- what a simulator is of, what it shows of its cycle, and when the memories around it are ready
abbrev pub sim_tree : Parts → State → SimTree
sim_tree p s = record {
  design = p.design;
  told = told_by p.design.modules p.flat p.machine.pairs.items p.machine.memories.items s.cycle (cells_of s.cells.items) s.numbers.items;
  ready = lists_of p.ready.items;
}

-- the pairs of a stream's nets, and the bits of its din
pub record IsStream (ms : List ModuleTree) (f : Flat) (pairs : List (Option Pair)) (l : Port) (s : Stream) : Type 0 where
  pub wr : IsPairOf ms f pairs (s_wr l.name) s.wr
  pub rdy : IsPairOf ms f pairs (s_rdy l.name) s.rdy
  pub din : IsPairOf ms f pairs (s_din l.name) s.din
  pub bits : s.bits ≡ l.bits
  pub low : 2 ≤ l.bits
  pub high : l.bits ≤ 65

-- the streams of a design, in their order
pub record AreStreams (ms : List ModuleTree) (top : ModuleTree) (f : Flat) (pairs : List (Option Pair)) (streams : List Stream) : Type 0 where
  pub count : length streams ≡ length (streams_of top)
  pub each : (i : ℕ) (l : Port) → slice_get (streams_of top) i ≡ Some l → (t : Stream) × (slice_get streams i ≡ Some t) × IsStream ms f pairs l t

-- the interface of a design to its environment, by the pairs of its top's names
pub record IsAround (ms : List ModuleTree) (top : ModuleTree) (f : Flat) (pairs : List (Option Pair)) (scalars : List ℕ) (a : Around) : Type 0 where
  pub inputs : AreInputs ms top f pairs scalars a.inputs.items
  pub outside : AreOutside ms top f pairs a.outside.items
  pub streams : AreStreams ms top f pairs a.streams.items
  pub shown : AreShown ms top f pairs a.shown.items
  pub is_done : IsPairOf ms f pairs done a.done

-- the token on a stream, by the numbers of slots
abbrev pub token_on : List ℕ → Stream → Option Token
token_on ns s = if is_one ns s.wr && is_one ns s.rdy then Some (token_of s.bits (pair_value ns s.din)) else None

-- A design is on the tape, with its interface to the environment.
pub record AreParts (p : Parts) : Type 0 where
  pub top : ModuleTree
  pub at : TopOf p.design top
  pub machine : IsMachine p.design.modules top p.flat p.machine
  pub around : IsAround p.design.modules top p.flat p.machine.pairs.items p.scalars.items p.around

-- The numbers that slots are given are those that they have, and those that registers take over, and nothing is written: while the inputs
-- stay, the next cycle is one like this.
pub record IsStill (p : Parts) (s : State) : Type 0 where
  pub taken_ns : List ℕ
  pub taken : (i : ℕ) (a : Commit) → slice_get p.machine.commits.items i ≡ Some a → number_at taken_ns a.slot ≡ number_at s.numbers.items a.next
  pub kept : (k : ℕ) → ((i : ℕ) (a : Input) → slice_get p.around.inputs.items i ≡ Some a → IsAway k a.pair) → number_at s.given.items k ≡ number_at taken_ns k
  pub same : SameGiven p.machine.program.gates s.given.items s.numbers.items
  pub unmade : AreUnmade s.numbers.items p.machine.stores.items
  pub unwritten : AreUnwritten s.numbers.items p.around.outside.items

-- The slots are those of a cycle of such a design.
pub record IsSim (p : Parts) (s : State) : Type 0 where
  pub parts : AreParts p
  pub size : length s.numbers.items ≡ length p.machine.program.gates
  pub room : length s.given.items ≡ length p.machine.program.gates
  pub solved : IsSolved p.machine.program (cells_of s.cells.items) s.numbers.items
  pub cells : HasCells p.design.modules parts.top p.flat p.machine.memories.items (cells_of s.cells.items)
  pub given : (i : ℕ) (a : Input) → slice_get p.around.inputs.items i ≡ Some a → pair_value s.numbers.items a.pair ≡ supplied (lists_of p.ready.items) s.cycle a.supply
  pub still : s.is_still ≡ true → IsStill p s
