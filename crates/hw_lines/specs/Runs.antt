-- What a run of a task's module must do.
use Rattle.std.specs.Prelude.{◌≡◌, ◌+◌, ◌-◌, ◌^◌, ◌<◌, ◌∷◌, ◌&&◌, ◌==◌, if◌then◌else◌}
use Rattle.std.specs.Prelude.{ℕ, zero, suc, List, [], length, Bool, true, false, not, Option, Some, None, slice_get, slice_index}
use Rattle.tapa_base.specs.declared.kind.Kind.{Kind}
use Rattle.tapa_base.specs.declared.token.Token.{Token}
use Rattle.tapa_base.specs.Kinds.{bits_of, values_of}
use Rattle.tapa_syntax.specs.declared.program.Leaf.{Leaf}
use Rattle.tapa_syntax.specs.LeafKinds.{writes_of}
use Rattle.vlog_tree.specs.Form.{ModuleTree}
use Rattle.vlog_tree.specs.Labels.{rst}
use Rattle.vlog_tree.specs.Table.{one_if}
use Rattle.vlog_tree.specs.Cycle.{Cycle, Path, Runs, module_at}
use Rattle.vlog_tree.specs.Environment.{token_of}
use Rattle.kahn_model.specs.declared.tick.Action.{Action}
use Rattle.kahn_model.specs.declared.tick.Action.TheVariants.{Local, Put, Load, Store}
use Rattle.kahn_model.specs.Trace.{State, cell, with_cell}
use Rattle.task_fsm.specs.declared.machine.Fsm.{Fsm}
use Rattle.task_fsm.specs.Machine.{forms_of}
use Rattle.task_fsm.specs.Run.{StateStep, Performs, Awaits, Completes, Halts}
use Rattle.hw_build.specs.Scope.{each}
use Rattle.hw_lines.specs.Nets.{Net, State as StateNet, Ended, Done, Scalar, Variable, Array, Has, Dout, Taken, Din, Wr, Rdy, Ack, Rdata, Addr, Wdata, We, name}
use Rattle.hw_lines.specs.Shape.{Shape, shape_of, array_cells, stream_kind, register_kind, memory_kind}
use Rattle.hw_lines.specs.Signals.{Streams, History, Part}
use Rattle.hw_lines.specs.Machine.{RunsMachine, step_in, steps}

abbrev pub number_at : (ℕ → Cycle) → Net → ℕ → ℕ
number_at run x n = (run n).net (name x)

abbrev pub bit_at : (ℕ → Cycle) → Net → ℕ → Bool
bit_at run x n = number_at run x n == 1

-- the bits of a token of stream s
abbrev pub token_bits : Shape → ℕ → ℕ
token_bits S s = bits_of (stream_kind S s) + 1

-- the module's ports as those of streams
abbrev pub streams_at : Shape → (ℕ → Cycle) → Streams
streams_at S run = record {
  has = λ s n. bit_at run (Has s) n;
  dout = λ s n. token_of (token_bits S s) (number_at run (Dout s) n);
  take = λ s n. bit_at run (Taken s) n;
  rdy = λ s n. bit_at run (Rdy s) n;
  wr = λ s n. bit_at run (Wr s) n;
  din = λ s n. token_of (token_bits S s) (number_at run (Din s) n);
}

abbrev pub vars_at : Shape → (ℕ → Cycle) → ℕ → List ℕ
vars_at S run n = each (λ r. number_at run (Variable r) n ∷ []) (length S.registers)

abbrev pub array_at : Shape → (ℕ → Cycle) → ℕ → ℕ → List ℕ
array_at S run n a = each (λ i. (run n).cell (name (Array a)) i ∷ []) (array_cells S a)

-- what the registers and the arrays hold, with the cells of the memories outside
abbrev pub held_at : Shape → (ℕ → Cycle) → (ℕ → List (List ℕ)) → ℕ → State
held_at S run cells n = record { vars = vars_at S run n; arrays = each (λ a. array_at S run n a ∷ []) (length S.arrays); cells = cells n }

abbrev pub history_at : Shape → (ℕ → Cycle) → (ℕ → List (List ℕ)) → History
history_at S run cells = record { at = λ n. number_at run StateNet n; holds = λ n. held_at S run cells n; ended = λ n. bit_at run Ended n }

-- the cells of the memories in the next cycle: where one answers and is stored to, that cell
abbrev pub stored_in : Shape → (ℕ → Cycle) → ℕ → ℕ → List (List ℕ) → List (List ℕ)
stored_in S run n m cells = if bit_at run (Ack m) n && bit_at run (We m) n then with_cell cells m (number_at run (Addr m) n) (number_at run (Wdata m) n) else cells

abbrev pub all_stored : Shape → (ℕ → Cycle) → ℕ → ℕ → List (List ℕ) → List (List ℕ)
all_stored S run n zero cells = cells
all_stored S run n (suc m) cells = stored_in S run n m (all_stored S run n m cells)

-- the surroundings of the module: a cycle of reset, numbers of the widths of the inputs, and memories that show their cells in the
-- cycles in which they answer and nothing is stored
pub record StandsAround (S : Shape) (run : ℕ → Cycle) (cells : ℕ → List (List ℕ)) : Type 0 where
  pub reset : (run 0).net rst ≡ 1
  pub runs : (n : ℕ) → (run (suc n)).net rst ≡ 0
  pub scalars : (n i r : ℕ) → slice_get S.scalars i ≡ Some r → number_at run (Scalar i) n < values_of (register_kind S r)
  pub has : (n s : ℕ) → writes_of S.streams s ≡ Some false → number_at run (Has s) n < 2
  pub dout : (n s : ℕ) → writes_of S.streams s ≡ Some false → number_at run (Dout s) n < 2 ^ token_bits S s
  pub rdy : (n s : ℕ) → writes_of S.streams s ≡ Some true → number_at run (Rdy s) n < 2
  pub ack : (n m : ℕ) → m < length S.memories → number_at run (Ack m) n < 2
  pub memories : length (cells 0) ≡ length S.memories
  pub rdata : (n m : ℕ) → m < length S.memories → bit_at run (Ack m) n ≡ true → number_at run (We m) n ≡ 0 → number_at run (Rdata m) n ≡ cell (cells n) m (number_at run (Addr m) n)
  pub fit : (n m i : ℕ) → cell (cells n) m i < values_of (memory_kind S m)
  pub goes : (n : ℕ) → cells (suc n) ≡ all_stored S run n (length S.memories) (cells n)

-- the value at the port of register r's scalar parameter in the cycle of reset; 0 if r is of none
abbrev pub first_of : Shape → (ℕ → Cycle) → ℕ → ℕ → ℕ
first_of S run r zero = 0
first_of S run r (suc i) = if slice_index S.scalars i == r then number_at run (Scalar i) 0 else first_of S run r i

-- what the machine holds first: its registers their first values, and its arrays any cells
abbrev pub first_held : Shape → (ℕ → Cycle) → (ℕ → List (List ℕ)) → State
first_held S run cells = record {
  vars = each (λ r. first_of S run r (length S.scalars) ∷ []) (length S.registers);
  arrays = each (λ a. array_at S run 1 a ∷ []) (length S.arrays);
  cells = cells 1;
}

abbrev pub part_at : Shape → (ℕ → Cycle) → (ℕ → List (List ℕ)) → Part
part_at S run cells = record { places = S.states; bound = λ p. p; first = first_held S run cells }

abbrev pub answers_at : (ℕ → Cycle) → ℕ → ℕ → Bool
answers_at run m n = bit_at run (Ack m) n

-- what a step asks memory m for: a cell, which it may store
abbrev pub AsksBy : (ℕ → Cycle) → ℕ → ℕ → Action → Type 0
AsksBy run n m Local = Unit {0}
AsksBy run n m (Put s t) = Unit {0}
AsksBy run n m (Load x i) = x ≡ m → number_at run (Addr m) n ≡ i
AsksBy run n m (Store x i v) = x ≡ m → (number_at run (Addr m) n ≡ i) × (number_at run (Wdata m) n ≡ v)

abbrev pub AsksAs : (ℕ → Cycle) → ℕ → ℕ → StateStep → Type 0
AsksAs run n m (Performs a pc σ) = AsksBy run n m a
AsksAs run n m (Awaits s how pc into) = Unit {0}
AsksAs run n m Completes = Unit {0}
AsksAs run n m Halts = Unit {0}

-- whether a step stores in memory m
abbrev pub stores_to : ℕ → Action → Bool
stores_to m Local = false
stores_to m (Put s t) = false
stores_to m (Load x i) = false
stores_to m (Store x i v) = x == m

abbrev pub by_act : (Action → Bool) → StateStep → Bool
by_act f (Performs a pc σ) = f a
by_act f (Awaits s how pc into) = false
by_act f Completes = false
by_act f Halts = false

-- A run of the module runs its machine at its ports: it makes each step where its inputs allow it, and else keeps what it
-- holds. It says that it is done once it has ended.
pub record RunsTask (S : Shape) (w : ℕ → Option Bool) (run : ℕ → Cycle) (cells : ℕ → List (List ℕ)) : Type 0 where
  pub machine : RunsMachine (part_at S run cells) (streams_at S run) (answers_at run) (λ s. w s ≡ Some false) (λ s. w s ≡ Some true) (history_at S run cells)
  -- in each cycle a memory's ports show what the next step asks of it, whether it is made in this cycle or not
  pub asks : (n m : ℕ) → m < length S.memories → AsksAs run (suc n) m (step_in (part_at S run cells) (history_at S run cells) (suc n))
  -- and that something is to be stored is said exactly where the next step stores there
  pub stores :
      (n m : ℕ) → m < length S.memories → number_at run (We m) (suc n) ≡ one_if
      (not (bit_at run Ended (suc n)) && by_act (stores_to m) (step_in (part_at S run cells) (history_at S run cells) (suc n)))
  pub done : (n : ℕ) → number_at run Done n ≡ number_at run Ended n

-- In a run of any design that has the module, an instance of it runs the machine, whatever registers and arrays hold at
-- power-up.
abbrev pub ActsAsTask : Leaf → Fsm → ModuleTree → Type 0
ActsAsTask leaf machine tree =
    (all : List ModuleTree) (top : ModuleTree) (nets : ℕ → Path → Cycle) → Runs all top nets → (path : Path) → module_at all top path ≡ Some tree → (cells : ℕ → List (List ℕ))
    → StandsAround (shape_of machine leaf.memories.items leaf.streams.items) (λ n. nets n path) cells
    → RunsTask (shape_of machine leaf.memories.items leaf.streams.items) (writes_of leaf.streams.items) (λ n. nets n path) cells
