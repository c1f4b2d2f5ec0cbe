-- The parts of a clocked block that are open, by the numbers of slots.
use Rattle.std.specs.Prelude.{◌≡◌, ℕ, ◌<◌, Bool, true, not, List, [], ◌∷◌, map, ◌==◌, if◌then◌else◌}
use Rattle.std.specs.List.{list_all}
use Rattle.vlog_tree.specs.declared.tree.Step.{Step}
use Rattle.vlog_tree.specs.declared.tree.Step.TheVariants.{If, Else, End, NonblockingAssign, MemoryAssign}
use Rattle.vlog_tree.specs.declared.tree.Item.{Item}
use Rattle.vlog_tree.specs.declared.tree.Item.TheVariants.{Wire, Reg, Memory, Assign, Always, Instance}
use Rattle.vlog_tree.specs.declared.table.Declaration.{Declaration}
use Rattle.vlog_tree.specs.Table.{bits_of}
use Rattle.vlog_tree.specs.Cycle.{Cycle, Sizes, run_steps, step_next}
use Rattle.sim_tape.specs.Tape.{number_at}
use Rattle.sim_gates.specs.declared.parts.Part.{Part}

-- whether a part runs, by its own condition
abbrev pub part_runs : List ℕ → Part → Bool
part_runs ns p = if p.is_else then not (number_at ns p.test == 1) else (number_at ns p.test == 1)

abbrev pub parts_run : List ℕ → List Part → List Bool
parts_run ns parts = map (part_runs ns) parts

-- The slot `on` is 1 where all open parts run, the innermost first, and 0 elsewhere; and so it is of each of them with the
-- parts around it.
abbrev pub WalkShows : List ℕ → ℕ → List Part → Type 0
WalkShows ns on [] = number_at ns on ≡ 1
WalkShows ns on (p ∷ parts) = (number_at ns on ≡ (if part_runs ns p then number_at ns p.around else 0)) × WalkShows ns p.around parts

-- the slots of open parts are below n
abbrev pub WalkBefore : ℕ → ℕ → List Part → Type 0
WalkBefore n on [] = on < n
WalkBefore n on (p ∷ parts) = (on < n) × (p.test < n) × WalkBefore n p.around parts

-- after a step the others run with the parts that it leaves open, on what it leaves
pub record IsTurned (s : Sizes) (c : Cycle) (ns : List ℕ) (step : Step) (before : List Part) (on : ℕ) (after : List Part) : Type 0 where
  pub shows : WalkShows ns on after
  pub runs : (rest : List Step) (next : Cycle) → run_steps s c (parts_run ns before) (step ∷ rest) next ≡ run_steps s c (parts_run ns after) rest (step_next s c (parts_run ns before) step next)

-- the condition of a part is of one bit
abbrev pub is_condition : List Declaration → Step → Bool
is_condition ds (If c) = bits_of ds c == 1
is_condition ds Else = true
is_condition ds End = true
is_condition ds (NonblockingAssign x a) = true
is_condition ds (MemoryAssign m x a) = true

-- the conditions of a block are of one bit
abbrev pub has_conditions : List Declaration → Item → Bool
has_conditions ds (Always b) = list_all (is_condition ds) b
has_conditions ds (Wire w x) = true
has_conditions ds (Reg w x) = true
has_conditions ds (Memory w x n) = true
has_conditions ds (Assign x e) = true
has_conditions ds (Instance m i connections) = true
