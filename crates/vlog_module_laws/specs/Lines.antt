-- What a run of a module does at each of its lines.
use Rattle.std.specs.Prelude.{◌≡◌, ℕ, suc, ◌<◌, List, [], ◌∷◌, Some}
use Rattle.vlog_tree.specs.declared.tree.Step.{Step}
use Rattle.vlog_tree.specs.declared.tree.Connection.{Connection}
use Rattle.vlog_tree.specs.declared.tree.Item.{Item}
use Rattle.vlog_tree.specs.declared.tree.Item.TheVariants.{Reg, Memory, Instance}
use Rattle.vlog_tree.specs.declared.tree.PortDecl.{PortDecl}
use Rattle.vlog_tree.specs.Form.{ModuleTree}
use Rattle.tapa_base.specs.Lists.{Has}
use Rattle.vlog_tree.specs.Table.{Name}
use Rattle.vlog_tree.specs.Cycle.{Cycle, Sizes, Path, Holds, PortHolds, PowersUp, Takes, Follows, Runs, module_at, run_steps}
use Rattle.vlog_module_laws.specs.Blocks.{IsOwnBlock}

-- a run does what one line says, in every cycle
pub record IsFollowed (s : Sizes) (items : List Item) (run : ℕ → Cycle) (it : Item) : Type 0 where
  pub holds : (n : ℕ) → Holds s (run n) it
  pub powers_up : PowersUp (run 0) it
  pub takes : (n : ℕ) → Takes s items (run n) (run (suc n)) it

-- a run of a module does what each line says, with the width of each port
abbrev pub RunsFollowLines : Type 0
RunsFollowLines = (m : ModuleTree) (run : ℕ → Cycle) (f : Follows m run) (it : Item) → Has m.items it → IsFollowed f.sizes m.items run it

abbrev pub RunsKeepPorts : Type 0
RunsKeepPorts = (m : ModuleTree) (run : ℕ → Cycle) (f : Follows m run) (p : PortDecl) → Has m.ports p → PortHolds f.sizes p

-- and what does so is a run
abbrev pub LinesMakeRuns : Type 0
LinesMakeRuns =
    (m : ModuleTree) (run : ℕ → Cycle) (s : Sizes) → ((p : PortDecl) → Has m.ports p → PortHolds s p) → ((it : Item) → Has m.items it → IsFollowed s m.items run it) → Follows m run

-- in the next cycle a register has what its own block makes of this cycle's numbers
abbrev pub RegistersTakeTheirBlocks : Type 0
RegistersTakeTheirBlocks =
    (m : ModuleTree) (run : ℕ → Cycle) (f : Follows m run) (w : ℕ) (x : Name) (b : List Step) → Has m.items (Reg w x) → IsOwnBlock m.items x b
    → (n : ℕ) → (run (suc n)).net x ≡ (run_steps f.sizes (run n) [] b (run n)).net x

-- and so has each cell of a memory
abbrev pub CellsTakeTheirBlocks : Type 0
CellsTakeTheirBlocks =
    (m : ModuleTree) (run : ℕ → Cycle) (f : Follows m run) (w : ℕ) (x : Name) (k : ℕ) (b : List Step) → Has m.items (Memory w x k) → IsOwnBlock m.items x b
    → (n a : ℕ) → a < k → (run (suc n)).cell x a ≡ (run_steps f.sizes (run n) [] b (run n)).cell x a

-- a port of an instance has the number of the net that it is connected to
abbrev pub ConnectionsHold : Type 0
ConnectionsHold =
    (ms : List ModuleTree) (top : ModuleTree) (nets : ℕ → Path → Cycle) → Runs ms top nets → (n : ℕ) (path : Path) (m : ModuleTree) → module_at ms top path ≡ Some m
    → (k i : Name) (connections : List Connection) → Has m.items (Instance k i connections) → (l : Connection) → Has connections l
    → (nets n (i ∷ path)).net l.port ≡ (nets n path).net l.net
