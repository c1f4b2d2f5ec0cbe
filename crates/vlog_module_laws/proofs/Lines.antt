-- A run of a module, line by line.
use Rattle.std.proofs.Common.{◌≡◌, ℕ, suc, ◌<◌, List, [], ◌∷◌, Some, ◌∙◌}
use Rattle.vlog_tree.specs.declared.tree.Step.{Step}
use Rattle.vlog_tree.specs.declared.tree.Connection.{Connection}
use Rattle.vlog_tree.specs.declared.tree.Item.{Item}
use Rattle.vlog_tree.specs.declared.tree.Item.TheVariants.{Reg, Memory, Instance}
use Rattle.vlog_tree.specs.declared.tree.PortDecl.{PortDecl}
use Rattle.vlog_tree.specs.Form.{ModuleTree}
use Rattle.tapa_base.specs.Lists.{Has}
use Rattle.vlog_tree.specs.Table.{Name}
use Rattle.vlog_tree.specs.Cycle.{Cycle, Sizes, Path, Holds, PortHolds, PowersUp, Takes, Follows, Runs, Connected, module_at, run_steps}
use Rattle.vlog_module_laws.specs.Blocks.{IsOwnBlock}
use Rattle.vlog_module_laws.specs.Lines.{IsFollowed}
use Rattle.vlog_module_laws.proofs.Blocks.{own_leaves, same}
use Rattle.tapa_base.proofs.Got.{all_at, all_from}

module _ (m : ModuleTree) (run : ℕ → Cycle) (f : Follows m run) where
  pub line : (it : Item) → Has m.items it → IsFollowed f.sizes m.items run it
  line it has = record {
    holds = λ n. all_at (Holds f.sizes (run n)) m.items it (f.lines n) has;
    powers_up = all_at (PowersUp (run 0)) m.items it f.power_up has;
    takes = λ n. all_at (Takes f.sizes m.items (run n) (run (suc n))) m.items it (f.registers n) has;
  }

  pub port : (p : PortDecl) → Has m.ports p → PortHolds f.sizes p
  port p has = all_at (PortHolds f.sizes) m.ports p f.ports has

  pub register_takes : (w : ℕ) (x : Name) (b : List Step) → Has m.items (Reg w x) → IsOwnBlock m.items x b → (n : ℕ) → (run (suc n)).net x ≡ (run_steps f.sizes (run n) [] b (run n)).net x
  register_takes w x b has own n = (line (Reg w x) has).takes n ∙ (own_leaves f.sizes (run n) x m.items b (run n) (run n) own.has own.assigns own.alone (same x (run n))).net

  pub cell_takes : (w : ℕ) (x : Name) (k : ℕ) (b : List Step) → Has m.items (Memory w x k) → IsOwnBlock m.items x b → (n a : ℕ) → a < k → (run (suc n)).cell x a ≡ (run_steps f.sizes (run n) [] b (run n)).cell x a
  cell_takes w x k b has own n a h = (line (Memory w x k) has).takes n a h ∙ (own_leaves f.sizes (run n) x m.items b (run n) (run n) own.has own.assigns own.alone (same x (run n))).cells a

pub runs_by_lines : (m : ModuleTree) (run : ℕ → Cycle) (s : Sizes) → ((p : PortDecl) → Has m.ports p → PortHolds s p) → ((it : Item) → Has m.items it → IsFollowed s m.items run it) → Follows m run
runs_by_lines m run s ports lines = record {
  sizes = s;
  ports = all_from (PortHolds s) m.ports ports;
  lines = λ n. all_from (Holds s (run n)) m.items (λ it h. (lines it h).holds n);
  power_up = all_from (PowersUp (run 0)) m.items (λ it h. (lines it h).powers_up);
  registers = λ n. all_from (Takes s m.items (run n) (run (suc n))) m.items (λ it h. (lines it h).takes n);
}

pub connection_holds : (ms : List ModuleTree) (top : ModuleTree) (nets : ℕ → Path → Cycle) → Runs ms top nets → (n : ℕ) (path : Path) (m : ModuleTree) → module_at ms top path ≡ Some m
    → (k i : Name) (connections : List Connection) → Has m.items (Instance k i connections) → (l : Connection) → Has connections l
    → (nets n (i ∷ path)).net l.port ≡ (nets n path).net l.net
connection_holds ms top nets r n path m at k i connections has l in_connections =
    all_at (λ (l : Connection). (nets n (i ∷ path)).net l.port ≡ (nets n path).net l.net) connections l
    (all_at (Connected (nets n) path) m.items (Instance k i connections) (r.connections n path m at) has) in_connections
