-- What the blocks of a design read is a declared net, and not the clock.
use Rattle.std.proofs.Common.{◌≡◌, true, false, List, None, inl, inr, ap}
use Rattle.std.specs.List.{flat_map}
use Rattle.vlog_tree.specs.declared.tree.Step.{Step}
use Rattle.vlog_tree.specs.declared.tree.Step.TheVariants.{If, Else, End, NonblockingAssign, MemoryAssign}
use Rattle.vlog_tree.specs.declared.tree.Item.{Item}
use Rattle.vlog_tree.specs.declared.tree.Item.TheVariants.{Wire, Reg, Memory, Assign, Always, Instance}
use Rattle.vlog_tree.specs.declared.table.Declaration.{Declaration}
use Rattle.vlog_tree.specs.Form.{ModuleTree}
use Rattle.tapa_base.specs.Lists.{Has}
use Rattle.vlog_tree.specs.Table.{Name, is_clk, declared, net_kind_of, net_kind_is_read, first_violation}
use Rattle.vlog_tree.specs.V2.{v2_uses, item_uses, step_uses, read_use}
use Rattle.tapa_base.proofs.Lists.{has_flat, of_flat}
use Rattle.vlog_run_laws.proofs.runs.Sound.{atom_read, item_right}
use Rattle.vlog_ref_cycle.specs.Next.{step_nets, item_nets}
use Rattle.std.specs.Prelude.{not}
use Rattle.tapa_base.proofs.Tests.{not_no}
use Rattle.std.proofs.lemmas.Bool.{or_parts as both_false}

-- each net of a step is among the names that it reads
step_read : (ds : List Declaration) (s : Step) (z : Name) → Has (step_nets s) z → Has (step_uses ds s) (read_use ds z)
step_read ds (If c) z (inl e) = inl (ap (read_use ds) e)
step_read ds (If c) z (inr h) = absurd h
step_read ds Else z h = absurd h
step_read ds End z h = absurd h
step_read ds (NonblockingAssign x a) z h = inr (atom_read ds a z h)
step_read ds (MemoryAssign k x a) z (inl e) = inr (inl (ap (read_use ds) e))
step_read ds (MemoryAssign k x a) z (inr h) = inr (inr (atom_read ds a z h))

module _ (ms : List ModuleTree) (names : first_violation (v2_uses ms) ≡ None) (m : ModuleTree) (in_ms : Has ms m) where
  item_reads : (it : Item) → Has m.items it → (z : Name) → Has (item_nets it) z → (net_kind_is_read (net_kind_of (declared m) z) ≡ true) × (is_clk z ≡ false)
  unfolding item_uses
  item_reads (Always b) has z h =
      let t = of_flat step_nets b z h in
      let u = has_flat (step_uses (declared m)) b t.0 (read_use (declared m) z) t.1 (step_read (declared m) t.0 z t.2) in
      let p = both_false (not (net_kind_is_read (net_kind_of (declared m) z))) (is_clk z) (item_right ms names m in_ms (Always b) has (read_use (declared m) z) (inr u)) in
      (not_no _ p.0, p.1)
  item_reads (Wire w x) has z h = absurd h
  item_reads (Reg w x) has z h = absurd h
  item_reads (Memory w x n) has z h = absurd h
  item_reads (Assign x e) has z h = absurd h
  item_reads (Instance kn i connections) has z h = absurd h

  pub block_reads : (z : Name) → Has (flat_map item_nets m.items) z → (net_kind_is_read (net_kind_of (declared m) z) ≡ true) × (is_clk z ≡ false)
  block_reads z h = let t = of_flat item_nets m.items z h in item_reads t.0 t.1 z t.2
