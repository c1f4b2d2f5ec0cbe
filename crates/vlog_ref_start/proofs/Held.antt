-- What an instance holds at first is what its registers and memories have in each run that begins so.
use Rattle.std.proofs.Common.{◌≡◌, ℕ, ◌%◌, ◌^◌, ◌<◌, true, List, Some, length, get_or, inl, inr, refl, sym, ap, subst, ◌∙◌, map}
use Rattle.std.specs.Prelude.{is_some, replicate}
use Rattle.std.specs.List.{flat_map, AllByRecursion}
use Rattle.std.proofs.lemmas.List.{length-replicate, get_or-replicate}
use Rattle.vlog_tree.specs.declared.tree.Item.{Item}
use Rattle.vlog_tree.specs.declared.tree.Item.TheVariants.{Wire, Reg, Memory, Assign, Always, Instance}
use Rattle.vlog_tree.specs.Form.{ModuleTree}
use Rattle.tapa_base.specs.Lists.{Has}
use Rattle.vlog_tree.specs.Cycle.{Cycle, Path, module_at}
use Rattle.vlog_tree.specs.Table.{Name}
use Rattle.tapa_base.proofs.Lists.{has_flat, of_flat, has_map, of_map}
use Rattle.vlog_run_laws.specs.runs.OneRun.{SameHeld}
use Rattle.vlog_run_laws.specs.runs.Filled.{HoldsFill}
use Rattle.vlog_values.specs.declared.numbers.NetNumber.{NetNumber}
use Rattle.vlog_values.specs.declared.numbers.MemoryCells.{MemoryCells}
use Rattle.vlog_values.specs.Numbers.{first_net, first_memory}
use Rattle.vlog_values.specs.declared.moment.Held.{Held}
use Rattle.vlog_ref_cycle.specs.Moments.{RegisterIs, MemoryIs, HeldIs}
use Rattle.vlog_ref_start.specs.Whole.{HoldsAll}
use Rattle.vlog_ref_start.specs.Instances.{PlaceTree}
use Rattle.vlog_ref_start.specs.Contents.{HeldTree, memory_tree, held_tree, filled_net, filled_cells, filled_held}
use Rattle.vlog_ref_start.proofs.Found.{net_there, memory_there}
use Rattle.tapa_base.proofs.Got.{all_at, all_from}

-- a memory of a module, by its name and its cells
abbrev CellsAre : List Item → Cycle → Name × List ℕ → Type 0
CellsAre items c k = ((w : ℕ) × Has items (Memory w k.0 (length k.1))) × ((a : ℕ) → a < length k.1 → c.cell k.0 a ≡ get_or k.1 a 0)

module _ (fill : ℕ) (items : List Item) where
  net_from : (it : Item) → Has items it → (r : NetNumber) → Has (filled_net fill it) r → Has items (Reg r.bits r.name) × (r.number ≡ fill % 2 ^ r.bits)
  net_from (Reg w x) has r (inl e) = subst (λ (q : NetNumber). Has items (Reg q.bits q.name) × (q.number ≡ fill % 2 ^ q.bits)) e (has, refl)
  net_from (Reg w x) has r (inr h) = absurd h
  net_from (Wire w x) has r h = absurd h
  net_from (Memory w x n) has r h = absurd h
  net_from (Assign x e) has r h = absurd h
  net_from (Always b) has r h = absurd h
  net_from (Instance k i connections) has r h = absurd h

  module _ (c d : Cycle) (begins : AllByRecursion (SameHeld c d) items) (filled : AllByRecursion (HoldsFill fill d) items) where
    register_is : (r : NetNumber) → Has (flat_map (filled_net fill) items) r → RegisterIs items c r
    register_is r h =
        let t = of_flat (filled_net fill) items r h in
        let q = net_from t.0 t.1 r t.2 in
        (q.0, all_at (SameHeld c d) items (Reg r.bits r.name) begins q.0 ∙ all_at (HoldsFill fill d) items (Reg r.bits r.name) filled q.0 ∙ sym q.1)

    cells_from : (it : Item) → Has items it → (k : Name × List ℕ) → Has (filled_cells fill it) k → CellsAre items c k
    cells_from (Memory w x n) has k (inl e) =
        let v : ℕ = fill % 2 ^ w in
        let many : length (replicate n v) ≡ n = length-replicate n v in
        subst (λ (q : Name × List ℕ). CellsAre items c q) e (
          (w, subst (λ z. Has items (Memory w x z)) (sym many) has),
          λ a low.
              let below : a < n = subst (λ z. a < z) many low in
              all_at (SameHeld c d) items (Memory w x n) begins has a below ∙ all_at (HoldsFill fill d) items (Memory w x n) filled has a below ∙ sym (get_or-replicate n a v 0 below),
        )
    cells_from (Memory w x n) has k (inr h) = absurd h
    cells_from (Wire w x) has k h = absurd h
    cells_from (Reg w x) has k h = absurd h
    cells_from (Assign x e) has k h = absurd h
    cells_from (Always b) has k h = absurd h
    cells_from (Instance m i connections) has k h = absurd h

    memory_is : (k : MemoryCells) → Has (flat_map (filled_cells fill) items) (memory_tree k) → MemoryIs items c k
    memory_is k h = let t = of_flat (filled_cells fill) items (memory_tree k) h in cells_from t.0 t.1 (memory_tree k) t.2

-- what an instance of a place holds at first
module _ (fill : ℕ) (p : PlaceTree) (h : Held) (is : held_tree h ≡ filled_held fill p) where
  pub path_is : h.path.items ≡ p.0
  path_is = ap (λ (t : HeldTree). t.path) is

  nets_are : h.nets.items ≡ flat_map (filled_net fill) p.1.items
  nets_are = ap (λ (t : HeldTree). t.nets) is

  memories_are : map memory_tree h.memories.items ≡ flat_map (filled_cells fill) p.1.items
  memories_are = ap (λ (t : HeldTree). t.memories) is

  pub holds_all : HoldsAll p.1 h
  holds_all = record {
    registers = λ w x has.
        let n : NetNumber = record { name = x; bits = w; number = fill % 2 ^ w } in
        subst (λ ns. is_some (first_net ns x) ≡ true) (sym nets_are) (net_there (flat_map (filled_net fill) p.1.items) n (has_flat (filled_net fill) p.1.items (Reg w x) n has (inl refl)));
    memories = λ w x n has.
        let k : Name × List ℕ = (x, replicate n (fill % 2 ^ w)) in
        let t = of_map memory_tree h.memories.items k (subst (λ ks. Has ks k) (sym memories_are) (has_flat (filled_cells fill) p.1.items (Memory w x n) k has (inl refl))) in
        subst (λ z. is_some (first_memory h.memories.items z) ≡ true) (ap (λ (q : Name × List ℕ). q.0) t.2) (memory_there h.memories.items t.0 t.1);
  }

  pub held_is : (ms : List ModuleTree) (root : ModuleTree) → module_at ms root p.0 ≡ Some p.1 → (nets contents : Path → Cycle) → AllByRecursion (SameHeld (nets p.0) (contents p.0)) p.1.items → AllByRecursion (HoldsFill fill (contents p.0)) p.1.items → HeldIs ms root nets h
  held_is ms root at nets contents begins filled =
      let c = nets p.0 in
      let d = contents p.0 in
      record {
        tree = p.1;
        at = ap (λ z. module_at ms root z) path_is ∙ at;
        registers = subst (λ z. AllByRecursion (RegisterIs p.1.items (nets z)) h.nets.items) (sym path_is)
            (all_from (RegisterIs p.1.items c) h.nets.items (λ r has. register_is fill p.1.items c d begins filled r (subst (λ ns. Has ns r) nets_are has)));
        memories = subst (λ z. AllByRecursion (MemoryIs p.1.items (nets z)) h.memories.items) (sym path_is)
            (all_from (MemoryIs p.1.items c) h.memories.items (λ k has. memory_is fill p.1.items c d begins filled k (subst (λ ks. Has ks (memory_tree k)) memories_are (has_map memory_tree h.memories.items k has))));
      }
