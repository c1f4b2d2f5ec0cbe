-- What an instance holds in the next cycle of a run.
use Rattle.std.proofs.Common.{◌≡◌, ℕ, suc, ◌<◌, List, [], ◌∷◌, Option, Some, length, get_or, map, ◌+◌, add-one, sym, ap, subst, ◌∙◌}
use Rattle.std.specs.List.{AllByRecursion, flat_map}
use Rattle.vlog_tree.specs.declared.tree.Item.{Item}
use Rattle.vlog_tree.specs.declared.tree.Item.TheVariants.{Reg, Memory}
use Rattle.vlog_tree.specs.Form.{ModuleTree}
use Rattle.vlog_tree.specs.Grounded.{AllTwo}
use Rattle.tapa_base.specs.Lists.{Has}
use Rattle.vlog_tree.specs.Table.{Name, declared}
use Rattle.vlog_tree.specs.Cycle.{Cycle, Path, Sizes, module_at, Holds, Takes, run_items}
use Rattle.vlog_tree.specs.Environment.{Environment, RunsIn, shape_of, cells_at}
use Rattle.vlog_values.specs.declared.numbers.NetNumber.{NetNumber}
use Rattle.vlog_values.specs.declared.numbers.MemoryCells.{MemoryCells}
use Rattle.tapa_base.specs.declared.shape.Port.{Port}
use Rattle.vlog_values.specs.declared.moment.Circuit.{Circuit}
use Rattle.vlog_values.specs.declared.moment.OutsideMemory.{OutsideMemory}
use Rattle.vlog_values.specs.declared.moment.Held.{Held}
use Rattle.vlog_values.specs.declared.moment.Moment.{Moment}
use Rattle.vlog_ref_cycle.specs.Numbers.{all_numbers, net_within}
use Rattle.vlog_ref_cycle.specs.Moments.{RegisterIs, MemoryIs, HeldIs, ScalarIs, OutsideIs, IsAt, IsRunAt, run_at, InEachRun}
use Rattle.vlog_ref_cycle.specs.Next.{stored_cells, IsAfterStore, item_nets, reads_of, ReadsAre, Fits, ShowsNet, TellsCells, Shows, IsAlike, net_shape, memory_shape}
use Rattle.vlog_ref_cycle.proofs.Options.{cons_same}
use Rattle.vlog_ref_cycle.proofs.Sound.{numbers_read, read_found}
use Rattle.vlog_ref_cycle.proofs.Within.{number_is}
use Rattle.tapa_base.proofs.Got.{all_at}

module _ (items : List Item) (c d r : Cycle) where
  shows_registers : (rs : List NetNumber) → AllByRecursion (RegisterIs items c) rs → AllByRecursion (ShowsNet c) rs
  shows_registers [] h = tt
  shows_registers (k ∷ ks) h = (h.0.1, shows_registers ks h.1)

  shows_memories : (ks : List MemoryCells) → AllByRecursion (MemoryIs items c) ks → AllByRecursion (TellsCells c) ks
  shows_memories [] h = tt
  shows_memories (k ∷ ks) h = (h.0.1, shows_memories ks h.1)

  sizes_fit : (s : Sizes) → AllByRecursion (Holds s c) items → (ks : List MemoryCells) → AllByRecursion (MemoryIs items c) ks → AllByRecursion (λ (k : MemoryCells). s.cells k.name ≡ length k.cells.items) ks
  sizes_fit s lines [] h = tt
  sizes_fit s lines (k ∷ ks) h = ((all_at (Holds s c) items (Memory h.0.0.0 k.name (length k.cells.items)) lines h.0.0.1).1, sizes_fit s lines ks h.1)

  module _ (takes_net : (w : ℕ) (x : Name) → Has items (Reg w x) → d.net x ≡ r.net x) (takes_cell : (w : ℕ) (x : Name) (k : ℕ) → Has items (Memory w x k) → (a : ℕ) → a < k → d.cell x a ≡ r.cell x a) where
    registers_next : (rs ks : List NetNumber) → map net_shape ks ≡ map net_shape rs → AllByRecursion (RegisterIs items c) rs → AllByRecursion (ShowsNet r) ks → AllByRecursion (RegisterIs items d) ks
    registers_next [] [] e h s = tt
    registers_next [] (k ∷ ks) e h s = cc
    registers_next (n ∷ rs) [] e h s = cc
    registers_next (n ∷ rs) (k ∷ ks) e h s =
        let q = cons_same (net_shape k) (net_shape n) (map net_shape ks) (map net_shape rs) e in
        let a : k.name ≡ n.name = ap (λ (p : Name × ℕ). p.0) q.0 in
        let b : k.bits ≡ n.bits = ap (λ (p : Name × ℕ). p.1) q.0 in
        let has : Has items (Reg k.bits k.name) = subst (λ z. Has items (Reg k.bits z)) (sym a) (subst (λ z. Has items (Reg z n.name)) (sym b) h.0.0) in
        ((has, takes_net k.bits k.name has ∙ s.0), registers_next rs ks q.1 h.1 s.1)

    memories_next : (rs ks : List MemoryCells) → map memory_shape ks ≡ map memory_shape rs → AllByRecursion (MemoryIs items c) rs → AllByRecursion (TellsCells r) ks → AllByRecursion (MemoryIs items d) ks
    memories_next [] [] e h s = tt
    memories_next [] (k ∷ ks) e h s = cc
    memories_next (n ∷ rs) [] e h s = cc
    memories_next (n ∷ rs) (k ∷ ks) e h s =
        let q = cons_same (memory_shape k) (memory_shape n) (map memory_shape ks) (map memory_shape rs) e in
        let a : k.name ≡ n.name = ap (λ (p : Name × ℕ). p.0) q.0 in
        let b : length k.cells.items ≡ length n.cells.items = ap (λ (p : Name × ℕ). p.1) q.0 in
        let w = h.0.0.0 in
        let has : Has items (Memory w k.name (length k.cells.items)) = subst (λ z. Has items (Memory w z (length k.cells.items))) (sym a) (subst (λ z. Has items (Memory w n.name z)) (sym b) h.0.0.1) in
        (((w, has), λ i low. takes_cell w k.name (length k.cells.items) has i low ∙ s.0 i low), memories_next rs ks q.1 h.1 s.1)

module _ (ms : List ModuleTree) (top : ModuleTree) (env : Environment) (nets : ℕ → Path → Cycle) (now : Moment) (r : RunsIn ms top env nets) (at : IsAt ms top env nets now) where
  abbrev found : ℕ → Path → Name → Option ℕ
  found d = net_within ms top now d

  -- what an instance's blocks leave, over the numbers that they read, is what it holds in the next cycle
  pub held_next : (h k : Held) → HeldIs ms top (nets now.cycle) h → (m : ModuleTree) → module_at ms top h.path.items ≡ Some m → (depth : ℕ) (ns : List NetNumber) → all_numbers (found depth h.path.items) (reads_of m) ≡ Some ns
      → IsAlike h k → ((s : Sizes) (old next : Cycle) → ReadsAre ns old (flat_map item_nets m.items) → Fits s h → Shows h next → Shows k (run_items s old m.items next)) → HeldIs ms top (nets (suc now.cycle)) k
  held_next h k i m at_m depth ns e alike leaves =
      let path = h.path.items in
      let c = nets now.cycle path in
      let d = nets (suc now.cycle) path in
      let tree_is : i.tree ≡ m = (let q : Some i.tree ≡ Some m = sym i.at ∙ at_m in cc) in
      let registers : AllByRecursion (RegisterIs m.items c) h.nets.items = subst (λ (t : ModuleTree). AllByRecursion (RegisterIs t.items c) h.nets.items) tree_is i.registers in
      let memories : AllByRecursion (MemoryIs m.items c) h.memories.items = subst (λ (t : ModuleTree). AllByRecursion (MemoryIs t.items c) h.memories.items) tree_is i.memories in
      let follows = r.runs.each path m at_m in
      let s = follows.sizes in
      let after = run_items s c m.items c in
      let read : ReadsAre ns c (flat_map item_nets m.items) =
      (λ z q. sym (read_found c (declared m) (flat_map item_nets m.items) ns (numbers_read c (found depth path) (λ y v f. number_is ms top env nets now r at depth path y v f) (reads_of m) ns e) z q).0) in
      let shown : Shows k after = leaves s c c read (sizes_fit m.items c d after s (follows.lines now.cycle) h.memories.items memories) (shows_registers m.items c d after h.nets.items registers, shows_memories m.items c d after h.memories.items memories) in
      let takes = follows.registers now.cycle in
      let takes_net : (w : ℕ) (x : Name) → Has m.items (Reg w x) → d.net x ≡ after.net x = (λ w x q. all_at (Takes s m.items c d) m.items (Reg w x) takes q) in
      let takes_cell : (w : ℕ) (x : Name) (j : ℕ) → Has m.items (Memory w x j) → (a : ℕ) → a < j → d.cell x a ≡ after.cell x a = (λ w x j q. all_at (Takes s m.items c d) m.items (Memory w x j) takes q) in
      record {
        tree = m;
        at = ap (λ p. module_at ms top p) alike.path ∙ at_m;
        registers = subst (λ p. AllByRecursion (RegisterIs m.items (nets (suc now.cycle) p)) k.nets.items) (sym alike.path) (registers_next m.items c d after takes_net takes_cell h.nets.items k.nets.items alike.nets registers shown.0);
        memories = subst (λ p. AllByRecursion (MemoryIs m.items (nets (suc now.cycle) p)) k.memories.items) (sym alike.path) (memories_next m.items c d after takes_net takes_cell h.memories.items k.memories.items alike.memories memories shown.1);
      }

module _ (env : Environment) (run : ℕ → Cycle) (n : ℕ) (labels : List Port) where
  outside_one : (o j : OutsideMemory) → OutsideIs env run n labels o → IsAfterStore (run n) o j → OutsideIs env run (suc n) labels j
  outside_one o j q i = record {
    place = q.place;
    label = q.label;
    got = q.got;
    name = i.0 ∙ q.name;
    cells = i.2 ∙ ap (λ z. stored_cells (run n) o.name z) q.cells ∙ ap (λ z. cells_at run z (get_or env.memories q.place []) (suc n)) (sym i.0);
    bits = i.1 ∙ q.bits;
  }

  pub outside_next : (os js : List OutsideMemory) → AllByRecursion (OutsideIs env run n labels) os → AllTwo (IsAfterStore (run n)) os js → AllByRecursion (OutsideIs env run (suc n) labels) js
  outside_next [] [] q i = tt
  outside_next [] (j ∷ js) q i = absurd i
  outside_next (o ∷ os) [] q i = absurd i
  outside_next (o ∷ os) (j ∷ js) q i = (outside_one o j q.0 i.0, outside_next os js q.1 i.1)

-- a moment that is made of what stands in the next cycle is the next moment
pub at_next : (c : Circuit) (now after : Moment) → after.cycle ≡ now.cycle + 1 → after.scalars.items ≡ now.scalars.items
    → InEachRun c now (λ env nets. AllByRecursion (HeldIs c.modules.now c.top.now (nets (suc now.cycle))) after.held.items)
    → InEachRun c now (λ env nets. AllTwo (IsAfterStore (nets now.cycle [])) now.outside.items after.outside.items)
    → InEachRun c now (λ env nets. IsAt c.modules.now c.top.now env nets after)
at_next c now after e s held outside = λ env nets q. next_at env nets q (at_of env nets q) where
  at_of : (env : Environment) (nets : ℕ → Path → Cycle) → IsRunAt c now env nets → IsAt c.modules.now c.top.now env nets now
  at_of env nets (run_at r a) = a

  next_at : (env : Environment) (nets : ℕ → Path → Cycle) → IsRunAt c now env nets → IsAt c.modules.now c.top.now env nets now → IsAt c.modules.now c.top.now env nets after
  next_at env nets q a =
      let k : suc now.cycle ≡ after.cycle = sym (e ∙ add-one now.cycle) in
      record {
        held = subst (λ z. AllByRecursion (HeldIs c.modules.now c.top.now (nets z)) after.held.items) k (held env nets q);
        scalars = subst (λ z. AllByRecursion (ScalarIs env (shape_of c.top.now).scalars) z) (sym s) a.scalars;
        outside = subst (λ z. AllByRecursion (OutsideIs env (λ i. nets i []) z (shape_of c.top.now).memories) after.outside.items) k
            (outside_next env (λ i. nets i []) now.cycle (shape_of c.top.now).memories now.outside.items after.outside.items a.outside (outside env nets q));
      }
