-- What a copy holds, and what blocks that ran on it leave.
use Rattle.std.proofs.Common.{◌≡◌, ℕ, suc, ◌<◌, List, [], ◌∷◌, Some, length, get_or, map, refl, sym, ap, subst, ◌∙◌}
use Rattle.std.specs.List.{AllByRecursion, flat_map}
use Rattle.vlog_tree.specs.Form.{ModuleTree}
use Rattle.vlog_tree.specs.Cycle.{Cycle, Path, Sizes, module_at, run_items}
use Rattle.vlog_tree.specs.Environment.{Environment}
use Rattle.vlog_tree.specs.Grounded.{AllTwo}
use Rattle.vlog_values.specs.declared.numbers.NetNumber.{NetNumber}
use Rattle.vlog_values.specs.declared.numbers.MemoryCells.{MemoryCells}
use Rattle.vlog_values.specs.declared.moment.Circuit.{Circuit}
use Rattle.vlog_values.specs.declared.moment.Held.{Held}
use Rattle.vlog_values.specs.declared.moment.Moment.{Moment}
use Rattle.vlog_ref_cycle.specs.Numbers.{all_numbers, number_at}
use Rattle.vlog_ref_cycle.specs.Moments.{HeldIs, IsRunAt, run_at, InEachRun}
use Rattle.vlog_ref_cycle.specs.Next.{item_nets, reads_of, ReadsAre, Fits, ShowsNet, TellsCells, Shows, IsAlike, IsCopy, net_shape, memory_shape}
use Rattle.vlog_ref_cycle.proofs.Later.{held_next}

copies_fit : (s : Sizes) (ks js : List MemoryCells) → AllTwo IsCopy ks js → AllByRecursion (λ (k : MemoryCells). s.cells k.name ≡ length k.cells.items) ks → AllByRecursion (λ (k : MemoryCells). s.cells k.name ≡ length k.cells.items) js
copies_fit s [] [] i h = tt
copies_fit s [] (j ∷ js) i h = absurd i
copies_fit s (k ∷ ks) [] i h = absurd i
copies_fit s (k ∷ ks) (j ∷ js) i h =
    (ap (λ x. s.cells x) i.0.0 ∙ h.0 ∙ ap (λ l. length l) (sym i.0.1), copies_fit s ks js i.1 h.1)

copy_cells : (c : Cycle) (k j : MemoryCells) → IsCopy k j → TellsCells c k → TellsCells c j
copy_cells c k j i h a low =
    ap (λ x. c.cell x a) i.0 ∙ h a (subst (λ l. a < length l) i.1 low) ∙ ap (λ l. get_or l a 0) (sym i.1)

copies_show : (c : Cycle) (ks js : List MemoryCells) → AllTwo IsCopy ks js → AllByRecursion (TellsCells c) ks → AllByRecursion (TellsCells c) js
copies_show c [] [] i h = tt
copies_show c [] (j ∷ js) i h = absurd i
copies_show c (k ∷ ks) [] i h = absurd i
copies_show c (k ∷ ks) (j ∷ js) i h = (copy_cells c k j i.0 h.0, copies_show c ks js i.1 h.1)

copies_shaped : (ks js : List MemoryCells) → AllTwo IsCopy ks js → map memory_shape js ≡ map memory_shape ks
copies_shaped [] [] i = refl
copies_shaped [] (j ∷ js) i = absurd i
copies_shaped (k ∷ ks) [] i = absurd i
copies_shaped (k ∷ ks) (j ∷ js) i =
    let e : memory_shape j ≡ memory_shape k = ap (λ z. (z, length j.cells.items)) i.0.0 ∙ ap (λ z. (k.name, length z)) i.0.1 in
    ap (λ z. z ∷ map memory_shape js) e ∙ ap (λ z. memory_shape k ∷ z) (copies_shaped ks js i.1)

module _ (h k j : Held) (path : k.path.items ≡ h.path.items) (nets : k.nets.items ≡ h.nets.items) (memories : AllTwo IsCopy h.memories.items k.memories.items) (alike : IsAlike k j) where
  -- what blocks leave on a copy is still like the original
  pub copy_alike : IsAlike h j
  copy_alike = record {
    path = alike.path ∙ path;
    nets = alike.nets ∙ ap (λ l. map net_shape l) nets;
    memories = alike.memories ∙ copies_shaped h.memories.items k.memories.items memories;
  }

  -- what blocks leave on a copy is what the original holds in the next cycle
  pub copy_next : (c : Circuit) (now : Moment) (m : ModuleTree) → module_at c.modules.now c.top.now h.path.items ≡ Some m → (depth : ℕ) (ns : List NetNumber) → all_numbers (number_at c now depth h.path.items) (reads_of m) ≡ Some ns
      → ((s : Sizes) (old next : Cycle) → ReadsAre ns old (flat_map item_nets m.items) → Fits s k → Shows k next → Shows j (run_items s old m.items next))
      → InEachRun c now (λ env nets. HeldIs c.modules.now c.top.now (nets now.cycle) h → HeldIs c.modules.now c.top.now (nets (suc now.cycle)) j)
  copy_next c now m at_m depth ns e leaves = λ env run q i. copied env run q i where
    copied : (env : Environment) (run : ℕ → Path → Cycle) → IsRunAt c now env run → HeldIs c.modules.now c.top.now (run now.cycle) h → HeldIs c.modules.now c.top.now (run (suc now.cycle)) j
    copied env run (run_at r a) i =
        held_next c.modules.now c.top.now env run now r a h j i m at_m depth ns e copy_alike
        (λ s old next read fits shows.
        leaves s old next read
        (copies_fit s h.memories.items k.memories.items memories fits)
        (subst (λ l. AllByRecursion (ShowsNet next) l) (sym nets) shows.0, copies_show next h.memories.items k.memories.items memories shows.1))
