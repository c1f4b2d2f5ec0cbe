-- What steps and items leave, one after another.
use Rattle.std.proofs.Math.Bool.{and_comm}
use Rattle.std.proofs.lemmas.List.{reverse-append}
use Rattle.std.proofs.lemmas.List.Folds.{list_all-append}
use Rattle.std.proofs.Common.{◌≡◌, ℕ, ◌<◌, ◌≤◌, Bool, true, false, cond, ◌&&◌, List, [], ◌∷◌, length, get_or, drop, map, ◌+◌, inl, inr, refl, sym, ap, subst, ◌∙◌}
use Rattle.std.specs.Prelude.{reverse}
use Rattle.std.specs.List.{AllByRecursion, flat_map, list_all}
use Rattle.vlog_tree.specs.declared.tree.Atom.{Atom}
use Rattle.vlog_tree.specs.declared.tree.Step.{Step}
use Rattle.vlog_tree.specs.declared.tree.Step.TheVariants.{If, Else, End, NonblockingAssign, MemoryAssign}
use Rattle.vlog_tree.specs.Grounded.{AllTwo}
use Rattle.vlog_tree.specs.Loops.{atom_nets}
use Rattle.vlog_tree.specs.Cycle.{Cycle, Sizes, atom_value, put, store, run_steps, run_items, step_next}
use Rattle.vlog_tree.specs.Table.{Name}
use Rattle.vlog_tree.proofs.Walks.{opened, over}
use Rattle.tapa_base.proofs.Lists.{has_flat, has_got, got_index}
use Rattle.vlog_run_laws.proofs.runs.Values.{atom_same}
use Rattle.vlog_values.specs.declared.numbers.NetNumber.{NetNumber}
use Rattle.vlog_values.specs.declared.numbers.MemoryCells.{MemoryCells}
use Rattle.vlog_values.specs.Numbers.{net_in, cycle_of}
use Rattle.vlog_values.specs.declared.moment.Held.{Held}
use Rattle.vlog_ref_cycle.specs.Next.{put_net, IsStored, ShowsNet, TellsCells, Shows, ReadsAre, Fits, IsAlike, memory_shape, StepLeaves}
use Rattle.vlog_ref_cycle.proofs.Options.{cons_same}
use Rattle.vlog_ref_cycle.proofs.Leaves.{shows_put, shows_store}
use Rattle.vlog_tree.proofs.Nesting.{same_both}

-- registers and memories that are alike fit the same sizes
lists_fit : (s : Sizes) (ks js : List MemoryCells) → map memory_shape js ≡ map memory_shape ks → AllByRecursion (λ (k : MemoryCells). s.cells k.name ≡ length k.cells.items) ks → AllByRecursion (λ (k : MemoryCells). s.cells k.name ≡ length k.cells.items) js
lists_fit s [] [] e h = tt
lists_fit s [] (j ∷ js) e h = cc
lists_fit s (k ∷ ks) [] e h = cc
lists_fit s (k ∷ ks) (j ∷ js) e h =
    let q = cons_same (memory_shape j) (memory_shape k) (map memory_shape js) (map memory_shape ks) e in
    let name : j.name ≡ k.name = ap (λ (p : Name × ℕ). p.0) q.0 in
    let cells : length j.cells.items ≡ length k.cells.items = ap (λ (p : Name × ℕ). p.1) q.0 in
    (ap (λ z. s.cells z) name ∙ h.0 ∙ sym cells, lists_fit s ks js q.1 h.1)

pub fits_alike : (s : Sizes) (h k : Held) → IsAlike h k → Fits s h → Fits s k
fits_alike s h k a f = lists_fit s h.memories.items k.memories.items a.memories f

pub alike_self : (h : Held) → IsAlike h h
alike_self h = record { path = refl; nets = refl; memories = refl }

pub alike_twice : (h k l : Held) → IsAlike h k → IsAlike k l → IsAlike h l
alike_twice h k l a b = record { path = b.path ∙ a.path; nets = b.nets ∙ a.nets; memories = b.memories ∙ a.memories }

-- what a list reads has the numbers of a cycle, and so what one of it reads
pub reads_one : {A : Type 0} (nets : List NetNumber) (old : Cycle) (f : A → List Name) (xs : List A) (i : ℕ) (x : A) → i < length xs → x ≡ get_or xs i x → ReadsAre nets old (flat_map f xs) → ReadsAre nets old (f x)
reads_one nets old f xs i x low is reads = λ z h. reads z (has_flat f xs x z (has_got xs i x (got_index xs i x low is)) h)

one_more : (b t : Bool) → ((b && true) && t) ≡ (b && t)
one_more true t = refl
one_more false t = refl

-- the order of the open parts does not matter to whether all run
all_reverse : (on : List Bool) → list_all (λ b. b) (reverse on) ≡ list_all (λ b. b) on
all_reverse [] = refl
all_reverse (b ∷ on) =
    ap (λ l. list_all (λ b. b) l) (reverse-append (b ∷ []) on)
    ∙ list_all-append (λ b. b) (reverse on) (b ∷ [])
    ∙ and_comm (list_all (λ b. b) (reverse on)) (b && true)
    ∙ one_more b (list_all (λ b. b) (reverse on))
    ∙ ap (λ t. b && t) (all_reverse on)

module _ (old next : Cycle) (nets : List NetNumber) where
  -- what a write to a register leaves
  pub put_leaves : (x : Name) (a : Atom) (v : ℕ) → v ≡ atom_value (cycle_of nets []) a → ReadsAre nets old (atom_nets a)
      → (ns js : List NetNumber) → js ≡ map (put_net x v) ns → AllByRecursion (ShowsNet next) ns → AllByRecursion (ShowsNet (put x (atom_value old a) next)) js
  put_leaves x a v e reads ns js is h =
      subst (λ l. AllByRecursion (ShowsNet (put x (atom_value old a) next)) l) (sym is)
      (subst (λ w. AllByRecursion (ShowsNet (put x w next)) (map (put_net x v) ns)) (e ∙ sym (atom_same old (cycle_of nets []) a reads)) (shows_put next x v ns h))

  -- what a write to a memory leaves
  pub store_leaves : (s : Sizes) (m x : Name) (a : Atom) (at v : ℕ) → at ≡ net_in nets x → v ≡ atom_value (cycle_of nets []) a → ReadsAre nets old (x ∷ atom_nets a)
      → (ks js : List MemoryCells) → AllTwo (IsStored m at v) ks js → AllByRecursion (λ (k : MemoryCells). s.cells k.name ≡ length k.cells.items) ks → AllByRecursion (TellsCells next) ks → AllByRecursion (TellsCells (store s m (old.net x) (atom_value old a) next)) js
  store_leaves s m x a at v e f reads ks js is fits h =
      subst (λ b. AllByRecursion (TellsCells (store s m b (atom_value old a) next)) js) (e ∙ sym (reads x (inl refl)))
      (subst (λ w. AllByRecursion (TellsCells (store s m at w next)) js) (f ∙ sym (atom_same old (cycle_of nets []) a (λ z q. reads z (inr q)))) (shows_store s m at v next ks js is fits h))

module _ (s : Sizes) (old : Cycle) where
  -- a step that runs leaves what it writes, and one that does not run changes nothing
  written : (on : List Bool) (t : Bool) → list_all (λ b. b) on ≡ t → (step : Step) (next : Cycle) → step_next s old on step next ≡ cond t (step_next s old [] step next) next
  written on t e (NonblockingAssign x a) next = ap (λ t. cond t (put x (atom_value old a) next) next) e
  written on t e (MemoryAssign m x a) next = ap (λ t. cond t (store s m (old.net x) (atom_value old a) next) next) e
  written on t e (If c) next = sym (same_both t next)
  written on t e Else next = sym (same_both t next)
  written on t e End next = sym (same_both t next)

  -- what one step leaves for the others, where the list of open parts has the innermost last
  pub leaves : (on on_after : List Bool) (step : Step) (rest : List Step) (next : Cycle) (fits : Bool) (h : Held) (t : Bool) → list_all (λ b. b) on ≡ t → Shows h (cond t (step_next s old [] step next) next)
      → run_steps s old (reverse on) (step ∷ rest) next ≡ cond fits (run_steps s old on_after rest (step_next s old (reverse on) step next)) (step_next s old (reverse on) step next)
      → StepLeaves s old (reverse on) step rest next fits on_after h
  leaves on on_after step rest next fits h t e shows same = record {
    now = step_next s old (reverse on) step next;
    shows = subst (λ c. Shows h c) (sym (written (reverse on) t (all_reverse on ∙ e) step next)) shows;
    same = same;
  }

-- the steps from here on run on what the steps before them left, unless one closes a part that is not open
module _ (s : Sizes) (old next now : Cycle) (steps : List Step) (i : ℕ) (step : Step) (low : i < length steps) (is : step ≡ get_or steps i step) (on on_after : List Bool) (fits : Bool) (h : Held) (e : run_steps s old [] steps next ≡ run_steps s old on (drop i steps) now) (l : StepLeaves s old on step (drop (i + 1) steps) now fits on_after h) where
  after_one : (t : Bool) → fits ≡ t → run_steps s old [] steps next ≡ cond t (run_steps s old on_after (drop (i + 1) steps) l.now) l.now
  after_one t f = e ∙ ap (λ l. run_steps s old on l now) (opened steps i step low is) ∙ l.same ∙ ap (λ t. cond t (run_steps s old on_after (drop (i + 1) steps) l.now) l.now) f

  pub steps_on : fits ≡ true → (now : Cycle) × Shows h now × (run_steps s old [] steps next ≡ run_steps s old on_after (drop (i + 1) steps) now)
  steps_on f = (l.now, l.shows, after_one true f)

  pub steps_shut : fits ≡ false → Shows h (run_steps s old [] steps next)
  steps_shut f = subst (λ c. Shows h c) (sym (after_one false f)) l.shows
