-- What steps and items leave, one after another.
use Rattle.std.proofs.Common.{◌≡◌, ℕ, zero, suc, ◌+◌, ◌<◌, ◌≤◌, Bool, true, List, [], ◌∷◌, Option, length, get_or, drop, refl, sym, ap, subst, ◌∙◌, arith}
use Rattle.std.specs.List.{list_all}
use Rattle.std.proofs.lemmas.Bool.{and_parts}
use Rattle.vlog_tree.specs.declared.tree.Step.{Step}
use Rattle.vlog_tree.specs.declared.tree.Item.{Item}
use Rattle.vlog_tree.specs.declared.table.Declaration.{Declaration}
use Rattle.vlog_tree.specs.Cycle.{Cycle, Sizes, run_steps, run_items, step_next}
use Rattle.vlog_tree.proofs.Walks.{opened}
use Rattle.vlog_tree.proofs.Turns.{steps_end, items_on, items_end}
use Rattle.sim_tape.specs.declared.gates.Pair.{Pair}
use Rattle.sim_gates.specs.Nets.{pair_in, ShowsNets}
use Rattle.sim_gates.specs.declared.parts.Part.{Part}
use Rattle.sim_gates.specs.declared.writes.Store.{Store}
use Rattle.sim_gates.specs.Parts.{parts_run, IsTurned}
use Rattle.sim_gates.specs.Next.{cell_after, ShowsNext, StepsLeft, ItemsLeft}

-- what holds of all holds of the one at a place
pub all_got : {A : Type 0} (f : A → Bool) (xs : List A) (i : ℕ) (x : A) → i < length xs → x ≡ get_or xs i x → list_all f xs ≡ true → f x ≡ true
all_got f [] i x low is h = absurd (omega arith)
all_got f (y ∷ ys) zero x low is h = ap f is ∙ (and_parts (f y) (list_all f ys) h).0
all_got f (y ∷ ys) (suc i) x low is h = all_got f ys i x (omega arith) is (and_parts (f y) (list_all f ys) h).1

module _ (ds : List Declaration) (memories : List (Option Pair)) (steps : List Step) (s : Sizes) (c first now : Cycle) (ns : List ℕ) where
  -- one more step
  pub step_left : (next after_next : List (Option Pair)) (stores after_stores : List Store) (on after_on : ℕ) (parts after_parts : List Part) (i : ℕ) (step : Step) → i < length steps → step ≡ get_or steps i step
      → (l : StepsLeft ds memories next stores on parts steps (drop i steps) s c first now ns)
      → IsTurned s c ns step parts after_on after_parts
      → ShowsNext ds memories after_next after_stores s first (step_next s c (parts_run ns parts) step l.after) ns
      → StepsLeft ds memories after_next after_stores after_on after_parts steps (drop (i + 1) steps) s c first now ns
  step_left next after_next stores after_stores on after_on parts after_parts i step low is l turned shows = record {
    after = step_next s c (parts_run ns parts) step l.after;
    walk = turned.shows;
    shows = shows;
    same = l.same ∙ ap (λ k. run_steps s c (parts_run ns parts) k l.after) (opened steps i step low is) ∙ turned.runs (drop (i + 1) steps) l.after;
  }

  -- no more steps
  pub steps_left : (next : List (Option Pair)) (stores : List Store) (on : ℕ) (parts : List Part) (i : ℕ) → length steps ≤ i → StepsLeft ds memories next stores on parts steps (drop i steps) s c first now ns
      → ShowsNext ds memories next stores s first (run_steps s c [] steps now) ns
  steps_left next stores on parts i high l =
      subst (λ k. ShowsNext ds memories next stores s first k ns) (sym (steps_end s c now l.after steps i (parts_run ns parts) high l.same)) l.shows

module _ (ds : List Declaration) (memories : List (Option Pair)) (items : List Item) (s : Sizes) (c : Cycle) (ns : List ℕ) where
  -- no line yet
  pub none_left : (pairs next : List (Option Pair)) (stores : List Store) → next ≡ pairs → stores ≡ [] → ShowsNets ds pairs s c ns → ItemsLeft ds memories next stores items items s c ns
  none_left pairs next stores e f h = record {
    after = c;
    shows = record {
      nets = λ x p g. h.value x p (ap (λ l. pair_in ds l x) (sym e) ∙ g);
      cells = λ m q g a. ap (λ l. cell_after ns (s.cells m) q a l (c.cell m a)) (sym f);
    };
    same = refl;
  }

  -- one more line
  pub item_left : (next after_next : List (Option Pair)) (stores after_stores : List Store) (i : ℕ) (item : Item) → i < length items → item ≡ get_or items i item
      → (l : ItemsLeft ds memories next stores items (drop i items) s c ns) → ShowsNext ds memories after_next after_stores s c (run_items s c (item ∷ []) l.after) ns
      → ItemsLeft ds memories after_next after_stores items (drop (i + 1) items) s c ns
  item_left next after_next stores after_stores i item low is l shows = record {
    after = run_items s c (item ∷ []) l.after;
    shows = shows;
    same = items_on s c c l.after items i l.same item low is;
  }

  -- no more lines
  pub items_left : (next : List (Option Pair)) (stores : List Store) (i : ℕ) → length items ≤ i → ItemsLeft ds memories next stores items (drop i items) s c ns
      → ShowsNext ds memories next stores s c (run_items s c items c) ns
  items_left next stores i high l = subst (λ k. ShowsNext ds memories next stores s c k ns) (sym (items_end s c c l.after items i l.same high)) l.shows
