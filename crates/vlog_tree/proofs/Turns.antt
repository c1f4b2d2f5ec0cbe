-- Steps and items run one after another.
use Rattle.std.proofs.Common.{◌≡◌, ℕ, ◌<◌, ◌≤◌, ◌+◌, Bool, List, [], ◌∷◌, length, get_or, drop, refl, ap, ◌∙◌}
use Rattle.vlog_tree.specs.declared.tree.Step.{Step}
use Rattle.vlog_tree.specs.declared.tree.Item.{Item}
use Rattle.vlog_tree.specs.declared.tree.Item.TheVariants.{Wire, Reg, Memory, Assign, Always, Instance}
use Rattle.vlog_tree.specs.Cycle.{Cycle, Sizes, run_steps, run_items}
use Rattle.vlog_tree.proofs.Walks.{opened, over}

-- behind the last step nothing runs any more
pub steps_end : (s : Sizes) (old next now : Cycle) (steps : List Step) (i : ℕ) (on : List Bool) → length steps ≤ i → run_steps s old [] steps next ≡ run_steps s old on (drop i steps) now → run_steps s old [] steps next ≡ now
steps_end s old next now steps i on high e = e ∙ ap (λ l. run_steps s old on l now) (over steps i high)

one_item : (s : Sizes) (old now : Cycle) (it : Item) (items : List Item) → run_items s old (it ∷ items) now ≡ run_items s old items (run_items s old (it ∷ []) now)
one_item s old now (Always b) items = refl
one_item s old now (Wire w x) items = refl
one_item s old now (Reg w x) items = refl
one_item s old now (Memory w m n) items = refl
one_item s old now (Assign x e) items = refl
one_item s old now (Instance m i connections) items = refl

-- the items from here on run on what the items before them left
module _ (s : Sizes) (old next now : Cycle) (items : List Item) (i : ℕ) (e : run_items s old items next ≡ run_items s old (drop i items) now) where
  pub items_on : (it : Item) → i < length items → it ≡ get_or items i it → run_items s old items next ≡ run_items s old (drop (i + 1) items) (run_items s old (it ∷ []) now)
  items_on it low is = e ∙ ap (λ l. run_items s old l now) (opened items i it low is) ∙ one_item s old now it (drop (i + 1) items)

  pub items_end : length items ≤ i → run_items s old items next ≡ now
  items_end high = e ∙ ap (λ l. run_items s old l now) (over items i high)
