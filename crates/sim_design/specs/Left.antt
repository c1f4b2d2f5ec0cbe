-- What the blocks of one instance leave.
use Rattle.std.specs.Prelude.{◌≡◌, ℕ, List, Option, ◌++◌, length, take, drop, slice_get, option_and_then, IsTrue}
use Rattle.std.specs.List.{list_all}
use Rattle.vlog_tree.specs.declared.tree.Item.{Item}
use Rattle.vlog_tree.specs.declared.table.Declaration.{Declaration}
use Rattle.vlog_tree.specs.Form.{ModuleTree}
use Rattle.vlog_tree.specs.Cycle.{run_items}
use Rattle.sim_tape.specs.declared.gates.Pair.{Pair}
use Rattle.sim_tape.specs.Tape.{TapeTree}
use Rattle.sim_gates.specs.Nets.{Told}
use Rattle.sim_gates.specs.declared.writes.Store.{Store}
use Rattle.sim_gates.specs.Parts.{has_conditions}
use Rattle.sim_gates.specs.Next.{ShowsNext, AreApart, AreKnown, SamePlaces}
use Rattle.sim_flat.specs.declared.instances.Instance as row
use Rattle.sim_flat.specs.declared.flat.Flat.{Flat}
use Rattle.sim_design.specs.declared.drafts.Commit.{Commit}
use Rattle.sim_design.specs.Commits.{commits_below}

-- those of the names of an instance among the pairs or memories of all, where its first name has this number
abbrev pub own_pairs : ℕ → List Declaration → List (Option Pair) → List (Option Pair)
own_pairs base ds pairs = take (length ds) (drop base pairs)

-- the module of an instance
abbrev pub module_of_instance : List ModuleTree → Flat → ℕ → Option ModuleTree
module_of_instance ms f k = option_and_then (λ (r : row.Instance). slice_get ms r.kind) (slice_get f.instances.items k)

-- the lines of a module leave these pairs and stores on a tape, over the pairs and memories of its names
pub record AreLeft (ds : List Declaration) (pairs memories : List (Option Pair)) (items : List Item) (t : TapeTree) (next : List (Option Pair)) (stores : List Store) : Type 0 where
  pub same : SamePlaces pairs next
  pub known : AreKnown ds memories stores
  pub value : AreApart ds memories → Told ds pairs t (λ s c ns. IsTrue (list_all (has_conditions ds) items) → ShowsNext ds memories next stores s c (run_items s c items c) ns)

-- more commits and stores, by the lines of one instance's module
pub record AreLinesAdded (ds : List Declaration) (base : ℕ) (items : List Item) (pairs memories : List (Option Pair)) (t : TapeTree) (commits more : List Commit)
    (stores more_stores : List Store) : Type 0 where
  pub next : List (Option Pair)
  pub new_stores : List Store
  pub left : AreLeft ds (own_pairs base ds pairs) (own_pairs base ds memories) items t next new_stores
  pub commits_are : more ≡ commits ++ commits_below ds (own_pairs base ds pairs) next (length ds)
  pub stores_are : more_stores ≡ stores ++ new_stores
