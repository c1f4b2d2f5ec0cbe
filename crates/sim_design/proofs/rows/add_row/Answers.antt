use Rattle.std.proofs.Common.{◌≡◌, ℕ, ◌+◌, ◌<◌, ◌≤◌, List, Option, Some, None, length, get_or, sym, ap, subst, ◌∙◌}
use Rattle.std.specs.Prelude.{slice_get, option_and_then}
use Rattle.std.specs.List.{AllByRecursion}
use Rattle.std.proofs.lemmas.Bool.{OnTrue_at, OnTrue_from}
use Rattle.std.proofs.lemmas.Option.{same_Some, slice_get-get_or}
use Rattle.vlog_tree.specs.declared.tree.Item.{Item}
use Rattle.vlog_tree.specs.declared.table.Declaration.{Declaration}
use Rattle.vlog_tree.specs.Form.{ModuleTree}
use Rattle.vlog_tree.specs.Table.{declared}
use Rattle.vlog_tree.specs.Cycle.{Path}
use Rattle.sim_tape.specs.declared.gates.Pair.{Pair}
use Rattle.sim_tape.specs.Tape.{TapeTree}
use Rattle.sim_tape.specs.Trees.{tree_of}
use Rattle.sim_gates.specs.declared.writes.Store.{Store}
use Rattle.sim_gates.specs.Ready.{IsReady}
use Rattle.sim_flat.specs.declared.instances.Instance as row
use Rattle.sim_flat.specs.Instances.{StandsAt, IsModuleOf}
use Rattle.sim_flat.specs.declared.flat.Flat.{Flat}
use Rattle.sim_flat.specs.declared.tables.Table.{Table}
use Rattle.sim_flat.specs.Edges.{table_at}
use Rattle.sim_flat.specs.Flat.{IsFlat}
use Rattle.sim_flat.proofs.Standing.{table_of}
use Rattle.sim_design.specs.declared.drafts.Commit.{Commit}
use Rattle.sim_design.specs.Left.{own_pairs, module_of_instance, AreLinesAdded}
use Rattle.sim_design.proofs.Within.{room, blocks_ready}
use Rattle.sim_design.proofs.Following.{one_more}
use Rattle.sim_design.proofs.rows.add_row.Goals as goal

-- an instance, its table and its module
record IsRow (ms : List ModuleTree) (f : Flat) (k : ℕ) : Type 0 where
  path : Path
  stands : StandsAt ms f.instances.items k path
  tree : ModuleTree
  is : IsModuleOf ms f.instances.items k tree
  table : Table
  got : table_at f k ≡ Some table
  names : table.scope ≡ declared tree
  module_is : module_of_instance ms f k ≡ Some tree

row_of : (ms : List ModuleTree) (top : ModuleTree) (f : Flat) → IsFlat ms top f → (k : ℕ) → k < length f.instances.items → IsRow ms f k
row_of ms top f flat k low =
    let w = flat.instances.paths k low in
    let m = flat.instances.modules k w.0 low w.1 in
    let t = table_of ms top f flat k w.0 m.0 low w.1 m.2 in
    record {
      path = w.0;
      stands = w.1;
      tree = m.0;
      is = m.2;
      table = t.0;
      got = t.1;
      names = t.2.names;
      module_is = ap (λ (o : Option row.Instance). option_and_then (λ (r : row.Instance). slice_get ms r.kind) o) (slice_get-get_or f.instances.items k _ low) ∙ m.2;
    }

module _ (ds es : List Declaration) (b first : ℕ) (items lines : List Item) (i : ds ≡ es) (j : b ≡ first) (l : items ≡ lines) where
  room_by : (all : List (Option Pair)) → first + length es ≤ length all → b + length ds ≤ length all
  room_by all h = subst (λ z. z + length ds ≤ length all) (sym j) (subst (λ z. first + length z ≤ length all) (sym i) h)

  added_by : (pairs memories : List (Option Pair)) (t : TapeTree) (commits more : List Commit) (stores more_stores : List Store) → AreLinesAdded ds b items pairs memories t commits more stores more_stores → AreLinesAdded es first lines pairs memories t commits more stores more_stores
  added_by pairs memories t commits more stores more_stores h =
      subst (λ z. AreLinesAdded es first z pairs memories t commits more stores more_stores) l
      (subst (λ z. AreLinesAdded es z items pairs memories t commits more stores more_stores) j (subst (λ z. AreLinesAdded z b items pairs memories t commits more stores more_stores) i h))

  ready_by : (pairs memories : List (Option Pair)) → AllByRecursion (IsReady es (own_pairs first es pairs) (own_pairs first es memories)) lines → AllByRecursion (IsReady ds (own_pairs b ds pairs) (own_pairs b ds memories)) items
  ready_by pairs memories h =
      subst (λ z. AllByRecursion (IsReady z (own_pairs b z pairs) (own_pairs b z memories)) items) (sym i)
      (subst (λ z. AllByRecursion (IsReady es (own_pairs z es pairs) (own_pairs z es memories)) items) (sym j) (subst (λ z. AllByRecursion (IsReady es (own_pairs first es pairs) (own_pairs first es memories)) z) (sym l) h))

pub returns-clause-more : goal.returns-clause-more
returns-clause-more c = λ top t places low below.
    let ms = c.args.modules.now in
    let f = c.args.flat.now in
    let k = c.args.instance in
    let d = c.args.draft.now in
    let r = row_of ms top f places.flat k low in
    let table = c.in-Some.table.now in
    let names : table.scope ≡ declared r.tree = ap (λ (t : Table). t.scope) (same_Some table r.table (c.in-Some.ensures ∙ r.got)) ∙ r.names in
    let lines = ap (λ (m : ModuleTree). m.items) (same_Some c.in-Some-module_at.m.now r.tree (c.in-Some-module_at.ensures ∙ r.module_is)) in
    let first = get_or f.first_net.items k 0 in
    let base = c.base_at-base.ensures in
    let own = room ms top f d.pairs.items d.memories.items d.cells.items t places k low r.path r.stands r.tree r.is in
    OnTrue_from c.in_ok-done.done _ (λ done.
    one_more ms top f d.pairs.items d.memories.items d.cells.items t places k low r.path r.stands r.tree r.is (tree_of d.tape) (tree_of c.add_instance.new.draft.tape) c.in_ok-done.ensures.extends
    d.commits.items c.add_instance.new.draft.commits.items d.stores.items c.add_instance.new.draft.stores.items
    (added_by table.scope (declared r.tree) c.base_at-base.result first c.in-Some-module_at.m.now.items r.tree.items names base lines d.pairs.items d.memories.items (tree_of c.add_instance.new.draft.tape)
    d.commits.items c.add_instance.new.draft.commits.items d.stores.items c.add_instance.new.draft.stores.items
    (OnTrue_at done (c.in_ok-done.ensures.added (room_by table.scope (declared r.tree) c.base_at-base.result first c.in-Some-module_at.m.now.items r.tree.items names base lines d.pairs.items (own d.pairs.items places.placed.count))
    (room_by table.scope (declared r.tree) c.base_at-base.result first c.in-Some-module_at.m.now.items r.tree.items names base lines d.memories.items (own d.memories.items places.numbered.count)))))
    below)

pub returns-clause-some : goal.returns-clause-some
returns-clause-some c = λ top t places low.
    let ms = c.args.modules.now in
    let f = c.args.flat.now in
    let k = c.args.instance in
    let d = c.args.draft.now in
    let r = row_of ms top f places.flat k low in
    let table = c.in-Some.table.now in
    let names : table.scope ≡ declared r.tree = ap (λ (t : Table). t.scope) (same_Some table r.table (c.in-Some.ensures ∙ r.got)) ∙ r.names in
    let lines = ap (λ (m : ModuleTree). m.items) (same_Some c.in-Some-module_at.m.now r.tree (c.in-Some-module_at.ensures ∙ r.module_is)) in
    let first = get_or f.first_net.items k 0 in
    let base = c.base_at-base.ensures in
    let own = room ms top f d.pairs.items d.memories.items d.cells.items t places k low r.path r.stands r.tree r.is in
    c.in_ok-done.ensures.some
    (room_by table.scope (declared r.tree) c.base_at-base.result first c.in-Some-module_at.m.now.items r.tree.items names base lines d.pairs.items (own d.pairs.items places.placed.count))
    (room_by table.scope (declared r.tree) c.base_at-base.result first c.in-Some-module_at.m.now.items r.tree.items names base lines d.memories.items (own d.memories.items places.numbered.count))
    (ready_by table.scope (declared r.tree) c.base_at-base.result first c.in-Some-module_at.m.now.items r.tree.items names base lines d.pairs.items d.memories.items
    (blocks_ready ms top f d.pairs.items d.memories.items d.cells.items t places k low r.path r.stands r.tree r.is))

pub returns-in_default-clause-some : goal.returns-in_default-clause-some
returns-in_default-clause-some c = λ top t places low.
    let r = row_of c.args.modules.now top c.args.flat.now places.flat c.args.instance low in
    let clash : None ≡ Some r.table = c.in_default.ensures ∙ r.got in cc

pub returns-in_default-module_at-clause-some : goal.returns-in_default-module_at-clause-some
returns-in_default-module_at-clause-some c = λ top t places low.
    let r = row_of c.args.modules.now top c.args.flat.now places.flat c.args.instance low in
    let clash : None ≡ Some r.tree = c.in_default-module_at.ensures ∙ r.module_is in cc
