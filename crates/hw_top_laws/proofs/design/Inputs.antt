-- No output of a circuit rests on an input of it: outputs rest on the nets that say which instances have ended and on what tasks
-- ask of memories, and in a task these rest on no input.
use Rattle.std.proofs.Common.{◌≡◌, ℕ, zero, suc, ◌+◌, ◌-◌, ◌*◌, Bool, true, false, eqb, ◌&&◌, ◌||◌, List, [], ◌∷◌, ◌++◌, length, map, Some, refl, sym, ap, subst, ◌∙◌}
use Rattle.std.specs.Prelude.{codes, not, slice_get, slice_index}
use Rattle.std.specs.List.{list_all, flat_map}
use Rattle.std.proofs.lemmas.Grind.{flat_map-append}
use Rattle.tapa_syntax.specs.declared.program.Memory.{Memory}
use Rattle.tapa_syntax.specs.declared.program.Program.{Program}
use Rattle.task_fsm.specs.declared.machine.Fsm.{Fsm}
use Rattle.vlog_tree.specs.declared.tree.Connection.{Connection}
use Rattle.vlog_tree.specs.declared.tree.Value.{Value}
use Rattle.vlog_tree.specs.declared.table.NetKind.TheVariants.{Input as InputNet, Output as OutputNet}
use Rattle.vlog_tree.specs.Form.{ModuleTree}
use Rattle.tapa_base.specs.Lists.{Has}
use Rattle.vlog_tree.specs.Labels.{rst, done, m_ack, m_rdata, m_addr, m_wdata, m_we}
use Rattle.vlog_tree.specs.Loops.{Rests}
use Rattle.vlog_tree.specs.Table.{Name, clk, module_named, port_declared, net_kind_of}
use Rattle.vlog_tree.specs.V6.{is_top}
use Rattle.vlog_module_laws.specs.Larger.{HaveInstancesOf}
use Rattle.vlog_module_laws.proofs.Larger.{front_within, right_has_instances}
use Rattle.hw_build.specs.Elements.{Element, Output, Wire, Instance as InstanceElement}
use Rattle.hw_build.specs.Order.{RestsOnNoInput, FreeOutputsRestOnNoInput, is_closed_at, is_closed, output_names}
use Rattle.hw_build.specs.Trees.{numbered, tree_node, tree_nodes}
use Rattle.hw_build.specs.Scope.{each}
use Rattle.hw_build.proofs.Forms.{all_append}
use Rattle.hw_build.proofs.Free.{module_rests_on_no_input}
use Rattle.hw_channel_lines.specs.Names.{channel_name}
use Rattle.hw_lines.specs.Nets.{spelled}
use Rattle.hw_lines.specs.Texts.{task_name}
use Rattle.hw_lines.proofs.Names.{spelled_tail}
use Rattle.hw_task_laws.proofs.names.Empty.{GiveNone}
use Rattle.hw_top_lines.specs.Designs.{design_tree}
use Rattle.hw_top_lines.specs.Legal.{IsReady}
use Rattle.hw_top_lines.specs.Names.{s_take, ended_net, waits, bound_net}
use Rattle.hw_top_lines.specs.Texts.{memory_ports, token_bits, task_connections, still_waits, is_detached, waiting, none_waits, wires, instances, top_elements, top_tree}
use Rattle.hw_top_laws.specs.design.Order.{AreBelow, DesignsRestOnNoInput}
use Rattle.hw_top_laws.specs.modules.Lower.{lower_modules, KeepPromises}
use Rattle.hw_top_laws.proofs.design.Kept.{same_module, takes_a_token, channel_clear}
use Rattle.hw_top_laws.proofs.design.Loops.{fewer}
use Rattle.hw_top_laws.proofs.design.OrderParts.{IsOfTop, OfTask, OfChannel, of_top}
use Rattle.hw_top_laws.proofs.design.Whole.{below}
use Rattle.hw_top_laws.proofs.form.Drives.{wires_none, waits_none, instances_none}
use Rattle.hw_top_laws.proofs.form.Form.{elements_form}
use Rattle.hw_top_laws.proofs.form.PartByPart.{bounds_by, waits_by, done_by, wires_by, ports_by, instances_by, top_by}
use Rattle.hw_top_laws.proofs.form.Tasks.{part_at, child, named}
use Rattle.hw_top_laws.proofs.form.Whole.{tops_are_fitting, tops_are_right}
use Rattle.hw_top_laws.proofs.modules.Lower.{lower_right}
use Rattle.hw_top_laws.proofs.names.Made.{sort, clk_sort, rst_sort, scalar_sort, addr_names, wdata_names, we_names, ack_names, rdata_names, take_names, done_sort}
use Rattle.std.proofs.lemmas.Bool.{and_from as yes_and}

-- ---- the free nets, by their sorts: what is asked of memories, which instances have ended, which are waited for, and `done`

abbrev is_free_sort : ℕ → Bool
is_free_sort k = eqb k 3 || eqb k 4 || eqb k 5 || eqb k 14 || eqb k 16 || eqb k 17

abbrev free : Name → Bool
free x = is_free_sort (sort x)

ended_free : (i : ℕ) → free (ended_net i) ≡ true
unfolding ended_net
ended_free i = ap (λ x. is_free_sort (sort x)) (spelled_tail (codes "ended") (i ∷ []))

waits_free : (n : ℕ) → free (numbered waits n) ≡ true
unfolding waits
waits_free n = ap (λ x. is_free_sort (sort x)) (spelled_tail (codes "waits") (n ∷ []))

-- the nets of scalar parameters are not among them
bound_held : (ns : List ℕ) → free (spelled (codes "b") ns) ≡ false
bound_held ns = ap (λ x. is_free_sort (sort x)) (spelled_tail (codes "b") ns)

-- ---- no driver of a free net reads another net

abbrev AreClosed : List Element → Type 0
AreClosed es = list_all (is_closed_at free) es ≡ true

-- a wire that is not free, and one that reads free nets alone
held_wire : (x : Name) (all : Bool) → free x ≡ false → (not (free x) || all) ≡ true
held_wire x all h = ap (λ b. not b || all) h

free_wire : (x : Name) (all : Bool) → all ≡ true → (not (free x) || all) ≡ true
free_wire x all h = by (free x) where
  by : (b : Bool) → (not b || all) ≡ true
  by true = h
  by false = refl

net_held : (i p k : ℕ) → free (bound_net i p k) ≡ false
unfolding bound_net
net_held i p k = bound_held (i ∷ p ∷ k ∷ [])

driver_held : (i p k n : ℕ) → free (numbered (bound_net i p k) n) ≡ false
unfolding bound_net
driver_held i p k n = bound_held (i ∷ p ∷ k ∷ n ∷ [])

held_closed : (w : ℕ) (x : Name) (v : Value) → free x ≡ false → AreClosed (Wire w x v ∷ [])
held_closed w x v h = yes_and (is_closed_at free (Wire w x v)) true (held_wire x _ h) refl

module _ (program : Program) where
  waiting_closed : (i : ℕ) → AreClosed (waiting program i)
  waiting_closed i = by (is_detached (slice_get program.instances.items i)) where
    by : (b : Bool) → AreClosed (Wire 1 (numbered waits i) (still_waits i b) ∷ [])
    by true = yes_and (not (free (numbered waits i)) || true) true (free_wire (numbered waits i) true refl) refl
    by false =
        let reads = yes_and (free (ended_net i)) true (ended_free i) refl in
        yes_and (not (free (numbered waits i)) || (free (ended_net i) && true)) true (free_wire (numbered waits i) (free (ended_net i) && true) reads) refl

  node_closed : (leaves m : ℕ) → AreClosed (tree_node 1 waits leaves m ∷ [])
  node_closed leaves m =
      let a = free (numbered waits (2 * m)) in
      let b = free (numbered waits (2 * m + 1)) in
      let reads : (a && (b && true)) ≡ true = yes_and a (b && true) (waits_free (2 * m)) (yes_and b true (waits_free (2 * m + 1)) refl) in
      yes_and (not (free (numbered waits (leaves + m))) || (a && (b && true))) true (free_wire (numbered waits (leaves + m)) (a && (b && true)) reads) refl

  last_closed : (n : ℕ) → AreClosed (Output 1 done (none_waits n) ∷ [])
  last_closed zero = yes_and (not (free done) || true) true (free_wire done true refl) refl
  last_closed (suc n) =
      let root = free (numbered waits (2 * suc n - 2)) in
      yes_and (not (free done) || (root && true)) true (free_wire done (root && true) (yes_and root true (waits_free (2 * suc n - 2)) refl)) refl

  memory_closed : (k : ℕ) (m : Memory) → slice_get program.memories.items k ≡ Some m → AreClosed (memory_ports (Some m))
  memory_closed k m e =
      yes_and (not (free (m_ack m.name))) (not (free (m_rdata m.name)) && true) (ap (λ k. not (is_free_sort k)) (ack_names.sorts m.name)) (ap (λ k. not (is_free_sort k) && true) (rdata_names.sorts m.name))

  top_closed : (added : List ℕ) → is_closed free (top_elements program added) ≡ true
  top_closed added =
      let clock : not (free clk) ≡ true = ap (λ k. not (is_free_sort k)) clk_sort in
      let reset : not (free rst) ≡ true = ap (λ k. not (is_free_sort k)) rst_sort in
      let n = length program.instances.items in
      let both = all_append (is_closed_at free) in
      let bounds = bounds_by AreClosed refl both program (λ i p w k v. held_closed w (bound_net i p k) v (net_held i p k)) (λ i p w k m v. held_closed w (numbered (bound_net i p k) m) v (driver_held i p k m)) in
      let all : AreClosed (top_elements program added) =
      top_by AreClosed refl both program added (ports_by AreClosed refl both program (λ k c e. ap (λ k. not (is_free_sort k) && true) (scalar_sort c.name)) memory_closed)
      (wires_by AreClosed refl both program (λ s r e. refl) bounds (λ i l. refl) (λ s r e. refl))
      (done_by AreClosed refl both program (waits_by AreClosed refl both program waiting_closed (node_closed n)) (last_closed n))
      (instances_by AreClosed refl both program added (λ i x leaf g e. refl) (λ s r e. refl)) in
      yes_and (not (free clk) && not (free rst)) (list_all (is_closed_at free) (top_elements program added)) (yes_and (not (free clk)) (not (free rst)) clock reset) all

-- ---- all outputs are free

abbrev AreFree : List Element → Type 0
AreFree es = list_all free (flat_map output_names es) ≡ true

both_free : (xs ys : List Element) → AreFree xs → AreFree ys → AreFree (xs ++ ys)
both_free xs ys h k = ap (list_all free) (flat_map-append output_names xs ys) ∙ all_append free (flat_map output_names xs) (flat_map output_names ys) h k

none_free : (es : List Element) → GiveNone output_names es → AreFree es
none_free es e = ap (list_all free) e

module _ (program : Program) where
  memory_free : (k : ℕ) (m : Memory) → slice_get program.memories.items k ≡ Some m → AreFree (memory_ports (Some m))
  memory_free k m e =
      yes_and (free (m_addr m.name)) (free (m_wdata m.name) && (free (m_we m.name) && true)) (ap is_free_sort (addr_names.sorts m.name))
      (yes_and (free (m_wdata m.name)) (free (m_we m.name) && true) (ap is_free_sort (wdata_names.sorts m.name)) (yes_and (free (m_we m.name)) true (ap is_free_sort (we_names.sorts m.name)) refl))

  outputs_free : (added : List ℕ) → AreFree (top_elements program added)
  outputs_free added =
      let n = length program.instances.items in
      let tree = none_free (each (waiting program) n ++ tree_nodes 1 waits n (n - 1)) (waits_none output_names (λ w x v. refl) program) in
      top_by AreFree refl both_free program added (ports_by AreFree refl both_free program (λ k c e. refl) memory_free)
      (none_free (wires program) (wires_none output_names (λ w x v. refl) program (λ w x. refl))) (done_by AreFree refl both_free program tree (yes_and (free done) true (ap is_free_sort done_sort) refl))
      (none_free (instances program added) (instances_none output_names (λ k i ls. refl) program added))

-- ---- what an instance drives of them rests on no input of its module

module _ (program : Program) (machines : List Fsm) (added : List ℕ) (ready : IsReady program machines added) (kept : KeepPromises program machines) (is_top_name : Name → Bool)
    (under : AreBelow is_top_name (lower_modules program machines added)) where
  abbrev lower : List ModuleTree
  lower = lower_modules program machines added

  taken_held : (l x : Name) → x ≡ s_take l → free x ≡ true → ⊥
  taken_held l x e f = let no : true ≡ false = sym f ∙ ap free e ∙ ap is_free_sort (take_names.sorts l) in cc

  driven_by : (kn i : Name) (ls : List Connection) (k : ModuleTree) (out : Connection) (y : Name) → IsOfTop program added (InstanceElement kn i ls) → module_named lower kn ≡ Some k → Has ls out → free out.net ≡ true
      → net_kind_of (map port_declared k.ports) out.port ≡ OutputNet → net_kind_of (map port_declared k.ports) y ≡ InputNet → Rests lower is_top_name k out.port y → ⊥
  driven_by kn i ls k out y (OfTask j x leaf g gl e) n ho f o p r =
      let part = part_at program machines added ready kept j x leaf g gl in
      let ek : task_name leaf.name ≡ kn = cc e in
      let el : task_connections program j x leaf ≡ ls = cc e in
      let c = child program machines added ready kept j x leaf part in
      let is : k ≡ c = same_module k c (sym n ∙ ap (module_named lower) (sym ek) ∙ named program machines added ready kept j x leaf part) in
      let t = takes_a_token program machines added ready kept is_top_name under j x leaf part out y (subst (λ (l : List Connection). Has l out) (sym el) ho)
      (subst (λ (q : ModuleTree). net_kind_of (map port_declared q.ports) out.port ≡ OutputNet) is o) (subst (λ (q : ModuleTree). net_kind_of (map port_declared q.ports) y ≡ InputNet) is p)
      (subst (λ (q : ModuleTree). Rests lower is_top_name q out.port y) is r) in
      taken_held t.0 out.net t.1 f
  driven_by kn i ls k out y (OfChannel s q g e) n ho f o p r =
      let ek : channel_name (token_bits q.kind) q.depth (slice_index added s) ≡ kn = cc e in
      channel_clear program machines added ready kept is_top_name under s q g k (ap (module_named lower) ek ∙ n) out.port y o p r

  free_driven : FreeOutputsRestOnNoInput lower is_top_name free (top_elements program added)
  free_driven kn i ls k out y has n ho f o p r = driven_by kn i ls k out y (of_top program added kn i ls has) n ho f o p r

  -- ---- in the top, beside the modules below it

  top_rests_on_none : RestsOnNoInput lower is_top_name (top_tree program added)
  top_rests_on_none =
      module_rests_on_no_input lower is_top_name (task_name program.top) (top_elements program added) free (tops_are_fitting program machines added ready kept) (elements_form program machines added ready kept) free_driven (top_closed program added)
      (outputs_free program added)

-- ---- and beside all

pub designs_rest_on_no_input : DesignsRestOnNoInput
designs_rest_on_no_input program machines added ready kept x y out into rests =
    let ms = lower_modules program machines added in
    let tree = top_tree program added in
    let all = design_tree program machines added in
    let has : (m : ModuleTree) → Has ms m → HaveInstancesOf ms m = λ m h. right_has_instances ms m (lower_right program machines added ready kept m h) in
    top_rests_on_none program machines added ready kept (is_top all) (below program machines added ready kept) x y out into
    (fewer ms all (is_top all) (front_within ms (tree ∷ [])) has rests (right_has_instances ms tree (tops_are_right program machines added ready kept)))
