-- Nets that rest on no input, and modules without loops together.
use Rattle.std.proofs.Common.{◌≡◌, ℕ, ◌+◌, ◌-◌, ◌*◌, ◌<◌, Bool, true, false, cond, ◌&&◌, ◌||◌, List, [], map, Some, None, inl, inr, refl, sym, ap, subst, ◌∙◌, arith}
use Rattle.std.specs.Prelude.{◌⊎◌, count_by, not}
use Rattle.std.specs.List.{list_all, flat_map, filter}
use Rattle.vlog_tree.specs.declared.tree.Value.{Value}
use Rattle.vlog_tree.specs.declared.tree.Connection.{Connection}
use Rattle.vlog_tree.specs.declared.tree.Item.{Item}
use Rattle.vlog_tree.specs.declared.table.Declaration.{Declaration}
use Rattle.vlog_tree.specs.declared.table.NetKind.{NetKind}
use Rattle.vlog_tree.specs.declared.table.NetKind.TheVariants.{Unknown, Input as InputNet, Output as OutputNet, WireNet, Register as RegisterNet, MemoryArray, ChildInstance}
use Rattle.vlog_tree.specs.Form.{ModuleTree}
use Rattle.tapa_base.specs.Lists.{Has, Chain, one, more}
use Rattle.vlog_tree.specs.Table.{Name, clk, declared, port_declared, items_declared, find_name, net_kind_of, net_kind_is_input, ports_in, module_named}
use Rattle.vlog_tree.specs.Labels.{rst, address_of}
use Rattle.vlog_tree.specs.V2.{value_uses}
use Rattle.vlog_tree.specs.V6.{module_children, has_port}
use Rattle.vlog_tree.specs.Loops.{Rests, directly, through, after, LiesOnLoop, TextPlace, containment, own_containment, IsLoopless, value_nets, port_of, line_edges, connection_edge, direct_edges, asked_port, answer_edges, memory_edges, instances}
use Rattle.tapa_base.proofs.Lists.{has_left, has_split, of_flat, of_map, has_flat}
use Rattle.hw_build.specs.Elements.{Element, Input, Output, Outlet, Wire, InstanceWire, Register, Memory, Block, Instance, element_items, empty, built}
use Rattle.hw_build.specs.Forms.{is_element}
use Rattle.hw_build.specs.Fitting.{declarations, first_table, table_after, is_new, are_kept, child_ports, AreFitting}
use Rattle.hw_build.specs.Order.{place, RestsOnNoInput, InstancesKeepOrder, AnswersKeepOrder, child_names, ChildrenRestOnNoInput, FreeOutputsRestOnNoInput, is_closed_at, is_closed, output_names}
use Rattle.hw_build.proofs.Tables.{is_known, known, comes_from, name_of_all}
use Rattle.hw_build.proofs.Uses.{all_has, all_of_flat}
use Rattle.hw_build.proofs.Places.{has_times, place_some, one_place}
use Rattle.hw_build.proofs.Right.{table}
use Rattle.hw_build.proofs.Order.{joins, joined, joined_once, declared_at, driver_order, instance_joined, rank, joint_rank, port_placeless, line_of, instance_has, no_loop}
use Rattle.tapa_base.proofs.Tests.{not_so as not_free, both_true}
use Rattle.tapa_base.proofs.Got.{all_at}

child_rests : (ms : List ModuleTree) (is_top : Name → Bool) (elements : List Element) → ChildrenRestOnNoInput ms is_top elements → (kn i : Name) (ls : List Connection) → Has elements (Instance kn i ls)
    → (k : ModuleTree) → module_named ms kn ≡ Some k → RestsOnNoInput ms is_top k
child_rests ms is_top elements h kn i ls has k named =
    all_at (λ kn. (k : ModuleTree) → module_named ms kn ≡ Some k → RestsOnNoInput ms is_top k) (flat_map child_names elements) kn h (has_flat child_names elements (Instance kn i ls) kn has (inl refl)) k named

pub order_kept : (ms : List ModuleTree) (is_top : Name → Bool) (elements : List Element) → ChildrenRestOnNoInput ms is_top elements → InstancesKeepOrder ms is_top elements
order_kept ms is_top elements h kn i ls k out into has named in_out in_into is_out is_into rests = absurd (child_rests ms is_top elements h kn i ls has k named out.port into.port is_out is_into rests)

pub no_answers : (is_top : Name → Bool) (name : Name) (elements : List Element) → is_top name ≡ false → AnswersKeepOrder is_top name elements
no_answers is_top name elements e x y h = absurd (subst (λ b. Has (memory_edges b (map port_declared (built name elements).ports)) (x, y)) e h)

-- then no free net that an instance drives rests on an input of its module
pub free_outputs : (ms : List ModuleTree) (is_top : Name → Bool) (elements : List Element) (free : Name → Bool) → ChildrenRestOnNoInput ms is_top elements → FreeOutputsRestOnNoInput ms is_top free elements
free_outputs ms is_top elements free h kn i ls k out y has named in_ls is_free is_out is_into rests = child_rests ms is_top elements h kn i ls has k named out.port y is_out is_into rests

pub no_loop_of_registered : (ms : List ModuleTree) (is_top : Name → Bool) (name : Name) (elements : List Element) → AreFitting ms elements → list_all is_element elements ≡ true
    → is_top name ≡ false → ChildrenRestOnNoInput ms is_top elements → (x : Name) → Rests ms is_top (built name elements) x x → ⊥
no_loop_of_registered ms is_top name elements fit form inner children x r =
    no_loop ms name elements fit form is_top (order_kept ms is_top elements children) (no_answers is_top name elements inner) x r

pub closed_read : (a b : Bool) → (not a || b) ≡ true → a ≡ true → b ≡ true
closed_read true b h e = h
closed_read false b h e = cc

is_input : (s : NetKind) → net_kind_is_input s ≡ true → s ≡ InputNet
is_input Unknown h = cc
is_input InputNet h = refl
is_input OutputNet h = cc
is_input WireNet h = cc
is_input RegisterNet h = cc
is_input MemoryArray h = cc
is_input ChildInstance h = cc

-- the inputs among what is declared
input_of : (free : Name → Bool) (e : Element) → is_closed_at free e ≡ true → (d : Declaration) → Has (declarations e) d → d.net_kind ≡ InputNet → free d.name ≡ false
input_of free (Input w x) h d (inl s) k = subst (λ (z : Declaration). free z.name ≡ false) s (not_free (free x) h)
input_of free (Input w x) h d (inr n) k = absurd n
input_of free (Output w x v) h d (inl s) k = let wrong : OutputNet ≡ InputNet = ap (λ (z : Declaration). z.net_kind) s ∙ k in cc
input_of free (Output w x v) h d (inr n) k = absurd n
input_of free (Outlet w x) h d (inl s) k = let wrong : OutputNet ≡ InputNet = ap (λ (z : Declaration). z.net_kind) s ∙ k in cc
input_of free (Outlet w x) h d (inr n) k = absurd n
input_of free (Wire w x v) h d (inl s) k = let wrong : WireNet ≡ InputNet = ap (λ (z : Declaration). z.net_kind) s ∙ k in cc
input_of free (Wire w x v) h d (inr n) k = absurd n
input_of free (InstanceWire w x) h d (inl s) k = let wrong : WireNet ≡ InputNet = ap (λ (z : Declaration). z.net_kind) s ∙ k in cc
input_of free (InstanceWire w x) h d (inr n) k = absurd n
input_of free (Register w x) h d (inl s) k = let wrong : RegisterNet ≡ InputNet = ap (λ (z : Declaration). z.net_kind) s ∙ k in cc
input_of free (Register w x) h d (inr n) k = absurd n
input_of free (Memory w x c) h d (inl s) k = let wrong : MemoryArray ≡ InputNet = ap (λ (z : Declaration). z.net_kind) s ∙ k in cc
input_of free (Memory w x c) h d (inr n) k = absurd n
input_of free (Block b) h d n k = absurd n
input_of free (Instance j i ls) h d (inl s) k = let wrong : ChildInstance ≡ InputNet = ap (λ (z : Declaration). z.net_kind) s ∙ k in cc
input_of free (Instance j i ls) h d (inr n) k = absurd n

output_of : (free : Name → Bool) (e : Element) → list_all free (output_names e) ≡ true → (d : Declaration) → Has (declarations e) d → d.net_kind ≡ OutputNet → free d.name ≡ true
output_of free (Output w x v) h d (inl s) k = subst (λ (z : Declaration). free z.name ≡ true) s (both_true (free x) true h).0
output_of free (Output w x v) h d (inr n) k = absurd n
output_of free (Outlet w x) h d (inl s) k = subst (λ (z : Declaration). free z.name ≡ true) s (both_true (free x) true h).0
output_of free (Outlet w x) h d (inr n) k = absurd n
output_of free (Input w x) h d (inl s) k = let wrong : InputNet ≡ OutputNet = ap (λ (z : Declaration). z.net_kind) s ∙ k in cc
output_of free (Input w x) h d (inr n) k = absurd n
output_of free (Wire w x v) h d (inl s) k = let wrong : WireNet ≡ OutputNet = ap (λ (z : Declaration). z.net_kind) s ∙ k in cc
output_of free (Wire w x v) h d (inr n) k = absurd n
output_of free (InstanceWire w x) h d (inl s) k = let wrong : WireNet ≡ OutputNet = ap (λ (z : Declaration). z.net_kind) s ∙ k in cc
output_of free (InstanceWire w x) h d (inr n) k = absurd n
output_of free (Register w x) h d (inl s) k = let wrong : RegisterNet ≡ OutputNet = ap (λ (z : Declaration). z.net_kind) s ∙ k in cc
output_of free (Register w x) h d (inr n) k = absurd n
output_of free (Memory w x c) h d (inl s) k = let wrong : MemoryArray ≡ OutputNet = ap (λ (z : Declaration). z.net_kind) s ∙ k in cc
output_of free (Memory w x c) h d (inr n) k = absurd n
output_of free (Block b) h d n k = absurd n
output_of free (Instance j i ls) h d (inl s) k = let wrong : ChildInstance ≡ OutputNet = ap (λ (z : Declaration). z.net_kind) s ∙ k in cc
output_of free (Instance j i ls) h d (inr n) k = absurd n

-- an output of an instance that drives a free net
record IsOutputPort (ms : List ModuleTree) (free : Name → Bool) (elements : List Element) (x : Name) : Type 0 where
  module_name : Name
  label : Name
  connections : List Connection
  end_of : Connection
  has : Has elements (Instance module_name label connections)
  has_end : Has connections end_of
  no_input : net_kind_is_input (net_kind_of (child_ports ms module_name) end_of.port) ≡ false
  is_free : free end_of.net ≡ true
  called : port_of label end_of.port ≡ x

module _ (ms : List ModuleTree) (is_top : Name → Bool) (name : Name) (elements : List Element) (free : Name → Bool) (fit : AreFitting ms elements) (form : list_all is_element elements ≡ true)
    (outputs : FreeOutputsRestOnNoInput ms is_top free elements) (closed : is_closed free elements ≡ true) where
  abbrev m : ModuleTree
  m = built name elements

  closed_parts : (free clk ≡ false) × (free rst ≡ false) × (list_all (is_closed_at free) elements ≡ true)
  closed_parts =
      let p = both_true (not (free clk) && not (free rst)) (list_all (is_closed_at free) elements) closed in
      let q = both_true (not (free clk)) (not (free rst)) p.0 in
      (not_free (free clk) q.0, not_free (free rst) q.1, p.1)

  closed_at : (e : Element) → Has elements e → is_closed_at free e ≡ true
  closed_at e h = all_has (is_closed_at free) elements closed_parts.2 e h

  -- a net that is called free, or an output of an instance
  abbrev IsFree : Name → Type 0
  IsFree x = ((0 < place elements x) × (free x ≡ true)) ⊎ IsOutputPort ms free elements x

  free_net : (x : Name) → 0 < place elements x → IsFree x → free x ≡ true
  free_net x h (inl f) = f.1
  free_net x h (inr o) =
      let none : place elements (port_of o.label o.end_of.port) ≡ 0 = port_placeless ms name elements fit form o.label o.end_of.port in
      let same : place elements (port_of o.label o.end_of.port) ≡ place elements x = ap (place elements) o.called in
      absurd (omega (arith, none, same, h))

  output_stands : {x : Name} → (o : IsOutputPort ms free elements x) → 0 < place elements o.end_of.net
  output_stands o = (instance_joined ms name elements fit form o.module_name o.label o.connections o.has).net_stands o.end_of o.has_end

  output_rank : {x : Name} → (o : IsOutputPort ms free elements x) → rank ms name elements fit form (port_of o.label o.end_of.port) ≡ 3 * place elements o.end_of.net - 1
  output_rank o =
      joint_rank ms name elements fit form o.module_name o.label o.connections o.has o.end_of o.has_end
      ∙ ap (λ b. cond b (3 * place elements o.end_of.net + 1) (3 * place elements o.end_of.net - 1)) o.no_input

  assign_free : (e : Element) (h : Has elements e) (d : Declaration) (v : Value) → Has (declarations e) d → are_kept (value_uses (declared_at ms name elements fit form e h).before v) ≡ true
      → (not (free d.name) || list_all free (value_nets v)) ≡ true → (x y : Name) → Has {N = Name × Name} (map (λ (z : Name). (d.name, z)) (value_nets v)) (x, y) → IsFree x → IsFree y
  assign_free e h d v new kept shut x y edge f =
      let r = of_map (λ (z : Name). (d.name, z)) (value_nets v) (x, y) edge in
      let ex : d.name ≡ x = ap (λ (p : Name × Name). p.0) r.2 in
      let ey : r.0 ≡ y = ap (λ (p : Name × Name). p.1) r.2 in
      let s = driver_order ms name elements fit form e h d v new kept r.0 r.1 in
      let stands : 0 < place elements d.name = omega (arith, s.0, s.1) in
      let is_free : free d.name ≡ true = free_net d.name stands (subst IsFree (sym ex) f) in
      subst IsFree ey (inl (s.0, all_has free (value_nets v) (closed_read (free d.name) (list_all free (value_nets v)) shut is_free) r.0 r.1))

  joint_free : (k i : Name) (ls : List Connection) → Has elements (Instance k i ls) → (l : Connection) → Has ls l → (x y : Name) (b : Bool)
      → net_kind_is_input (net_kind_of (child_ports ms k) l.port) ≡ b → ◌≡◌ {A = Name × Name} (cond b (port_of i l.port, l.net) (l.net, port_of i l.port)) (x, y) → IsFree x → IsFree y
  joint_free k i ls h l in_ls x y true e edge (inl f) =
      let none : place elements (port_of i l.port) ≡ 0 = port_placeless ms name elements fit form i l.port in
      let same : place elements (port_of i l.port) ≡ place elements x = ap (λ (p : Name × Name). place elements p.0) edge in
      absurd (omega (arith, none, same, f.0))
  joint_free k i ls h l in_ls x y true e edge (inr o) =
      let a : rank ms name elements fit form (port_of i l.port) ≡ 3 * place elements l.net + 1 =
      joint_rank ms name elements fit form k i ls h l in_ls ∙ ap (λ b. cond b (3 * place elements l.net + 1) (3 * place elements l.net - 1)) e in
      let b = output_rank o in
      let some : 0 < place elements o.end_of.net = output_stands o in
      let same : rank ms name elements fit form (port_of i l.port) ≡ rank ms name elements fit form (port_of o.label o.end_of.port) =
      ap (λ (p : Name × Name). rank ms name elements fit form p.0) edge ∙ ap (rank ms name elements fit form) (sym o.called) in
      absurd (omega (arith, a, b, some, same))
  joint_free k i ls h l in_ls x y false e edge f =
      let some : 0 < place elements l.net = (instance_joined ms name elements fit form k i ls h).net_stands l in_ls in
      let is_free : free l.net ≡ true = free_net l.net some (subst IsFree (sym (ap (λ (p : Name × Name). p.0) edge)) f) in
      inr (record { module_name = k; label = i; connections = ls; end_of = l; has = h; has_end = in_ls; no_input = e; is_free = is_free; called = ap (λ (p : Name × Name). p.1) edge })

  line_free : (e : Element) → Has elements e → (it : Item) → Has (element_items e) it → (x y : Name) → Has (line_edges ms it) (x, y) → IsFree x → IsFree y
  unfolding connection_edge
  line_free (Input w z) h it k x y edge f = absurd k
  line_free (Output w z v) h it (inl s) x y edge f =
      assign_free (Output w z v) h (record { name = z; net_kind = OutputNet; bits = w; cells = 0 }) v (inl refl)
      (both_true (is_new (declared_at ms name elements fit form (Output w z v) h).before z) _ (declared_at ms name elements fit form (Output w z v) h).fits).1 (closed_at (Output w z v) h) x y
      (subst (λ j. Has (line_edges ms j) (x, y)) (sym s) edge) f
  line_free (Output w z v) h it (inr n) x y edge f = absurd n
  line_free (Outlet w z) h it k x y edge f = absurd k
  line_free (Wire w z v) h it (inl s) x y edge f = absurd (subst (λ j. Has (line_edges ms j) (x, y)) (sym s) edge)
  line_free (Wire w z v) h it (inr (inl s)) x y edge f =
      assign_free (Wire w z v) h (record { name = z; net_kind = WireNet; bits = w; cells = 0 }) v (inl refl)
      (both_true (is_new (declared_at ms name elements fit form (Wire w z v) h).before z) _ (declared_at ms name elements fit form (Wire w z v) h).fits).1 (closed_at (Wire w z v) h) x y
      (subst (λ j. Has (line_edges ms j) (x, y)) (sym s) edge) f
  line_free (Wire w z v) h it (inr (inr n)) x y edge f = absurd n
  line_free (InstanceWire w z) h it (inl s) x y edge f = absurd (subst (λ j. Has (line_edges ms j) (x, y)) (sym s) edge)
  line_free (InstanceWire w z) h it (inr n) x y edge f = absurd n
  line_free (Register w z) h it (inl s) x y edge f = absurd (subst (λ j. Has (line_edges ms j) (x, y)) (sym s) edge)
  line_free (Register w z) h it (inr n) x y edge f = absurd n
  line_free (Memory w z c) h it (inl s) x y edge f = absurd (subst (λ j. Has (line_edges ms j) (x, y)) (sym s) edge)
  line_free (Memory w z c) h it (inr n) x y edge f = absurd n
  line_free (Block b) h it (inl s) x y edge f = absurd (subst (λ j. Has (line_edges ms j) (x, y)) (sym s) edge)
  line_free (Block b) h it (inr n) x y edge f = absurd n
  line_free (Instance k i ls) h it (inl s) x y edge f =
      let r = of_map (connection_edge (child_ports ms k) i) ls (x, y) (subst (λ j. Has (line_edges ms j) (x, y)) (sym s) edge) in
      joint_free k i ls h r.0 r.1 x y (net_kind_is_input (net_kind_of (child_ports ms k) r.0.port)) refl r.2 f
  line_free (Instance k i ls) h it (inr n) x y edge f = absurd n

  -- a port of the module, by its declaration
  port_found : (x : Name) (s : NetKind) → net_kind_of (map port_declared m.ports) x ≡ s → is_known s ≡ true → (d : Declaration) × Has (table_after first_table elements) d × (d.name ≡ x) × (d.net_kind ≡ s)
  port_found x s e k =
      let r = known (map port_declared m.ports) x (ap is_known e ∙ k) in
      let d = find_name (map port_declared m.ports) x in
      (d, (table ms name elements fit).back d (has_left (map port_declared m.ports) (items_declared m.items) d r.0), r.1, e)

  port_stands : (x : Name) (s : NetKind) → net_kind_of (map port_declared m.ports) x ≡ s → is_known s ≡ true → 0 < place elements x
  port_stands x s e k =
      let r = port_found x s e k in
      subst (λ y. 0 < place elements y) r.2 (place_some (table_after first_table elements) r.0.name (has_times (table_after first_table elements) r.0 r.1))

  input_not_free : (y : Name) → net_kind_of (map port_declared m.ports) y ≡ InputNet → free y ≡ false
  input_not_free y e =
      let r = port_found y InputNet e refl in
      subst (λ z. free z ≡ false) r.2 (elim (comes_from elements first_table r.0 r.1) [
        | inl l ↦ at_first r.0 l
        | inr c ↦ input_of free c.0 (closed_at c.0 c.1) r.0 c.2 r.3
      ]) where
        at_first : (d : Declaration) → Has first_table d → free d.name ≡ false
        at_first d (inl s) = subst (λ (z : Declaration). free z.name ≡ false) s closed_parts.0
        at_first d (inr (inl s)) = subst (λ (z : Declaration). free z.name ≡ false) s closed_parts.1
        at_first d (inr (inr n)) = absurd n

  -- a memory answers at an input, which is not free
  asked_kind : (b : Bool) → (x y z : Name) → Has (cond b (filter (has_port (map port_declared m.ports)) (address_of z)) []) y → z ≡ x → net_kind_is_input (net_kind_of (map port_declared m.ports) z) ≡ b
      → net_kind_is_input (net_kind_of (map port_declared m.ports) x) ≡ true
  asked_kind true x y z h e n = ap (λ w. net_kind_is_input (net_kind_of (map port_declared m.ports) w)) (sym e) ∙ n
  asked_kind false x y z h e n = absurd h

  answer_input : (b : Bool) (x y : Name) → Has (memory_edges b (map port_declared m.ports)) (x, y) → net_kind_of (map port_declared m.ports) x ≡ InputNet
  answer_input false x y h = absurd h
  answer_input true x y h =
      let ds = map port_declared m.ports in
      let t = of_flat (answer_edges ds) ds (x, y) h in
      let a = of_map (λ z. (t.0.name, z)) (asked_port ds t.0.name) (x, y) t.2 in
      is_input (net_kind_of ds x) (asked_kind (net_kind_is_input (net_kind_of ds t.0.name)) x a.0 t.0.name a.1 (ap (λ (q : Name × Name). q.0) a.2) refl)

  direct_free : (x y : Name) → Has (direct_edges ms is_top m) (x, y) → IsFree x → IsFree y
  direct_free x y h f = elim (has_split (flat_map (line_edges ms) m.items) (memory_edges (is_top m.name) (map port_declared m.ports)) (x, y) h) [
    | inl l ↦ (let r = of_flat (line_edges ms) m.items (x, y) l in let t = line_of ms name elements fit form r.0 r.1 in line_free t.0 t.1 r.0 t.2 x y r.2 f)
    | inr k ↦ (
        let into : net_kind_of (map port_declared m.ports) x ≡ InputNet = answer_input (is_top m.name) x y k in
        let yes : true ≡ false = sym (free_net x (port_stands x InputNet into refl) f) ∙ input_not_free x into in
        cc yes
        )
  ]

  -- an output that drives a free net rests on no input inside its module
  no_through : (kn i x y : Name) (k : ModuleTree) → Has (instances m) (kn, i) → module_named ms kn ≡ Some k
      → net_kind_of (map port_declared k.ports) x ≡ OutputNet → net_kind_of (map port_declared k.ports) y ≡ InputNet → Rests ms is_top k x y → IsFree (port_of i x) → ⊥
  no_through kn i x y k inst named out into rests (inl f) = let none : place elements (port_of i x) ≡ 0 = port_placeless ms name elements fit form i x in omega (arith, none, f.0)
  no_through kn i x y k inst named out into rests (inr o) =
      let t = instance_has ms name elements fit form kn i inst in
      let j = instance_joined ms name elements fit form kn i t.0 t.1 in
      let ports : child_ports ms kn ≡ map port_declared k.ports = ap (λ o. map port_declared (ports_in o)) named in
      let out_here : net_kind_of (child_ports ms kn) x ≡ OutputNet = ap (λ l. net_kind_of l x) ports ∙ out in
      let once : count_by (joins x) t.0 ≡ 1 = joined_once (child_ports ms kn) t.0 j.connected x (ap is_known out_here) in
      let l = joined t.0 x (omega (arith, once)) in
      let here : net_kind_of (map port_declared k.ports) l.0.port ≡ OutputNet = ap (λ z. net_kind_of (map port_declared k.ports) z) l.2 ∙ out in
      let a : rank ms name elements fit form (port_of i x) ≡ 3 * place elements l.0.net - 1 =
      ap (λ z. rank ms name elements fit form (port_of i z)) (sym l.2) ∙ joint_rank ms name elements fit form kn i t.0 t.1 l.0 l.1
      ∙ ap (λ b. cond b (3 * place elements l.0.net + 1) (3 * place elements l.0.net - 1)) (ap (λ z. net_kind_is_input (net_kind_of (child_ports ms kn) z)) l.2 ∙ ap net_kind_is_input out_here) in
      let b = output_rank o in
      let some = output_stands o in
      let stands : 0 < place elements l.0.net = j.net_stands l.0 l.1 in
      let same : rank ms name elements fit form (port_of o.label o.end_of.port) ≡ rank ms name elements fit form (port_of i x) = ap (rank ms name elements fit form) o.called in
      let one : o.end_of.net ≡ l.0.net = one_place (table_after first_table elements) o.end_of.net l.0.net some (omega (arith, a, b, some, stands, same)) in
      outputs kn i t.0 k l.0 y t.1 named l.1 (subst (λ z. free z ≡ true) one o.is_free) here into (subst (λ z. Rests ms is_top k z y) (sym l.2) rests)

free_goes : (ms : List ModuleTree) (is_top : Name → Bool) (name : Name) (elements : List Element) (IsFree : Name → Type 0)
    → ((x y : Name) → Has (direct_edges ms is_top (built name elements)) (x, y) → IsFree x → IsFree y)
    → ((kn i x y : Name) (k : ModuleTree) → Has (instances (built name elements)) (kn, i) → module_named ms kn ≡ Some k
    → net_kind_of (map port_declared k.ports) x ≡ OutputNet → net_kind_of (map port_declared k.ports) y ≡ InputNet → Rests ms is_top k x y → IsFree (port_of i x) → ⊥)
    → {m : ModuleTree} {x y : Name} → Rests ms is_top m x y → m ≡ built name elements → IsFree x → IsFree y
free_goes ms is_top name elements P direct never (directly {m = m} {x = x} {y = y} h) e f = direct x y (subst (λ (k : ModuleTree). Has (direct_edges ms is_top k) (x, y)) e h) f
free_goes ms is_top name elements P direct never (through {m = m} {a = a} {b = b} k kn i x y inst named out into rests ea eb) e f =
    absurd (never kn i x y k (subst (λ (z : ModuleTree). Has (instances z) (kn, i)) e inst) named out into rests (subst P ea f))
free_goes ms is_top name elements P direct never (after {m = m} {x = x} {z = z} y r s) e f =
    free_goes ms is_top name elements P direct never s e (free_goes ms is_top name elements P direct never r e f)

module _ (ms : List ModuleTree) (is_top : Name → Bool) (name : Name) (elements : List Element) (free : Name → Bool) (fit : AreFitting ms elements) (form : list_all is_element elements ≡ true)
    (outputs : FreeOutputsRestOnNoInput ms is_top free elements) (closed : is_closed free elements ≡ true) where
  pub free_rests_on_no_input : (x y : Name) → net_kind_of (map port_declared (built name elements).ports) x ≡ OutputNet → free x ≡ true → net_kind_of (map port_declared (built name elements).ports) y ≡ InputNet
      → Rests ms is_top (built name elements) x y → ⊥
  free_rests_on_no_input x y out is_free into rests =
      let stands = port_stands ms is_top name elements free fit form outputs closed y InputNet into refl in
      let begin : IsFree ms is_top name elements free fit form outputs closed x = inl (port_stands ms is_top name elements free fit form outputs closed x OutputNet out refl, is_free) in
      let end = free_goes ms is_top name elements (IsFree ms is_top name elements free fit form outputs closed) (direct_free ms is_top name elements free fit form outputs closed)
      (no_through ms is_top name elements free fit form outputs closed) rests refl begin in
      let yes : true ≡ false =
      sym (free_net ms is_top name elements free fit form outputs closed y stands end) ∙ input_not_free ms is_top name elements free fit form outputs closed y into in
      cc yes

  pub module_rests_on_no_input : list_all free (flat_map output_names elements) ≡ true → RestsOnNoInput ms is_top (built name elements)
  module_rests_on_no_input all_free x y out into rests =
      let r = port_found ms is_top name elements free fit form outputs closed x OutputNet out refl in
      free_rests_on_no_input x y out
      (subst (λ z. free z ≡ true) r.2 (elim (comes_from elements first_table r.0 r.1) [
        | inl l ↦ not_first r.0 l r.3
        | inr c ↦ output_of free c.0 (all_of_flat free output_names elements all_free c.0 c.1) r.0 c.2 r.3
      ]))
      into rests where
        not_first : (d : Declaration) → Has first_table d → d.net_kind ≡ OutputNet → free d.name ≡ true
        not_first d (inl s) k = let wrong : InputNet ≡ OutputNet = ap (λ (z : Declaration). z.net_kind) s ∙ k in cc
        not_first d (inr (inl s)) k = let wrong : InputNet ≡ OutputNet = ap (λ (z : Declaration). z.net_kind) s ∙ k in cc
        not_first d (inr (inr n)) k = absurd n

-- ---- modules together

module _ (ms : List ModuleTree) (is_top : Name → Bool) (level : Name → ℕ) (lower : (m : ModuleTree) (kn : Name) → Has ms m → Has (module_children m) kn → level kn < level m.name)
    (none : (m : ModuleTree) → Has ms m → (x : Name) → Rests ms is_top m x x → ⊥) where
  edge_falls : (x y : Name) → Has (containment ms) (x, y) → level y < level x
  unfolding own_containment
  edge_falls x y e =
      let t = of_flat own_containment ms (x, y) e in
      let c = of_map (λ k. (t.0.name, k)) (module_children t.0) (x, y) t.2 in
      let low : level c.0 < level t.0.name = lower t.0 c.0 t.1 c.1 in
      let p : level t.0.name ≡ level x = ap (λ (q : Name × Name). level q.0) c.2 in
      let q : level c.0 ≡ level y = ap (λ (q : Name × Name). level q.1) c.2 in
      omega arith

  chain_falls : {a b : Name} → Chain (λ x y. Has (containment ms) (x, y)) a b → level b < level a
  chain_falls (one {a = a} {b = b} e) = edge_falls a b e
  chain_falls (more {a = a} {c = c} b e k) =
      let first : level b < level a = edge_falls a b e in
      let rest : level c < level b = chain_falls k in
      omega arith

  lies_on_none : (s : TextPlace) → LiesOnLoop ms is_top s → ⊥
  lies_on_none (m, None) r = let l : level m < level m = chain_falls r in absurd (omega arith)
  lies_on_none (m, Some x) (inl r) = none r.0 r.1 x r.3
  lies_on_none (m, Some x) (inr r) = none r.0 r.2 (port_of r.1 x) r.4

  pub loopless : IsLoopless ms is_top
  loopless s has lies = lies_on_none s lies
