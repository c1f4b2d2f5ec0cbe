-- No net of what is built rests on itself.
use Rattle.std.proofs.Common.{◌≡◌, ℕ, suc, ◌+◌, ◌-◌, ◌*◌, ◌<◌, ◌≤◌, Bool, true, false, cond, eqb, ltb, ◌&&◌, ◌||◌, List, [], ◌∷◌, ◌++◌, length, map, Some, inl, inr, refl, sym, ap, subst, ◌∙◌, arith}
use Rattle.std.specs.Prelude.{bytes_eq, count_by, not, nat_le}
use Rattle.std.specs.List.{list_any, list_all, flat_map}
use Rattle.std.specs.Cmp.Lexicographic.{bytes_decides}
use Rattle.std.proofs.lemmas.Bool.{lt-ltb, eqb-true, or_parts as both_false, or_right as or_true}
use Rattle.vlog_tree.specs.declared.tree.Value.{Value}
use Rattle.vlog_tree.specs.declared.tree.Connection.{Connection}
use Rattle.vlog_tree.specs.declared.tree.Item.{Item}
use Rattle.vlog_tree.specs.declared.table.Declaration.{Declaration}
use Rattle.vlog_tree.specs.declared.table.NetKind.{NetKind}
use Rattle.vlog_tree.specs.declared.table.NetKind.TheVariants.{Input as InputNet, Output as OutputNet, WireNet, ChildInstance}
use Rattle.vlog_tree.specs.Names.{within, is_name, has_name_form, starts_name, goes_on, is_keyword}
use Rattle.vlog_tree.specs.Form.{ModuleTree, is_value, is_connection}
use Rattle.tapa_base.specs.Lists.{Has}
use Rattle.vlog_tree.specs.Table.{Name, NameUse, clk, is_clk, port_declared, find_name, net_kind_of, net_kind_is_read, net_kind_is_driven, net_kind_is_input, ports_in, module_named, is_module_name, times_in, one_if}
use Rattle.vlog_tree.specs.Labels.{rst}
use Rattle.vlog_tree.specs.V2.{read_use, driven_use, clock_use, value_uses, connection_uses, all_connected}
use Rattle.vlog_tree.specs.Loops.{Rests, value_nets, port_of, line_edges, connection_edge, direct_edges, memory_edges, instances, item_instances}
use Rattle.tapa_base.proofs.Lists.{has_split, of_flat, of_map}
use Rattle.vlog_module_laws.specs.Ranks.{FallsBy}
use Rattle.vlog_module_laws.proofs.Ranks.{on_no_loop}
use Rattle.vlog_module_laws.proofs.Lists.{count_cons, counted, none_counted}
use Rattle.hw_build.specs.Elements.{Element, Input, Output, Outlet, Wire, InstanceWire, Register, Memory, Block, Instance, element_items, empty, built}
use Rattle.hw_build.specs.Forms.{is_element}
use Rattle.hw_build.specs.Fitting.{declarations, first_table, table_after, is_new, are_kept, child_ports, AreFitting}
use Rattle.hw_build.specs.Order.{place_in, place, StandsBefore, InstancesKeepOrder, AnswersKeepOrder}
use Rattle.hw_build.proofs.Tables.{times, is_known, known, count_append, comes_from, stays_new, name_of_all}
use Rattle.hw_build.proofs.Uses.{all_has, all_of_flat, read_known, driven_known, input_known, and_true, not_not}
use Rattle.hw_build.proofs.Drivers.{times_by, other_names, declared_times, named_in}
use Rattle.hw_build.proofs.Places.{place_low, place_some, IsDeclaredAt, moment, value_read, read_times, known_times}
use Rattle.hw_build.proofs.Right.{names_once, lines_are, four_parts}
use Rattle.vlog_module_laws.proofs.Forms.{itself as same_name}
use Rattle.tapa_base.proofs.Tests.{both_true}
use Rattle.hw_build.proofs.Widths.{not_or}

-- ---- names with a dot are those of ports of instances

abbrev pub has_dot : Name → Bool
has_dot x = list_any (λ c. eqb c 46) x

abbrev before_dot : Name → Name
before_dot [] = []
before_dot (c ∷ cs) = cond (eqb c 46) [] (c ∷ before_dot cs)

abbrev after_dot : Name → Name
after_dot [] = []
after_dot (c ∷ cs) = cond (eqb c 46) cs (after_dot cs)

abbrev dotted : Name → Name → Name
dotted i p = i ++ 46 ∷ p

dot_there : (i p : Name) → has_dot (dotted i p) ≡ true
dot_there [] p = refl
dot_there (c ∷ cs) p = or_true (eqb c 46) (has_dot (dotted cs p)) (dot_there cs p)

cut_before : (i p : Name) → has_dot i ≡ false → before_dot (dotted i p) ≡ i
cut_before [] p e = refl
cut_before (c ∷ cs) p e =
    let b = both_false (eqb c 46) (has_dot cs) e in
    ap (λ t. cond t [] (c ∷ before_dot (dotted cs p))) b.0 ∙ ap (λ l. c ∷ l) (cut_before cs p b.1)

cut_after : (i p : Name) → has_dot i ≡ false → after_dot (dotted i p) ≡ p
cut_after [] p e = refl
cut_after (c ∷ cs) p e =
    let b = both_false (eqb c 46) (has_dot cs) e in
    ap (λ t. cond t (dotted cs p) (after_dot (dotted cs p))) b.0 ∙ cut_after cs p b.1

no_dot_goes_on : goes_on 46 ≡ false
unfolding goes_on starts_name
no_dot_goes_on = refl

no_dot_here : (c : ℕ) (b : Bool) → eqb c 46 ≡ b → goes_on c ≡ true → b ≡ false
no_dot_here c true e h = sym (subst (λ d. goes_on d ≡ true) (eqb-true c 46 e) h) ∙ no_dot_goes_on
no_dot_here c false e h = refl

or_first : (a b c : Bool) → a ≡ true → (a || b || c) ≡ true
or_first true b c e = refl
or_first false b c e = cc

starts_goes_on : (c : ℕ) → starts_name c ≡ true → goes_on c ≡ true
unfolding goes_on
starts_goes_on c h = or_first (starts_name c) (within 48 57 c) (eqb c 36) h

no_dots : (cs : Name) → list_all goes_on cs ≡ true → has_dot cs ≡ false
no_dots [] h = refl
no_dots (c ∷ cs) h =
    let b = both_true (goes_on c) (list_all goes_on cs) h in
    ap (λ t. t || has_dot cs) (no_dot_here c (eqb c 46) refl b.0) ∙ no_dots cs b.1

form_no_dot : (x : Name) → has_name_form x ≡ true → has_dot x ≡ false
form_no_dot [] h = refl
form_no_dot (c ∷ cs) h =
    let b = both_true (starts_name c) (list_all goes_on cs) h in
    no_dots (c ∷ cs) (ap (λ t. t && list_all goes_on cs) (starts_goes_on c b.0) ∙ b.1)

pub name_no_dot : (x : Name) → is_name x ≡ true → has_dot x ≡ false
name_no_dot x h = form_no_dot x (both_true (has_name_form x) (cond (is_keyword x) false true) h).0

-- ---- what is declared has a name without a dot

declared_name : (e : Element) → is_element e ≡ true → (d : Declaration) → Has (declarations e) d → is_name d.name ≡ true
declared_name (Input w x) h d (inl s) = subst (λ (z : Declaration). is_name z.name ≡ true) s (both_true (nat_le 1 w) (is_name x) h).1
declared_name (Input w x) h d (inr n) = absurd n
declared_name (Output w x v) h d (inl s) = subst (λ (z : Declaration). is_name z.name ≡ true) s (both_true (nat_le 1 w) (is_name x) (both_true (nat_le 1 w && is_name x) (is_value v) h).0).1
declared_name (Output w x v) h d (inr n) = absurd n
declared_name (Outlet w x) h d (inl s) = subst (λ (z : Declaration). is_name z.name ≡ true) s (both_true (nat_le 1 w) (is_name x) h).1
declared_name (Outlet w x) h d (inr n) = absurd n
declared_name (Wire w x v) h d (inl s) = subst (λ (z : Declaration). is_name z.name ≡ true) s (both_true (nat_le 1 w) (is_name x) (both_true (nat_le 1 w && is_name x) (is_value v) h).0).1
declared_name (Wire w x v) h d (inr n) = absurd n
declared_name (InstanceWire w x) h d (inl s) = subst (λ (z : Declaration). is_name z.name ≡ true) s (both_true (nat_le 1 w) (is_name x) h).1
declared_name (InstanceWire w x) h d (inr n) = absurd n
declared_name (Register w x) h d (inl s) = subst (λ (z : Declaration). is_name z.name ≡ true) s (both_true (nat_le 1 w) (is_name x) h).1
declared_name (Register w x) h d (inr n) = absurd n
declared_name (Memory w x c) h d (inl s) = subst (λ (z : Declaration). is_name z.name ≡ true) s (both_true (nat_le 1 w) (is_name x) (both_true (nat_le 1 w && is_name x) (nat_le 1 c) h).0).1
declared_name (Memory w x c) h d (inr n) = absurd n
declared_name (Block b) h d k = absurd k
declared_name (Instance k i ls) h d (inl s) =
    let p = both_true (is_name k && is_name i && nat_le 1 (length ls)) (list_all is_connection ls) h in
    let q = both_true (is_name k && is_name i) (nat_le 1 (length ls)) p.0 in
    subst (λ (z : Declaration). is_name z.name ≡ true) s (both_true (is_name k) (is_name i) q.0).1
declared_name (Instance k i ls) h d (inr n) = absurd n

first_dotless : (d : Declaration) → Has first_table d → has_dot d.name ≡ false
unfolding clk rst
first_dotless d (inl s) = subst (λ (z : Declaration). has_dot z.name ≡ false) s refl
first_dotless d (inr (inl s)) = subst (λ (z : Declaration). has_dot z.name ≡ false) s refl
first_dotless d (inr (inr n)) = absurd n

placeless_of : (d : Declaration) (t : List Declaration) (x : Name) (b : Bool) → bytes_eq d.name x ≡ b → has_dot d.name ≡ false → has_dot x ≡ true → place_in t x ≡ 0 → cond b (suc (length t)) (place_in t x) ≡ 0
placeless_of d t x true e f g h = let same : d.name ≡ x = (bytes_decides d.name x).0 e in let no : true ≡ false = sym g ∙ ap has_dot (sym same) ∙ f in cc no
placeless_of d t x false e f g h = h

placeless : (t : List Declaration) → ((d : Declaration) → Has t d → has_dot d.name ≡ false) → (x : Name) → has_dot x ≡ true → place_in t x ≡ 0
placeless [] f x g = refl
placeless (d ∷ t) f x g = placeless_of d t x (bytes_eq d.name x) refl (f d (inl refl)) g (placeless t (λ z h. f z (inr h)) x g)

-- ---- instances by their names, and nets by ports

abbrev child_at : List Element → Name → Name × List Connection
child_at [] i = ([], [])
child_at (Instance k j ls ∷ elements) i = cond (bytes_eq j i) (k, ls) (child_at elements i)
child_at (Input w x ∷ elements) i = child_at elements i
child_at (Output w x v ∷ elements) i = child_at elements i
child_at (Outlet w x ∷ elements) i = child_at elements i
child_at (Wire w x v ∷ elements) i = child_at elements i
child_at (InstanceWire w x ∷ elements) i = child_at elements i
child_at (Register w x ∷ elements) i = child_at elements i
child_at (Memory w x n ∷ elements) i = child_at elements i
child_at (Block b ∷ elements) i = child_at elements i

fewer : (e : Element) (elements : List Element) (i : Name) → times_by other_names (e ∷ elements) i ≤ 1 → times_by other_names elements i ≤ 1
fewer e elements i h =
    let c : times_by other_names (e ∷ elements) i ≡ times_in (other_names e) i + times_by other_names elements i = count_append (λ y. bytes_eq y i) (other_names e) (flat_map other_names elements) in
    omega arith

not_first : (k j : Name) (ls : List Connection) (elements : List Element) (i : Name) → times_by other_names (Instance k j ls ∷ elements) i ≤ 1 → 1 ≤ times_by other_names elements i → bytes_eq j i ≡ false
not_first k j ls elements i h some =
    let c : times_by other_names (Instance k j ls ∷ elements) i ≡ one_if (bytes_eq j i) + times_by other_names elements i = count_cons (λ y. bytes_eq y i) j (flat_map other_names elements) in
    none_counted (bytes_eq j i) (omega arith)

child_is : (elements : List Element) (k i : Name) (ls : List Connection) → Has elements (Instance k i ls) → times_by other_names elements i ≤ 1 → child_at elements i ≡ (k, ls)
child_is [] k i ls h low = absurd h
child_is (Instance c j ms ∷ elements) k i ls (inl s) low =
    let ej : j ≡ i = cc s in
    let ek : c ≡ k = cc s in
    let el : ms ≡ ls = cc s in
    ap (λ b. cond b (c, ms) (child_at elements i)) ((bytes_decides j i).1 ej) ∙ ap (λ (z : Name). (z, ms)) ek ∙ ap (λ (z : List Connection). (k, z)) el
child_is (Instance c j ms ∷ elements) k i ls (inr h) low =
    ap (λ b. cond b (c, ms) (child_at elements i)) (not_first c j ms elements i low (named_in other_names elements (Instance k i ls) i h (inl refl)))
    ∙ child_is elements k i ls h (fewer (Instance c j ms) elements i low)
child_is (Input w x ∷ elements) k i ls (inl s) low = cc
child_is (Input w x ∷ elements) k i ls (inr h) low = child_is elements k i ls h (fewer (Input w x) elements i low)
child_is (Output w x v ∷ elements) k i ls (inl s) low = cc
child_is (Output w x v ∷ elements) k i ls (inr h) low = child_is elements k i ls h (fewer (Output w x v) elements i low)
child_is (Outlet w x ∷ elements) k i ls (inl s) low = cc
child_is (Outlet w x ∷ elements) k i ls (inr h) low = child_is elements k i ls h (fewer (Outlet w x) elements i low)
child_is (Wire w x v ∷ elements) k i ls (inl s) low = cc
child_is (Wire w x v ∷ elements) k i ls (inr h) low = child_is elements k i ls h (fewer (Wire w x v) elements i low)
child_is (InstanceWire w x ∷ elements) k i ls (inl s) low = cc
child_is (InstanceWire w x ∷ elements) k i ls (inr h) low = child_is elements k i ls h (fewer (InstanceWire w x) elements i low)
child_is (Register w x ∷ elements) k i ls (inl s) low = cc
child_is (Register w x ∷ elements) k i ls (inr h) low = child_is elements k i ls h (fewer (Register w x) elements i low)
child_is (Memory w x n ∷ elements) k i ls (inl s) low = cc
child_is (Memory w x n ∷ elements) k i ls (inr h) low = child_is elements k i ls h (fewer (Memory w x n) elements i low)
child_is (Block b ∷ elements) k i ls (inl s) low = cc
child_is (Block b ∷ elements) k i ls (inr h) low = child_is elements k i ls h (fewer (Block b) elements i low)

abbrev pub joins : Name → Connection → Bool
joins x l = bytes_eq l.port x

abbrev net_at : List Connection → Name → Name
net_at [] p = []
net_at (l ∷ ls) p = cond (bytes_eq l.port p) l.net (net_at ls p)

net_is : (ls : List Connection) (l : Connection) → Has ls l → count_by (joins l.port) ls ≤ 1 → net_at ls l.port ≡ l.net
net_is [] l h low = absurd h
net_is (c ∷ ls) l (inl s) low =
    ap (λ b. cond b c.net (net_at ls l.port)) ((bytes_decides c.port l.port).1 (ap (λ (z : Connection). z.port) s)) ∙ ap (λ (z : Connection). z.net) s
net_is (c ∷ ls) l (inr h) low =
    let k : count_by (joins l.port) (c ∷ ls) ≡ one_if (bytes_eq c.port l.port) + count_by (joins l.port) ls = count_cons (joins l.port) c ls in
    let some : 1 ≤ count_by (joins l.port) ls = counted (joins l.port) ls l h (same_name l.port) in
    ap (λ b. cond b c.net (net_at ls l.port)) (none_counted (bytes_eq c.port l.port) (omega arith)) ∙ net_is ls l h (omega arith)

joined_of : (c : Connection) (ls : List Connection) (x : Name) (b : Bool) → bytes_eq c.port x ≡ b → (1 ≤ count_by (joins x) ls → (l : Connection) × Has ls l × (l.port ≡ x))
    → 1 ≤ one_if b + count_by (joins x) ls → (l : Connection) × Has {N = Connection} (c ∷ ls) l × (l.port ≡ x)
joined_of c ls x true e ih h = (c, inl refl, (bytes_decides c.port x).0 e)
joined_of c ls x false e ih h = let r = ih (omega arith) in (r.0, inr r.1, r.2)

pub joined : (ls : List Connection) (x : Name) → 1 ≤ count_by (joins x) ls → (l : Connection) × Has ls l × (l.port ≡ x)
joined [] x h = absurd (omega arith)
joined (c ∷ ls) x h =
    let k : count_by (joins x) (c ∷ ls) ≡ one_if (bytes_eq c.port x) + count_by (joins x) ls = count_cons (joins x) c ls in
    joined_of c ls x (bytes_eq c.port x) refl (joined ls x) (omega arith)

pub joined_once : (ports : List Declaration) (ls : List Connection) → all_connected ports ls ≡ true → (x : Name) → is_known (net_kind_of ports x) ≡ true → count_by (joins x) ls ≡ 1
joined_once ports ls h x k =
    let r = known ports x k in
    subst (λ y. count_by (joins y) ls ≡ 1) r.1
    (eqb-true (count_by (joins (find_name ports x).name) ls) 1 (all_has (λ (p : Declaration). eqb (count_by (joins p.name) ls) 1) ports h (find_name ports x) r.0))

-- ---- the net of a connection is declared

net_known : (t ports : List Declaration) (l : Connection) (to_clock to_input : Bool) → (is_clk l.port && is_clk l.net) ≡ to_clock
    → not (cond to_clock (clock_use t) (cond to_input (read_use t l.net) (driven_use t l.net))).1 ≡ true → is_known (net_kind_of t l.net) ≡ true
net_known t ports l true b e h =
    let at_clock : clk ≡ l.net = sym ((bytes_decides l.net clk).0 (both_true (is_clk l.port) (is_clk l.net) e).1) in
    subst (λ x. is_known (net_kind_of t x) ≡ true) at_clock (input_known (net_kind_of t clk) (not_not (net_kind_is_input (net_kind_of t clk)) h))
net_known t ports l false true e h = read_known (net_kind_of t l.net) (not_or (net_kind_is_read (net_kind_of t l.net)) (is_clk l.net) h)
net_known t ports l false false e h = driven_known (net_kind_of t l.net) (not_or (net_kind_is_driven (net_kind_of t l.net)) (is_clk l.net) h)

-- both ends of a connection are known
ends_known : (t ports : List Declaration) (l : Connection) → are_kept (connection_uses ports t l) ≡ true → (is_known (net_kind_of ports l.port) ≡ true) × (is_known (net_kind_of t l.net) ≡ true)
unfolding connection_uses
ends_known t ports l h =
    let k = both_true (not (not (net_kind_is_read (net_kind_of ports l.port)))) _ h in (
      read_known (net_kind_of ports l.port) (not_not (net_kind_is_read (net_kind_of ports l.port)) k.0),
      net_known t ports l (is_clk l.port && is_clk l.net) (net_kind_is_input (net_kind_of ports l.port)) refl (and_true _ k.1),
    )

input_or_not : (k : NetKind) → k ≡ InputNet → net_kind_is_input k ≡ true
input_or_not k e = ap net_kind_is_input e

output_is_no_input : (k : NetKind) → k ≡ OutputNet → net_kind_is_input k ≡ false
output_is_no_input k e = ap net_kind_is_input e

module _ (ms : List ModuleTree) (name : Name) (elements : List Element) (fit : AreFitting ms elements) (form : list_all is_element elements ≡ true) where
  abbrev pub m : ModuleTree
  m = built name elements

  abbrev pub whole : List Declaration
  whole = table_after first_table elements

  dotless : (d : Declaration) → Has whole d → has_dot d.name ≡ false
  dotless d h = elim (comes_from elements first_table d h) [
    | inl l ↦ first_dotless d l
    | inr r ↦ name_no_dot d.name (declared_name r.0 (all_has is_element elements form r.0 r.1) d r.2)
  ]

  pub declared_at : (e : Element) → Has elements e → IsDeclaredAt ms whole e
  declared_at e h = moment ms elements first_table fit.names e h

  pub port_placeless : (i p : Name) → place elements (port_of i p) ≡ 0
  unfolding port_of
  port_placeless i p = placeless whole dotless (dotted i p) (dot_there i p)

  -- a driver's nets stand before it
  pub driver_order : (e : Element) (h : Has elements e) (d : Declaration) (v : Value) → Has (declarations e) d → are_kept (value_uses (declared_at e h).before v) ≡ true
      → (y : Name) → Has (value_nets v) y → StandsBefore elements y d.name
  driver_order e h d v new kept y in_v =
      let at = declared_at e h in
      let some : 1 ≤ times at.before y = read_times at.before y (value_read at.before v kept y in_v) in
      let here : place elements y ≡ place_in at.before y = at.kept y some in
      let low : place_in at.before y ≤ length at.before = place_low at.before y in
      let high : 0 < place_in at.before y = place_some at.before y some in
      let after_all : place elements d.name ≡ suc (length at.before) = at.new d new in
      (omega (arith, here, high), omega (arith, here, low, after_all))

  -- the parts of an instance
  pub record IsJoined (k i : Name) (ls : List Connection) : Type 0 where
    pub known_module : is_module_name ms k ≡ true
    pub connected : all_connected (child_ports ms k) ls ≡ true
    pub port_known : (l : Connection) → Has ls l → is_known (net_kind_of (child_ports ms k) l.port) ≡ true
    pub net_stands : (l : Connection) → Has ls l → 0 < place elements l.net

  pub instance_joined : (k i : Name) (ls : List Connection) → Has elements (Instance k i ls) → IsJoined k i ls
  instance_joined k i ls h =
      let at = declared_at (Instance k i ls) h in
      let p = four_parts (is_new at.before i) (is_module_name ms k) (all_connected (child_ports ms k) ls) (are_kept (flat_map (connection_uses (child_ports ms k) at.before) ls)) at.fits in
      let ends = λ (l : Connection) (in_ls : Has ls l). ends_known at.before (child_ports ms k) l (all_of_flat (λ (u : NameUse). not u.1) (connection_uses (child_ports ms k) at.before) ls p.3 l in_ls) in
      record {
        known_module = p.1;
        connected = p.2;
        port_known = λ l in_ls. (ends l in_ls).0;
        net_stands = λ l in_ls.
            let some : 1 ≤ times at.before l.net = known_times at.before l.net (ends l in_ls).1 in
            let here : place elements l.net ≡ place_in at.before l.net = at.kept l.net some in
            let high : 0 < place_in at.before l.net = place_some at.before l.net some in
            omega (arith, here, high);
      }

  abbrev port_rank : Name × List Connection → Name → ℕ
  port_rank c p = cond (net_kind_is_input (net_kind_of (child_ports ms c.0) p)) (3 * place elements (net_at c.1 p) + 1) (3 * place elements (net_at c.1 p) - 1)

  -- three steps for each declared net, so that there is room between them for the ports that it is joined to
  pub rank : Name → ℕ
  rank x = cond (ltb 0 (place elements x)) (3 * place elements x) (port_rank (child_at elements (before_dot x)) (after_dot x))

  pub net_rank : (x : Name) → 0 < place elements x → rank x ≡ 3 * place elements x
  unfolding rank
  net_rank x h = ap (λ b. cond b (3 * place elements x) (port_rank (child_at elements (before_dot x)) (after_dot x))) (lt-ltb 0 (place elements x) h)

  instances_once : (i : Name) → times_by other_names elements i ≤ 1
  instances_once i =
      let s = declared_times elements first_table i in
      let d : times whole i ≤ 1 = names_once ms name elements fit i in
      omega (arith, s, d)

  pub joint_rank : (k i : Name) (ls : List Connection) → Has elements (Instance k i ls) → (l : Connection) → Has ls l
      → rank (port_of i l.port) ≡ cond (net_kind_is_input (net_kind_of (child_ports ms k) l.port)) (3 * place elements l.net + 1) (3 * place elements l.net - 1)
  unfolding rank port_of
  joint_rank k i ls h l in_ls =
      let p = l.port in
      let j = instance_joined k i ls h in
      let none : place elements (dotted i p) ≡ 0 = placeless whole dotless (dotted i p) (dot_there i p) in
      let no_dot : has_dot i ≡ false = dotless (record { name = i; net_kind = ChildInstance; bits = 0; cells = 0 }) (stays_new elements first_table (Instance k i ls) _ h (inl refl)) in
      let once : count_by (joins p) ls ≡ 1 = joined_once (child_ports ms k) ls j.connected p (j.port_known l in_ls) in
      ap (λ n. cond (ltb 0 n) (3 * n) (port_rank (child_at elements (before_dot (dotted i p))) (after_dot (dotted i p)))) none
      ∙ ap (λ z. port_rank (child_at elements z) (after_dot (dotted i p))) (cut_before i p no_dot) ∙ ap (λ z. port_rank (child_at elements i) z) (cut_after i p no_dot)
      ∙ ap (λ c. port_rank c p) (child_is elements k i ls h (instances_once i))
      ∙ ap (λ n. cond (net_kind_is_input (net_kind_of (child_ports ms k) p)) (3 * place elements n + 1) (3 * place elements n - 1)) (net_is ls l in_ls (omega (arith, once)))

  net_falls : (x y : Name) → StandsBefore elements y x → rank y < rank x
  net_falls x y s =
      let a : rank x ≡ 3 * place elements x = net_rank x (omega (arith, s.0, s.1)) in
      let b : rank y ≡ 3 * place elements y = net_rank y s.0 in
      omega (arith, a, b, s.0, s.1)

  assign_falls : (e : Element) (h : Has elements e) (d : Declaration) (v : Value) → Has (declarations e) d → are_kept (value_uses (declared_at e h).before v) ≡ true
      → (x y : Name) → Has {N = Name × Name} (map (λ (z : Name). (d.name, z)) (value_nets v)) (x, y) → rank y < rank x
  assign_falls e h d v new kept x y edge =
      let r = of_map (λ (z : Name). (d.name, z)) (value_nets v) (x, y) edge in
      let ex : d.name ≡ x = ap (λ (p : Name × Name). p.0) r.2 in
      let ey : r.0 ≡ y = ap (λ (p : Name × Name). p.1) r.2 in
      subst (λ z. rank y < rank z) ex (subst (λ z. rank z < rank d.name) ey (net_falls d.name r.0 (driver_order e h d v new kept r.0 r.1)))

  joint_falls : (k i : Name) (ls : List Connection) → Has elements (Instance k i ls) → (l : Connection) → Has ls l → (x y : Name) (b : Bool)
      → net_kind_is_input (net_kind_of (child_ports ms k) l.port) ≡ b → ◌≡◌ {A = Name × Name} (cond b (port_of i l.port, l.net) (l.net, port_of i l.port)) (x, y) → rank y < rank x
  joint_falls k i ls h l in_ls x y true e edge =
      let a : rank (port_of i l.port) ≡ 3 * place elements l.net + 1 = joint_rank k i ls h l in_ls ∙ ap (λ b. cond b (3 * place elements l.net + 1) (3 * place elements l.net - 1)) e in
      let n : rank l.net ≡ 3 * place elements l.net = net_rank l.net ((instance_joined k i ls h).net_stands l in_ls) in
      let ex : rank (port_of i l.port) ≡ rank x = ap (λ (p : Name × Name). rank p.0) edge in
      let ey : rank l.net ≡ rank y = ap (λ (p : Name × Name). rank p.1) edge in
      omega (arith, a, n, ex, ey)
  joint_falls k i ls h l in_ls x y false e edge =
      let a : rank (port_of i l.port) ≡ 3 * place elements l.net - 1 = joint_rank k i ls h l in_ls ∙ ap (λ b. cond b (3 * place elements l.net + 1) (3 * place elements l.net - 1)) e in
      let some : 0 < place elements l.net = (instance_joined k i ls h).net_stands l in_ls in
      let n : rank l.net ≡ 3 * place elements l.net = net_rank l.net some in
      let ex : rank l.net ≡ rank x = ap (λ (p : Name × Name). rank p.0) edge in
      let ey : rank (port_of i l.port) ≡ rank y = ap (λ (p : Name × Name). rank p.1) edge in
      omega (arith, a, some, n, ex, ey)

  line_falls : (e : Element) → Has elements e → (it : Item) → Has (element_items e) it → (x y : Name) → Has (line_edges ms it) (x, y) → rank y < rank x
  unfolding connection_edge
  line_falls (Input w z) h it k x y edge = absurd k
  line_falls (Output w z v) h it (inl s) x y edge =
      assign_falls (Output w z v) h (record { name = z; net_kind = OutputNet; bits = w; cells = 0 }) v (inl refl) (both_true (is_new (declared_at (Output w z v) h).before z) _ (declared_at (Output w z v) h).fits).1 x y
      (subst (λ j. Has (line_edges ms j) (x, y)) (sym s) edge)
  line_falls (Output w z v) h it (inr n) x y edge = absurd n
  line_falls (Outlet w z) h it k x y edge = absurd k
  line_falls (Wire w z v) h it (inl s) x y edge = absurd (subst (λ j. Has (line_edges ms j) (x, y)) (sym s) edge)
  line_falls (Wire w z v) h it (inr (inl s)) x y edge =
      assign_falls (Wire w z v) h (record { name = z; net_kind = WireNet; bits = w; cells = 0 }) v (inl refl) (both_true (is_new (declared_at (Wire w z v) h).before z) _ (declared_at (Wire w z v) h).fits).1 x y
      (subst (λ j. Has (line_edges ms j) (x, y)) (sym s) edge)
  line_falls (Wire w z v) h it (inr (inr n)) x y edge = absurd n
  line_falls (InstanceWire w z) h it (inl s) x y edge = absurd (subst (λ j. Has (line_edges ms j) (x, y)) (sym s) edge)
  line_falls (InstanceWire w z) h it (inr n) x y edge = absurd n
  line_falls (Register w z) h it (inl s) x y edge = absurd (subst (λ j. Has (line_edges ms j) (x, y)) (sym s) edge)
  line_falls (Register w z) h it (inr n) x y edge = absurd n
  line_falls (Memory w z c) h it (inl s) x y edge = absurd (subst (λ j. Has (line_edges ms j) (x, y)) (sym s) edge)
  line_falls (Memory w z c) h it (inr n) x y edge = absurd n
  line_falls (Block b) h it (inl s) x y edge = absurd (subst (λ j. Has (line_edges ms j) (x, y)) (sym s) edge)
  line_falls (Block b) h it (inr n) x y edge = absurd n
  line_falls (Instance k i ls) h it (inl s) x y edge =
      let r = of_map (connection_edge (child_ports ms k) i) ls (x, y) (subst (λ j. Has (line_edges ms j) (x, y)) (sym s) edge) in
      joint_falls k i ls h r.0 r.1 x y (net_kind_is_input (net_kind_of (child_ports ms k) r.0.port)) refl r.2
  line_falls (Instance k i ls) h it (inr n) x y edge = absurd n

  -- a line of what is built is one of an element
  pub line_of : (it : Item) → Has m.items it → (e : Element) × Has elements e × Has (element_items e) it
  line_of it h = of_flat element_items elements it (subst (λ (l : List Item). Has l it) (lines_are ms name elements fit) h)

  instance_of : (kn i : Name) (e : Element) → Has elements e → (it : Item) → Has (element_items e) it → Has (item_instances it) (kn, i) → (ls : List Connection) × Has elements (Instance kn i ls)
  instance_of kn i (Input w x) h it k inst = absurd k
  instance_of kn i (Output w x v) h it (inl s) inst = absurd (subst (λ j. Has (item_instances j) (kn, i)) (sym s) inst)
  instance_of kn i (Output w x v) h it (inr n) inst = absurd n
  instance_of kn i (Outlet w x) h it k inst = absurd k
  instance_of kn i (Wire w x v) h it (inl s) inst = absurd (subst (λ j. Has (item_instances j) (kn, i)) (sym s) inst)
  instance_of kn i (Wire w x v) h it (inr (inl s)) inst = absurd (subst (λ j. Has (item_instances j) (kn, i)) (sym s) inst)
  instance_of kn i (Wire w x v) h it (inr (inr n)) inst = absurd n
  instance_of kn i (InstanceWire w x) h it (inl s) inst = absurd (subst (λ j. Has (item_instances j) (kn, i)) (sym s) inst)
  instance_of kn i (InstanceWire w x) h it (inr n) inst = absurd n
  instance_of kn i (Register w x) h it (inl s) inst = absurd (subst (λ j. Has (item_instances j) (kn, i)) (sym s) inst)
  instance_of kn i (Register w x) h it (inr n) inst = absurd n
  instance_of kn i (Memory w x c) h it (inl s) inst = absurd (subst (λ j. Has (item_instances j) (kn, i)) (sym s) inst)
  instance_of kn i (Memory w x c) h it (inr n) inst = absurd n
  instance_of kn i (Block b) h it (inl s) inst = absurd (subst (λ j. Has (item_instances j) (kn, i)) (sym s) inst)
  instance_of kn i (Block b) h it (inr n) inst = absurd n
  instance_of kn i (Instance k j ls) h it (inl s) inst = elim (subst (λ z. Has (item_instances z) (kn, i)) (sym s) inst) [
    | inl e ↦ (
      ls,
      subst (λ (p : Name × Name). Has elements (Instance p.0 p.1 ls)) e h,
    )
    | inr n ↦ absurd n
  ]
  instance_of kn i (Instance k j ls) h it (inr n) inst = absurd n

  pub instance_has : (kn i : Name) → Has (instances m) (kn, i) → (ls : List Connection) × Has elements (Instance kn i ls)
  instance_has kn i h =
      let r = of_flat item_instances m.items (kn, i) h in
      let t = line_of r.0 r.1 in
      instance_of kn i t.0 t.1 r.0 t.2 r.2

  module _ (is_top : Name → Bool) (order : InstancesKeepOrder ms is_top elements) (answers : AnswersKeepOrder is_top name elements) where
    direct : (x y : Name) → Has (direct_edges ms is_top m) (x, y) → rank y < rank x
    direct x y h = elim (has_split (flat_map (line_edges ms) m.items) (memory_edges (is_top m.name) (map port_declared m.ports)) (x, y) h) [
      | inl l ↦ (let r = of_flat (line_edges ms) m.items (x, y) l in let t = line_of r.0 r.1 in line_falls t.0 t.1 r.0 t.2 x y r.2)
      | inr k ↦ net_falls x y (answers x y (subst (λ z. Has (memory_edges (is_top z) (map port_declared m.ports)) (x, y)) (name_of_all elements (empty name)) k))
    ]

    inside : (kn i x y : Name) (k : ModuleTree) → Has (instances m) (kn, i) → module_named ms kn ≡ Some k
        → net_kind_of (map port_declared k.ports) x ≡ OutputNet → net_kind_of (map port_declared k.ports) y ≡ InputNet → Rests ms is_top k x y
        → rank (port_of i y) < rank (port_of i x)
    inside kn i x y k inst named out into rests =
        let t = instance_has kn i inst in
        let j = instance_joined kn i t.0 t.1 in
        let ports : child_ports ms kn ≡ map port_declared k.ports = ap (λ o. map port_declared (ports_in o)) named in
        let out_here : net_kind_of (child_ports ms kn) x ≡ OutputNet = ap (λ l. net_kind_of l x) ports ∙ out in
        let into_here : net_kind_of (child_ports ms kn) y ≡ InputNet = ap (λ l. net_kind_of l y) ports ∙ into in
        let out_once : count_by (joins x) t.0 ≡ 1 = joined_once (child_ports ms kn) t.0 j.connected x (ap is_known out_here) in
        let into_once : count_by (joins y) t.0 ≡ 1 = joined_once (child_ports ms kn) t.0 j.connected y (ap is_known into_here) in
        let lx = joined t.0 x (omega (arith, out_once)) in
        let ly = joined t.0 y (omega (arith, into_once)) in
        let before : StandsBefore elements ly.0.net lx.0.net =
        order kn i t.0 k lx.0 ly.0 t.1 named lx.1 ly.1 (ap (λ z. net_kind_of (map port_declared k.ports) z) lx.2 ∙ out) (ap (λ z. net_kind_of (map port_declared k.ports) z) ly.2 ∙ into)
        (subst (λ z. Rests ms is_top k lx.0.port z) (sym ly.2) (subst (λ z. Rests ms is_top k z y) (sym lx.2) rests)) in
        let first = before.0 in
        let second = before.1 in
        let ry : rank (port_of i y) ≡ 3 * place elements ly.0.net + 1 =
        ap (λ z. rank (port_of i z)) (sym ly.2) ∙ joint_rank kn i t.0 t.1 ly.0 ly.1
        ∙ ap (λ b. cond b (3 * place elements ly.0.net + 1) (3 * place elements ly.0.net - 1)) (ap (λ z. net_kind_is_input (net_kind_of (child_ports ms kn) z)) ly.2 ∙ ap net_kind_is_input into_here) in
        let rx : rank (port_of i x) ≡ 3 * place elements lx.0.net - 1 =
        ap (λ z. rank (port_of i z)) (sym lx.2) ∙ joint_rank kn i t.0 t.1 lx.0 lx.1
        ∙ ap (λ b. cond b (3 * place elements lx.0.net + 1) (3 * place elements lx.0.net - 1)) (ap (λ z. net_kind_is_input (net_kind_of (child_ports ms kn) z)) lx.2 ∙ ap net_kind_is_input out_here) in
        omega (arith, rx, ry, first, second)

    pub falls : FallsBy ms is_top m rank
    falls = record { direct = direct; inside = inside }

    pub no_loop : (x : Name) → Rests ms is_top m x x → ⊥
    no_loop x r = on_no_loop ms is_top m rank falls x r
