-- Elements that stand in order, with links that are driven once, fit.
use Rattle.std.proofs.Common.{◌≡◌, ℕ, ◌+◌, ◌≤◌, Bool, true, false, cond, eqb, ◌&&◌, ◌||◌, List, [], ◌∷◌, ◌++◌, map, inl, inr, refl, sym, ap, subst, ◌∙◌, arith, append_assoc}
use Rattle.std.specs.Prelude.{bytes_eq, not}
use Rattle.std.specs.List.{list_any, list_all, flat_map, AllByRecursion}
use Rattle.std.specs.Cmp.Lexicographic.{bytes_decides}
use Rattle.std.proofs.lemmas.Bool.{eq-eqb, false_from_ne_true as not_both, and_from as yes_and}
use Rattle.std.proofs.lemmas.Grind.{flat_map-append}
use Rattle.vlog_tree.specs.declared.tree.Connection.{Connection}
use Rattle.vlog_tree.specs.declared.tree.PortDecl.{PortDecl}
use Rattle.vlog_tree.specs.declared.table.Declaration.{Declaration}
use Rattle.vlog_tree.specs.declared.table.NetKind.{NetKind}
use Rattle.vlog_tree.specs.declared.table.NetKind.TheVariants.{Output as OutputNet, WireNet}
use Rattle.vlog_tree.specs.Form.{ModuleTree}
use Rattle.tapa_base.specs.Lists.{Has}
use Rattle.vlog_tree.specs.Labels.{rst}
use Rattle.vlog_tree.specs.Names.{is_among}
use Rattle.vlog_tree.specs.Table.{Name, NameUse, clk, is_clk, port_declared, find_name, net_kind_of, bits_of, net_kind_is_read, net_kind_is_driven, net_kind_is_input, is_module_name, ports_of, times_in, one_if}
use Rattle.vlog_tree.specs.V2.{read_use, driven_use, clock_use, joined_use, connection_uses, all_connected}
use Rattle.vlog_tree.specs.V4.{connection_driven}
use Rattle.tapa_base.proofs.Lists.{has_left, has_split, has_flat, of_flat}
use Rattle.vlog_module_laws.proofs.Larger.{known_by}
use Rattle.vlog_module_laws.proofs.Lists.{count_cons, counted}
use Rattle.vlog_run_laws.proofs.runs.Alone.{module_is}
use Rattle.hw_build.specs.Elements.{Element, Outlet, InstanceWire, Instance}
use Rattle.hw_build.specs.Fitting.{declarations, first_table, is_new, are_kept, child_ports, has_fitting_names, have_fitting_names, HasFittingWidths, HaveFittingWidths, link_names, instance_driven, drive_links_once}
use Rattle.hw_build.proofs.Appended.{table_append}
use Rattle.hw_build.proofs.Tables.{times, clock_declared, count_append, AreDistinct, stays, stays_new, found}
use Rattle.hw_build.specs.Fits.{declared_names, AreOnce}
use Rattle.hw_build.proofs.Fit.{names_fit, widths_fit, front_once, new_next, kept_is, kept_read as kept_net}
use Rattle.hw_build.proofs.ListTables.{table, named, names_after, first_times, IsDeclared, net_declared, net_name}
use Rattle.hw_top_laws.specs.joins.Joins.{open_nets, IsOpen, output_port, port_names, IsJoin, ToClock, ToInput, FromOutput, IsJoined, StandsAfter, StandInOrder, PortsAreOnce, FitTogether, TogetherIsFitting}
use Rattle.hw_top_laws.proofs.joins.Joined.{input_kind, output_kind, input_bits, output_bits, connected, open_name}
use Rattle.vlog_module_laws.proofs.Forms.{itself as same_name}
use Rattle.tapa_base.proofs.Got.{all_at}
use Rattle.hw_build.proofs.Forms.{all_append as both_together}

-- ---- an instance, where no name is declared twice

-- an open net by its declaration
open_by : (before : List Element) (e : Element) (x : Name) (w : ℕ) → Has before e → Has {N = Name × ℕ} (open_nets e) (x, w) → IsDeclared before net_kind_is_driven x w
open_by before (Outlet v y) x w has (inl s) =
    let d : Declaration = record { name = y; net_kind = OutputNet; bits = v; cells = 0 } in
    record { is = d; has = stays_new before first_table (Outlet v y) d has (inl refl); name = ap (λ (q : Name × ℕ). q.0) s; kind = refl; bits = ap (λ (q : Name × ℕ). q.1) s }
open_by before (Outlet v y) x w has (inr n) = absurd n
open_by before (InstanceWire v y) x w has (inl s) =
    let d : Declaration = record { name = y; net_kind = WireNet; bits = v; cells = 0 } in
    record { is = d; has = stays_new before first_table (InstanceWire v y) d has (inl refl); name = ap (λ (q : Name × ℕ). q.0) s; kind = refl; bits = ap (λ (q : Name × ℕ). q.1) s }
open_by before (InstanceWire v y) x w has (inr n) = absurd n
open_by before _ x w has h = absurd h

open_declared : (before : List Element) (x : Name) (w : ℕ) → IsOpen before x w → IsDeclared before net_kind_is_driven x w
open_declared before x w h = let r = of_flat open_nets before (x, w) h in open_by before r.0 x w r.1 r.2

module _ (before : List Element) (once : AreOnce (clk ∷ rst ∷ named before)) where
  abbrev t : List Declaration
  t = table before

  pub table_counts : (x : Name) → times t x ≡ times_in (clk ∷ rst ∷ named before) x
  table_counts x =
      let a : times t x ≡ times first_table x + times_in (named before) x = names_after before first_table x in
      let b : times first_table x ≡ times_in (clk ∷ rst ∷ []) x = first_times x in
      let c : times_in (clk ∷ rst ∷ named before) x ≡ times_in (clk ∷ rst ∷ []) x + times_in (named before) x = count_append (λ y. bytes_eq y x) (clk ∷ rst ∷ []) (named before) in
      omega (arith, a, b, c)

  distinct : AreDistinct t
  distinct x = let a = table_counts x in let b = once x in omega (arith, a, b)

  looked : (p : NetKind → Bool) (x : Name) (w : ℕ) → IsDeclared before p x w → (p (net_kind_of t x) ≡ true) × (bits_of t x ≡ w)
  looked p x w d =
      let f : find_name t x ≡ d.is = subst (λ y. find_name t y ≡ d.is) d.name (found t d.is d.has (distinct d.is.name)) in
      (ap (λ (z : Declaration). p z.net_kind) f ∙ d.kind, ap (λ (z : Declaration). z.bits) f ∙ d.bits)

  clock_found : find_name t clk ≡ clock_declared
  clock_found = found t clock_declared (stays before first_table clock_declared (inl refl)) (distinct clk)

  no_clock : (x : Name) → Has (rst ∷ named before) x → is_clk x ≡ false
  no_clock x h = not_both (is_clk x) (λ e. twice ((bytes_decides x clk).0 e)) where
    twice : x ≡ clk → ⊥
    twice e =
        let more : 1 ≤ times_in (rst ∷ named before) clk = counted (λ y. bytes_eq y clk) (rst ∷ named before) x h ((bytes_decides x clk).1 e) in
        let c : times_in (clk ∷ rst ∷ named before) clk ≡ one_if (bytes_eq clk clk) + times_in (rst ∷ named before) clk = count_cons (λ y. bytes_eq y clk) clk (rst ∷ named before) in
        let one : one_if (bytes_eq clk clk) ≡ 1 = ap one_if (same_name clk) in
        let few = once clk in
        omega (arith, more, c, one, few)

  module _ (ports : List PortDecl) (ports_once : AreOnce (port_names ports)) where
    abbrev ps : List Declaration
    ps = map port_declared ports

    -- the net of a connection, by which of its three cases it is
    abbrev net_use : Connection → Bool → Bool → NameUse
    net_use l to_clock to_input = cond to_clock (clock_use t) (cond to_input (read_use t l.net) (driven_use t l.net))

    kept_by : (l : Connection) (to_clock to_input c i : Bool) → to_clock ≡ c → to_input ≡ i → not (net_use l c i).1 ≡ true → not (net_use l to_clock to_input).1 ≡ true
    kept_by l to_clock to_input c i e f h = ap (λ b. not (net_use l b to_input).1) e ∙ ap (λ b. not (net_use l c b).1) f ∙ h

    both_clocks : (a b : Bool) → a ≡ true → b ≡ true → (a && b) ≡ true
    both_clocks a b e f = yes_and a b e f

    no_two : (a b : Bool) → b ≡ false → (a && b) ≡ false
    no_two true b e = e
    no_two false b e = refl

    is_read : (l : Connection) → IsJoin before ports l → net_kind_is_read (net_kind_of ps l.port) ≡ true
    is_read l (ToClock e f h) = ap net_kind_is_read (input_kind ports ports_once 1 l.port h)
    is_read l (ToInput w h n) = ap net_kind_is_read (input_kind ports ports_once w l.port h)
    is_read l (FromOutput w h o) = ap net_kind_is_read (output_kind ports ports_once w l.port h)

    net_kept : (l : Connection) → IsJoin before ports l → not (joined_use ps t l).1 ≡ true
    net_kept l (ToClock e f h) =
        kept_by l (is_clk l.port && is_clk l.net) (net_kind_is_input (net_kind_of ps l.port)) true (net_kind_is_input (net_kind_of ps l.port))
        (both_clocks (is_clk l.port) (is_clk l.net) ((bytes_decides l.port clk).1 e) ((bytes_decides l.net clk).1 f)) refl
        (kept_is (net_kind_is_input (net_kind_of t clk)) (ap (λ (d : Declaration). net_kind_is_input d.net_kind) clock_found))
    net_kept l (ToInput w h n) =
        kept_by l (is_clk l.port && is_clk l.net) (net_kind_is_input (net_kind_of ps l.port)) false true (no_two (is_clk l.port) (is_clk l.net) (no_clock l.net (net_name before l.net w n)))
        (ap net_kind_is_input (input_kind ports ports_once w l.port h))
        (kept_net (net_kind_is_read (net_kind_of t l.net)) (is_clk l.net) (looked net_kind_is_read l.net w (net_declared before l.net w n)).0 (no_clock l.net (net_name before l.net w n)))
    net_kept l (FromOutput w h o) =
        kept_by l (is_clk l.port && is_clk l.net) (net_kind_is_input (net_kind_of ps l.port)) false false (no_two (is_clk l.port) (is_clk l.net) (no_clock l.net (inr (open_name before l.net w o))))
        (ap net_kind_is_input (output_kind ports ports_once w l.port h))
        (kept_net (net_kind_is_driven (net_kind_of t l.net)) (is_clk l.net) (looked net_kind_is_driven l.net w (open_declared before l.net w o)).0 (no_clock l.net (inr (open_name before l.net w o))))

    connection_kept : (l : Connection) → IsJoin before ports l → are_kept (connection_uses ps t l) ≡ true
    unfolding connection_uses
    connection_kept l j =
        yes_and (not (not (net_kind_is_read (net_kind_of ps l.port)))) (not (joined_use ps t l).1 && true) (kept_is (net_kind_is_read (net_kind_of ps l.port)) (is_read l j))
        (yes_and (not (joined_use ps t l).1) true (net_kept l j) refl)

    pub connections_kept : (ls : List Connection) → AllByRecursion (IsJoin before ports) ls → are_kept (flat_map (connection_uses ps t) ls) ≡ true
    connections_kept [] h = refl
    connections_kept (l ∷ ls) h = both_together (λ (u : NameUse). not u.1) (connection_uses ps t l) (flat_map (connection_uses ps t) ls) (connection_kept l h.0) (connections_kept ls h.1)

    same_bits : (l : Connection) → IsJoin before ports l → bits_of ps l.port ≡ bits_of t l.net
    same_bits l (ToClock e f h) = input_bits ports ports_once 1 l.port h ∙ sym (ap (bits_of t) f ∙ ap (λ (d : Declaration). d.bits) clock_found)
    same_bits l (ToInput w h n) = input_bits ports ports_once w l.port h ∙ sym (looked net_kind_is_read l.net w (net_declared before l.net w n)).1
    same_bits l (FromOutput w h o) = output_bits ports ports_once w l.port h ∙ sym (looked net_kind_is_driven l.net w (open_declared before l.net w o)).1

    pub connections_fit : (ls : List Connection) → AllByRecursion (IsJoin before ports) ls → AllByRecursion (λ (l : Connection). bits_of ps l.port ≡ bits_of t l.net) ls
    connections_fit [] h = tt
    connections_fit (l ∷ ls) h = (same_bits l h.0, connections_fit ls h.1)

-- ---- an element

module _ (ms : List ModuleTree) (ports_once : PortsAreOnce ms) (before : List Element) (once : AreOnce (clk ∷ rst ∷ named before)) where
  child_once : (k : Name) (ls : List Connection) (j : IsJoined ms before k ls) → AreOnce (port_names j.child.ports)
  child_once k ls j = ports_once j.child (module_is ms k j.child j.named).has

  child_declared : (k : Name) (ls : List Connection) (j : IsJoined ms before k ls) → map port_declared j.child.ports ≡ child_ports ms k
  child_declared k ls j = ap (map port_declared) (sym (known_by ms k j.child j.named).1)

  joined_names : (k i : Name) (ls : List Connection) → is_new (table before) i ≡ true → IsJoined ms before k ls → has_fitting_names ms (table before) (Instance k i ls) ≡ true
  joined_names k i ls new j =
      let e = child_declared k ls j in
      let a : all_connected (child_ports ms k) ls ≡ true = subst (λ (ds : List Declaration). all_connected ds ls ≡ true) e (connected j.child.ports ls (child_once k ls j) j.same) in
      let b : are_kept (flat_map (connection_uses (child_ports ms k) (table before)) ls) ≡ true =
      subst (λ (ds : List Declaration). are_kept (flat_map (connection_uses ds (table before)) ls) ≡ true) e (connections_kept before once j.child.ports (child_once k ls j) ls j.joins) in
      yes_and (is_new (table before) i && is_module_name ms k && all_connected (child_ports ms k) ls) (are_kept (flat_map (connection_uses (child_ports ms k) (table before)) ls))
      (yes_and (is_new (table before) i && is_module_name ms k) (all_connected (child_ports ms k) ls) (yes_and (is_new (table before) i) (is_module_name ms k) new (known_by ms k j.child j.named).0) a) b

  joined_widths : (k i : Name) (ls : List Connection) → IsJoined ms before k ls → HasFittingWidths ms (table before) (Instance k i ls)
  joined_widths k i ls j =
      subst (λ (ds : List Declaration). AllByRecursion (λ (l : Connection). bits_of ds l.port ≡ bits_of (table before) l.net) ls) (child_declared k ls j)
      (connections_fit before once j.child.ports (child_once k ls j) ls j.joins)

  names_stand : (e : Element) → ((x : Name) → Has (declared_names e) x → is_new (table before) x ≡ true) → StandsAfter ms before e → has_fitting_names ms (table before) e ≡ true
  names_stand (Outlet w x) new h = new x (inl refl)
  names_stand (InstanceWire w x) new h = new x (inl refl)
  names_stand (Instance k i ls) new h = joined_names k i ls (new i (inl refl)) h
  names_stand e new h = names_fit before once ms e new h

  widths_stand : (e : Element) → StandsAfter ms before e → HasFittingWidths ms (table before) e
  widths_stand (Outlet w x) h = h
  widths_stand (InstanceWire w x) h = h
  widths_stand (Instance k i ls) h = joined_widths k i ls h
  widths_stand e h = widths_fit before once ms e h

-- ---- all of them

stand_from : (ms : List ModuleTree) → PortsAreOnce ms → (before elements : List Element) → AreOnce (clk ∷ rst ∷ named (before ++ elements)) → StandInOrder ms before elements
    → (have_fitting_names ms (table before) elements ≡ true) × HaveFittingWidths ms (table before) elements
stand_from ms ports_once before [] once h = (refl, tt)
stand_from ms ports_once before (e ∷ elements) once h =
    let front = front_once before (e ∷ elements) once in
    let rest = stand_from ms ports_once (before ++ e ∷ []) elements (subst (λ l. AreOnce (clk ∷ rst ∷ named l)) (sym (append_assoc before (e ∷ []) elements)) once) h.1 in
    let same : table (before ++ e ∷ []) ≡ declarations e ++ table before = table_append before (e ∷ []) first_table in (
      yes_and (has_fitting_names ms (table before) e) (have_fitting_names ms (declarations e ++ table before) elements) (names_stand ms ports_once before front e (new_next before e elements once) h.0)
          (ap (λ t. have_fitting_names ms t elements) (sym same) ∙ rest.0),
      (widths_stand ms ports_once before front e h.0, subst (λ t. HaveFittingWidths ms t elements) same rest.1),
    )

-- ---- what instances drive

open_link_of : (e : Element) (x : Name) (w : ℕ) → Has {N = Name × ℕ} (open_nets e) (x, w) → Has (link_names e) x
open_link_of (Outlet v y) x w (inl s) = inl (ap (λ (q : Name × ℕ). q.0) s)
open_link_of (Outlet v y) x w (inr n) = absurd n
open_link_of (InstanceWire v y) x w (inl s) = inl (ap (λ (q : Name × ℕ). q.0) s)
open_link_of (InstanceWire v y) x w (inr n) = absurd n
open_link_of _ x w h = absurd h

open_link : (before : List Element) (x : Name) (w : ℕ) → IsOpen before x w → Has (flat_map link_names before) x
open_link before x w h = let r = of_flat open_nets before (x, w) h in has_flat link_names before r.0 x r.1 (open_link_of r.0 x w r.2)

-- what a connection drives
pub driven_by : (before : List Element) (ports : List PortDecl) → AreOnce (port_names ports) → (l : Connection) → IsJoin before ports l → (x : Name) → Has (connection_driven (map port_declared ports) l) x
    → (w : ℕ) × Has ports (output_port w l.port) × IsOpen before l.net w × (l.net ≡ x)
unfolding connection_driven
driven_by before ports once l (ToClock e f h) x k = absurd (none_driven (net_kind_is_input (net_kind_of (map port_declared ports) l.port)) (ap net_kind_is_input (input_kind ports once 1 l.port h)) k) where
  none_driven : (b : Bool) → b ≡ true → Has (cond b [] (l.net ∷ [])) x → ⊥
  none_driven true e k = k
  none_driven false e k = absurd cc
driven_by before ports once l (ToInput w h n) x k = absurd (none_driven (net_kind_is_input (net_kind_of (map port_declared ports) l.port)) (ap net_kind_is_input (input_kind ports once w l.port h)) k) where
  none_driven : (b : Bool) → b ≡ true → Has (cond b [] (l.net ∷ [])) x → ⊥
  none_driven true e k = k
  none_driven false e k = absurd cc
driven_by before ports once l (FromOutput w h o) x k = (w, h, o, one_driven (net_kind_is_input (net_kind_of (map port_declared ports) l.port)) k) where
  one_driven : (b : Bool) → Has (cond b [] (l.net ∷ [])) x → l.net ≡ x
  one_driven true k = absurd k
  one_driven false (inl e) = e
  one_driven false (inr n) = absurd n

module _ (ms : List ModuleTree) (ports_once : PortsAreOnce ms) where
  joined_drive : (before : List Element) (k i : Name) (ls : List Connection) → IsJoined ms before k ls → (x : Name) → Has (instance_driven ms (Instance k i ls)) x → Has (flat_map link_names before) x
  joined_drive before k i ls j x h =
      let once = ports_once j.child (module_is ms k j.child j.named).has in
      let r = of_flat (connection_driven (map port_declared (ports_of ms k))) ls x h in
      let d = driven_by before j.child.ports once r.0 (all_at (IsJoin before j.child.ports) ls r.0 j.joins r.1) x
      (subst (λ (ds : List PortDecl). Has (connection_driven (map port_declared ds) r.0) x) (known_by ms k j.child j.named).1 r.2) in
      subst (λ y. Has (flat_map link_names before) y) d.3 (open_link before r.0.net d.0 d.2)

  drive_of : (before : List Element) (e : Element) → StandsAfter ms before e → (x : Name) → Has (instance_driven ms e) x → Has (flat_map link_names before) x
  drive_of before (Instance k i ls) s x h = joined_drive before k i ls s x h
  drive_of before _ s x h = absurd h

  -- nothing but links is driven
  drive_links : (before elements : List Element) → StandInOrder ms before elements → (x : Name) → Has (flat_map (instance_driven ms) elements) x → Has (flat_map link_names (before ++ elements)) x
  drive_links before [] s x h = absurd h
  drive_links before (e ∷ elements) s x h = elim (has_split (instance_driven ms e) (flat_map (instance_driven ms) elements) x h) [
    | inl l ↦ subst (λ (zs : List Name). Has zs x) (sym (flat_map-append link_names before (e ∷ elements))) (has_left (flat_map link_names before) (flat_map link_names (e ∷ elements)) x (drive_of before e s.0 x l))
    | inr r ↦ subst (λ (zs : List Element). Has (flat_map link_names zs) x) (append_assoc before (e ∷ []) elements) (drive_links (before ++ e ∷ []) elements s.1 x r)
  ]

all_on : {A : Type 0} (p : A → Bool) (xs : List A) → ((x : A) → Has xs x → p x ≡ true) → list_all p xs ≡ true
all_on p [] h = refl
all_on p (x ∷ xs) h = yes_and (p x) (list_all p xs) (h x (inl refl)) (all_on p xs (λ y k. h y (inr k)))

or_right : (a b : Bool) → b ≡ true → (a || b) ≡ true
or_right true b e = refl
or_right false b e = e

is_in : (xs : List Name) (x : Name) → Has xs x → is_among xs x ≡ true
is_in [] x h = absurd h
is_in (y ∷ ys) x (inl e) = ap (λ b. b || list_any (bytes_eq x) ys) ((bytes_decides x y).1 (sym e))
is_in (y ∷ ys) x (inr h) = or_right (bytes_eq x y) (list_any (bytes_eq x) ys) (is_in ys x h)

links_once : (ms : List ModuleTree) (elements : List Element) → FitTogether ms elements → drive_links_once ms elements ≡ true
links_once ms elements h =
    let links = flat_map link_names elements in
    let drives = flat_map (instance_driven ms) elements in
    yes_and (list_all (λ x. eqb (times_in drives x) 1) links) (list_all (is_among links) drives)
    (all_on (λ x. eqb (times_in drives x) 1) links
    (λ x k.
    let some : 1 ≤ times_in drives x = counted (λ y. bytes_eq y x) drives x (h.all_driven x k) (same_name x) in
    let low : times_in drives x ≤ 1 = h.driven x in
    eq-eqb (times_in drives x) 1 (omega (arith, some, low))))
    (all_on (is_among links) drives (λ x k. is_in links x (drive_links ms h.ports [] elements h.order x k)))

pub together_fits : TogetherIsFitting
together_fits ms elements h =
    let f = stand_from ms h.ports [] elements h.names h.order in
    record { names = f.0; widths = f.1; links = links_once ms elements h; blocks = h.blocks }
