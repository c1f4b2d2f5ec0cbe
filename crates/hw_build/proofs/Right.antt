-- What is built of fitting elements is right in names, widths and drivers.
use Rattle.std.proofs.Common.{◌≡◌, ℕ, zero, suc, ◌+◌, ◌≤◌, Bool, true, false, ◌&&◌, ◌||◌, List, [], ◌∷◌, ◌++◌, map, None, inl, inr, refl, sym, ap, subst, ◌∙◌, arith}
use Rattle.std.specs.Prelude.{bytes_eq, count_by, not, nat_le}
use Rattle.std.specs.List.{list_all, flat_map}
use Rattle.std.specs.Cmp.Lexicographic.{bytes_decides}
use Rattle.std.proofs.lemmas.Grind.{flat_map-append}
use Rattle.vlog_tree.specs.declared.tree.Item.{Item}
use Rattle.vlog_tree.specs.declared.tree.Value.{Value}
use Rattle.vlog_tree.specs.declared.tree.Step.{Step}
use Rattle.vlog_tree.specs.declared.tree.Connection.{Connection}
use Rattle.vlog_tree.specs.declared.table.Declaration.{Declaration}
use Rattle.vlog_tree.specs.declared.table.NetKind.TheVariants.{Input as InputNet, Output as OutputNet, WireNet, Register as RegisterNet, MemoryArray, ChildInstance}
use Rattle.vlog_tree.specs.Form.{ModuleTree}
use Rattle.tapa_base.specs.Lists.{Has}
use Rattle.vlog_tree.specs.Table.{Name, NameUse, clk, is_clk, declared, module_declared, find_name, net_kind_of, net_kind_is_driven, net_kind_is_input, bits_of, is_doubled_name, is_module_name, first_violation, times_in}
use Rattle.vlog_tree.specs.Labels.{rst}
use Rattle.vlog_tree.specs.V2.{driven_use, value_uses, step_uses, port_uses, all_connected, connection_uses, instance_uses, item_uses, clock_use, module_uses}
use Rattle.vlog_tree.specs.V3.{is_width, is_cell_count, net_fits, value_fits, step_widths, connection_widths, item_widths, port_widths, module_widths}
use Rattle.vlog_tree.specs.V4.{line_driven, is_block_of, breaks_driving, driving_use, module_drives}
use Rattle.tapa_base.proofs.Lists.{of_map, has_left, has_right}
use Rattle.vlog_module_laws.specs.Larger.{IsRightBeside}
use Rattle.vlog_module_laws.proofs.Lists.{counted, all_right}
use Rattle.hw_build.specs.Elements.{Element, Input, Output, Outlet, Wire, InstanceWire, Register, Memory, Block, Instance, element_ports, element_items, empty, built}
use Rattle.hw_build.specs.Fitting.{declarations, first_table, table_after, is_new, are_kept, child_ports, has_fitting_names, have_fitting_names, HasFittingWidths, HaveFittingWidths, ValueFits, AreFitting}
use Rattle.hw_build.proofs.Tables.{times, clock_declared, reset_declared, is_known, new_is_none, AreDistinct, distinct_all, distinct_more, found, same_in, stays, IsTable, table_of_all, first_is_table, items_of_all, ports_of_all, name_of_all}
use Rattle.hw_build.proofs.Uses.{kept_is_none, value_same, steps_same, connections_same}
use Rattle.hw_build.proofs.Widths.{is_sized, AreSized, value_ok, steps_ok, connections_ok}
use Rattle.hw_build.proofs.Drivers.{drivers_right, few_blocks as not_twice}
use Rattle.vlog_module_laws.proofs.Forms.{itself as same_name}
use Rattle.std.proofs.lemmas.Bool.{not_from_false as kept_not, and_from as yes_and}
use Rattle.hw_build.proofs.Fit.{kept_is as kept_yes}
use Rattle.tapa_base.proofs.Tests.{both_true}
use Rattle.hw_build.proofs.Forms.{all_append as both_together}

-- an element that is right beside all that is declared
pub record IsRightAmong (ms : List ModuleTree) (all : List Declaration) (e : Element) : Type 0 where
  pub ports : are_kept (flat_map (port_uses all) (element_ports e)) ≡ true
  pub uses : are_kept (flat_map (item_uses ms all) (element_items e)) ≡ true
  pub port_widths : are_kept (flat_map port_widths (element_ports e)) ≡ true
  pub widths : are_kept (flat_map (item_widths ms all) (element_items e)) ≡ true

kept_end : (us : List NameUse) → are_kept us ≡ true → are_kept (us ++ []) ≡ true
kept_end us h = both_together (λ (u : NameUse). not u.1) us [] h refl

neither : (a b : Bool) → a ≡ false → b ≡ false → not (a || b) ≡ true
neither true b e f = cc
neither false true e f = cc
neither false false e f = refl

no_third : (a b c : Bool) → a ≡ false → b ≡ false → c ≡ true → not (a || b || not c) ≡ true
no_third true b c e f g = cc
no_third false true c e f g = cc
no_third false false true e f g = refl
no_third false false false e f g = cc

pub four_parts : (a b c d : Bool) → (a && b && c && d) ≡ true → (a ≡ true) × (b ≡ true) × (c ≡ true) × (d ≡ true)
four_parts true true true true h = (refl, refl, refl, refl)
four_parts true true true false h = cc
four_parts true true false d h = cc
four_parts true false c d h = cc
four_parts false b c d h = cc

-- a new name is not the clock's
new_is_no_clock : (t : List Declaration) (x : Name) → Has t clock_declared → is_new t x ≡ true → is_clk x ≡ false
new_is_no_clock t x clock new = here (is_clk x) refl where
  here : (b : Bool) → is_clk x ≡ b → b ≡ false
  here true e =
      let none : times t clk ≡ 0 = subst (λ y. times t y ≡ 0) ((bytes_decides x clk).0 e) (new_is_none t x new) in
      let one : 1 ≤ times t clk = counted (λ (d : Declaration). bytes_eq d.name clk) t clock_declared clock (same_name clk) in
      absurd (omega (arith, none, one))
  here false e = refl

module _ (ms : List ModuleTree) (all : List Declaration) (distinct : AreDistinct all) (t : List Declaration) (within : (d : Declaration) → Has t d → Has all d) (sized : AreSized t) (clock : Has t clock_declared) where
  same : (x : Name) → is_known (net_kind_of t x) ≡ true → find_name all x ≡ find_name t x
  same = same_in t all within distinct

  once : (x : Name) → is_doubled_name all x ≡ false
  once x = not_twice (times all x) (distinct x)

  inner_ok : (x : Name) → is_new t x ≡ true → not (is_doubled_name all x || is_clk x) ≡ true
  inner_ok x new = neither (is_doubled_name all x) (is_clk x) (once x) (new_is_no_clock t x clock new)

  clock_ok : not (clock_use all).1 ≡ true
  clock_ok = ap (λ (d : Declaration). not (not (net_kind_is_input d.net_kind))) (found all clock_declared (within clock_declared clock) (distinct clk))

  -- a net that is declared here, with its driver
  driver_uses : (d : Declaration) (v : Value) → Has all d → net_kind_is_driven d.net_kind ≡ true → is_new t d.name ≡ true → are_kept (value_uses t v) ≡ true → are_kept (driven_use all d.name ∷ value_uses all v) ≡ true
  driver_uses d v has kind new kept =
      let here = found all d has (distinct d.name) in
      yes_and (not (driven_use all d.name).1) (are_kept (value_uses all v))
      (ap (λ (z : Declaration). not (not (net_kind_is_driven z.net_kind) || is_clk d.name)) here
      ∙ ap (λ b. not (not b || is_clk d.name)) kind ∙ kept_not (is_clk d.name) (new_is_no_clock t d.name clock new))
      (ap are_kept (value_same t all same v kept) ∙ kept)

  driver_widths : (d : Declaration) (v : Value) → Has all d → is_width d.bits ≡ true → are_kept (value_uses t v) ≡ true → ValueFits t d.bits v → not (not (net_fits all d.name && value_fits all (bits_of all d.name) v)) ≡ true
  driver_widths d v has wide kept fits =
      let here : bits_of all d.name ≡ d.bits = ap (λ (z : Declaration). z.bits) (found all d has (distinct d.name)) in
      kept_yes (net_fits all d.name && value_fits all (bits_of all d.name) v)
      (yes_and (net_fits all d.name) (value_fits all (bits_of all d.name) v) (ap is_width here ∙ wide) (ap (λ n. value_fits all n v) here ∙ value_ok t all same sized d.bits v wide kept fits))

  kept_port : (x : Name) → (not (is_doubled_name all x) && true) ≡ true
  kept_port x = yes_and (not (is_doubled_name all x)) true (kept_not (is_doubled_name all x) (once x)) refl

  kept_width : (w : ℕ) → is_width w ≡ true → (not (not (is_width w)) && true) ≡ true
  kept_width w h = yes_and (not (not (is_width w))) true (kept_yes (is_width w) h) refl

  abbrev Right : Element → Type 0
  Right e = ((d : Declaration) → Has (declarations e) d → Has all d) → has_fitting_names ms t e ≡ true → HasFittingWidths ms t e → IsRightAmong ms all e

  input_right : (w : ℕ) (x : Name) → Right (Input w x)
  unfolding port_uses port_widths
  input_right w x new names wide = record { ports = kept_port x; uses = refl; port_widths = kept_width w wide; widths = refl }

  outlet_right : (w : ℕ) (x : Name) → Right (Outlet w x)
  unfolding port_uses port_widths
  outlet_right w x new names wide = record { ports = kept_port x; uses = refl; port_widths = kept_width w wide; widths = refl }

  output_right : (w : ℕ) (x : Name) (v : Value) → Right (Output w x v)
  unfolding port_uses port_widths item_uses item_widths
  output_right w x v new names f =
      let d : Declaration = record { name = x; net_kind = OutputNet; bits = w; cells = 0 } in
      let both = both_true (is_new t x) (are_kept (value_uses t v)) names in
      record {
        ports = kept_port x;
        uses = kept_end (driven_use all x ∷ value_uses all v) (driver_uses d v (new d (inl refl)) refl both.0 both.1);
        port_widths = kept_width w f.0;
        widths = yes_and (not (not (net_fits all x && value_fits all (bits_of all x) v))) true (driver_widths d v (new d (inl refl)) f.0 both.1 f.1) refl;
      }

  wire_right : (w : ℕ) (x : Name) (v : Value) → Right (Wire w x v)
  unfolding item_uses item_widths
  wire_right w x v new names f =
      let d : Declaration = record { name = x; net_kind = WireNet; bits = w; cells = 0 } in
      let both = both_true (is_new t x) (are_kept (value_uses t v)) names in
      record {
        ports = refl;
        uses =
            yes_and (not (is_doubled_name all x || is_clk x)) (are_kept ((driven_use all x ∷ value_uses all v) ++ [])) (inner_ok x both.0)
            (kept_end (driven_use all x ∷ value_uses all v) (driver_uses d v (new d (inl refl)) refl both.0 both.1));
        port_widths = refl;
        widths =
            yes_and (not (not (is_width w))) (not (not (net_fits all x && value_fits all (bits_of all x) v)) && true) (kept_yes (is_width w) f.0)
            (yes_and (not (not (net_fits all x && value_fits all (bits_of all x) v))) true (driver_widths d v (new d (inl refl)) f.0 both.1 f.1) refl);
      }

  link_right : (w : ℕ) (x : Name) → Right (InstanceWire w x)
  unfolding item_uses item_widths
  link_right w x new names wide = record { ports = refl; uses = yes_and (not (is_doubled_name all x || is_clk x)) true (inner_ok x names) refl; port_widths = refl; widths = kept_width w wide }

  register_right : (w : ℕ) (x : Name) → Right (Register w x)
  unfolding item_uses item_widths
  register_right w x new names wide = record { ports = refl; uses = yes_and (not (is_doubled_name all x || is_clk x)) true (inner_ok x names) refl; port_widths = refl; widths = kept_width w wide }

  memory_right : (w : ℕ) (x : Name) (n : ℕ) → Right (Memory w x n)
  unfolding item_uses item_widths
  memory_right w x n new names f = record {
    ports = refl;
    uses = yes_and (not (is_doubled_name all x || is_clk x)) true (inner_ok x names) refl;
    port_widths = refl;
    widths = yes_and (not (not (is_width w && is_cell_count n))) true (kept_yes (is_width w && is_cell_count n) (yes_and (is_width w) (is_cell_count n) f.0 f.1)) refl;
  }

  block_right : (b : List Step) → Right (Block b)
  unfolding item_uses item_widths
  block_right b new names f = record {
    ports = refl;
    uses = kept_end (clock_use all ∷ flat_map (step_uses all) b) (yes_and (not (clock_use all).1) (are_kept (flat_map (step_uses all) b)) clock_ok (ap are_kept (steps_same t all same b names) ∙ names));
    port_widths = refl;
    widths = kept_end (flat_map (step_widths all) b) (steps_ok t all same sized b names f);
  }

  instance_right : (k i : Name) (ls : List Connection) → Right (Instance k i ls)
  unfolding item_uses item_widths instance_uses
  instance_right k i ls new names f =
      let p = four_parts (is_new t i) (is_module_name ms k) (all_connected (child_ports ms k) ls) (are_kept (flat_map (connection_uses (child_ports ms k) t) ls)) names in
      let uses = flat_map (connection_uses (child_ports ms k) all) ls in
      record {
        ports = refl;
        uses =
            yes_and (not (not (is_module_name ms k))) (not (is_doubled_name all i || is_clk i || not (all_connected (child_ports ms k) ls)) && are_kept (uses ++ [])) (kept_yes (is_module_name ms k) p.1)
            (yes_and (not (is_doubled_name all i || is_clk i || not (all_connected (child_ports ms k) ls))) (are_kept (uses ++ []))
            (no_third (is_doubled_name all i) (is_clk i) (all_connected (child_ports ms k) ls) (once i) (new_is_no_clock t i clock p.0) p.2)
            (kept_end uses (ap are_kept (connections_same t all same (child_ports ms k) ls p.3) ∙ p.3)));
        port_widths = refl;
        widths = kept_end (flat_map (connection_widths (child_ports ms k) all) ls) (connections_ok t all same sized (child_ports ms k) ls p.3 f);
      }

  pub element_right : (e : Element) → Right e
  element_right (Input w x) = input_right w x
  element_right (Output w x v) = output_right w x v
  element_right (Outlet w x) = outlet_right w x
  element_right (Wire w x v) = wire_right w x v
  element_right (InstanceWire w x) = link_right w x
  element_right (Register w x) = register_right w x
  element_right (Memory w x n) = memory_right w x n
  element_right (Block b) = block_right b
  element_right (Instance k i ls) = instance_right k i ls

sized_more : (d : Declaration) (t : List Declaration) → is_sized d.net_kind d.bits d.cells ≡ true → AreSized t → AreSized (d ∷ t)
sized_more d t h s c (inl e) = subst (λ (z : Declaration). is_sized z.net_kind z.bits z.cells ≡ true) e h
sized_more d t h s c (inr k) = s c k

sized_with : (ms : List ModuleTree) (t : List Declaration) (e : Element) → HasFittingWidths ms t e → AreSized t → AreSized (declarations e ++ t)
sized_with ms t (Input w x) h s = sized_more (record { name = x; net_kind = InputNet; bits = w; cells = 0 }) t h s
sized_with ms t (Output w x v) h s = sized_more (record { name = x; net_kind = OutputNet; bits = w; cells = 0 }) t h.0 s
sized_with ms t (Outlet w x) h s = sized_more (record { name = x; net_kind = OutputNet; bits = w; cells = 0 }) t h s
sized_with ms t (Wire w x v) h s = sized_more (record { name = x; net_kind = WireNet; bits = w; cells = 0 }) t h.0 s
sized_with ms t (InstanceWire w x) h s = sized_more (record { name = x; net_kind = WireNet; bits = w; cells = 0 }) t h s
sized_with ms t (Register w x) h s = sized_more (record { name = x; net_kind = RegisterNet; bits = w; cells = 0 }) t h s
sized_with ms t (Memory w x n) h s = sized_more (record { name = x; net_kind = MemoryArray; bits = w; cells = n }) t (yes_and (is_width w) (is_cell_count n) h.0 h.1) s
sized_with ms t (Block b) h s = s
sized_with ms t (Instance k i ls) h s = sized_more (record { name = i; net_kind = ChildInstance; bits = 0; cells = 0 }) t refl s

first_sized : AreSized first_table
first_sized d (inl e) = subst (λ (z : Declaration). is_sized z.net_kind z.bits z.cells ≡ true) e refl
first_sized d (inr (inl e)) = subst (λ (z : Declaration). is_sized z.net_kind z.bits z.cells ≡ true) e refl
first_sized d (inr (inr n)) = absurd n

pub first_distinct : AreDistinct first_table
unfolding clk rst
first_distinct = distinct_more clock_declared (reset_declared ∷ []) refl (distinct_more reset_declared [] refl (λ x. omega arith))

module _ (ms : List ModuleTree) (all : List Declaration) (distinct : AreDistinct all) where
  each_right : (elements : List Element) (t : List Declaration) → ((d : Declaration) → Has (table_after t elements) d → Has all d) → AreSized t → Has t clock_declared
      → have_fitting_names ms t elements ≡ true → HaveFittingWidths ms t elements → (e : Element) → Has elements e → IsRightAmong ms all e
  each_right [] t within sized clock names widths e has = absurd has
  each_right (c ∷ elements) t within sized clock names widths e (inl same) =
      let both = both_true (has_fitting_names ms t c) (have_fitting_names ms (declarations c ++ t) elements) names in
      subst (λ z. IsRightAmong ms all z) same
      (element_right ms all distinct t (λ d h. within d (stays elements (declarations c ++ t) d (has_right (declarations c) t d h))) sized clock c
      (λ d h. within d (stays elements (declarations c ++ t) d (has_left (declarations c) t d h))) both.0 widths.0)
  each_right (c ∷ elements) t within sized clock names widths e (inr has) =
      let both = both_true (has_fitting_names ms t c) (have_fitting_names ms (declarations c ++ t) elements) names in
      each_right elements (declarations c ++ t) within (sized_with ms t c widths.0 sized) (has_right (declarations c) t clock_declared clock) both.1 widths.1 e has

-- what is kept in each element is kept in all of them
nested : {A B : Type 0} (p : B → Bool) (f : A → List B) (g : Element → List A) (elements : List Element) → ((e : Element) → Has elements e → list_all p (flat_map f (g e)) ≡ true) → list_all p (flat_map f (flat_map g elements)) ≡ true
nested p f g [] h = refl
nested p f g (e ∷ elements) h =
    ap (list_all p) (flat_map-append f (g e) (flat_map g elements)) ∙ both_together p (flat_map f (g e)) (flat_map f (flat_map g elements)) (h e (inl refl)) (nested p f g elements (λ c k. h c (inr k)))

module _ (ms : List ModuleTree) (name : Name) (elements : List Element) (fit : AreFitting ms elements) where
  abbrev m : ModuleTree
  m = built name elements

  pub table : IsTable m (table_after first_table elements)
  table = table_of_all elements (empty name) first_table (first_is_table name)

  pub names_once : AreDistinct (table_after first_table elements)
  names_once = distinct_all ms elements first_table fit.names first_distinct

  pub all_once : AreDistinct (declared m)
  all_once x = let e = table.count x in let l = names_once x in omega (arith, e, l)

  pub rights : (e : Element) → Has elements e → IsRightAmong ms (declared m) e
  rights = each_right ms (declared m) all_once elements first_table table.has first_sized (inl refl) fit.names fit.widths

  pub lines_are : m.items ≡ flat_map element_items elements
  lines_are = items_of_all elements (empty name)

  pub ports_are : m.ports ≡ (empty name).ports ++ flat_map element_ports elements
  ports_are = ports_of_all elements (empty name)

  first_ports : are_kept (flat_map (port_uses (declared m)) (empty name).ports) ≡ true
  unfolding port_uses
  first_ports =
      yes_and (not (is_doubled_name (declared m) clk)) (not (is_doubled_name (declared m) rst) && true) (kept_not _ (not_twice (times (declared m) clk) (all_once clk)))
      (yes_and (not (is_doubled_name (declared m) rst)) true (kept_not _ (not_twice (times (declared m) rst) (all_once rst))) refl)

  port_names : are_kept (flat_map (port_uses (declared m)) m.ports) ≡ true
  port_names =
      ap (λ l. are_kept (flat_map (port_uses (declared m)) l)) ports_are ∙ ap are_kept (flat_map-append (port_uses (declared m)) (empty name).ports (flat_map element_ports elements))
      ∙ both_together (λ (u : NameUse). not u.1) (flat_map (port_uses (declared m)) (empty name).ports) (flat_map (port_uses (declared m)) (flat_map element_ports elements)) first_ports
      (nested (λ (u : NameUse). not u.1) (port_uses (declared m)) element_ports elements (λ e h. (rights e h).ports))

  line_names : are_kept (flat_map (item_uses ms (declared m)) m.items) ≡ true
  line_names =
      ap (λ l. are_kept (flat_map (item_uses ms (declared m)) l)) lines_are
      ∙ nested (λ (u : NameUse). not u.1) (item_uses ms (declared m)) element_items elements (λ e h. (rights e h).uses)

  names_right : is_doubled_name (map module_declared ms) name ≡ false → first_violation (module_uses ms m) ≡ None
  unfolding module_uses
  names_right single =
      kept_is_none (module_uses ms m)
      (yes_and (not (is_doubled_name (map module_declared ms) m.name)) (are_kept (flat_map (port_uses (declared m)) m.ports ++ flat_map (item_uses ms (declared m)) m.items))
      (kept_not _ (ap (λ x. is_doubled_name (map module_declared ms) x) (name_of_all elements (empty name)) ∙ single))
      (both_together (λ (u : NameUse). not u.1) (flat_map (port_uses (declared m)) m.ports) (flat_map (item_uses ms (declared m)) m.items) port_names line_names))

  first_widths : are_kept (flat_map port_widths (empty name).ports) ≡ true
  unfolding port_widths
  first_widths = refl

  widths_right : first_violation (module_widths ms m) ≡ None
  unfolding module_widths
  widths_right =
      kept_is_none (module_widths ms m)
      (both_together (λ (u : NameUse). not u.1) (flat_map port_widths m.ports) (flat_map (item_widths ms (declared m)) m.items)
      (ap (λ l. are_kept (flat_map port_widths l)) ports_are ∙ ap are_kept (flat_map-append port_widths (empty name).ports (flat_map element_ports elements))
      ∙ both_together (λ (u : NameUse). not u.1) (flat_map port_widths (empty name).ports) (flat_map port_widths (flat_map element_ports elements)) first_widths
      (nested (λ (u : NameUse). not u.1) port_widths element_ports elements (λ e h. (rights e h).port_widths)))
      (ap (λ l. are_kept (flat_map (item_widths ms (declared m)) l)) lines_are
      ∙ nested (λ (u : NameUse). not u.1) (item_widths ms (declared m)) element_items elements (λ e h. (rights e h).widths)))

  driver_kept : (d : Declaration) → Has (declared m) d → (driving_use ms m.items d).1 ≡ false
  unfolding driving_use
  driver_kept d has =
      subst (λ (l : List Item). breaks_driving (times_in (flat_map (line_driven ms) l) d.name) (count_by (is_block_of d.name) l) d.net_kind ≡ false) (sym lines_are)
      (drivers_right ms elements fit.links fit.blocks names_once d (table.back d has))

  drivers_are_right : first_violation (module_drives ms m) ≡ None
  unfolding module_drives
  drivers_are_right =
      all_right (module_drives ms m)
      (λ u has. let r = of_map (driving_use ms m.items) (declared m) u has in subst (λ (z : NameUse). z.1 ≡ false) r.2 (driver_kept r.0 r.1))

  pub built_right : is_doubled_name (map module_declared ms) name ≡ false → IsRightBeside ms m
  built_right single = record { names = names_right single; widths = widths_right; drivers = drivers_are_right }
