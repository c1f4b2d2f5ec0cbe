-- The rule on widths over modules with their numbers cut.
use Rattle.std.proofs.Common.{◌≡◌, min, Bool, true, false, cond, ◌&&◌, List, [], ◌∷◌, ◌++◌, Some, refl, sym, ap, ◌∙◌, map}
use Rattle.std.specs.Prelude.{bytes_eq, not, ◌==◌}
use Rattle.std.specs.List.{flat_map}
use Rattle.vlog_tree.specs.declared.tree.Connection.{Connection}
use Rattle.vlog_tree.specs.declared.tree.Item.{Item}
use Rattle.vlog_tree.specs.declared.tree.Item.TheVariants.{Wire, Reg, Memory, Assign, Always, Instance}
use Rattle.vlog_tree.specs.declared.tree.PortDecl.{PortDecl}
use Rattle.vlog_tree.specs.declared.table.Declaration.{Declaration}
use Rattle.vlog_tree.specs.declared.table.NetKind.TheVariants.{WireNet, Register, MemoryArray, ChildInstance}
use Rattle.vlog_tree.specs.Form.{ModuleTree}
use Rattle.vlog_tree.specs.Table.{Name, declared, port_declared, items_declared, bits_of, find_name, module_named, ports_in, ports_of}
use Rattle.vlog_tree.specs.V3.{is_width, net_fits, step_widths, connection_widths, item_widths, port_widths, module_widths, v3_uses}
use Rattle.vlog_tree.specs.Clamped.{clamped_step, clamped_item, clamped_port, clamped}
use Rattle.vlog_tree.proofs.Clamped.{IsCut, width_same, cells_same, width_is, width_low, both_same, same_bits, and_same, step_same, assign_widths}
use Rattle.tapa_base.proofs.Got.{map_append as map_both}

abbrev cut : Declaration → Declaration
cut d = record { name = d.name; net_kind = d.net_kind; bits = min d.bits 129; cells = min d.cells 1048577 }

find_of : (d f : Declaration) (b : Bool) → cond b (cut d) (cut f) ≡ cut (cond b d f)
find_of d f true = refl
find_of d f false = refl

find_cut : (ds : List Declaration) (x : Name) → find_name (map cut ds) x ≡ cut (find_name ds x)
find_cut [] x = refl
find_cut (d ∷ ds) x = ap (λ f. cond (bytes_eq d.name x) (cut d) f) (find_cut ds x) ∙ find_of d (find_name ds x) (bytes_eq d.name x)

is_cut : (ds : List Declaration) → IsCut ds (map cut ds)
is_cut ds = record { bits = λ x. ap (λ (d : Declaration). d.bits) (find_cut ds x); cells = λ x. ap (λ (d : Declaration). d.cells) (find_cut ds x) }

ports_cut : (ps : List PortDecl) → map port_declared (map clamped_port ps) ≡ map cut (map port_declared ps)
ports_cut [] = refl
ports_cut (p ∷ ps) = ap (λ ds. cut (port_declared p) ∷ ds) (ports_cut ps)

items_cut : (items : List Item) → items_declared (map clamped_item items) ≡ map cut (items_declared items)
items_cut [] = refl
items_cut (Wire w x ∷ items) = ap (λ ds. record { name = x; net_kind = WireNet; bits = min w 129; cells = 0 } ∷ ds) (items_cut items)
items_cut (Reg w x ∷ items) = ap (λ ds. record { name = x; net_kind = Register; bits = min w 129; cells = 0 } ∷ ds) (items_cut items)
items_cut (Memory w x n ∷ items) = ap (λ ds. record { name = x; net_kind = MemoryArray; bits = min w 129; cells = min n 1048577 } ∷ ds) (items_cut items)
items_cut (Instance m i connections ∷ items) = ap (λ ds. record { name = i; net_kind = ChildInstance; bits = 0; cells = 0 } ∷ ds) (items_cut items)
items_cut (Assign x e ∷ items) = items_cut items
items_cut (Always b ∷ items) = items_cut items

declared_cut : (m : ModuleTree) → declared (clamped m) ≡ map cut (declared m)
declared_cut m =
    ap (λ ds. ds ++ items_declared (map clamped_item m.items)) (ports_cut m.ports)
    ∙ ap (λ ds. map cut (map port_declared m.ports) ++ ds) (items_cut m.items)
    ∙ sym (map_both cut (map port_declared m.ports) (items_declared m.items))

named_of : (b : Bool) (m : ModuleTree) (ms : List ModuleTree) (x : Name) → ports_in (module_named (map clamped ms) x) ≡ map clamped_port (ports_of ms x)
    → ports_in (cond b (Some (clamped m)) (module_named (map clamped ms) x)) ≡ map clamped_port (ports_in (cond b (Some m) (module_named ms x)))
named_of true m ms x ih = refl
named_of false m ms x ih = ih

ports_of_cut : (ms : List ModuleTree) (x : Name) → ports_of (map clamped ms) x ≡ map clamped_port (ports_of ms x)
ports_of_cut [] x = refl
ports_of_cut (m ∷ ms) x = named_of (bytes_eq m.name x) m ms x (ports_of_cut ms x)

pub flat_same : {A B C : Type 0} (f : B → List C) (g : A → List C) (h : A → B) (xs : List A) → ((x : A) → f (h x) ≡ g x) → flat_map f (map h xs) ≡ flat_map g xs
flat_same f g h [] e = refl
flat_same f g h (x ∷ xs) e = ap (λ l. l ++ flat_map f (map h xs)) (e x) ∙ ap (λ l. g x ++ l) (flat_same f g h xs e)

pub flat_alike : {A C : Type 0} (f g : A → List C) (xs : List A) → ((x : A) → f x ≡ g x) → flat_map f xs ≡ flat_map g xs
flat_alike f g [] e = refl
flat_alike f g (x ∷ xs) e = ap (λ l. l ++ flat_map f xs) (e x) ∙ ap (λ l. g x ++ l) (flat_alike f g xs e)

module _ (ports others ds es : List Declaration) (p : IsCut ports others) (c : IsCut ds es) where
  connected_same : (l : Connection) → (net_fits es l.net && (bits_of others l.port == bits_of es l.net)) ≡ (net_fits ds l.net && (bits_of ports l.port == bits_of ds l.net))
  connected_same l =
      ap (λ b. b && (bits_of others l.port == bits_of es l.net)) (ap is_width (c.bits l.net) ∙ width_same (bits_of ds l.net))
      ∙ both_same (net_fits ds l.net) _ _ (λ h. ap (λ w. bits_of others l.port == w) (c.bits l.net ∙ width_is (bits_of ds l.net) h) ∙ ap (λ w. w == bits_of ds l.net) (p.bits l.port) ∙ same_bits (bits_of ports l.port) (bits_of ds l.net) (width_low _ h))

  connection_same : (l : Connection) → connection_widths others es l ≡ connection_widths ports ds l
  unfolding connection_widths
  connection_same l = ap (λ b. (l.port, not b) ∷ []) (connected_same l)

module _ (ms : List ModuleTree) (ds : List Declaration) where
  item_same : (it : Item) → item_widths (map clamped ms) (map cut ds) (clamped_item it) ≡ item_widths ms ds it
  unfolding item_widths
  item_same (Wire w x) = ap (λ b. (x, not b) ∷ []) (width_same w)
  item_same (Reg w x) = ap (λ b. (x, not b) ∷ []) (width_same w)
  item_same (Memory w x n) = ap (λ b. (x, not b) ∷ []) (and_same (width_same w) (cells_same n))
  item_same (Assign x e) = assign_widths ds (map cut ds) (is_cut ds) x e
  item_same (Always b) = flat_same (step_widths (map cut ds)) (step_widths ds) clamped_step b (step_same ds (map cut ds) (is_cut ds))
  item_same (Instance m i connections) =
      ap (λ ps. flat_map (connection_widths (map port_declared ps) (map cut ds)) connections) (ports_of_cut ms m)
      ∙ ap (λ others. flat_map (connection_widths others (map cut ds)) connections) (ports_cut (ports_of ms m))
      ∙ flat_alike (connection_widths (map cut (map port_declared (ports_of ms m))) (map cut ds)) (connection_widths (map port_declared (ports_of ms m)) ds) connections
      (connection_same (map port_declared (ports_of ms m)) (map cut (map port_declared (ports_of ms m))) ds (map cut ds) (is_cut (map port_declared (ports_of ms m))) (is_cut ds))

port_same : (p : PortDecl) → port_widths (clamped_port p) ≡ port_widths p
unfolding port_widths
port_same p = ap (λ b. (p.name, not b) ∷ []) (width_same p.width)

module_same : (ms : List ModuleTree) (m : ModuleTree) → module_widths (map clamped ms) (clamped m) ≡ module_widths ms m
unfolding module_widths
module_same ms m =
    ap (λ us. us ++ flat_map (item_widths (map clamped ms) (declared (clamped m))) (map clamped_item m.items)) (flat_same port_widths port_widths clamped_port m.ports port_same)
    ∙ ap (λ ds. flat_map port_widths m.ports ++ flat_map (item_widths (map clamped ms) ds) (map clamped_item m.items)) (declared_cut m)
    ∙ ap (λ us. flat_map port_widths m.ports ++ us) (flat_same (item_widths (map clamped ms) (map cut (declared m))) (item_widths ms (declared m)) clamped_item m.items (item_same ms (declared m)))

pub widths_same : (ms : List ModuleTree) → v3_uses (map clamped ms) ≡ v3_uses ms
widths_same ms = flat_same (module_widths (map clamped ms)) (module_widths ms) clamped ms (module_same ms)
