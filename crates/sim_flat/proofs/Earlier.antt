-- What comes first in an order of all nets.
use Rattle.std.proofs.Common.{◌≡◌, ℕ, ◌+◌, ◌<◌, true, cond, List, [], ◌∷◌, Some, length, get_or, take, inl, refl, sym, ap, subst, ◌∙◌, map, arith}
use Rattle.std.specs.Prelude.{slice_get}
use Rattle.std.specs.List.{filter}
use Rattle.vlog_tree.specs.declared.tree.Value.{Value}
use Rattle.vlog_tree.specs.declared.tree.Item.TheVariants.{Assign}
use Rattle.vlog_tree.specs.declared.table.Declaration.{Declaration}
use Rattle.vlog_tree.specs.declared.table.NetKind.TheVariants.{Input}
use Rattle.vlog_tree.specs.Form.{ModuleTree}
use Rattle.tapa_base.specs.Lists.{Has}
use Rattle.vlog_tree.specs.Table.{Name, declared, port_declared, net_kind_of, net_kind_is_read, net_kind_is_input}
use Rattle.vlog_tree.specs.Labels.{rdata_of, m_addr, read_of, address_of}
use Rattle.vlog_tree.specs.V6.{has_port}
use Rattle.vlog_tree.specs.Loops.{value_nets, asked_port}
use Rattle.vlog_tree.specs.Flattened.{FlatNet, parts}
use Rattle.tapa_base.proofs.Lists.{has_got, has_map}
use Rattle.vlog_run_laws.proofs.runs.Sound.{declared_by, assign_reads}
use Rattle.vlog_run_laws.proofs.runs.Settled.{top_tree}
use Rattle.vlog_run_laws.proofs.runs.Module.{name_declared}
use Rattle.vlog_run_laws.proofs.runs.TopPorts.{input_port, all_five, five_of}
use Rattle.vlog_run_laws.proofs.runs.Parts.{part_line, part_answer, driver_part}
use Rattle.sim_flat.specs.Rows.{row_at}
use Rattle.sim_flat.specs.declared.flat.Flat.{Flat}
use Rattle.sim_flat.specs.Places.{DeclaredAt}
use Rattle.sim_flat.specs.Flat.{IsFlat, IsNetAt, HasNumber}
use Rattle.sim_flat.specs.Order.{IsNetOrder, DriversComeFirst, AskedComeFirst}
use Rattle.sim_flat.proofs.Names.{place_declared, place_found}
use Rattle.sim_flat.proofs.Standing.{v2, in_top, module_of, top_low, top_is}
use Rattle.sim_flat.proofs.Linked.{input_port_is}

-- an input that reads a memory asks by the port of the same label
asked_has : (ports : List Declaration) (x label : Name) → net_kind_is_input (net_kind_of ports x) ≡ true → rdata_of x ≡ Some label → has_port ports (m_addr label) ≡ true → Has (asked_port ports x) (m_addr label)
asked_has ports x label input read port =
    subst (λ b. Has (cond b (filter (has_port ports) (address_of x)) []) (m_addr label)) (sym input)
    (subst (λ o. Has (filter (has_port ports) (read_of o)) (m_addr label)) (sym read)
    (subst (λ b. Has (cond b (m_addr label ∷ []) []) (m_addr label)) (sym port) (inl refl)))

module _ (ms : List ModuleTree) (top : ModuleTree) (f : Flat) (order : List ℕ) (flat : IsFlat ms top f) (o : IsNetOrder ms top f order) (i : ℕ) (low : i < length order) where
  driver_first : (k j : ℕ) (n : FlatNet) (h : IsNetAt ms f k j n) → get_or order i 0 ≡ get_or f.first_net.items k 0 + j → (line : ℕ) (e : Value) → slice_get h.tree.items line ≡ Some (Assign n.1 e) → (y : Name) → Has (value_nets e) y
      → (q : ℕ) × DeclaredAt h.tree q y × Has (take i order) (get_or f.first_net.items k 0 + q)
  driver_first k j n h is line e got y reads =
      let m : ModuleTree = h.tree in
      let in_ms : Has ms m = has_got ms (row_at f.instances.items k).kind m h.of_module in
      let has : Has m.items (Assign n.1 e) = has_got m.items line (Assign n.1 e) got in
      let read = (assign_reads ms (v2 ms top f flat) m in_ms n.1 e has y reads).0 in
      let place = place_found (declared m) y (declared_by net_kind_is_read (declared m) y refl read) in
      let here : DeclaredAt m place.0 y = place_declared (declared m) y place.0 place.1 in
      let from : HasNumber ms f (get_or order i 0) n = record { instance = k; place = j; at = h; is = is } in
      let to : HasNumber ms f (get_or f.first_net.items k 0 + place.0) (n.0, y) = record {
        instance = k;
        place = place.0;
        at = record { there = h.there; stands = h.stands; tree = m; of_module = h.of_module; declared_at = here };
        is = refl;
      } in
      let at = module_of ms top f flat k n.0 m h.there h.stands h.of_module in
      let part : Has (parts ms top true n) (n.0, y) = part_line ms top n.0 n.1 m at (n.0, y) (driver_part ms m n.0 n.1 e has y reads) in
      (place.0, here, o.parts_first i (get_or f.first_net.items k 0 + place.0) n (n.0, y) low from to part)

  asked_first : (x label : Name) → HasNumber ms f (get_or order i 0) ([], x) → net_kind_of (declared top) x ≡ Input → rdata_of x ≡ Some label → (q : ℕ) × DeclaredAt top q (m_addr label) × Has (take i order) q
  asked_first x label from input read =
      let ports : List Declaration = map port_declared top.ports in
      let tree = top_tree ms flat.top_place flat.design top flat.top_at in
      let p = input_port top x input in
      let five = all_five ms flat.design.outside top (in_top ms top f flat) tree.is_top p.0 p.1 label (ap (λ (z : Name). rdata_of z) p.2 ∙ read) in
      let port : has_port ports (m_addr label) ≡ true = (five_of ms flat.design.outside top (in_top ms top f flat) label five).1 in
      let asked : Has (asked_port ports x) (m_addr label) = asked_has ports x label (input_port_is top x (ap net_kind_is_input input)) read port in
      let place = place_found (declared top) (m_addr label) (name_declared top (m_addr label) (declared_by net_kind_is_read ports (m_addr label) refl port)) in
      let here : DeclaredAt top place.0 (m_addr label) = place_declared (declared top) (m_addr label) place.0 place.1 in
      let start : get_or f.first_net.items 0 0 ≡ 0 = flat.numbers.starts in
      let is : place.0 ≡ get_or f.first_net.items 0 0 + place.0 = omega arith in
      let to : HasNumber ms f place.0 ([], m_addr label) = record {
        instance = 0;
        place = place.0;
        at = record { there = top_low ms top f flat; stands = refl; tree = top; of_module = top_is ms top f flat; declared_at = here };
        is = is;
      } in
      let part : Has (parts ms top true ([], x)) ([], m_addr label) = part_answer ms top [] x ([], m_addr label) (has_map (λ (y : Name). ([], y)) (asked_port ports x) (m_addr label) asked) in
      (place.0, here, o.parts_first i place.0 ([], x) ([], m_addr label) low from to part)

pub drivers_come_first : DriversComeFirst
drivers_come_first ms top f order flat o i k j n low h is line e got y reads = driver_first ms top f order flat o i low k j n h is line e got y reads

pub asked_come_first : AskedComeFirst
asked_come_first ms top f order flat o i x label low from input read = asked_first ms top f order flat o i low x label from input read
