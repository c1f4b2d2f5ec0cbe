-- The widths and the numbers of cells that a module's lines declare.
use Rattle.std.proofs.Common.{◌≡◌, ℕ, Bool, true, false, cond, List, [], ◌∷◌, None, inl, inr, refl, sym, ap, subst, ◌∙◌, map}
use Rattle.std.specs.Prelude.{bytes_eq, if◌then◌else◌}
use Rattle.std.specs.List.{AllByRecursion}
use Rattle.std.specs.Cmp.Lexicographic.{bytes_decides}
use Rattle.vlog_tree.specs.declared.tree.Item.{Item}
use Rattle.vlog_tree.specs.declared.tree.Item.TheVariants.{Wire, Reg, Memory, Assign, Always, Instance}
use Rattle.vlog_tree.specs.declared.tree.PortDecl.{PortDecl}
use Rattle.vlog_tree.specs.declared.table.Declaration.{Declaration}
use Rattle.vlog_tree.specs.declared.table.NetKind.{NetKind}
use Rattle.vlog_tree.specs.declared.table.NetKind.TheVariants.{Unknown, Input, Output, Register, MemoryArray, ChildInstance}
use Rattle.vlog_tree.specs.Form.{ModuleTree, is_input}
use Rattle.tapa_base.specs.Lists.{Has}
use Rattle.vlog_tree.specs.Cycle.{Cycle, Sizes, Holds, PortHolds}
use Rattle.vlog_tree.specs.Table.{Name, declared, port_declared, items_declared, declaration_name, find_name, net_kind_of, bits_of, net_kind_is_memory, net_kind_is_register, first_violation}
use Rattle.vlog_tree.specs.V2.{v2_uses}
use Rattle.tapa_base.proofs.Lists.{has_map, of_map, has_left, has_right, has_split}
use Rattle.vlog_run_laws.proofs.runs.Sound.{declared_by}
use Rattle.vlog_run_laws.proofs.runs.Alone.{one_memory, stands_for, of_items, items_have, find_there}
use Rattle.tapa_base.proofs.Tests.{true_not_false}
use Rattle.tapa_base.proofs.Got.{all_at, all_from}

abbrev pub cells_of : List Item → Name → ℕ
cells_of [] x = 0
cells_of (Memory w y n ∷ items) x = if bytes_eq y x then n else cells_of items x
cells_of (Wire w y ∷ items) x = cells_of items x
cells_of (Reg w y ∷ items) x = cells_of items x
cells_of (Assign y e ∷ items) x = cells_of items x
cells_of (Always b ∷ items) x = cells_of items x
cells_of (Instance m i connections ∷ items) x = cells_of items x

-- what a module declares
abbrev pub sizes_of : ModuleTree → Sizes
sizes_of m = record { width = bits_of (declared m); cells = cells_of m.items }

abbrev CellsFound : List Item → Name → Type 0
CellsFound items x = (w : ℕ) × (n : ℕ) × Has items (Memory w x n) × (cells_of items x ≡ n)

cells_here : (items : List Item) (w : ℕ) (y : Name) (n : ℕ) (x : Name) (b : Bool) → bytes_eq y x ≡ b → CellsFound items x
    → (v : ℕ) × (k : ℕ) × Has {N = Item} (Memory w y n ∷ items) (Memory v x k) × (cond b n (cells_of items x) ≡ k)
cells_here items w y n x true e r = (w, n, inl (ap (λ z. Memory w z n) ((bytes_decides y x).0 e)), refl)
cells_here items w y n x false e r = (r.0, r.1, inr r.2, r.3)

cells_found : (items : List Item) (w : ℕ) (x : Name) (n : ℕ) → Has items (Memory w x n) → CellsFound items x
cells_found [] w x n h = absurd h
cells_found (Memory v y k ∷ items) w x n (inl e) =
    let same : x ≡ y = cc e in
    (v, k, inl (ap (λ z. Memory v z k) (sym same)), ap (λ b. cond b k (cells_of items x)) ((bytes_decides y x).1 (sym same)))
cells_found (Memory v y k ∷ items) w x n (inr h) = cells_here items v y k x (bytes_eq y x) refl (cells_found items w x n h)
cells_found (Wire v y ∷ items) w x n (inl e) = cc
cells_found (Wire v y ∷ items) w x n (inr h) = let r = cells_found items w x n h in (r.0, r.1, inr r.2, r.3)
cells_found (Reg v y ∷ items) w x n (inl e) = cc
cells_found (Reg v y ∷ items) w x n (inr h) = let r = cells_found items w x n h in (r.0, r.1, inr r.2, r.3)
cells_found (Assign y v ∷ items) w x n (inl e) = cc
cells_found (Assign y v ∷ items) w x n (inr h) = let r = cells_found items w x n h in (r.0, r.1, inr r.2, r.3)
cells_found (Always b ∷ items) w x n (inl e) = cc
cells_found (Always b ∷ items) w x n (inr h) = let r = cells_found items w x n h in (r.0, r.1, inr r.2, r.3)
cells_found (Instance k i connections ∷ items) w x n (inl e) = cc
cells_found (Instance k i connections ∷ items) w x n (inr h) = let r = cells_found items w x n h in (r.0, r.1, inr r.2, r.3)

port_is_no_memory : (i : Bool) → cond i Input Output ≡ MemoryArray → ⊥
port_is_no_memory true e = cc
port_is_no_memory false e = cc

port_is_no_register : (i : Bool) → cond i Input Output ≡ Register → ⊥
port_is_no_register true e = cc
port_is_no_register false e = cc

memory_line : (it : Item) (d : Declaration) → Has (items_declared (it ∷ [])) d → d.net_kind ≡ MemoryArray → (n : ℕ) × (it ≡ Memory d.bits d.name n)
memory_line (Wire w x) d (inl e) s = cc
memory_line (Wire w x) d (inr h) s = absurd h
memory_line (Reg w x) d (inl e) s = cc
memory_line (Reg w x) d (inr h) s = absurd h
memory_line (Memory w x n) d (inl e) s = (n, ap (λ (c : Declaration). Memory c.bits c.name n) e)
memory_line (Memory w x n) d (inr h) s = absurd h
memory_line (Instance k i connections) d (inl e) s = cc
memory_line (Instance k i connections) d (inr h) s = absurd h
memory_line (Assign x e) d h s = absurd h
memory_line (Always b) d h s = absurd h

register_line : (it : Item) (d : Declaration) → Has (items_declared (it ∷ [])) d → d.net_kind ≡ Register → it ≡ Reg d.bits d.name
register_line (Wire w x) d (inl e) s = cc
register_line (Wire w x) d (inr h) s = absurd h
register_line (Reg w x) d (inl e) s = ap (λ (c : Declaration). Reg c.bits c.name) e
register_line (Reg w x) d (inr h) s = absurd h
register_line (Memory w x n) d (inl e) s = cc
register_line (Memory w x n) d (inr h) s = absurd h
register_line (Instance k i connections) d (inl e) s = cc
register_line (Instance k i connections) d (inr h) s = absurd h
register_line (Assign x e) d h s = absurd h
register_line (Always b) d h s = absurd h

line_width : (s : Sizes) (c : Cycle) (it : Item) (d : Declaration) → Holds s c it → Has (items_declared (it ∷ [])) d → (d.net_kind ≡ ChildInstance → ⊥) → s.width d.name ≡ d.bits
line_width s c (Wire w x) d h (inl e) n = subst (λ (d : Declaration). s.width d.name ≡ d.bits) e h
line_width s c (Wire w x) d h (inr k) n = absurd k
line_width s c (Reg w x) d h (inl e) n = subst (λ (d : Declaration). s.width d.name ≡ d.bits) e h
line_width s c (Reg w x) d h (inr k) n = absurd k
line_width s c (Memory w x k) d h (inl e) n = subst (λ (d : Declaration). s.width d.name ≡ d.bits) e h.0
line_width s c (Memory w x k) d h (inr a) n = absurd a
line_width s c (Instance k i connections) d h (inl e) n = absurd (n (ap (λ (d : Declaration). d.net_kind) (sym e)))
line_width s c (Instance k i connections) d h (inr a) n = absurd a
line_width s c (Assign x e) d h k n = absurd k
line_width s c (Always b) d h k n = absurd k

-- a name that stands for something, by its declaration
pub found_name : (ds : List Declaration) (x : Name) (test : NetKind → Bool) → test Unknown ≡ false → test (net_kind_of ds x) ≡ true → Has ds (find_name ds x) × ((find_name ds x).name ≡ x)
found_name ds x test none h =
    let t = of_map declaration_name ds x (declared_by test ds x none h) in
    let f = find_there ds t.0 t.1 in
    subst (λ z. Has ds (find_name ds z) × ((find_name ds z).name ≡ z)) t.2 (f.0, (bytes_decides (find_name ds t.0.name).name t.0.name).0 f.1)

module _ (m : ModuleTree) where
  pub memory_item : (x : Name) → net_kind_of (declared m) x ≡ MemoryArray → (w : ℕ) × (n : ℕ) × Has m.items (Memory w x n)
  memory_item x s =
      let f = found_name (declared m) x net_kind_is_memory refl (ap net_kind_is_memory s) in
      let d = find_name (declared m) x in
      elim (has_split (map port_declared m.ports) (items_declared m.items) d f.0) [
        | inl l ↦ (let t = of_map port_declared m.ports d l in absurd (port_is_no_memory (is_input t.0.direction) (ap (λ (d : Declaration). d.net_kind) t.2 ∙ s)))
        | inr r ↦ (let t = of_items m.items d r in let q = memory_line t.0 d t.2 s in (d.bits, q.0, subst (λ z. Has m.items (Memory d.bits z q.0)) f.1 (subst (λ z. Has m.items z) q.1 t.1)))
      ]

  pub register_item : (x : Name) → net_kind_of (declared m) x ≡ Register → (w : ℕ) × Has m.items (Reg w x)
  register_item x s =
      let f = found_name (declared m) x net_kind_is_register refl (ap net_kind_is_register s) in
      let d = find_name (declared m) x in
      elim (has_split (map port_declared m.ports) (items_declared m.items) d f.0) [
        | inl l ↦ (let t = of_map port_declared m.ports d l in absurd (port_is_no_register (is_input t.0.direction) (ap (λ (d : Declaration). d.net_kind) t.2 ∙ s)))
        | inr r ↦ (let t = of_items m.items d r in (d.bits, subst (λ z. Has m.items (Reg d.bits z)) f.1 (subst (λ z. Has m.items z) (register_line t.0 d t.2 s) t.1)))
      ]

  -- sizes that hold are those that are declared
  module _ (s : Sizes) (c : Cycle) (ports : AllByRecursion (PortHolds s) m.ports) (lines : AllByRecursion (Holds s c) m.items) where
    pub width_held : (x : Name) (test : NetKind → Bool) → test Unknown ≡ false → test ChildInstance ≡ false → test (net_kind_of (declared m) x) ≡ true → s.width x ≡ bits_of (declared m) x
    width_held x test none child h =
        let f = found_name (declared m) x test none h in
        let d = find_name (declared m) x in
        elim (has_split (map port_declared m.ports) (items_declared m.items) d f.0) [
          | inl l ↦ (let t = of_map port_declared m.ports d l in
              let p : s.width t.0.name ≡ t.0.width = all_at (PortHolds s) m.ports t.0 ports t.1 in
              subst (λ z. s.width z ≡ d.bits) f.1 (subst (λ (k : Declaration). s.width k.name ≡ k.bits) t.2 p))
          | inr r ↦ (let t = of_items m.items d r in
              subst (λ z. s.width z ≡ d.bits) f.1 (line_width s c t.0 d (all_at (Holds s c) m.items t.0 lines t.1) t.2 (λ e. true_not_false (sym (ap test (sym e) ∙ h) ∙ child))))
        ]

  module _ (ms : List ModuleTree) (names : first_violation (v2_uses ms) ≡ None) (in_ms : Has ms m) where
    pub memory_cells : (w : ℕ) (x : Name) (n : ℕ) → Has m.items (Memory w x n) → cells_of m.items x ≡ n
    memory_cells w x n h = let t = cells_found m.items w x n h in t.3 ∙ (one_memory ms names m in_ms t.0 w t.1 n x t.2 h).1

    pub declared_bits : (d : Declaration) → Has (declared m) d → bits_of (declared m) d.name ≡ d.bits
    declared_bits d h = ap (λ (d : Declaration). d.bits) (stands_for ms names m in_ms d h)

    pub declared_net_kind : (d : Declaration) → Has (declared m) d → net_kind_of (declared m) d.name ≡ d.net_kind
    declared_net_kind d h = ap (λ (d : Declaration). d.net_kind) (stands_for ms names m in_ms d h)

    pub has_line : (it : Item) → Has m.items it → (d : Declaration) → Has (items_declared (it ∷ [])) d → Has (declared m) d
    has_line it has d h = has_right (map port_declared m.ports) (items_declared m.items) d (items_have m.items it d has h)

    pub has_port : (p : PortDecl) → Has m.ports p → Has (declared m) (port_declared p)
    has_port p has = has_left (map port_declared m.ports) (items_declared m.items) (port_declared p) (has_map port_declared m.ports p has)

    pub ports_hold : AllByRecursion (PortHolds (sizes_of m)) m.ports
    ports_hold = all_from (PortHolds (sizes_of m)) m.ports (λ p has. declared_bits (port_declared p) (has_port p has))
