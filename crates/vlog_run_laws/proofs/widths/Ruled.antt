-- What the rule on widths says of a module's lines.
use Rattle.std.proofs.Common.{◌≡◌, ℕ, ◌≤◌, true, false, ◌&&◌, ◌||◌, List, [], ◌∷◌, None, inl, inr, refl, sym, ap, subst, ◌∙◌, map, arith}
use Rattle.std.specs.Prelude.{◌==◌, nat_le, not}
use Rattle.std.specs.List.{flat_map}
use Rattle.std.proofs.lemmas.Bool.Decides.{nat_tests}
use Rattle.vlog_tree.specs.declared.tree.Value.{Value}
use Rattle.vlog_tree.specs.declared.tree.Step.{Step}
use Rattle.vlog_tree.specs.declared.tree.Step.TheVariants.{If, Else, End, NonblockingAssign, MemoryAssign}
use Rattle.vlog_tree.specs.declared.tree.Connection.{Connection}
use Rattle.vlog_tree.specs.declared.tree.Item.{Item}
use Rattle.vlog_tree.specs.declared.tree.Item.TheVariants.{Wire, Reg, Memory, Assign, Always, Instance}
use Rattle.vlog_tree.specs.declared.tree.PortDecl.{PortDecl}
use Rattle.vlog_tree.specs.declared.table.Declaration.{Declaration}
use Rattle.vlog_tree.specs.declared.table.NetKind.TheVariants.{ChildInstance}
use Rattle.vlog_tree.specs.Form.{ModuleTree}
use Rattle.tapa_base.specs.Lists.{Has}
use Rattle.vlog_tree.specs.Table.{Name, NameUse, is_clk, declared, port_declared, items_declared, find_name, net_kind_of, bits_of, net_kind_is_read, net_kind_is_driven, ports_of, first_violation}
use Rattle.vlog_tree.specs.V2.{v2_uses, item_uses, step_uses, read_use, driven_use}
use Rattle.vlog_tree.specs.V3.{v3_uses, module_widths, item_widths, port_widths, connection_widths, step_widths, is_width, is_cell_count, net_fits, memory_fits, has_bits, value_fits}
use Rattle.vlog_tree.specs.Loops.{atom_nets}
use Rattle.tapa_base.proofs.Lists.{has_flat, of_map, has_left, has_right, has_split}
use Rattle.vlog_run_laws.proofs.runs.Sound.{right, item_right, atom_read}
use Rattle.vlog_run_laws.proofs.runs.Alone.{of_items}
use Rattle.vlog_run_laws.proofs.runs.Sizes.{found_name}
use Rattle.vlog_run_laws.specs.widths.Widths.{IsInRange, WidthsInRange}
use Rattle.vlog_run_laws.proofs.widths.Bits.{same_of}
use Rattle.tapa_base.proofs.Tests.{not_no, both_true, below as at_least, true_not_false}
use Rattle.std.proofs.lemmas.Bool.{or_parts as both_false}

in_range : (w : ℕ) → is_width w ≡ true → IsInRange w
in_range w h = let p = both_true (nat_le 1 w) (nat_le w 128) h in (at_least 1 w p.0, at_least w 128 p.1)

-- a net that can be read, with its number's rule
abbrev pub IsRead : List Declaration → Name → Type 0
IsRead ds z = (net_kind_is_read (net_kind_of ds z) ≡ true) × (is_clk z ≡ false)

-- what a step writes has the width of what it writes to, and the nets that it takes the number from can be read
abbrev pub StepFits : List Declaration → Step → Type 0
StepFits ds (NonblockingAssign x a) = (has_bits ds (bits_of ds x) a ≡ true) × ((z : Name) → Has (atom_nets a) z → IsRead ds z)
StepFits ds (MemoryAssign m x a) = (has_bits ds (bits_of ds m) a ≡ true) × ((z : Name) → Has (atom_nets a) z → IsRead ds z)
StepFits ds (If c) = Unit {0}
StepFits ds Else = Unit {0}
StepFits ds End = Unit {0}

line_net : (it : Item) (d : Declaration) → Has (items_declared (it ∷ [])) d → (d.net_kind ≡ ChildInstance → ⊥) → (ms : List ModuleTree) (ds : List Declaration) → ((u : NameUse) → Has (item_widths ms ds it) u → u.1 ≡ false) → IsInRange d.bits
unfolding item_widths
line_net (Wire w x) d (inl e) n ms ds f = subst (λ (k : Declaration). IsInRange k.bits) e (in_range w (not_no _ (f (x, not (is_width w)) (inl refl))))
line_net (Reg w x) d (inl e) n ms ds f = subst (λ (k : Declaration). IsInRange k.bits) e (in_range w (not_no _ (f (x, not (is_width w)) (inl refl))))
line_net (Memory w x k) d (inl e) n ms ds f = subst (λ (k : Declaration). IsInRange k.bits) e (in_range w (both_true (is_width w) (is_cell_count k) (not_no _ (f (x, not (is_width w && is_cell_count k)) (inl refl)))).0)
line_net (Instance kn i connections) d (inl e) n ms ds f = absurd (n (ap (λ (k : Declaration). k.net_kind) (sym e)))
line_net (Wire w x) d (inr h) n ms ds f = absurd h
line_net (Reg w x) d (inr h) n ms ds f = absurd h
line_net (Memory w x k) d (inr h) n ms ds f = absurd h
line_net (Instance kn i connections) d (inr h) n ms ds f = absurd h
line_net (Assign x e) d h n ms ds f = absurd h
line_net (Always b) d h n ms ds f = absurd h

-- no line drives the clock
pub assign_clock : (ms : List ModuleTree) (names : first_violation (v2_uses ms) ≡ None) (m : ModuleTree) (in_ms : Has ms m) (x : Name) (e : Value) → Has m.items (Assign x e) → is_clk x ≡ false
unfolding item_uses
assign_clock ms names m in_ms x e has = (both_false (not (net_kind_is_driven (net_kind_of (declared m) x))) (is_clk x) (item_right ms names m in_ms (Assign x e) has (driven_use (declared m) x) (inl refl))).1

module _ (ms : List ModuleTree) (widths : first_violation (v3_uses ms) ≡ None) (m : ModuleTree) (in_ms : Has ms m) where
  width_right : (it : Item) → Has m.items it → (u : NameUse) → Has (item_widths ms (declared m) it) u → u.1 ≡ false
  unfolding module_widths
  width_right it has u h =
      right (v3_uses ms) widths u
      (has_flat (module_widths ms) ms m u in_ms
      (has_right (flat_map port_widths m.ports) (flat_map (item_widths ms (declared m)) m.items) u (has_flat (item_widths ms (declared m)) m.items it u has h)))

  port_width : (p : PortDecl) → Has m.ports p → is_width p.width ≡ true
  unfolding module_widths port_widths
  port_width p has =
      not_no _
      (right (v3_uses ms) widths (p.name, not (is_width p.width))
      (has_flat (module_widths ms) ms m (p.name, not (is_width p.width)) in_ms
      (has_left (flat_map port_widths m.ports) (flat_map (item_widths ms (declared m)) m.items) _ (has_flat port_widths m.ports p _ has (inl refl)))))

  pub assign_width : (x : Name) (e : Value) → Has m.items (Assign x e) → value_fits (declared m) (bits_of (declared m) x) e ≡ true
  unfolding item_widths
  assign_width x e has =
      (both_true (net_fits (declared m) x) (value_fits (declared m) (bits_of (declared m) x) e)
      (not_no _ (width_right (Assign x e) has (x, not (net_fits (declared m) x && value_fits (declared m) (bits_of (declared m) x) e)) (inl refl)))).1

  pub connection_width : (kn i : Name) (connections : List Connection) → Has m.items (Instance kn i connections) → (l : Connection) → Has connections l → bits_of (map port_declared (ports_of ms kn)) l.port ≡ bits_of (declared m) l.net
  unfolding item_widths connection_widths
  connection_width kn i connections has l h =
      let ports = map port_declared (ports_of ms kn) in
      let u : NameUse = (l.port, not (net_fits (declared m) l.net && (bits_of ports l.port == bits_of (declared m) l.net))) in
      same_of (bits_of ports l.port) (bits_of (declared m) l.net) (both_true (net_fits (declared m) l.net) (bits_of ports l.port == bits_of (declared m) l.net) (not_no _ (width_right (Instance kn i connections) has u (has_flat (connection_widths ports (declared m)) connections l u h (inl refl))))).1

  pub net_width : (x : Name) → net_kind_is_read (net_kind_of (declared m) x) ≡ true → IsInRange (bits_of (declared m) x)
  net_width x h =
      let f = found_name (declared m) x net_kind_is_read refl h in
      let d = find_name (declared m) x in
      elim (has_split (map port_declared m.ports) (items_declared m.items) d f.0) [
        | inl l ↦ (let t = of_map port_declared m.ports d l in subst (λ (k : Declaration). IsInRange k.bits) t.2 (in_range t.0.width (port_width t.0 t.1)))
        | inr r ↦ (let t = of_items m.items d r in line_net t.0 d t.2 (λ e. true_not_false (sym h ∙ ap net_kind_is_read e)) ms (declared m) (width_right t.0 t.1))
      ]

  memory_width : (w : ℕ) (y : Name) (k : ℕ) → Has m.items (Memory w y k) → IsInRange w × (k ≤ 1048576)
  unfolding item_widths
  memory_width w y k has =
      let p = both_true (is_width w) (is_cell_count k) (not_no _ (width_right (Memory w y k) has (y, not (is_width w && is_cell_count k)) (inl refl))) in
      (in_range w p.0, at_least k 1048576 (both_true (nat_le 1 k) (nat_le k 1048576) p.1).1)

  pub widths_in_range : WidthsInRange m
  widths_in_range = record { nets = net_width; cells = memory_width }

  module _ (names : first_violation (v2_uses ms) ≡ None) (b : List Step) (has : Has m.items (Always b)) where
    step_width : (st : Step) → Has b st → (u : NameUse) → Has (step_widths (declared m) st) u → u.1 ≡ false
    unfolding item_widths
    step_width st h u k = width_right (Always b) has u (has_flat (step_widths (declared m)) b st u h k)

    step_right : (st : Step) → Has b st → (u : NameUse) → Has (step_uses (declared m) st) u → u.1 ≡ false
    unfolding item_uses
    step_right st h u k = item_right ms names m in_ms (Always b) has u (inr (has_flat (step_uses (declared m)) b st u h k))

    use_read : (z : Name) → (not (net_kind_is_read (net_kind_of (declared m) z)) || is_clk z) ≡ false → IsRead (declared m) z
    use_read z h = let p = both_false (not (net_kind_is_read (net_kind_of (declared m) z))) (is_clk z) h in (not_no _ p.0, p.1)

    pub step_fits : (st : Step) → Has b st → StepFits (declared m) st
    step_fits (NonblockingAssign x a) h = (
      (both_true (net_fits (declared m) x) (has_bits (declared m) (bits_of (declared m) x) a)
          (not_no _ (step_width (NonblockingAssign x a) h (x, not (net_fits (declared m) x && has_bits (declared m) (bits_of (declared m) x) a)) (inl refl)))).1,
      λ z k. use_read z (step_right (NonblockingAssign x a) h (read_use (declared m) z) (inr (atom_read (declared m) a z k))),
    )
    step_fits (MemoryAssign y x a) h = (
      (both_true (memory_fits (declared m) y && net_fits (declared m) x) (has_bits (declared m) (bits_of (declared m) y) a)
          (not_no _ (step_width (MemoryAssign y x a) h (y, not (memory_fits (declared m) y && net_fits (declared m) x && has_bits (declared m) (bits_of (declared m) y) a)) (inl refl)))).1,
      λ z k. use_read z (step_right (MemoryAssign y x a) h (read_use (declared m) z) (inr (inr (atom_read (declared m) a z k)))),
    )
    step_fits (If c) h = tt
    step_fits Else h = tt
    step_fits End h = tt
