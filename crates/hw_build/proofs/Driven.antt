-- What a run says at each element.
use Rattle.std.proofs.Common.{◌≡◌, ℕ, ◌≤◌, true, List, inl, inr, refl, sym, ap, subst, ◌∙◌, arith}
use Rattle.std.specs.Prelude.{count_by}
use Rattle.std.specs.List.{list_any, flat_map}
use Rattle.vlog_tree.specs.declared.tree.Value.{Value}
use Rattle.vlog_tree.specs.declared.tree.Step.{Step}
use Rattle.vlog_tree.specs.declared.tree.Item.{Item}
use Rattle.vlog_tree.specs.declared.tree.Item.TheVariants.{Wire as WireLine, Reg as RegisterLine, Memory as MemoryLine, Assign as AssignLine, Always as BlockLine}
use Rattle.vlog_tree.specs.declared.tree.Direction.TheVariants.{Input as Inward, Output as Outward}
use Rattle.vlog_tree.specs.declared.tree.PortDecl.{PortDecl}
use Rattle.vlog_tree.specs.declared.table.Declaration.{Declaration}
use Rattle.vlog_tree.specs.declared.table.NetKind.TheVariants.{ChildInstance}
use Rattle.vlog_tree.specs.Form.{ModuleTree}
use Rattle.tapa_base.specs.Lists.{Has}
use Rattle.vlog_tree.specs.Table.{Name}
use Rattle.vlog_tree.specs.Cycle.{Cycle, Follows, Holds, driven}
use Rattle.vlog_tree.specs.V4.{step_assigns, is_block_of}
use Rattle.tapa_base.proofs.Lists.{has_flat, of_flat, has_right}
use Rattle.vlog_module_laws.specs.Blocks.{IsOwnBlock}
use Rattle.vlog_module_laws.proofs.Lines.{line, port}
use Rattle.hw_build.specs.Elements.{Element, Input, Output, Outlet, Wire, InstanceWire, Register, Memory, Block, Instance, element_ports, element_items, empty, built}
use Rattle.hw_build.specs.Fitting.{declarations, stored_names, assigns, AreFitting}
use Rattle.hw_build.proofs.Tables.{items_of_all, ports_of_all}
use Rattle.hw_build.proofs.Drivers.{all_blocks, own_block}

pub line_there : (name : Name) (elements : List Element) (e : Element) (it : Item) → Has elements e → Has (element_items e) it → Has (built name elements).items it
line_there name elements e it h k = subst (λ (l : List Item). Has l it) (sym (items_of_all elements (empty name))) (has_flat element_items elements e it h k)

pub port_there : (name : Name) (elements : List Element) (e : Element) (p : PortDecl) → Has elements e → Has (element_ports e) p → Has (built name elements).ports p
port_there name elements e p h k =
    subst (λ (l : List PortDecl). Has l p) (sym (ports_of_all elements (empty name))) (has_right (empty name).ports (flat_map element_ports elements) p (has_flat element_ports elements e p h k))

module _ (name : Name) (elements : List Element) (run : ℕ → Cycle) (f : Follows (built name elements) run) where
  abbrev m : ModuleTree
  m = built name elements

  port_width : (e : Element) → Has elements e → (p : PortDecl) → Has (element_ports e) p → f.sizes.width p.name ≡ p.width
  port_width e h p k = port m run f p (port_there name elements e p h k)

  line_holds : (e : Element) → Has elements e → (it : Item) → Has (element_items e) it → (n : ℕ) → Holds f.sizes (run n) it
  line_holds e h it k n = (line m run f it (line_there name elements e it h k)).holds n

  pub wire_driven : (w : ℕ) (x : Name) (v : Value) → Has elements (Wire w x v) → (n : ℕ) → (run n).net x ≡ driven f.sizes w (run n) v
  wire_driven w x v h n = line_holds (Wire w x v) h (AssignLine x v) (inr (inl refl)) n ∙ ap (λ k. driven f.sizes k (run n) v) (line_holds (Wire w x v) h (WireLine w x) (inl refl) n)

  pub output_driven : (w : ℕ) (x : Name) (v : Value) → Has elements (Output w x v) → (n : ℕ) → (run n).net x ≡ driven f.sizes w (run n) v
  output_driven w x v h n =
      line_holds (Output w x v) h (AssignLine x v) (inl refl) n
      ∙ ap (λ k. driven f.sizes k (run n) v) (port_width (Output w x v) h (record { direction = Outward; width = w; name = x }) (inl refl))

  abbrev Wide : Declaration → Type 0
  Wide d = f.sizes.width d.name ≡ d.bits

  pub width_declared : (e : Element) (d : Declaration) → Has elements e → Has (declarations e) d → (d.net_kind ≡ ChildInstance → ⊥) → Wide d
  width_declared (Input w x) d h (inl s) k = subst Wide s (port_width (Input w x) h (record { direction = Inward; width = w; name = x }) (inl refl))
  width_declared (Input w x) d h (inr n) k = absurd n
  width_declared (Output w x v) d h (inl s) k = subst Wide s (port_width (Output w x v) h (record { direction = Outward; width = w; name = x }) (inl refl))
  width_declared (Output w x v) d h (inr n) k = absurd n
  width_declared (Outlet w x) d h (inl s) k = subst Wide s (port_width (Outlet w x) h (record { direction = Outward; width = w; name = x }) (inl refl))
  width_declared (Outlet w x) d h (inr n) k = absurd n
  width_declared (Wire w x v) d h (inl s) k = subst Wide s (line_holds (Wire w x v) h (WireLine w x) (inl refl) 0)
  width_declared (Wire w x v) d h (inr n) k = absurd n
  width_declared (InstanceWire w x) d h (inl s) k = subst Wide s (line_holds (InstanceWire w x) h (WireLine w x) (inl refl) 0)
  width_declared (InstanceWire w x) d h (inr n) k = absurd n
  width_declared (Register w x) d h (inl s) k = subst Wide s (line_holds (Register w x) h (RegisterLine w x) (inl refl) 0)
  width_declared (Register w x) d h (inr n) k = absurd n
  width_declared (Memory w x c) d h (inl s) k = subst Wide s (line_holds (Memory w x c) h (MemoryLine w x c) (inl refl) 0).0
  width_declared (Memory w x c) d h (inr n) k = absurd n
  width_declared (Block b) d h n k = absurd n
  width_declared (Instance j i ls) d h (inl s) k = absurd (k (ap (λ (z : Declaration). z.net_kind) (sym s)))
  width_declared (Instance j i ls) d h (inr n) k = absurd n

  pub cells_declared : (w : ℕ) (x : Name) (c : ℕ) → Has elements (Memory w x c) → f.sizes.cells x ≡ c
  cells_declared w x c h = (line_holds (Memory w x c) h (MemoryLine w x c) (inl refl) 0).1

pub block_is_own : (ms : List ModuleTree) (name : Name) (elements : List Element) → AreFitting ms elements → (b : List Step) (x : Name) → Has elements (Block b) → Has (flat_map stored_names elements) x
    → list_any (step_assigns x) b ≡ true → IsOwnBlock (built name elements).items x b
block_is_own ms name elements fit b x h stored e =
    let r = of_flat stored_names elements x stored in
    let few : count_by (assigns x) elements ≤ 1 = own_block elements fit.blocks r.0 x r.1 r.2 in
    let same : count_by (is_block_of x) (built name elements).items ≡ count_by (assigns x) elements = ap (count_by (is_block_of x)) (items_of_all elements (empty name)) ∙ all_blocks elements x in
    record { has = line_there name elements (Block b) (BlockLine b) h (inl refl); assigns = e; alone = omega (arith, few, same) }
