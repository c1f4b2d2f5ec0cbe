-- A clock of an instance is joined to the clock.
use Rattle.std.proofs.Common.{◌≡◌, ℕ, ◌≤◌, Bool, true, false, ◌&&◌, List, ◌++◌, map, Some, inl, refl, sym, ap, subst, ◌∙◌, arith, ⊎_elim}
use Rattle.std.specs.Prelude.{codes, not, slice_get, slice_index}
use Rattle.std.specs.List.{flat_map}
use Rattle.std.specs.Cmp.Lexicographic.{bytes_decides}
use Rattle.std.proofs.lemmas.List.{append-nil}
use Rattle.tapa_syntax.specs.declared.program.Instance.{Instance}
use Rattle.tapa_syntax.specs.declared.program.Leaf.{Leaf}
use Rattle.tapa_syntax.specs.declared.program.Program.{Program}
use Rattle.task_fsm.specs.declared.machine.Fsm.{Fsm}
use Rattle.vlog_tree.specs.declared.tree.Connection.{Connection}
use Rattle.vlog_tree.specs.declared.tree.Item.{Item}
use Rattle.vlog_tree.specs.declared.tree.Item.TheVariants.{Instance as InstanceLine}
use Rattle.vlog_tree.specs.declared.tree.PortDecl.{PortDecl}
use Rattle.vlog_tree.specs.Form.{ModuleTree}
use Rattle.tapa_base.specs.Lists.{Has}
use Rattle.vlog_tree.specs.Labels.{rst}
use Rattle.vlog_tree.specs.Table.{Name, NameUse, clk, is_clk, times_in}
use Rattle.vlog_tree.specs.V6.{item_children, module_children, clock_connection, clock_connections}
use Rattle.tapa_base.proofs.Lists.{has_split, has_flat, of_flat, of_map}
use Rattle.vlog_module_laws.proofs.Larger.{named_has}
use Rattle.hw_build.specs.Elements.{Element, Instance as InstanceElement, element_items, empty}
use Rattle.hw_build.proofs.Tables.{items_of_all}
use Rattle.hw_channel_lines.specs.Names.{channel_name}
use Rattle.hw_channel_lines.specs.Texts.{connected_to}
use Rattle.hw_channel_laws.proofs.modules.Clear.{clocks}
use Rattle.hw_lines.specs.Texts.{task_name}
use Rattle.hw_top_laws.specs.joins.Joins.{joined_ports}
use Rattle.hw_top_lines.specs.Legal.{IsReady}
use Rattle.hw_top_lines.specs.Names.{task_instance, channel_instance}
use Rattle.hw_top_lines.specs.Texts.{ports, wires, doneness, token_bits, task_connections, channel_connections, instances, top_elements, top_tree}
use Rattle.hw_top_laws.specs.modules.Lower.{lower_modules, KeepPromises}
use Rattle.hw_top_laws.proofs.modules.Channels.{channel_are}
use Rattle.hw_top_laws.proofs.modules.Lower.{one_of, lower_ports}
use Rattle.hw_top_laws.proofs.modules.Tasks.{IsTask}
use Rattle.hw_top_laws.proofs.form.Drives.{standing_none}
use Rattle.hw_top_laws.proofs.form.Tasks.{part_at, child, named, ports_are, same}
use Rattle.hw_top_laws.proofs.design.Chains.{task_alone}
use Rattle.hw_top_laws.proofs.design.OrderParts.{IsOfTop, OfTask, OfChannel, in_instances}
use Rattle.hw_top_laws.proofs.design.Places.{same_connection}
use Rattle.std.proofs.lemmas.Bool.{not-true}
use Rattle.hw_build.proofs.Uses.{all_has}

-- a use that breaks no rule
abbrev pub IsKept : NameUse → Type 0
IsKept u = u.1 ≡ false

kept_by : (b c : Bool) → (b ≡ true → c ≡ true) → (b && not c) ≡ false
kept_by true true h = refl
kept_by true false h = let no : false ≡ true = h refl in cc
kept_by false c h = refl

clock_kept : (l : Connection) → (l.port ≡ clk → l.net ≡ clk) → IsKept (clock_connection l)
unfolding clock_connection
clock_kept l h = kept_by (is_clk l.port) (is_clk l.net) (λ e. (bytes_decides l.net clk).1 (h ((bytes_decides l.port clk).0 e)))

-- of an instance whose clock is joined to the clock
line_kept : (m : ModuleTree) → ((k i : Name) (ls : List Connection) → Has m.items (InstanceLine k i ls) → (l : Connection) → Has ls l → IsKept (clock_connection l)) → (it : Item) → Has m.items it → (u : NameUse)
    → Has (clock_connections it) u → IsKept u
line_kept m f (InstanceLine k i ls) h u c = let t = of_map clock_connection ls u c in subst IsKept t.2 (f k i ls h t.0 t.1)
line_kept m f _ h u c = absurd c

-- ---- the ends of a channel

channel_kept : (x : Name) (l : Connection) → Has (channel_connections x) l → IsKept (clock_connection l)
unfolding clock_connection clk rst
channel_kept x l h = not-true (clock_connection l).1 (all_has (λ (c : Connection). not (clock_connection c).1) (channel_connections x) refl l h)

clock_is : clk ≡ codes "clk"
unfolding clk
clock_is = refl

abbrev line_uses : Element → List NameUse
line_uses e = flat_map clock_connections (element_items e)

module _ (program : Program) (machines : List Fsm) (added : List ℕ) (ready : IsReady program machines added) (kept : KeepPromises program machines) where
  -- ---- the ends of a task

  task_clock : (i : ℕ) (x : Instance) (leaf : Leaf) → slice_get program.instances.items i ≡ Some x → slice_get program.bodies.items x.body ≡ Some leaf → (l : Connection) → Has (task_connections program i x leaf) l
      → l.port ≡ clk → l.net ≡ clk
  task_clock i x leaf g e l h p =
      let part = part_at program machines added ready kept i x leaf g e in
      let lower = lower_modules program machines added in
      let k = child program machines added ready kept i x leaf part in
      let there : Has lower k = named_has lower (task_name leaf.name) k (named program machines added ready kept i x leaf part) in
      let once = lower_ports program machines added ready kept k there l.port in
      let all = same program machines added ready kept i x leaf part l.port ∙ ap (λ (ps : List PortDecl). times_in (map (λ (q : PortDecl). q.name) ps) l.port) (sym (ports_are program machines added ready kept i x leaf part)) in
      let low : times_in (joined_ports (task_connections program i x leaf)) l.port ≤ 1 = omega (arith, once, all) in
      let c = connected_to (codes "clk") (codes "clk") in
      ap (λ (z : Connection). z.net) (same_connection (task_connections program i x leaf) l c h (inl refl) (p ∙ clock_is) low) ∙ sym clock_is

  -- ---- the top's lines

  joined_kept : (k i : Name) (ls : List Connection) → ((l : Connection) → Has ls l → IsKept (clock_connection l)) → (u : NameUse) → Has (line_uses (InstanceElement k i ls)) u → IsKept u
  joined_kept k i ls f u h =
      let t = of_map clock_connection ls u (subst (λ (l : List NameUse). Has l u) (append-nil (map clock_connection ls)) h) in
      subst IsKept t.2 (f t.0 t.1)

  part_kept : (e : Element) → IsOfTop program added e → (u : NameUse) → Has (line_uses e) u → IsKept u
  part_kept e (OfTask i x leaf g k s) u h =
      joined_kept (task_name leaf.name) (task_instance x.label) (task_connections program i x leaf) (λ l j. clock_kept l (task_clock i x leaf g k l j)) u (subst (λ z. Has (line_uses z) u) (sym s) h)
  part_kept e (OfChannel n r g s) u h =
      joined_kept (channel_name (token_bits r.kind) r.depth (slice_index added n)) (channel_instance r.label) (channel_connections r.label) (λ l j. channel_kept r.label l j) u (subst (λ z. Has (line_uses z) u) (sym s) h)

  element_kept : (e : Element) → Has (top_elements program added) e → (u : NameUse) → Has (line_uses e) u → IsKept u
  element_kept e h u k =
      let standing = ports program ++ wires program ++ doneness program in
      let none = standing_none line_uses program (λ w x v. refl) (λ w x. refl) (λ v. refl) (λ w x. refl) (λ w x. refl) in
      ⊎_elim (λ s. absurd (subst (λ (l : List NameUse). Has l u) none (has_flat line_uses standing e u s k))) (λ l. part_kept e (in_instances program added e l) u k)
      (has_split standing (instances program added) e h)

  pub top_clocks : (u : NameUse) → Has (flat_map clock_connections (top_tree program added).items) u → IsKept u
  top_clocks u h =
      let a = of_flat clock_connections (top_tree program added).items u h in
      let b = of_flat element_items (top_elements program added) a.0 (subst (λ (l : List Item). Has l a.0) (items_of_all (top_elements program added) (empty (task_name program.top))) a.1) in
      element_kept b.0 b.1 u (has_flat clock_connections (element_items b.0) a.0 u b.2 a.2)

  -- ---- the lines of the others

  task_kept : (m : ModuleTree) → IsTask program ready.told_apart machines ready.lowered m → (k i : Name) (ls : List Connection) → Has m.items (InstanceLine k i ls) → ⊥
  unfolding module_children
  task_kept m t k i ls h = task_alone program machines added ready kept m t k (has_flat item_children m.items (InstanceLine k i ls) k h (inl refl))

  pub lower_clocks : (m : ModuleTree) → Has (lower_modules program machines added) m → (u : NameUse) → Has (flat_map clock_connections m.items) u → IsKept u
  lower_clocks m h u k =
      let a = of_flat clock_connections m.items u k in
      ⊎_elim
      (λ c.
      line_kept m
      (λ n i ls j l q.
      clock_kept l
      (clocks (token_bits c.stream.kind) c.stream.depth (slice_index added c.number) _ (channel_are (token_bits c.stream.kind) c.stream.depth (slice_index added c.number)) m c.has n i ls j l q)) a.0 a.1 u a.2)
      (λ t. line_kept m (λ n i ls j l q. absurd (task_kept m t n i ls j)) a.0 a.1 u a.2)
      (one_of program machines added ready kept m h)
