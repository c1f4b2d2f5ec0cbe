-- The elements of the top have the form of parts of a module.
use Rattle.std.proofs.Common.{◌≡◌, ℕ, zero, suc, ◌+◌, ◌≤◌, true, ◌&&◌, List, [], ◌∷◌, ◌++◌, length, Option, Some, None, inl, refl, sym, ap, subst, ◌∙◌, arith}
use Rattle.std.specs.Prelude.{bytes_eq, nat_le, slice_get, slice_index, IsTrue}
use Rattle.std.specs.List.{list_all, flat_map}
use Rattle.std.proofs.lemmas.Grind.{flat_map-append}
use Rattle.tapa_base.specs.Kinds.{bits_of}
use Rattle.tapa_syntax.specs.declared.program.Memory.{Memory}
use Rattle.tapa_syntax.specs.declared.program.Program.{Program}
use Rattle.tapa_syntax.specs.declared.program.Scalar.{Scalar}
use Rattle.tapa_syntax.specs.declared.program.Stream.{Stream}
use Rattle.task_fsm.specs.declared.machine.Fsm.{Fsm}
use Rattle.vlog_tree.specs.Labels.{rst, m_ack, m_rdata, m_addr, m_wdata, m_we, s_din, s_wr, s_rdy, scalar}
use Rattle.vlog_tree.specs.Names.{is_name}
use Rattle.vlog_tree.specs.Table.{Name, clk, times_in}
use Rattle.vlog_tree.specs.V3.{is_width}
use Rattle.hw_build.specs.Elements.{Element, Input, Outlet, InstanceWire, Instance as InstanceElement}
use Rattle.hw_build.specs.Forms.{is_element}
use Rattle.hw_build.proofs.Forms.{all_append}
use Rattle.hw_build.proofs.Tables.{count_append}
use Rattle.hw_build.proofs.Uses.{all_of_both}
use Rattle.hw_build.specs.Scope.{each, FitInOrder}
use Rattle.hw_build.specs.Fits.{declared_names, targets, AreOnce}
use Rattle.hw_build.proofs.Form.{alone_has_form}
use Rattle.hw_build.proofs.Parts.{has_each, parts_fit, each_part_fits}
use Rattle.hw_channel_lines.specs.Names.{channel_name}
use Rattle.hw_lines.specs.Texts.{task_name}
use Rattle.hw_task_laws.proofs.names.Empty.{GiveNone, both_none, each_none}
use Rattle.hw_task_laws.proofs.fit.Scopes.{input_net, kind_wide, token_wide}
use Rattle.hw_top_laws.proofs.joins.Joined.{joined_has_form}
use Rattle.hw_top_lines.specs.Names.{s_has, s_dout, s_take, task_instance, channel_instance, ended_net}
use Rattle.hw_top_lines.specs.Legal.{IsReady}
use Rattle.hw_top_lines.specs.Texts.{scalar_port, memory_ports, ports, token_bits, stream_wires, task_connections, ended_wire, doneness, channel_connections, wires, instances, top_elements}
use Rattle.hw_top_laws.specs.modules.Lower.{lower_modules, KeepPromises}
use Rattle.hw_top_laws.proofs.modules.Lower.{lower_form}
use Rattle.hw_top_laws.proofs.names.Top.{top_once, top_named}
use Rattle.hw_top_laws.proofs.form.Channels.{channel_joined}
use Rattle.hw_top_laws.proofs.form.Drives.{bounds_none, done_none}
use Rattle.hw_top_laws.proofs.form.Order.{bounds_fit, done_fits}
use Rattle.hw_top_laws.proofs.form.PartByPart.{ports_by, wires_by, instances_by, top_by}
use Rattle.hw_top_laws.specs.joins.Joins.{IsJoined}
use Rattle.vlog_tree.specs.declared.tree.Connection.{Connection}
use Rattle.hw_top_laws.proofs.form.Standing.{standing, scalars, memories, streams, bounds, ends, takes}
use Rattle.hw_top_laws.proofs.form.Tasks.{part_at, task_joined}
use Rattle.tapa_base.proofs.Tests.{both_true}
use Rattle.std.proofs.lemmas.Bool.{and_from as yes_and}

-- a width and a name
sized : (w : ℕ) (x : Name) → IsTrue (is_width w) → is_name x ≡ true → (nat_le 1 w && is_name x) ≡ true
sized w x h n = yes_and (nat_le 1 w) (is_name x) (both_true (nat_le 1 w) (nat_le w 128) h).0 n

-- how often a name stands in parts of a list
names_append : (xs ys : List Element) (x : Name) → times_in (flat_map declared_names (xs ++ ys)) x ≡ times_in (flat_map declared_names xs) x + times_in (flat_map declared_names ys) x
names_append xs ys x = ap (λ l. times_in l x) (flat_map-append declared_names xs ys) ∙ count_append (λ y. bytes_eq y x) (flat_map declared_names xs) (flat_map declared_names ys)

first_names : (es : List Element) (x : Name) → times_in (clk ∷ rst ∷ flat_map declared_names es) x ≡ times_in (clk ∷ rst ∷ []) x + times_in (flat_map declared_names es) x
first_names es x = count_append (λ y. bytes_eq y x) (clk ∷ rst ∷ []) (flat_map declared_names es)

no_targets_once : (es : List Element) → GiveNone targets es → AreOnce (flat_map targets es)
no_targets_once es e = subst AreOnce (sym e) (λ x. omega arith)

module _ (program : Program) (machines : List Fsm) (added : List ℕ) (ready : IsReady program machines added) (kept : KeepPromises program machines) where
  abbrev top : List Element
  top = top_elements program added

  abbrev n : ℕ
  n = length program.instances.items

  once : AreOnce (clk ∷ rst ∷ flat_map declared_names top)
  once = top_once program added ready.well_formed ready.told_apart ready.countable

  named : list_all is_name (flat_map declared_names top) ≡ true
  named = top_named program added ready.well_formed ready.told_apart ready.countable

  abbrev AreNamed : List Element → Type 0
  AreNamed es = list_all is_name (flat_map declared_names es) ≡ true

  -- the names of a part are names
  part_named : (xs ys : List Element) → AreNamed (xs ++ ys) → AreNamed xs × AreNamed ys
  part_named xs ys h = all_of_both is_name (flat_map declared_names xs) (flat_map declared_names ys) (ap (λ l. list_all is_name l) (sym (flat_map-append declared_names xs ys)) ∙ h)

  standing_named : AreNamed (standing program)
  standing_named = (part_named (standing program) (instances program added) named).0

  ports_and_wires : AreNamed (ports program) × AreNamed (wires program)
  ports_and_wires = part_named (ports program) (wires program) (part_named (ports program ++ wires program) (doneness program) standing_named).0

  first_named : (e : Element) (es : List Element) (x : Name) → declared_names e ≡ x ∷ [] → AreNamed (e ∷ es) → (is_name x ≡ true) × AreNamed es
  first_named e es x is h =
      let s : list_all is_name ((x ∷ []) ++ flat_map declared_names es) ≡ true = ap (λ l. list_all is_name (l ++ flat_map declared_names es)) (sym is) ∙ h in
      both_true (is_name x) (list_all is_name (flat_map declared_names es)) s

  -- ---- ports and links

  -- the form of elements whose names are names
  abbrev HaveForm : List Element → Type 0
  HaveForm es = AreNamed es → list_all is_element es ≡ true

  both_form : (xs ys : List Element) → HaveForm xs → HaveForm ys → HaveForm (xs ++ ys)
  both_form xs ys f g h = let p = part_named xs ys h in all_append is_element xs ys (f p.0) (g p.1)

  -- a port or a link
  one_form : (e : Element) (w : ℕ) (x : Name) → declared_names e ≡ x ∷ [] → IsTrue (is_width w) → is_element e ≡ (nat_le 1 w && is_name x) → HaveForm (e ∷ [])
  one_form e w x is wide form h = yes_and (is_element e) true (form ∙ sized w x wide (first_named e [] x is h).0) refl

  more_form : (e : Element) (es : List Element) (w : ℕ) (x : Name) → declared_names e ≡ x ∷ [] → IsTrue (is_width w) → is_element e ≡ (nat_le 1 w && is_name x) → HaveForm es → HaveForm (e ∷ es)
  more_form e es w x is wide form rest h = both_form (e ∷ []) es (one_form e w x is wide form) rest h

  memory_form : (k : ℕ) (m : Memory) → slice_get program.memories.items k ≡ Some m → HaveForm (memory_ports (Some m))
  memory_form k m e =
      let b = bits_of m.kind in
      let e2 = Outlet b (m_wdata m.name) in
      let e3 = Outlet 1 (m_we m.name) in
      let e4 = Input 1 (m_ack m.name) in
      let e5 = Input b (m_rdata m.name) in
      more_form (Outlet 64 (m_addr m.name)) (e2 ∷ e3 ∷ e4 ∷ e5 ∷ []) 64 (m_addr m.name) refl refl refl
      (more_form e2 (e3 ∷ e4 ∷ e5 ∷ []) b (m_wdata m.name) refl (kind_wide m.kind) refl
      (more_form e3 (e4 ∷ e5 ∷ []) 1 (m_we m.name) refl refl refl
      (more_form e4 (e5 ∷ []) 1 (m_ack m.name) refl refl refl (one_form e5 b (m_rdata m.name) refl (kind_wide m.kind) refl))))

  stream_form : (s : ℕ) (r : Stream) → slice_get program.streams.items s ≡ Some r → HaveForm (stream_wires (Some r))
  stream_form s r e =
      let b = token_bits r.kind in
      let e2 = InstanceWire 1 (s_wr r.label) in
      let e3 = InstanceWire 1 (s_rdy r.label) in
      let e4 = InstanceWire 1 (s_has r.label) in
      let e5 = InstanceWire b (s_dout r.label) in
      more_form (InstanceWire b (s_din r.label)) (e2 ∷ e3 ∷ e4 ∷ e5 ∷ []) b (s_din r.label) refl (token_wide r.kind) refl
      (more_form e2 (e3 ∷ e4 ∷ e5 ∷ []) 1 (s_wr r.label) refl refl refl
      (more_form e3 (e4 ∷ e5 ∷ []) 1 (s_rdy r.label) refl refl refl
      (more_form e4 (e5 ∷ []) 1 (s_has r.label) refl refl refl (one_form e5 b (s_dout r.label) refl (token_wide r.kind) refl))))

  -- ---- scalar parameters, beside the scalars

  bounds_among : (x : Name) → times_in (flat_map declared_names (scalars program ++ bounds program)) x ≤ times_in (flat_map declared_names top) x
  bounds_among x =
      let a = names_append (scalars program) (bounds program) x in
      let b = names_append (standing program) (instances program added) x in
      let c = names_append (scalars program) (memories program) x in
      let d = names_append (ports program ++ wires program) (doneness program) x in
      let e = names_append (ports program) (wires program) x in
      let f = names_append (streams program ++ bounds program ++ ends program) (takes program) x in
      let g = names_append (streams program ++ bounds program) (ends program) x in
      let h = names_append (streams program) (bounds program) x in
      omega (arith, a, b, c, d, e, f, g, h)

  bounds_form : HaveForm (bounds program)
  bounds_form h =
      let p = part_named (scalars program) (memories program) ports_and_wires.0 in
      let all : AreNamed (scalars program ++ bounds program) =
      ap (λ l. list_all is_name l) (flat_map-append declared_names (scalars program) (bounds program)) ∙ all_append is_name (flat_map declared_names (scalars program)) (flat_map declared_names (bounds program)) p.0 h in
      let alone = alone_has_form (scalars program ++ bounds program)
      (record {
        order = parts_fit [] (scalars program) (bounds program) scalars_fit (bounds_fit program machines added ready kept);
        names = λ x. let a = first_names (scalars program ++ bounds program) x in let b = first_names top x in let c = bounds_among x in let d = once x in omega (arith, a, b, c, d);
        blocks = no_targets_once (scalars program ++ bounds program)
            (both_none targets (scalars program) (bounds program) (each_none targets (λ x. scalar_port (slice_get program.scalars.items x)) (length program.scalars.items) (λ x. targets_none (slice_get program.scalars.items x)))
            (bounds_none targets (λ w x v. refl) program));
      }) all in
      (all_of_both is_element (scalars program) (bounds program) alone).1 where
        targets_none : (o : Option Scalar) → GiveNone targets (scalar_port o)
        targets_none None = refl
        targets_none (Some c) = refl

        scalar_fits : (o : Option Scalar) → FitInOrder [] (scalar_port o)
        scalar_fits None = tt
        scalar_fits (Some c) = (kind_wide c.kind, tt)

        scalars_fit : FitInOrder [] (scalars program)
        scalars_fit = each_part_fits [] (λ x. scalar_port (slice_get program.scalars.items x)) (length program.scalars.items) (λ k l. scalar_fits (slice_get program.scalars.items k))

  -- ---- when all is done, beside the ends as inputs

  abbrev ended_input : ℕ → List Element
  ended_input i = Input 1 (ended_net i) ∷ []

  abbrev inputs : List Element
  inputs = each ended_input n

  same_names : (k : ℕ) → flat_map declared_names (each ended_input k) ≡ flat_map declared_names (each ended_wire k)
  same_names zero = refl
  same_names (suc k) =
      flat_map-append declared_names (each ended_input k) (ended_input k) ∙ ap (λ l. l ++ ended_net k ∷ []) (same_names k) ∙ sym (flat_map-append declared_names (each ended_wire k) (ended_wire k))

  done_among : (x : Name) → times_in (flat_map declared_names (inputs ++ doneness program)) x ≤ times_in (flat_map declared_names top) x
  done_among x =
      let a = names_append inputs (doneness program) x in
      let s = ap (λ l. times_in l x) (same_names n) in
      let b = names_append (standing program) (instances program added) x in
      let d = names_append (ports program ++ wires program) (doneness program) x in
      let e = names_append (ports program) (wires program) x in
      let f = names_append (streams program ++ bounds program ++ ends program) (takes program) x in
      let g = names_append (streams program ++ bounds program) (ends program) x in
      omega (arith, a, s, b, d, e, f, g)

  done_form : HaveForm (doneness program)
  done_form h =
      let ends_named : AreNamed (ends program) = (part_named (streams program ++ bounds program) (ends program) (part_named (streams program ++ bounds program ++ ends program) (takes program) ports_and_wires.1).0).1 in
      let inputs_named : AreNamed inputs = ap (λ l. list_all is_name l) (same_names n) ∙ ends_named in
      let all : AreNamed (inputs ++ doneness program) =
      ap (λ l. list_all is_name l) (flat_map-append declared_names inputs (doneness program)) ∙ all_append is_name (flat_map declared_names inputs) (flat_map declared_names (doneness program)) inputs_named h in
      let alone = alone_has_form (inputs ++ doneness program)
      (record {
        order = parts_fit [] inputs (doneness program) (each_part_fits [] ended_input n (λ k l. (refl, tt)))
            (done_fits program inputs (λ i l. input_net inputs 1 (ended_net i) (has_each ended_input n i (Input 1 (ended_net i)) l (inl refl))));
        names = λ x. let a = first_names (inputs ++ doneness program) x in let b = first_names top x in let c = done_among x in let d = once x in omega (arith, a, b, c, d);
        blocks = no_targets_once (inputs ++ doneness program)
            (both_none targets inputs (doneness program) (each_none targets ended_input n (λ i. refl))
            (done_none targets (λ w x v. refl) program (λ v. refl)));
      }) all in
      (all_of_both is_element inputs (doneness program) alone).1

  -- ---- instances

  instance_form : (k i : Name) (ls : List Connection) → IsJoined (lower_modules program machines added) (standing program) k ls → HaveForm (InstanceElement k i ls ∷ [])
  instance_form k i ls joined h =
      let p = first_named (InstanceElement k i ls) [] i refl h in
      yes_and (is_element (InstanceElement k i ls)) true (joined_has_form (lower_modules program machines added) (standing program) k i ls (lower_form program machines added ready kept) standing_named p.0 joined) refl

  pub elements_form : list_all is_element (top_elements program added) ≡ true
  elements_form =
      let none : HaveForm [] = λ h. refl in
      top_by HaveForm none both_form program added
      (ports_by HaveForm none both_form program (λ k c e. one_form (Input (bits_of c.kind) (scalar c.name)) (bits_of c.kind) (scalar c.name) refl (kind_wide c.kind) refl) memory_form)
      (wires_by HaveForm none both_form program stream_form bounds_form (λ i l. one_form (InstanceWire 1 (ended_net i)) 1 (ended_net i) refl refl refl) (λ s r e. one_form (InstanceWire 1 (s_take r.label)) 1 (s_take r.label) refl refl refl))
      done_form
      (instances_by HaveForm none both_form program added
      (λ i x leaf g e.
      instance_form (task_name leaf.name) (task_instance x.label) (task_connections program i x leaf) (task_joined program machines added ready kept i x leaf (part_at program machines added ready kept i x leaf g e)))
      (λ s r e.
      instance_form (channel_name (token_bits r.kind) r.depth (slice_index added s)) (channel_instance r.label) (channel_connections r.label) (channel_joined program machines added ready kept s r e))) named
