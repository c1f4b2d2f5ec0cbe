-- The scalar parameters of an instance have the values that they are bound to.
use Rattle.std.proofs.Common.{◌≡◌, ℕ, zero, suc, ◌+◌, ◌-◌, ◌<◌, ◌≤◌, List, [], ◌∷◌, length, drop, Bool, Option, Some, None, inl, refl, sym, ap, subst, ◌∙◌, arith, add-one}
use Rattle.std.specs.Prelude.{slice_get, slice_index, slice_index_or, option_map, unwrap_or, if◌then◌else◌}
use Rattle.std.proofs.lemmas.Bool.{ne_eqb}
use Rattle.std.proofs.lemmas.List.{length-drop}
use Rattle.std.proofs.lemmas.Option.{slice_get-map, get_or_from_slice_get, same_Some}
use Rattle.tapa_base.specs.declared.kind.Kind.{Kind}
use Rattle.tapa_base.specs.declared.kind.Kind.TheVariants.{U64}
use Rattle.tapa_base.specs.declared.shape.Port.{Port}
use Rattle.tapa_base.specs.Kinds.{bits_of, values_of, converted}
use Rattle.tapa_syntax.proofs.Values.{converted_fits}
use Rattle.tapa_syntax.specs.WellFormed.{IsBoundTo, last_kind}
use Rattle.tapa_syntax.specs.declared.program.Bound.{Bound}
use Rattle.tapa_syntax.specs.declared.program.Bound.TheVariants.{Number, Top}
use Rattle.tapa_syntax.specs.declared.program.Instance.{Instance}
use Rattle.tapa_syntax.specs.declared.program.Leaf.{Leaf}
use Rattle.tapa_syntax.specs.declared.program.Program.{Program}
use Rattle.tapa_syntax.specs.declared.program.Scalar.{Scalar}
use Rattle.kahn_model.specs.Start.{bound_value, kinds_in, through}
use Rattle.vlog_tree.specs.declared.tree.Atom.{Atom}
use Rattle.vlog_tree.specs.declared.tree.Atom.TheVariants.{Net, Literal}
use Rattle.vlog_tree.specs.declared.tree.Item.TheVariants.{Wire as WireLine}
use Rattle.vlog_tree.specs.declared.tree.Value.{Value}
use Rattle.vlog_tree.specs.declared.tree.Value.TheVariants.{Plain}
use Rattle.vlog_tree.specs.Cycle.{Cycle, Path, Runs, Follows, Sizes, driven}
use Rattle.vlog_tree.specs.Environment.{Environment, FitsShape, shape_of}
use Rattle.vlog_run_laws.specs.Beside.{StandsBeside}
use Rattle.vlog_tree.specs.Form.{ModuleTree}
use Rattle.tapa_base.specs.Lists.{Has}
use Rattle.vlog_tree.specs.Labels.{scalar}
use Rattle.vlog_tree.specs.Table.{Name}
use Rattle.tapa_base.proofs.Lists.{has_left, has_right}
use Rattle.vlog_module_laws.proofs.Lines.{line}
use Rattle.hw_build.specs.Elements.{Element, Wire}
use Rattle.hw_build.proofs.Driven.{line_there, wire_driven}
use Rattle.hw_build.specs.Scope.{each}
use Rattle.hw_build.proofs.Parts.{has_each}
use Rattle.hw_lines.specs.Drivers.{wires_of, last_of, conversion}
use Rattle.hw_lines.specs.Texts.{task_name}
use Rattle.hw_task_laws.specs.wires.Shows.{Shows}
use Rattle.hw_task_laws.proofs.wires.Shown.{conversion_shown}
use Rattle.hw_top_lines.specs.Bounds.{scalar_kind, scalar_name, parameter_kind, kind_before, conversion_step, bound_nets, bound_elements, bound_by}
use Rattle.hw_top_lines.specs.Legal.{scalar_ports}
use Rattle.hw_top_lines.specs.Names.{bound_net}
use Rattle.hw_top_lines.specs.Texts.{top_elements, top_tree}
use Rattle.hw_top_laws.proofs.runs.Elements.{of_parameters}
use Rattle.kahn_model.proofs.FitsNetwork.{through_fits}

pub some_of : {A B : Type 0} (f : A → B) (o : Option A) (y : B) → option_map f o ≡ Some y → (x : A) × (o ≡ Some x) × (f x ≡ y)
some_of f None y e = cc
some_of f (Some x) y e = (x, refl, same_Some (f x) y e)

-- the kind at a place of a chain, and those behind it
record IsNextKind (kinds : List Kind) (step : ℕ) (to : Kind) (rest : List Kind) : Type 0 where
  low : step < length kinds
  is : slice_index_or kinds step U64 ≡ to
  behind : drop (suc step) kinds ≡ rest

next_of : (kinds : List Kind) (step : ℕ) (to : Kind) (rest : List Kind) → drop step kinds ≡ to ∷ rest → IsNextKind kinds step to rest
next_of [] zero to rest e = cc
next_of [] (suc step) to rest e = cc
next_of (k ∷ kinds) zero to rest e = record { low = omega arith; is = cc; behind = cc }
next_of (k ∷ kinds) (suc step) to rest e = let t = next_of kinds step to rest e in record { low = (let l = t.low in omega (arith, l)); is = t.is; behind = t.behind }

module _ (program : Program) (added : List ℕ) (all : List ModuleTree) (nets : ℕ → Path → Cycle) (runs : Runs all (top_tree program added) nets) where
  follows : Follows (top_tree program added) (λ n. nets n [])
  follows = runs.each [] (top_tree program added) refl

  abbrev s : Sizes
  s = follows.sizes

  said : (n w : ℕ) (x : Name) (v : Value) → Has (top_elements program added) (Wire w x v) → ((nets n []).net x ≡ driven s w (nets n []) v) × (s.width x ≡ w)
  said n w x v h = (
    wire_driven (task_name program.top) (top_elements program added) (λ k. nets k []) follows w x v h n,
    (line (top_tree program added) (λ k. nets k []) follows (WireLine w x) (line_there (task_name program.top) (top_elements program added) (Wire w x v) (WireLine w x) h (inl refl))).holds n,
  )

  -- ---- one chain of conversions

  module _ (n i p : ℕ) (first : Kind) (kinds : List Kind) (into : (step : ℕ) → step < length kinds → (e : Element) → Has (conversion_step i p first kinds step) e → Has (top_elements program added) e) where
    abbrev c : Cycle
    c = nets n []

    abbrev before : ℕ → Kind
    before step = kind_before first kinds step

    abbrev behind : ℕ → Kind
    behind step = slice_index_or kinds step U64

    next_kind : (step : ℕ) → before (step + 1) ≡ behind step
    next_kind step =
        let e : step + 1 - 1 ≡ step = omega arith in
        ap (λ (b : Bool). if b then first else slice_index_or kinds (step + 1 - 1) U64) (ne_eqb (step + 1) 0 (λ z. omega arith)) ∙ ap behind e

    shown_next : (step : ℕ) → step < length kinds → (v : ℕ) → v < values_of (before step) → Shows s c (Net (bound_net i p step)) (bits_of (before step)) v
        → Shows s c (Net (bound_net i p (step + 1))) (bits_of (behind step)) (converted (before step) (behind step) v)
    shown_next step low v f h =
        let x = bound_net i p (step + 1) in
        let a : Atom = Net (bound_net i p step) in
        let drivers = conversion x 0 (before step) (behind step) a in
        let wires = wires_of x 0 drivers in
        let last = last_of x 0 drivers a in
        let own : Element = Wire (bits_of (behind step)) x (Plain last) in
        let shown : Shows s c last (bits_of (behind step)) (converted (before step) (behind step) v)
        = conversion_shown s c (before step) (behind step) x 0 v a f h (λ w y d m. said n w y d (into step low (Wire w y d) (has_left wires (own ∷ []) (Wire w y d) m))) in
        let here = said n (bits_of (behind step)) x (Plain last) (into step low own (has_right wires (own ∷ []) own (inl refl))) in
        record { whole = tt; width = here.1; value = here.0 ∙ shown.value }

    chain : (rest : List Kind) (step v : ℕ) → drop step kinds ≡ rest → step ≤ length kinds → v < values_of (before step) → Shows s c (Net (bound_net i p step)) (bits_of (before step)) v
        → c.net (bound_net i p (length kinds)) ≡ through (before step) rest v
    chain [] step v e l f h =
        let d = length-drop step kinds in
        let z : length (drop step kinds) ≡ 0 = ap length e in
        let same : length kinds ≡ step = omega arith in
        ap (λ k. c.net (bound_net i p k)) same ∙ h.value
    chain (to ∷ rest) step v e l f h =
        let t = next_of kinds step to rest e in
        let low = t.low in
        let k = next_kind step in
        let w = converted (before step) to v in
        let shown = shown_next step t.low v f h in
        let of_to = subst (λ j. Shows s c (Net (bound_net i p (step + 1))) (bits_of (behind step)) (converted (before step) j v)) t.is shown in
        chain rest (step + 1) w (ap (λ z. drop z kinds) (add-one step) ∙ t.behind) (omega arith) (subst (λ j. w < values_of j) (sym (k ∙ t.is)) (converted_fits (before step) to v))
        (subst (λ j. Shows s c (Net (bound_net i p (step + 1))) (bits_of j) w) (sym k) of_to)
        ∙ ap (λ j. through j rest w) (k ∙ t.is)

  -- ---- the scalars of the top

  module _ (env : Environment) (acks : ℕ → ℕ → Bool) (stands : StandsBeside (top_tree program added) env acks (λ n. nets n [])) (shape : (shape_of (top_tree program added)).scalars ≡ scalar_ports program) (env_fits : FitsShape env (shape_of (top_tree program added))) where
    abbrev port_of : Scalar → Port
    port_of c = record { name = c.name; bits = bits_of c.kind }

    scalar_port : (y : ℕ) (c : Scalar) → slice_get program.scalars.items y ≡ Some c → slice_get (shape_of (top_tree program added)).scalars y ≡ Some (port_of c)
    scalar_port y c e = ap (λ l. slice_get l y) shape ∙ slice_get-map port_of program.scalars.items y ∙ ap (option_map port_of) e

    scalar_value : (n y : ℕ) (c : Scalar) → slice_get program.scalars.items y ≡ Some c → (nets n []).net (scalar (scalar_name program y)) ≡ slice_index env.scalars y
    scalar_value n y c e =
        ap (λ o. (nets n []).net (scalar (unwrap_or (option_map (λ (z : Scalar). z.name) o) []))) e
        ∙ stands.scalars n y (port_of c) (scalar_port y c e)

    scalar_fits : (y : ℕ) (c : Scalar) → slice_get program.scalars.items y ≡ Some c → slice_index env.scalars y < values_of c.kind
    scalar_fits y c e =
        env_fits.numbers.scalars_fit y (bits_of c.kind)
        (slice_get-map (λ (l : Port). l.bits) (shape_of (top_tree program added)).scalars y ∙ ap (option_map (λ (l : Port). l.bits)) (scalar_port y c e))

    -- the kind of a scalar, as each of the definitions names it
    kind_there : (y : ℕ) (c : Scalar) → slice_get program.scalars.items y ≡ Some c → scalar_kind program y ≡ c.kind
    kind_there y c e = ap (λ o. unwrap_or (option_map (λ (z : Scalar). z.kind) o) U64) e

    kind_in : (y : ℕ) (c : Scalar) → slice_get program.scalars.items y ≡ Some c → slice_index_or (kinds_in program) y U64 ≡ c.kind
    kind_in y c e = get_or_from_slice_get (kinds_in program) y c.kind U64 (slice_get-map (λ (z : Scalar). z.kind) program.scalars.items y ∙ ap (option_map (λ (z : Scalar). z.kind)) e)

    -- ---- what a parameter is bound to

    -- a bound to a constant or to a scalar of the top gives a value of the parameter's kind
    pub bound_fits : (k : Kind) (b : Bound) → IsBoundTo program k b → bound_value (kinds_in program) env.scalars b < values_of k
    bound_fits k (Number m) h = h
    bound_fits k (Top y kinds) h =
        let t = some_of (λ (z : Scalar). z.kind) (slice_get program.scalars.items y) h.0 (sym (slice_get-map (λ (z : Scalar). z.kind) program.scalars.items y) ∙ h.1) in
        let own = scalar_fits y t.0 t.1 in
        let low = through_fits t.0.kind kinds.items (slice_index env.scalars y) own in
        let same : slice_index_or (kinds_in program) y U64 ≡ t.0.kind = kind_in y t.0 t.1 in
        subst (λ j. through j kinds.items (slice_index env.scalars y) < values_of k) (sym same)
        (subst (λ j. through t.0.kind kinds.items (slice_index env.scalars y) < values_of j) (ap (λ j. last_kind j kinds.items) t.2 ∙ h.2) low)

    bound_is : (n i p : ℕ) (k : Kind) (b : Bound) → IsBoundTo program k b → ((e : Element) → Has (bound_nets program i p k b) e → Has (top_elements program added) e)
        → (nets n []).net (bound_by i p (Some b)) ≡ bound_value (kinds_in program) env.scalars b
    bound_is n i p k (Number m) h into = (said n (bits_of k) (bound_net i p 0) (Plain (Literal (bits_of k) m)) (into (Wire (bits_of k) (bound_net i p 0) (Plain (Literal (bits_of k) m))) (inl refl))).0
    bound_is n i p k (Top y kinds) h into =
        let t = some_of (λ (z : Scalar). z.kind) (slice_get program.scalars.items y) h.0 (sym (slice_get-map (λ (z : Scalar). z.kind) program.scalars.items y) ∙ h.1) in
        let K = scalar_kind program y in
        let v = slice_index env.scalars y in
        let own : Element = Wire (bits_of K) (bound_net i p 0) (Plain (Net (scalar (scalar_name program y)))) in
        let steps = each (conversion_step i p K kinds.items) (length kinds.items) in
        let here = said n (bits_of K) (bound_net i p 0) (Plain (Net (scalar (scalar_name program y)))) (into own (has_left (own ∷ []) steps own (inl refl))) in
        let same : K ≡ t.0.kind = kind_there y t.0 t.1 in
        let shown : Shows s (nets n []) (Net (bound_net i p 0)) (bits_of K) v = record { whole = tt; width = here.1; value = here.0 ∙ scalar_value n y t.0 t.1 } in
        chain n i p K kinds.items (λ step low e m. into e (has_right (own ∷ []) steps e (has_each (conversion_step i p K kinds.items) (length kinds.items) step e low m))) kinds.items 0 v refl (omega arith)
        (subst (λ j. v < values_of j) (sym same) (scalar_fits y t.0 t.1)) shown
        ∙ ap (λ j. through j kinds.items v) (same ∙ sym (kind_in y t.0 t.1))

    -- the net that a parameter of an instance is joined to
    pub parameter_is : (i : ℕ) (x : Instance) (leaf : Leaf) → slice_get program.instances.items i ≡ Some x → slice_get program.bodies.items x.body ≡ Some leaf
        → (p : ℕ) (b : Bound) → p < length leaf.scalars.items → slice_get x.scalars.items p ≡ Some b → IsBoundTo program (parameter_kind leaf p) b → (n : ℕ)
        → (nets n []).net (bound_by i p (slice_get x.scalars.items p)) ≡ bound_value (kinds_in program) env.scalars b
    parameter_is i x leaf at body p b l e h n =
        ap (λ o. (nets n []).net (bound_by i p o)) e
        ∙ bound_is n i p (parameter_kind leaf p) b h
        (λ z m.
        of_parameters program added i x leaf at body z
        (has_each (λ q. bound_elements program i q (parameter_kind leaf q) (slice_get x.scalars.items q)) (length leaf.scalars.items) p z l
        (subst (λ es. Has es z) (sym (ap (bound_elements program i p (parameter_kind leaf p)) e)) m)))
