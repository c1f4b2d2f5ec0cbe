-- The nets of scalar parameters fit behind the scalars, and the last of each has the bits of the parameter.
use Rattle.std.proofs.Common.{◌≡◌, ℕ, zero, suc, ◌+◌, ◌-◌, ◌<◌, cond, List, [], ◌∷◌, ◌++◌, length, Option, Some, None, inl, inr, refl, sym, ap, subst, ◌∙◌, arith}
use Rattle.std.specs.Prelude.{map, option_map, unwrap_or, slice_get, slice_index_or}
use Rattle.std.proofs.lemmas.Bool.{ne_eqb}
use Rattle.std.proofs.lemmas.Option.{slice_get-map, get_or_from_slice_get}
use Rattle.tapa_base.specs.declared.kind.Kind.{Kind}
use Rattle.tapa_base.specs.declared.kind.Kind.TheVariants.{U64}
use Rattle.tapa_base.specs.Kinds.{bits_of}
use Rattle.tapa_syntax.specs.declared.program.Bound.{Bound}
use Rattle.tapa_syntax.specs.declared.program.Bound.TheVariants.{Number, Top}
use Rattle.tapa_syntax.specs.declared.program.Instance.{Instance}
use Rattle.tapa_syntax.specs.declared.program.Leaf.{Leaf}
use Rattle.tapa_syntax.specs.declared.program.Program.{Program}
use Rattle.tapa_syntax.specs.declared.program.Scalar.{Scalar}
use Rattle.tapa_syntax.specs.WellFormed.{IsInstance, IsBoundTo, last_kind}
use Rattle.vlog_tree.specs.declared.tree.Atom.TheVariants.{Net, Literal}
use Rattle.vlog_tree.specs.declared.tree.Value.TheVariants.{Plain}
use Rattle.tapa_base.specs.Lists.{Has}
use Rattle.vlog_tree.specs.Labels.{scalar}
use Rattle.vlog_tree.specs.Table.{Name}
use Rattle.tapa_base.proofs.Lists.{has_left, has_right}
use Rattle.hw_build.specs.Elements.{Element, Wire}
use Rattle.hw_build.specs.Scope.{each, IsNet, FitInOrder}
use Rattle.hw_build.specs.Fits.{IsAmong}
use Rattle.hw_build.proofs.Parts.{has_each, parts_fit, each_part_fits}
use Rattle.hw_lines.specs.Drivers.{wires_of, last_of, conversion}
use Rattle.hw_task_laws.proofs.fit.Operators.{conversion_driven}
use Rattle.hw_task_laws.proofs.fit.Scopes.{left_among, right_among, both_among, wire_net, input_net, net_in, kind_wide}
use Rattle.hw_top_lines.specs.Names.{bound_net}
use Rattle.hw_top_lines.specs.Bounds.{scalar_kind, scalar_name, parameter_kind, converted_net, kind_before, conversion_step, bound_nets, bound_elements, conversions, bound_by, parameters}
use Rattle.hw_top_laws.proofs.form.Standing.{scalars, scalar_there}
use Rattle.tapa_base.proofs.Got.{some_at as got_some}

-- ---- chains of conversions

converted_fits : (all : List Element) (x : Name) (source target : Kind) (old : Name) → IsNet all old (bits_of source) → FitInOrder all (converted_net x source target old)
converted_fits all x source target old h =
    let d = conversion_driven all x 0 source target (Net old) tt h in
    let drivers = conversion x 0 source target (Net old) in
    parts_fit all (wires_of x 0 drivers) (Wire (bits_of target) x (Plain (last_of x 0 drivers (Net old))) ∷ []) d.fits ((kind_wide target, d.atom), tt)

converted_there : (x : Name) (source target : Kind) (old : Name) → IsNet (converted_net x source target old) x (bits_of target)
converted_there x source target old =
    let drivers = conversion x 0 source target (Net old) in
    let last = Plain (last_of x 0 drivers (Net old)) in
    wire_net (converted_net x source target old) (bits_of target) x last (has_right (wires_of x 0 drivers) (Wire (bits_of target) x last ∷ []) (Wire (bits_of target) x last) (inl refl))

-- the kind before the next step is the one of this step
next_kind : (first : Kind) (kinds : List Kind) (n : ℕ) → kind_before first kinds (suc n) ≡ slice_index_or kinds n U64
next_kind first kinds n =
    let e : suc n - 1 ≡ n = omega arith in
    ap (λ b. cond b first (slice_index_or kinds (suc n - 1) U64)) (ne_eqb (suc n) 0 (λ s. omega (arith, s))) ∙ ap (λ k. slice_index_or kinds k U64) e

last_at : (j : Kind) (kinds : List Kind) → slice_index_or (j ∷ kinds) (length kinds) U64 ≡ last_kind j kinds
last_at j [] = refl
last_at j (l ∷ kinds) = last_at l kinds

kind_behind : (first : Kind) (kinds : List Kind) → kind_before first kinds (length kinds) ≡ last_kind first kinds
kind_behind first [] = refl
kind_behind first (j ∷ kinds) = next_kind first (j ∷ kinds) (length kinds) ∙ last_at j kinds

module _ (all : List Element) (i p : ℕ) (first : Kind) (kinds : List Kind) (start : IsNet all (bound_net i p 0) (bits_of first)) where
  abbrev chain : ℕ → List Element
  chain n = each (conversion_step i p first kinds) n

  record Chained (n : ℕ) : Type 0 where
    fits : FitInOrder all (chain n)
    net : IsNet (all ++ chain n) (bound_net i p n) (bits_of (kind_before first kinds n))

  chained : (n : ℕ) → Chained n
  chained zero = record { fits = tt; net = net_in all (all ++ []) (left_among all []) (bound_net i p 0) (bits_of first) start }
  chained (suc n) =
      let r = chained n in
      let source = kind_before first kinds n in
      let target = slice_index_or kinds n U64 in
      let step = conversion_step i p first kinds n in
      let f : FitInOrder (all ++ chain n) step = converted_fits (all ++ chain n) (bound_net i p (n + 1)) source target (bound_net i p n) r.net in
      let among : IsAmong step (all ++ (chain n ++ step)) = λ e h. has_right all (chain n ++ step) e (has_right (chain n) step e h) in
      let there : IsNet (all ++ (chain n ++ step)) (bound_net i p (n + 1)) (bits_of target) =
      net_in step (all ++ (chain n ++ step)) among (bound_net i p (n + 1)) (bits_of target) (converted_there (bound_net i p (n + 1)) source target (bound_net i p n)) in
      let e : n + 1 ≡ suc n = omega arith in
      record {
        fits = parts_fit all (chain n) step r.fits f;
        net = subst (λ k. IsNet (all ++ (chain n ++ step)) (bound_net i p (suc n)) (bits_of k)) (sym (next_kind first kinds n)) (subst (λ m. IsNet (all ++ (chain n ++ step)) (bound_net i p m) (bits_of target)) e there);
      }

-- ---- what a parameter is bound to

got_back : {A B : Type 0} (f : A → B) (xs : List A) (i : ℕ) (y : B) → slice_get (map f xs) i ≡ Some y → (x : A) × (slice_get xs i ≡ Some x) × (f x ≡ y)
got_back {A} f xs i y e = by (slice_get xs i) refl where
  by : (o : Option A) → slice_get xs i ≡ o → (x : A) × (slice_get xs i ≡ Some x) × (f x ≡ y)
  by None g = let no : None ≡ Some y = sym (slice_get-map f xs i ∙ ap (option_map f) g) ∙ e in absurd cc
  by (Some x) g = let same : Some (f x) ≡ Some y = sym (slice_get-map f xs i ∙ ap (option_map f) g) ∙ e in (x, g, cc)

-- the nets fit, and the last has the bits of the kind
pub record IsBoundNet (program : Program) (i p : ℕ) (k : Kind) (b : Bound) : Type 0 where
  pub fits : FitInOrder (scalars program) (bound_nets program i p k b)
  pub net : IsNet (scalars program ++ bound_nets program i p k b) (bound_net i p (conversions b)) (bits_of k)

pub bound_is : (program : Program) (i p : ℕ) (k : Kind) (b : Bound) → IsBoundTo program k b → IsBoundNet program i p k b
bound_is program i p k (Number n) h =
    let w = Wire (bits_of k) (bound_net i p 0) (Plain (Literal (bits_of k) n)) in
    record {
      fits = ((kind_wide k, (refl, h)), tt);
      net = wire_net (scalars program ++ w ∷ []) (bits_of k) (bound_net i p 0) (Plain (Literal (bits_of k) n)) (has_right (scalars program) (w ∷ []) w (inl refl));
    }
bound_is program i p k (Top x kinds) h =
    let c = got_back (λ (c : Scalar). c.kind) program.scalars.items x h.0 h.1 in
    let kind_is : scalar_kind program x ≡ c.0.kind = ap (λ o. unwrap_or (option_map (λ (c : Scalar). c.kind) o) U64) c.1 in
    let name_is : scalar_name program x ≡ c.0.name = ap (λ o. unwrap_or (option_map (λ (c : Scalar). c.name) o) []) c.1 in
    let port : IsNet (scalars program) (scalar c.0.name) (bits_of c.0.kind) = input_net (scalars program) (bits_of c.0.kind) (scalar c.0.name) (scalar_there program x c.0 c.1) in
    let source = scalar_kind program x in
    let value = Plain (Net (scalar (scalar_name program x))) in
    let first = Wire (bits_of source) (bound_net i p 0) value in
    let read : IsNet (scalars program) (scalar (scalar_name program x)) (bits_of source) =
    subst (λ z. IsNet (scalars program) (scalar z) (bits_of source)) (sym name_is) (subst (λ q. IsNet (scalars program) (scalar c.0.name) (bits_of q)) (sym kind_is) port) in
    let start : IsNet (scalars program ++ first ∷ []) (bound_net i p 0) (bits_of source) = wire_net (scalars program ++ first ∷ []) (bits_of source) (bound_net i p 0) value (has_right (scalars program) (first ∷ []) first (inl refl)) in
    let n = length kinds.items in
    let r = chained (scalars program ++ first ∷ []) i p source kinds.items start n in
    let steps = each (conversion_step i p source kinds.items) n in
    let last : kind_before source kinds.items n ≡ k = kind_behind source kinds.items ∙ ap (λ q. last_kind q kinds.items) (kind_is ∙ c.2) ∙ h.2 in
    record {
      fits = parts_fit (scalars program) (first ∷ []) steps ((kind_wide source, read), tt) r.fits;
      net = subst (λ q. IsNet (scalars program ++ (first ∷ steps)) (bound_net i p n) (bits_of q)) last
          (net_in ((scalars program ++ first ∷ []) ++ steps) (scalars program ++ (first ∷ steps))
          (both_among (scalars program ++ first ∷ []) steps (scalars program ++ (first ∷ steps))
          (both_among (scalars program) (first ∷ []) (scalars program ++ (first ∷ steps)) (left_among (scalars program) (first ∷ steps)) (λ e q. has_right (scalars program) (first ∷ steps) e (has_left (first ∷ []) steps e q)))
          (λ e q. has_right (scalars program) (first ∷ steps) e (inr q)))
          (bound_net i p n) (bits_of (kind_before source kinds.items n)) r.net);
    }

-- ---- the parameters of an instance

-- a parameter of a leaf's instance
pub record IsParameter (program : Program) (i : ℕ) (x : Instance) (leaf : Leaf) (p : ℕ) : Type 0 where
  pub bound : Bound
  pub got : slice_get x.scalars.items p ≡ Some bound
  pub variable : ℕ
  pub got_variable : slice_get leaf.scalars.items p ≡ Some variable
  pub is : IsBoundNet program i p (parameter_kind leaf p) bound

module _ (program : Program) (i : ℕ) (x : Instance) (leaf : Leaf) (ok : IsInstance program i x leaf) where
  pub parameter_at : (p : ℕ) → p < length leaf.scalars.items → IsParameter program i x leaf p
  parameter_at p l =
      let e = ok.scalars_len in
      let b = got_some x.scalars.items p (omega (arith, e, l)) in
      let v = got_some leaf.scalars.items p l in
      let k : parameter_kind leaf p ≡ slice_index_or leaf.vars.items v.0 U64 = ap (λ n. slice_index_or leaf.vars.items n U64) (get_or_from_slice_get leaf.scalars.items p v.0 0 v.1) in
      let to : IsBoundTo program (parameter_kind leaf p) b.0 = subst (λ q. IsBoundTo program q b.0) (sym k) (ok.scalars p v.0 b.0 b.1 v.1) in
      record { bound = b.0; got = b.1; variable = v.0; got_variable = v.1; is = bound_is program i p (parameter_kind leaf p) b.0 to }

  elements_are : (p : ℕ) (t : IsParameter program i x leaf p) → bound_elements program i p (parameter_kind leaf p) (slice_get x.scalars.items p) ≡ bound_nets program i p (parameter_kind leaf p) t.bound
  elements_are p t = ap (bound_elements program i p (parameter_kind leaf p)) t.got

  pub parameters_fit : FitInOrder (scalars program) (parameters program i x leaf)
  parameters_fit =
      each_part_fits (scalars program) (λ p. bound_elements program i p (parameter_kind leaf p) (slice_get x.scalars.items p)) (length leaf.scalars.items)
      (λ p l. let t = parameter_at p l in subst (λ (es : List Element). FitInOrder (scalars program) es) (sym (elements_are p t)) t.is.fits)

  -- the net with its value, among the scalars and the parameters
  pub parameter_net : (p : ℕ) → p < length leaf.scalars.items → IsNet (scalars program ++ parameters program i x leaf) (bound_by i p (slice_get x.scalars.items p)) (bits_of (parameter_kind leaf p))
  parameter_net p l =
      let t = parameter_at p l in
      let all = scalars program ++ parameters program i x leaf in
      let nets = bound_nets program i p (parameter_kind leaf p) t.bound in
      let there : IsAmong nets (parameters program i x leaf) = λ e h.
      has_each (λ p. bound_elements program i p (parameter_kind leaf p) (slice_get x.scalars.items p)) (length leaf.scalars.items) p e l (subst (λ (es : List Element). Has es e) (sym (elements_are p t)) h) in
      let among : IsAmong (scalars program ++ nets) all =
      both_among (scalars program) nets all (left_among (scalars program) (parameters program i x leaf)) (λ e h. right_among (scalars program) (parameters program i x leaf) e (there e h)) in
      subst (λ o. IsNet all (bound_by i p o) (bits_of (parameter_kind leaf p))) (sym t.got) (net_in (scalars program ++ nets) all among (bound_net i p (conversions t.bound)) (bits_of (parameter_kind leaf p)) t.is.net)
