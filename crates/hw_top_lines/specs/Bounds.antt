-- What the scalar parameters of an instance are bound to: a constant, or a scalar of the top task, converted through kinds
-- in order, one net after each conversion.
use Rattle.std.specs.Prelude.{◌+◌, ◌-◌, ◌∷◌, ◌++◌, ◌==◌, if◌then◌else◌}
use Rattle.std.specs.Prelude.{ℕ, List, [], length, Option, Some, None, option_map, unwrap_or, slice_get, slice_index, slice_index_or}
use Rattle.tapa_base.specs.declared.kind.Kind.{Kind}
use Rattle.tapa_base.specs.declared.kind.Kind.TheVariants.{U64}
use Rattle.tapa_base.specs.Kinds.{bits_of}
use Rattle.tapa_syntax.specs.declared.program.Bound.{Bound}
use Rattle.tapa_syntax.specs.declared.program.Bound.TheVariants.{Number, Top}
use Rattle.tapa_syntax.specs.declared.program.Instance.{Instance}
use Rattle.tapa_syntax.specs.declared.program.Leaf.{Leaf}
use Rattle.tapa_syntax.specs.declared.program.Program.{Program}
use Rattle.tapa_syntax.specs.declared.program.Scalar.{Scalar}
use Rattle.vlog_tree.specs.declared.tree.Atom.TheVariants.{Net, Literal}
use Rattle.vlog_tree.specs.declared.tree.Value.TheVariants.{Plain}
use Rattle.vlog_tree.specs.Labels.{scalar}
use Rattle.vlog_tree.specs.Table.{Name}
use Rattle.hw_build.specs.Elements.{Element, Wire}
use Rattle.hw_build.specs.Scope.{each}
use Rattle.hw_lines.specs.Drivers.{wires_of, last_of, conversion}
use Rattle.hw_top_lines.specs.Names.{bound_net}

-- the kind and the name of a scalar of the top task
abbrev pub scalar_kind : Program → ℕ → Kind
scalar_kind program x = unwrap_or (option_map (λ (c : Scalar). c.kind) (slice_get program.scalars.items x)) U64

abbrev pub scalar_name : Program → ℕ → Name
scalar_name program x = unwrap_or (option_map (λ (c : Scalar). c.name) (slice_get program.scalars.items x)) []

-- the kind of a scalar parameter of a leaf, by its position
abbrev pub parameter_kind : Leaf → ℕ → Kind
parameter_kind leaf p = slice_index_or leaf.vars.items (slice_index leaf.scalars.items p) U64

-- a net with the value of another one as a value of another kind: the wires of the conversion, whose names are its name and numbers,
-- and the net itself
abbrev pub converted_net : Name → (source target : Kind) → Name → List Element
converted_net x source target old =
    wires_of x 0 (conversion x 0 source target (Net old))
    ++ Wire (bits_of target) x (Plain (last_of x 0 (conversion x 0 source target (Net old)) (Net old))) ∷ []

-- the kind before a conversion of a chain
abbrev pub kind_before : Kind → List Kind → ℕ → Kind
kind_before first kinds step = if step == 0 then first else slice_index_or kinds (step - 1) U64

abbrev pub conversion_step : (i p : ℕ) → Kind → List Kind → ℕ → List Element
conversion_step i p first kinds step =
    converted_net (bound_net i p (step + 1)) (kind_before first kinds step) (slice_index_or kinds step U64) (bound_net i p step)

-- the nets of scalar parameter p of instance i, whose kind is k
abbrev pub bound_nets : Program → (i p : ℕ) → Kind → Bound → List Element
bound_nets program i p k (Number n) = Wire (bits_of k) (bound_net i p 0) (Plain (Literal (bits_of k) n)) ∷ []
bound_nets program i p k (Top x kinds) =
    (Wire (bits_of (scalar_kind program x)) (bound_net i p 0) (Plain (Net (scalar (scalar_name program x)))) ∷ [])
    ++ each (conversion_step i p (scalar_kind program x) kinds.items) (length kinds.items)

abbrev pub bound_elements : Program → (i p : ℕ) → Kind → Option Bound → List Element
bound_elements program i p k None = []
bound_elements program i p k (Some b) = bound_nets program i p k b

-- how many conversions there are
abbrev pub conversions : Bound → ℕ
conversions (Number n) = 0
conversions (Top x kinds) = length kinds.items

-- the net with the value
abbrev pub bound_by : (i p : ℕ) → Option Bound → Name
bound_by i p None = bound_net i p 0
bound_by i p (Some b) = bound_net i p (conversions b)

-- all scalar parameters of an instance
abbrev pub parameters : Program → ℕ → Instance → Leaf → List Element
parameters program i x leaf = each (λ p. bound_elements program i p (parameter_kind leaf p) (slice_get x.scalars.items p)) (length leaf.scalars.items)
