-- The first state of each instance of a program on an input: its scalars and the first cells of its memories.
use Rattle.std.specs.Prelude.{ℕ, List, [], ◌∷◌, length, map, replicate, Option, Some, None, slice_get, slice_set, slice_index, slice_index_or}
use Rattle.tapa_base.specs.declared.kind.Kind.{Kind}
use Rattle.tapa_base.specs.declared.kind.Kind.TheVariants.{U64}
use Rattle.tapa_base.specs.Kinds.{converted}
use Rattle.tapa_syntax.specs.declared.program.Array.{Array}
use Rattle.tapa_syntax.specs.declared.program.Bound.{Bound}
use Rattle.tapa_syntax.specs.declared.program.Bound.TheVariants.{Number, Top}
use Rattle.tapa_syntax.specs.declared.program.Instance.{Instance}
use Rattle.tapa_syntax.specs.declared.program.Leaf.{Leaf}
use Rattle.tapa_syntax.specs.declared.program.Program.{Program}
use Rattle.tapa_syntax.specs.declared.program.Scalar.{Scalar}
use Rattle.kahn_model.specs.Network.{Network}
use Rattle.kahn_model.specs.Trace.{State}
use Rattle.kahn_model.specs.ProgramNetwork.{network_with}

-- a value of the first kind, converted through these kinds in order
abbrev pub through : Kind → List Kind → ℕ → ℕ
through from [] v = v
through from (to ∷ rest) v = through to rest (converted from to v)

-- the value that a scalar parameter is bound to
abbrev pub bound_value : List Kind → List ℕ → Bound → ℕ
bound_value kinds scalars (Number n) = n
bound_value kinds scalars (Top x conversions) = through (slice_index_or kinds x U64) conversions.items (slice_index scalars x)

-- these variables have these values, and the others stay
abbrev pub with_values : List ℕ → List ℕ → List ℕ → List ℕ
with_values [] values vars = vars
with_values (x ∷ xs) [] vars = vars
with_values (x ∷ xs) (v ∷ values) vars = with_values xs values (slice_set vars x v)

-- the kinds of the scalars of a program
abbrev pub kinds_in : Program → List Kind
kinds_in program = map (λ (c : Scalar). c.kind) program.scalars.items

abbrev pub empty_state : State
empty_state = record { vars = []; arrays = []; cells = [] }

-- variables and arrays hold zeros, but for the scalar parameters; the memories hold their first cells
abbrev pub leaf_state : List Kind → List ℕ → List (List ℕ) → Instance → Option Leaf → State
leaf_state kinds scalars memories instance None = empty_state
leaf_state kinds scalars memories instance (Some leaf) = record {
  vars = with_values leaf.scalars.items (map (bound_value kinds scalars) instance.scalars.items) (replicate (length leaf.vars.items) 0);
  arrays = map (λ (a : Array). replicate a.cells 0) leaf.arrays.items;
  cells = map (λ m. slice_index_or memories m []) instance.memories.items;
}

abbrev pub instance_state : Program → List ℕ → List (List ℕ) → Option Instance → State
instance_state program scalars memories None = empty_state
instance_state program scalars memories (Some instance) =
    leaf_state (kinds_in program) scalars memories instance (slice_get program.bodies.items instance.body)

-- the first state of instance i, given the values of the top task's scalars and the first cells of its memories
abbrev pub first_state : Program → List ℕ → List (List ℕ) → ℕ → State
first_state program scalars memories i = instance_state program scalars memories (slice_get program.instances.items i)

-- the network of a program on an input
unfoldable pub network_of : Program → List ℕ → List (List ℕ) → Network
network_of program scalars memories = network_with program (first_state program scalars memories)
