-- The labels and names by which the parts of a program are distinguished.
use Rattle.std.specs.Prelude.{◌≡◌, ◌==◌, ◌||◌, ℕ, true, List, [], ◌∷◌, ◌++◌, map, Some, slice_get}
use Rattle.std.specs.List.{list_all}
use Rattle.tapa_base.specs.Gaps.{Bytes}
use Rattle.tapa_syntax.specs.Characters.{is_word_byte}
use Rattle.tapa_syntax.specs.declared.program.Instance.{Instance}
use Rattle.tapa_syntax.specs.declared.program.Leaf.{Leaf}
use Rattle.tapa_syntax.specs.declared.program.Memory.{Memory}
use Rattle.tapa_syntax.specs.declared.program.Program.{Program}
use Rattle.tapa_syntax.specs.declared.program.Scalar.{Scalar}
use Rattle.tapa_syntax.specs.declared.program.Stream.{Stream}

-- no entry occurs twice in a list
abbrev pub AreApart : List Bytes → Type 0
AreApart xs = (p q : ℕ) (x : Bytes) → slice_get xs p ≡ Some x → slice_get xs q ≡ Some x → p ≡ q

-- letters, digits, `_` and `$`, and at least one of them
abbrev pub AreWritten : List Bytes → Type 0
AreWritten xs = (p : ℕ) (x : Bytes) → slice_get xs p ≡ Some x → (list_all (λ b. is_word_byte b || b == 36) x ≡ true) × ((x ≡ []) → ⊥)

abbrev pub instance_labels : Program → List Bytes
instance_labels program = map (λ (x : Instance). x.label) program.instances.items

abbrev pub stream_labels : Program → List Bytes
stream_labels program = map (λ (r : Stream). r.label) program.streams.items

abbrev pub parameter_names : Program → List Bytes
parameter_names program = map (λ (c : Scalar). c.name) program.scalars.items ++ map (λ (m : Memory). m.name) program.memories.items

-- the top is a task of its own, beside the leaves
abbrev pub task_names : Program → List Bytes
task_names program = program.top ∷ map (λ (l : Leaf). l.name) program.bodies.items

-- the parts of a program are distinguished by their labels and names
pub record HasOwnNames (program : Program) : Type 0 where
  pub instances : AreApart (instance_labels program)
  pub streams : AreApart (stream_labels program)
  pub parameters : AreApart (parameter_names program)
  pub tasks : AreApart (task_names program)
  pub instances_written : AreWritten (instance_labels program)
  pub streams_written : AreWritten (stream_labels program)
  pub parameters_written : AreWritten (parameter_names program)
  pub tasks_written : AreWritten (task_names program)
