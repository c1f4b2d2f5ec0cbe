-- What the reads with one number ask for, state by state.
use Rattle.std.specs.Prelude.{◌≡◌, ℕ, List, [], ◌∷◌, map, Option, option_map, slice_get}
use Rattle.vlog_tree.specs.declared.tree.Atom.{Atom}
use Rattle.hw_build.specs.Elements.{Element}
use Rattle.hw_build.specs.Scope.{each}
use Rattle.hw_build.specs.Choices.{Entry}
use Rattle.hw_lines.specs.declared.nets.Choice.{Choice}
use Rattle.hw_lines.specs.declared.nets.Choice.TheVariants.{Reads, ArrayIndex}
use Rattle.hw_lines.specs.declared.nets.Net.TheVariants.{At, ReadOn}
use Rattle.hw_lines.specs.Drivers.{low_bits}
use Rattle.hw_lines.specs.Shape.{Shape, index_bits}
use Rattle.hw_lines.specs.States.{reads_at}
use Rattle.hw_lines.specs.Wires.{ArrayRead}
use Rattle.hw_lines.specs.Effects.{at, entry, entries}
use Rattle.hw_lines.specs.Texts.{read_index, answered, unless_none}
use Rattle.hw_task.specs.declared.reads.Asked.{Asked}

-- the array and the atom of the index
abbrev pub asked_form : Option Asked → Option (ℕ × Atom)
asked_form o = option_map (λ (x : Asked). (x.array, x.index)) o

abbrev pub asked_at : Shape → ℕ → ℕ → Option (ℕ × Atom)
asked_at S p k = option_map (λ (r : ArrayRead). (r.array, (read_index p k r).atom)) (slice_get (reads_at S k) p)

-- in the first n states
pub record AreAsked (S : Shape) (p : ℕ) (asked : List (Option Asked)) (n : ℕ) : Type 0 where
  pub forms : map asked_form asked ≡ each (λ k. asked_at S p k ∷ []) n

-- the choices among reads, and the number of the reads that each is among
abbrev pub IsOfReads : Choice → Type 0
IsOfReads (Reads p a) = Unit {0}
IsOfReads (ArrayIndex p a) = Unit {0}
IsOfReads c = ⊥

abbrev pub read_number : Choice → ℕ
read_number (Reads p a) = p
read_number (ArrayIndex p a) = p
read_number c = 0

-- what a read in state k gives such a choice, by its array and the atom of its index
abbrev pub spot_given : Shape → Choice → ℕ → ℕ × Atom → List Entry
spot_given S (Reads p a) k q = at q.0 a (entry (ReadOn k p) (low_bits (index_bits S a) q.1))
spot_given S (ArrayIndex p a) k q = at q.0 a (entry (At k) (low_bits (index_bits S a) q.1))
spot_given S c k q = []

-- the port of a number and an array, if something is read there
abbrev pub port_of : Shape → ℕ → ℕ → List Element
port_of S p a = unless_none (entries S (Reads p a)) (answered S p a)
