-- The kinds of what a leaf names.
use Rattle.std.specs.Prelude.{ℕ, List, Bool, Option, slice_get, slice_index_or, option_map, unwrap_or}
use Rattle.tapa_base.specs.declared.kind.Kind.{Kind}
use Rattle.tapa_base.specs.declared.kind.Kind.TheVariants.{U64}
use Rattle.tapa_syntax.specs.declared.program.End.{End}
use Rattle.tapa_syntax.specs.declared.program.Array.{Array}
use Rattle.tapa_syntax.specs.declared.program.Leaf.{Leaf}

-- the kinds of a leaf's variables, arrays, memories and streams by their numbers
pub record Kinds : Type 0 where
  pub vars : ℕ → Kind
  pub arrays : ℕ → Kind
  pub memories : ℕ → Kind
  pub streams : ℕ → Kind

abbrev pub kinds_of : Leaf → Kinds
kinds_of leaf = record {
  vars = λ x. slice_index_or leaf.vars.items x U64;
  arrays = λ a. unwrap_or (option_map (λ (r : Array). r.kind) (slice_get leaf.arrays.items a)) U64;
  memories = λ m. slice_index_or leaf.memories.items m U64;
  streams = λ p. unwrap_or (option_map (λ (e : End). e.kind) (slice_get leaf.streams.items p)) U64;
}

-- whether a leaf writes the stream at a position, and none where it has no such stream
abbrev pub writes_of : List End → ℕ → Option Bool
writes_of ends p = option_map (λ (e : End). e.writes) (slice_get ends p)
