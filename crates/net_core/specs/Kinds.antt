-- The kinds of the streams of a leaf, and lists of tokens of one kind.
use Rattle.std.specs.Prelude.{◌≡◌, ℕ, ◌<◌, List, Some, slice_get, option_map, unwrap_or}
use Rattle.tapa_base.specs.declared.kind.Kind.{Kind}
use Rattle.tapa_base.specs.declared.kind.Kind.TheVariants.{U64}
use Rattle.tapa_base.specs.declared.token.Token.{Token}
use Rattle.tapa_base.specs.declared.token.Token.TheVariants.{Datum}
use Rattle.tapa_base.specs.Kinds.{values_of}
use Rattle.tapa_syntax.specs.declared.program.End.{End}

-- each datum of a list is a value of the kind
abbrev pub AreTokensOf : Kind → List Token → Type 0
AreTokensOf k ts = (n v : ℕ) → slice_get ts n ≡ Some (Datum v) → v < values_of k

-- the kind of the stream at a position
abbrev pub kind_in : List End → ℕ → Kind
kind_in ends p = unwrap_or (option_map (λ (e : End). e.kind) (slice_get ends p)) U64
