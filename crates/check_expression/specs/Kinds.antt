-- Whether two kinds are one.
use Rattle.std.specs.Prelude.{ℕ, Bool, ◌==◌}
use Rattle.tapa_base.specs.declared.kind.Kind.{Kind}
use Rattle.tapa_base.specs.declared.kind.Kind.TheVariants as kind

-- the index of a kind in the list of kinds
abbrev pub rank : Kind → ℕ
rank kind.Bool = 0
rank kind.I8 = 1
rank kind.U8 = 2
rank kind.I16 = 3
rank kind.U16 = 4
rank kind.I32 = 5
rank kind.U32 = 6
rank kind.I64 = 7
rank kind.U64 = 8

abbrev pub same_kind : Kind → Kind → Bool
same_kind j k = rank j == rank k
