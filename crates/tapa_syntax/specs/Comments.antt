-- How far a comment of a block goes: through the first `*/` (ISO C++ [lex.comment], IEEE 1364-2005, 3.3).
use Rattle.std.specs.Prelude.{ℕ, ◌+◌, ◌&&◌, ◌==◌, if◌then◌else◌, [], ◌∷◌, slice_index, Option, Some, None, option_map}
use Rattle.tapa_base.specs.Gaps.{Bytes}

-- how many bytes there are through the first `*/`
unfoldable pub closing : Bytes → Option ℕ
closing [] = None
closing (b ∷ z) = if b == 42 && slice_index z 0 == 47 then Some 2 else option_map (λ n. n + 1) (closing z)
