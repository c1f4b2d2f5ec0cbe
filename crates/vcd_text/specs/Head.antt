-- The parts of a line that declares a net.
use Rattle.std.specs.Prelude.{◌≡◌, ◌⊎◌, ℕ, ◌+◌, ◌<◌, ◌≤◌, Bool, List, [], ◌∷◌, ◌++◌, if◌then◌else◌, codes, decimal, slice_get, Some}
use Rattle.tapa_base.specs.declared.shape.Port.{Port}
use Rattle.tapa_base.specs.Gaps.{Bytes}
use Rattle.tapa_syntax.specs.Characters.{run}
use Rattle.vlog_tree.specs.Names.{IsName, starts_name, goes_on}
use Rattle.vlog_tree.specs.Table.{Name}
use Rattle.vcd_text.specs.Dump.{net_type, identifier, var_line}
use Rattle.vcd_text.specs.Lines.{head_end}

-- how many bytes at the start of a text have the form of a name
abbrev pub name_run : Bytes → ℕ
name_run [] = 0
name_run (b ∷ z) = if starts_name b then run goes_on z + 1 else 0

-- a name that no earlier net has
abbrev pub IsFree : List Port → Name → Type 0
IsFree nets x = (i : ℕ) (p : Port) → slice_get nets i ≡ Some p → p.name ≡ x → ⊥

abbrev pub MayName : List Port → Name → Type 0
MayName nets x = IsName x × IsFree nets x

abbrev pub IsNameWord : List Port → Bytes → Type 0
IsNameWord nets w = (x : Name) × MayName nets x × (w ≡ x ++ 32 ∷ [])

abbrev pub IsType : Bytes → Type 0
IsType w = (r : Bool) × (w ≡ net_type r)

-- a width from 1 on and below a bound, and a blank
abbrev pub IsWidthBelow : ℕ → Bytes → Type 0
IsWidthBelow m w = (n : ℕ) × (1 ≤ n) × (n < m) × (w ≡ decimal n ++ 32 ∷ [])

-- from a part of the line on to its end
abbrev pub IsFromName : List Port → Bytes → Type 0
IsFromName nets w = (x : Name) × MayName nets x × (w ≡ x ++ codes " $end\n")

abbrev pub IsFromIdentifier : List Port → ℕ → Bytes → Type 0
IsFromIdentifier nets k w = (y : Bytes) × IsFromName nets y × (w ≡ (identifier k ++ 32 ∷ []) ++ y)

abbrev pub IsFromWidth : List Port → ℕ → Bytes → Type 0
IsFromWidth nets k w = (n : ℕ) × (y : Bytes) × (1 ≤ n) × (n < 129) × IsFromIdentifier nets k y × (w ≡ (decimal n ++ 32 ∷ []) ++ y)

abbrev pub IsFromType : List Port → ℕ → Bytes → Type 0
IsFromType nets k w = (r : Bool) × (y : Bytes) × IsFromWidth nets k y × (w ≡ net_type r ++ y)

-- the lines of the time scale and of the top's name
abbrev pub top_line : Name → Bytes
top_line x = codes "$timescale 1 ns $end\n$scope module " ++ (x ++ codes " $end\n")

abbrev pub IsTopLine : Bytes → Type 0
IsTopLine w = (x : Name) × IsName x × (w ≡ top_line x)

-- the line of one more net, or the end of the head
abbrev pub IsHeadLineTo : List Port → ℕ → Bytes → Type 0
IsHeadLineTo nets k w = (w ≡ head_end) ⊎ ((y : Bytes) × IsFromType nets k y × (w ≡ codes "$var " ++ y))

-- a net's line at the start of a text: the net's name, its width, and the rest of the text
abbrev pub IsNetFound : List Port → ℕ → Name → ℕ → Bytes → Bytes → Type 0
IsNetFound nets k x n text rest = MayName nets x × (1 ≤ n) × (n ≤ 128) × ((r : Bool) × (text ≡ var_line k (record { name = x; bits = n; is_reg = r }) ++ rest))
