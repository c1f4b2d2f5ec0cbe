-- What is shown of one net of a value change dump.
use Rattle.std.specs.Prelude.{◌≡◌, ℕ, zero, suc, not, ◌==◌, if◌then◌else◌, List, [], ◌++◌, codes, decimal, slice_get, Some}
use Rattle.std.specs.List.{flat_map}
use Rattle.tapa_base.specs.Gaps.{Bytes}
use Rattle.vcd_text.specs.Nets.{Net}
use Rattle.vcd_text.specs.Dump.{Values, IsDumpOf}
use Rattle.vcd_text.specs.declared.dump.Change.{Change}

-- a cycle and a value
abbrev pub value_line : ℕ → ℕ → Bytes
value_line n v = decimal n ++ (codes " " ++ (decimal v ++ codes "\n"))

-- of the cycles up to one: the first, and each in which the value is another than in the cycle before
abbrev pub value_lines : (ℕ → ℕ) → ℕ → Bytes
value_lines q zero = value_line 0 (q 0)
value_lines q (suc n) = value_lines q n ++ (if not (q (suc n) == q n) then value_line (suc n) (q (suc n)) else [])

-- the line of a change, where it is one of the net at an index
abbrev pub line_of : ℕ → Change → Bytes
line_of k c = if c.net == k then value_line c.cycle c.value else []

abbrev pub lines_of : ℕ → List Change → Bytes
lines_of k changes = flat_map (line_of k) changes

-- a text is a dump in which a net has this name, and these are the lines of its values
pub record IsNetShown (text : Bytes) (name : List ℕ) (told : Bytes) : Type 0 where
  pub top : List ℕ
  pub nets : List Net
  pub values : Values
  pub last : ℕ
  pub dump : IsDumpOf top nets values last text
  pub place : ℕ
  pub net : Net
  pub at : slice_get nets place ≡ Some net
  pub named : net.name ≡ name
  pub is : told ≡ value_lines (λ n. values n place) last

-- a text is a dump in which no net has this name
pub record HasNoNet (text : Bytes) (name : List ℕ) : Type 0 where
  pub top : List ℕ
  pub nets : List Net
  pub values : Values
  pub last : ℕ
  pub dump : IsDumpOf top nets values last text
  pub none : (k : ℕ) (n : Net) → slice_get nets k ≡ Some n → n.name ≡ name → ⊥
