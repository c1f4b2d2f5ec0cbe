-- The rest of a dump after a part of it, and where a text stops being such a rest.
use Rattle.std.specs.Prelude.{◌≡◌, ℕ, zero, suc, ◌+◌, ◌^◌, ◌<◌, ◌≤◌, if◌then◌else◌, List, [], ◌∷◌, ◌++◌, length, map, drop, codes, Option, Some, slice_get}
use Rattle.tapa_base.specs.declared.shape.Port.{Port}
use Rattle.tapa_base.specs.Gaps.{Bytes}
use Rattle.vcd_text.specs.Nets.{Net}
use Rattle.vcd_text.specs.Along.{common}
use Rattle.vcd_text.specs.Dump.{Values, AreNets, AreValues, lines_from, var_line, change_line, cycle_line, cycles_text}
use Rattle.vcd_text.specs.Read.{port_of, changes_to, IsReadAs}
use Rattle.vcd_text.specs.Lines.{is_new}
use Rattle.vcd_text.specs.declared.dump.Change.{Change}
use Rattle.vcd_text.specs.declared.dump.Dump.{Dump}
use Rattle.vcd_text.specs.declared.halt.Halt.{Halt}
use Rattle.vcd_text.specs.declared.halt.Halt.TheVariants.{Stopped, OutOfMemory}

-- what is read of a dump
pub record Answer : Type 0 where
  pub ports : List Port
  pub last : ℕ
  pub changes : List Change

-- texts and what is read of each
abbrev pub Texts : Type 1
Texts = Answer → Bytes → Type 0

abbrev pub IsRead : Answer → Bytes → Type 0
IsRead a z = IsReadAs z a.ports a.last a.changes

-- a text is none of these; one of them goes along with it for n bytes, and none further
pub record Fails (L : Texts) (z : Bytes) (n : ℕ) : Type 0 where
  pub answer : Answer
  pub text : Bytes
  pub is_text : L answer text
  pub along : n ≤ common text z
  pub most : (a : Answer) (w : Bytes) → L a w → common w z ≤ n
  pub none : (a : Answer) → L a z → ⊥

-- the number of bytes that are left of a text where it fails
abbrev pub FailsBefore : Texts → Bytes → ℕ → Type 0
FailsBefore L z left = (n : ℕ) × (n + left ≡ length z) × Fails L z n

-- a text after its first part decides for the whole: its answer, and where it fails
pub record Serves (L : Texts) (z : Bytes) (M : Texts) (y : Bytes) : Type 0 where
  pub found : (a : Answer) → M a y → L a z
  pub fails : (left : ℕ) → FailsBefore M y left → FailsBefore L z left

-- ---- after some nets

pub record LeftOfHead (nets : List Net) (a : Answer) (z : Bytes) : Type 0 where
  pub more : List Net
  pub values : Values
  pub last : ℕ
  pub are_nets : AreNets (nets ++ more)
  pub are_values : AreValues (nets ++ more) values last
  pub is : z ≡ lines_from var_line (length nets) more ++ (codes "$upscope $end\n$enddefinitions $end\n" ++ cycles_text (nets ++ more) values last)
  pub are_ports : a.ports ≡ map port_of (nets ++ more)
  pub is_last : a.last ≡ last
  pub are_changes : a.changes ≡ changes_to (nets ++ more) values last

-- ---- after some changes of a cycle

-- the values of nets in one cycle, and those before it where there are some
abbrev pub Row : Type 0
Row = ℕ → ℕ

abbrev pub Known : Type 0
Known = ℕ → Option ℕ

abbrev pub known : Row → Known
known q i = Some (q i)

-- the line and the change of a net that has a value, and had another before or none
abbrev pub row_line : Known → Row → ℕ → Net → Bytes
row_line p q k net = if is_new (p k) (q k) then change_line k net.bits (q k) else []

abbrev pub change_of : ℕ → ℕ → ℕ → Change
change_of n k v = record { cycle = n; net = k; value = v }

abbrev pub row_changes : Known → Row → ℕ → ℕ → List Net → List Change
row_changes p q n k [] = []
row_changes p q n k (x ∷ xs) = (if is_new (p k) (q k) then change_of n k (q k) ∷ [] else []) ++ row_changes p q n (suc k) xs

-- the rows after the first
abbrev pub rest_of : Values → Values
rest_of u m = u (suc m)

-- the text and the changes of a number of cycles after cycle n
abbrev pub later_text : List Net → ℕ → Values → ℕ → Bytes
later_text nets n u zero = []
later_text nets n u (suc d) = (cycle_line (n + 1) ++ lines_from (row_line (known (u 0)) (u 1)) 0 nets) ++ later_text nets (n + 1) (rest_of u) d

abbrev pub later_changes : List Net → ℕ → Values → ℕ → List Change
later_changes nets n u zero = []
later_changes nets n u (suc d) = row_changes (known (u 0)) (u 1) (n + 1) 0 nets ++ later_changes nets (n + 1) (rest_of u) d

-- after the turns of the nets before index k in cycle n, where values are known and changes are done
pub record Left (nets : List Net) (n k : ℕ) (p : Known) (done : List Change) (a : Answer) (z : Bytes) : Type 0 where
  pub rows : Values
  pub more : ℕ
  pub are_rows : AreValues nets rows more
  pub seen : (i : ℕ) → i < k → p i ≡ Some (rows 0 i)
  pub is : z ≡ lines_from (row_line p (rows 0)) k (drop k nets) ++ later_text nets n rows more
  pub ports : a.ports ≡ map port_of nets
  pub last : a.last ≡ n + more
  pub changes : a.changes ≡ done ++ (row_changes p (rows 0) n k (drop k nets) ++ later_changes nets n rows more)

-- ---- what the reading functions answer

abbrev pub answer_of : Dump → Answer
answer_of d = record { ports = d.nets.items; last = d.last; changes = d.changes.items }

-- a text fails with this number of bytes left, unless memory ran out
abbrev pub IsStopOf : Texts → Bytes → Halt → Type 0
IsStopOf L z (Stopped left) = FailsBefore L z left
IsStopOf L z OutOfMemory = Unit {0}

-- each net has a value of its bits
pub record HaveValues (nets : List Port) (values : List ℕ) : Type 0 where
  pub count : length values ≡ length nets
  pub fit : (i : ℕ) (p : Port) (v : ℕ) → slice_get nets i ≡ Some p → slice_get values i ≡ Some v → v < 2 ^ p.bits
