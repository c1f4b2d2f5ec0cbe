-- The lines with which a dump may go on.
use Rattle.std.specs.Prelude.{◌≡◌, ◌⊎◌, ℕ, ◌^◌, ◌<◌, ◌≤◌, Bool, true, not, ◌==◌, List, ◌++◌, codes, slice_get, Option, Some, None}
use Rattle.tapa_base.specs.Gaps.{Bytes}
use Rattle.tapa_base.specs.declared.shape.Port.{Port}
use Rattle.vlog_tree.specs.Names.{IsName}
use Rattle.vcd_text.specs.Nets.{Net}
use Rattle.vcd_text.specs.declared.line.Found.{Found}
use Rattle.vcd_text.specs.declared.line.Found.TheVariants.{Cycle, Change}
use Rattle.vcd_text.specs.Dump.{cycle_line, change_line}

-- a net that may follow others
pub record MayFollow (nets : List Net) (x : Net) : Type 0 where
  pub name : IsName x.name
  pub some_bits : 0 < x.bits
  pub few_bits : x.bits ≤ 128
  pub other : (k : ℕ) (n : Net) → slice_get nets k ≡ Some n → n.name ≡ x.name → ⊥

-- what comes after the last net, with the line of cycle 0
abbrev pub head_end : Bytes
head_end = codes "$upscope $end\n$enddefinitions $end\n#0\n"

-- a value is written where it is another than the one before, or the first
abbrev pub is_new : Option ℕ → ℕ → Bool
is_new None v = true
is_new (Some u) v = not (v == u)

-- a value of `bits` bits, other than the one before if there is one
abbrev pub IsNewValue : ℕ → Option ℕ → ℕ → Type 0
IsNewValue bits before v = (v < 2 ^ bits) × (is_new before v ≡ true)

-- a change of a net from index k on and before index j
pub record IsChangeAmong (nets : List Port) (before : ℕ → Option ℕ) (k j : ℕ) (w : Bytes) : Type 0 where
  pub place : ℕ
  pub net : Port
  pub value : ℕ
  pub from : k ≤ place
  pub to : place < j
  pub at : slice_get nets place ≡ Some net
  pub new_value : IsNewValue net.bits (before place) value
  pub is : w ≡ change_line place net.bits value

-- after changes of a cycle: the line of the next one, or a change of a net from index k on and before index j
abbrev pub IsLineTo : List Port → (ℕ → Option ℕ) → ℕ → ℕ → ℕ → Bytes → Type 0
IsLineTo nets before next k j w = (w ≡ cycle_line next) ⊎ IsChangeAmong nets before k j w

-- the change of a net at the start of a text
pub record IsChangeAt (nets : List Port) (before : ℕ → Option ℕ) (k place value : ℕ) (text rest : Bytes) : Type 0 where
  pub net : Port
  pub from : k ≤ place
  pub at : slice_get nets place ≡ Some net
  pub new_value : IsNewValue net.bits (before place) value
  pub is : text ≡ change_line place net.bits value ++ rest

abbrev pub IsLineFound : List Port → (ℕ → Option ℕ) → ℕ → ℕ → Bytes → Found → Bytes → Type 0
IsLineFound nets before next k text Cycle rest = text ≡ cycle_line next ++ rest
IsLineFound nets before next k text (Change place value) rest = IsChangeAt nets before k place value text rest

-- each net has from 1 to 128 bits
abbrev pub HaveBits : List Port → Type 0
HaveBits nets = (i : ℕ) (p : Port) → slice_get nets i ≡ Some p → (1 ≤ p.bits) × (p.bits ≤ 128)
