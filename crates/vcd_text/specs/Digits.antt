-- What may come after the first binary digits of a value.
use Rattle.std.specs.Prelude.{◌≡◌, ◌⊎◌, ℕ, zero, suc, ◌+◌, ◌*◌, ◌<◌, true, [], ◌∷◌, ◌++◌, Option}
use Rattle.tapa_base.specs.Gaps.{Bytes}
use Rattle.vcd_text.specs.Lines.{is_new, IsNewValue}
use Rattle.vcd_text.specs.Dump.{binary}
use Rattle.vcd_text.specs.declared.number.Step.{Step}
use Rattle.vcd_text.specs.declared.number.Step.TheVariants.{End, More, Stop}

-- a blank, where the digits so far are a new value
abbrev pub IsEnd : Option ℕ → ℕ → ℕ → Bytes → Type 0
IsEnd before a v w = (w ≡ 32 ∷ []) × (v ≡ a) × (is_new before a ≡ true)

-- after the digits of a number: the rest of a new value, of at most `room` digits, and a blank
abbrev pub IsDigits : Option ℕ → ℕ → ℕ → ℕ → Bytes → Type 0
IsDigits before a zero v w = IsEnd before a v w
IsDigits before a (suc room) v w = IsEnd before a v w ⊎ ((d : ℕ) × (y : Bytes) × (d < 2) × (w ≡ (48 + d) ∷ y) × IsDigits before (2 * a + d) room v y)

abbrev pub AreDigits : Option ℕ → ℕ → ℕ → Bytes → Type 0
AreDigits before a room w = (v : ℕ) × IsDigits before a room v w

-- after the digits of a number above 0 a new value can end, or more digits come
abbrev pub IsOpen : Option ℕ → ℕ → ℕ → Type 0
IsOpen before a room = (0 < room) ⊎ (is_new before a ≡ true)

-- a digit may come there: another may follow, or the number with it is new
abbrev pub IsMore : Option ℕ → ℕ → ℕ → ℕ → ℕ → Type 0
IsMore before a room byte next = (d : ℕ) × (d < 2) × (byte ≡ 48 + d) × (next ≡ 2 * a + d) × (0 < room) × ((1 < room) ⊎ (is_new before next ≡ true))

-- what a byte after the digits of a number is: the blank at the end, one more digit, or neither
abbrev pub IsStep : Option ℕ → ℕ → ℕ → ℕ → Step → Type 0
IsStep before a room byte End = (byte ≡ 32) × (is_new before a ≡ true)
IsStep before a room byte (More next) = IsMore before a room byte next
IsStep before a room byte Stop = (byte ≡ 32 → is_new before a ≡ true → ⊥) × ((next : ℕ) → IsMore before a room byte next → ⊥)

-- the binary digits of a new value of `bits` bits, and a blank
abbrev pub AreNewDigits : ℕ → Option ℕ → Bytes → Type 0
AreNewDigits bits before w = (v : ℕ) × IsNewValue bits before v × (w ≡ binary v ++ 32 ∷ [])
