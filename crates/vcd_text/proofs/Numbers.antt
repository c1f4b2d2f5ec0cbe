-- Where values of changes stop.
use Rattle.std.proofs.Common.{◌≡◌, ◌≢◌, ℕ, suc, ◌+◌, ◌-◌, ◌^◌, ◌<◌, ◌≤◌, true, [], ◌∷◌, ◌++◌, length, inl, inr, refl, sym, ap, subst, ◌∙◌, append_assoc, arith, nat_eq, ne_eqb}
use Rattle.std.specs.Prelude.{Option}
use Rattle.tapa_base.specs.Gaps.{Bytes}
use Rattle.vcd_text.specs.Along.{common, Stops}
use Rattle.vcd_text.specs.Dump.{binary, value_text}
use Rattle.vcd_text.specs.Lines.{is_new, IsNewValue}
use Rattle.vcd_text.specs.Digits.{IsDigits, AreDigits, AreNewDigits}
use Rattle.vcd_text.proofs.Common.{common_other, stops_here, stops_next, stops_empty, stops_like, cond_no}
use Rattle.vcd_text.proofs.Digits.{binary_one, binary_zero, new_digits, zero_digits, more_new_digits, digits_sound, room_first, some_new}

-- ---- binary digits

some_digits_of : (bits : ℕ) (before : Option ℕ) → 1 ≤ bits → (w : Bytes) × AreNewDigits bits before w
some_digits_of bits before h = let s : (v : ℕ) × IsNewValue bits before v = some_new bits before h in (binary s.0 ++ 32 ∷ [], (s.0, s.1, refl))

digits_long : (bits : ℕ) (before : Option ℕ) (w : Bytes) → AreNewDigits bits before w → 0 < length w
digits_long bits before w is = elim (new_digits bits before w is) [
  | inl z ↦ subst (λ (l : Bytes). 0 < length l) (sym z.0) (omega arith)
  | inr o ↦ subst (λ (l : Bytes). 0 < length l) (sym o.1) (omega arith)
]

pub new_none : (bits : ℕ) (before : Option ℕ) → 1 ≤ bits → Stops (AreNewDigits bits before) [] 0
new_none bits before h = let s : (w : Bytes) × AreNewDigits bits before w = some_digits_of bits before h in stops_empty (AreNewDigits bits before) s.0 s.1 (digits_long bits before)

pub new_one : (bits : ℕ) (before : Option ℕ) (z : Bytes) (n : ℕ) → 1 ≤ bits → Stops (AreDigits before 1 (bits - 1)) z n → Stops (AreNewDigits bits before) (49 ∷ z) (suc n)
new_one bits before z n h s = stops_next (AreNewDigits bits before) (AreDigits before 1 (bits - 1)) 49 z n (λ w is. more_new_digits bits before w h is)
    (λ w is. elim (new_digits bits before w is) [
      | inl o ↦ inr (ap (λ (l : Bytes). common l (49 ∷ z)) o.0 ∙ common_other 48 49 (32 ∷ []) z (λ e. absurd (omega (arith, e))), digits_long bits before w is)
      | inr o ↦ inl o
    ]) s

pub new_zero : (bits : ℕ) (before : Option ℕ) (z : Bytes) (n : ℕ) → is_new before 0 ≡ true → Stops (λ w. w ≡ 32 ∷ []) z n → Stops (AreNewDigits bits before) (48 ∷ z) (suc n)
new_zero bits before z n new s = stops_next (AreNewDigits bits before) (λ w. w ≡ 32 ∷ []) 48 z n (λ w e. zero_digits bits before (48 ∷ w) (ap (λ (l : Bytes). 48 ∷ l) e) new)
    (λ w is. elim (new_digits bits before w is) [
      | inl o ↦ inl (32 ∷ [], o.0, refl)
      | inr o ↦ inr (ap (λ (l : Bytes). common l (48 ∷ z)) o.1 ∙ common_other 49 48 o.0 z (λ e. absurd (omega (arith, e))), digits_long bits before w is)
    ]) s

pub new_stop : (bits : ℕ) (before : Option ℕ) (byte : ℕ) (z : Bytes) → 1 ≤ bits → byte ≢ 49 → (byte ≡ 48 → is_new before 0 ≡ true → ⊥) → Stops (AreNewDigits bits before) (byte ∷ z) 0
new_stop bits before byte z h other no_zero =
    let s : (w : Bytes) × AreNewDigits bits before w = some_digits_of bits before h in
    stops_here (AreNewDigits bits before) (byte ∷ z) s.0 s.1 (λ w is. elim (new_digits bits before w is) [
      | inl o ↦ (ap (λ (l : Bytes). common l (byte ∷ z)) o.0 ∙ common_other 48 byte (32 ∷ []) z (λ e. no_zero (sym e) o.1), digits_long bits before w is)
      | inr o ↦ (ap (λ (l : Bytes). common l (byte ∷ z)) o.1 ∙ common_other 49 byte o.0 z (λ e. other (sym e)), digits_long bits before w is)
    ])

pub found_one : (bits : ℕ) (before : Option ℕ) (v byte : ℕ) (w rest behind text : Bytes) → 1 ≤ bits → byte ≡ 49 → IsDigits before 1 (bits - 1) v w → rest ≡ w ++ behind → text ≡ byte ∷ rest → IsNewValue bits before v × (text ≡ binary v ++ 32 ∷ behind)
found_one bits before v byte w rest behind text h is_byte is e f =
    let s : (binary 1 ++ w ≡ binary v ++ 32 ∷ []) × (v < 2 ^ bits) × (is_new before v ≡ true) = digits_sound before 1 (bits - 1) v (2 ^ bits) w (omega arith) (room_first bits h) is in
    ((s.1, s.2), f ∙ ap (λ (k : ℕ). k ∷ rest) is_byte ∙ ap (λ (l : Bytes). 49 ∷ l) e ∙ ap (λ (l : Bytes). (l ++ w) ++ behind) (sym binary_one) ∙ ap (λ (l : Bytes). l ++ behind) s.0 ∙ append_assoc (binary v) (32 ∷ []) behind)

pub found_zero : (bits : ℕ) (before : Option ℕ) (v byte : ℕ) (rest behind text : Bytes) → 0 < 2 ^ bits → byte ≡ 48 → is_new before 0 ≡ true → v ≡ 0 → rest ≡ 32 ∷ behind → text ≡ byte ∷ rest → IsNewValue bits before v × (text ≡ binary v ++ 32 ∷ behind)
found_zero bits before v byte rest behind text up is_byte new is e f = (
  (subst (λ (k : ℕ). k < 2 ^ bits) (sym is) up, subst (λ (k : ℕ). is_new before k ≡ true) (sym is) new),
  f ∙ ap (λ (k : ℕ). k ∷ rest) is_byte ∙ ap (λ (l : Bytes). 48 ∷ l) e ∙ ap (λ (l : Bytes). l ++ 32 ∷ behind) (sym binary_zero) ∙ ap (λ (k : ℕ). binary k ++ 32 ∷ behind) (sym is),
)

-- ---- one bit

abbrev pub IsBit : Option ℕ → Bytes → Type 0
IsBit before w = (v : ℕ) × IsNewValue 1 before v × (w ≡ (48 + v) ∷ [])

some_bit : (before : Option ℕ) → (w : Bytes) × IsBit before w
some_bit before = let s : (v : ℕ) × IsNewValue 1 before v = some_new 1 before (omega arith) in ((48 + s.0) ∷ [], (s.0, s.1, refl))

bit_long : (before : Option ℕ) (w : Bytes) → IsBit before w → 0 < length w
bit_long before w (v, is, e) = subst (λ (l : Bytes). 0 < length l) (sym e) (omega arith)

pub bit_none : (before : Option ℕ) → Stops (IsBit before) [] 0
bit_none before = let s : (w : Bytes) × IsBit before w = some_bit before in stops_empty (IsBit before) s.0 s.1 (bit_long before)

pub bit_stop : (before : Option ℕ) (byte : ℕ) (z : Bytes) → ((v : ℕ) → v < 2 → byte ≡ 48 + v → is_new before v ≡ true → ⊥) → Stops (IsBit before) (byte ∷ z) 0
bit_stop before byte z never =
    let s : (w : Bytes) × IsBit before w = some_bit before in
    stops_here (IsBit before) (byte ∷ z) s.0 s.1 (λ w is. (ap (λ (l : Bytes). common l (byte ∷ z)) is.2 ∙ common_other (48 + is.0) byte [] z (λ e. never is.0 is.1.0 (sym e) is.1.1), bit_long before w is))

-- ---- more bits

abbrev pub IsWord : ℕ → Option ℕ → Bytes → Type 0
IsWord bits before w = (v : ℕ) × IsNewValue bits before v × (w ≡ 98 ∷ (binary v ++ 32 ∷ []))

word_long : (bits : ℕ) (before : Option ℕ) (w : Bytes) → IsWord bits before w → 0 < length w
word_long bits before w (v, is, e) = subst (λ (l : Bytes). 0 < length l) (sym e) (omega arith)

pub word_none : (bits : ℕ) (before : Option ℕ) → 1 ≤ bits → Stops (IsWord bits before) [] 0
word_none bits before h = let s : (v : ℕ) × IsNewValue bits before v = some_new bits before h in stops_empty (IsWord bits before) (98 ∷ (binary s.0 ++ 32 ∷ [])) (s.0, s.1, refl) (word_long bits before)

pub word_stop : (bits : ℕ) (before : Option ℕ) (byte : ℕ) (z : Bytes) → 1 ≤ bits → byte ≢ 98 → Stops (IsWord bits before) (byte ∷ z) 0
word_stop bits before byte z h other =
    let s : (v : ℕ) × IsNewValue bits before v = some_new bits before h in
    stops_here (IsWord bits before) (byte ∷ z) (98 ∷ (binary s.0 ++ 32 ∷ [])) (s.0, s.1, refl)
    (λ w is. (ap (λ (l : Bytes). common l (byte ∷ z)) is.2 ∙ common_other 98 byte (binary is.0 ++ 32 ∷ []) z (λ e. other (sym e)), word_long bits before w is))

pub word_next : (bits : ℕ) (before : Option ℕ) (z : Bytes) (n : ℕ) → Stops (AreNewDigits bits before) z n → Stops (IsWord bits before) (98 ∷ z) (suc n)
word_next bits before z n s = stops_next (IsWord bits before) (AreNewDigits bits before) 98 z n (λ w is. (is.0, is.1, ap (λ (l : Bytes). 98 ∷ l) is.2)) (λ w is. inl (binary is.0 ++ 32 ∷ [], is.2, (is.0, is.1, refl))) s

pub wide_text : (bits v : ℕ) → bits ≢ 1 → value_text bits v ≡ 98 ∷ (binary v ++ 32 ∷ [])
wide_text bits v other = cond_no (nat_eq bits 1) ((48 + v) ∷ []) (98 ∷ (binary v ++ 32 ∷ [])) (ne_eqb bits 1 other)

pub word_value : (bits : ℕ) (before : Option ℕ) (z : Bytes) (n : ℕ) → bits ≢ 1 → Stops (IsWord bits before) z n → Stops (λ w. (v : ℕ) × IsNewValue bits before v × (w ≡ value_text bits v)) z n
word_value bits before z n other s = stops_like (IsWord bits before) (λ w. (v : ℕ) × IsNewValue bits before v × (w ≡ value_text bits v)) z n
    (λ w is. (is.0, is.1, is.2 ∙ sym (wide_text bits is.0 other))) (λ w is. (is.0, is.1, is.2 ∙ wide_text bits is.0 other)) s
