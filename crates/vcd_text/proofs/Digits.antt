-- Binary digits from the first on.
use Rattle.std.proofs.lemmas.Bool.{lt-ltb, le-ltb}
use Rattle.std.proofs.Common.{◌≡◌, ◌≢◌, ◌⊎◌, ℕ, zero, suc, ◌+◌, ◌-◌, ◌*◌, ◌/◌, ◌%◌, ◌^◌, ◌<◌, ◌≤◌, true, false, [], ◌∷◌, ◌++◌, length, inl, inr, refl, sym, ap, subst, ◌∙◌, append_assoc, arith, nat_lt}
use Rattle.std.specs.Prelude.{Option, Some, None, not}
use Rattle.std.proofs.lemmas.Bool.Decides.{eqb_tells}
use Rattle.std.proofs.lemmas.Nat.{pow_pos}
use Rattle.std.proofs.Math.Nat.{two-pow-succ, mul-le-mul_left}
use Rattle.tapa_base.specs.Gaps.{Bytes}
use Rattle.vcd_text.specs.Along.{common, Stops}
use Rattle.vcd_text.specs.Dump.{bits_from, binary}
use Rattle.vcd_text.specs.Lines.{is_new, IsNewValue}
use Rattle.vcd_text.specs.Digits.{IsEnd, IsDigits, AreDigits, IsOpen, IsMore, AreNewDigits}
use Rattle.vcd_text.proofs.Common.{common_other, stops_empty, stops_here, stops_next, less, cond_yes, cond_no}
use Rattle.tapa_base.proofs.Tests.{bool_cases as yes_or_no, true_not_false}

-- ---- binary digits

pub small_bits : (k v : ℕ) → v < 2 → bits_from (suc k) v ≡ (48 + v % 2) ∷ []
small_bits k v h = ap (λ (l : Bytes). l ++ (48 + v % 2) ∷ []) (cond_yes (nat_lt v 2) [] (bits_from k (v / 2)) (lt-ltb v 2 h))

pub big_bits : (k v : ℕ) → 2 ≤ v → bits_from (suc k) v ≡ bits_from k (v / 2) ++ (48 + v % 2) ∷ []
big_bits k v h = ap (λ (l : Bytes). l ++ (48 + v % 2) ∷ []) (cond_no (nat_lt v 2) [] (bits_from k (v / 2)) (le-ltb v 2 h))

-- more digits than there are change nothing
pub bits_same : (m n v : ℕ) → v ≤ m → v ≤ n → bits_from (suc m) v ≡ bits_from (suc n) v
bits_same zero n v p q = small_bits 0 v (omega arith) ∙ sym (small_bits n v (omega arith))
bits_same (suc m) zero v p q = small_bits (suc m) v (omega arith) ∙ sym (small_bits 0 v (omega arith))
bits_same (suc m) (suc n) v p q = elim (less v 2) [
  | inl t ↦ small_bits (suc m) v t.1 ∙ sym (small_bits (suc n) v t.1)
  | inr f ↦ big_bits (suc m) v f.1 ∙ ap (λ (l : Bytes). l ++ (48 + v % 2) ∷ []) (bits_same m n (v / 2) (omega (arith, f.1)) (omega (arith, f.1))) ∙ sym (big_bits (suc n) v f.1)
]

pub binary_more : (a d : ℕ) → 0 < a → d < 2 → binary (2 * a + d) ≡ binary a ++ (48 + d) ∷ []
unfolding binary
binary_more a d p q =
    let half : (2 * a + d) / 2 ≡ a = omega arith in
    let low : (2 * a + d) % 2 ≡ d = omega arith in
    let more : 2 * a + d ≡ suc (2 * a + d - 1) = omega arith in
    big_bits (2 * a + d) (2 * a + d) (omega arith)
    ∙ ap (λ (k : ℕ). bits_from k ((2 * a + d) / 2) ++ (48 + (2 * a + d) % 2) ∷ []) more
    ∙ ap (λ (k : ℕ). bits_from (suc (2 * a + d - 1)) k ++ (48 + (2 * a + d) % 2) ∷ []) half
    ∙ ap (λ (l : Bytes). l ++ (48 + (2 * a + d) % 2) ∷ []) (bits_same (2 * a + d - 1) a a (omega arith) (omega arith))
    ∙ ap (λ (k : ℕ). bits_from (suc a) a ++ (48 + k) ∷ []) low

pub binary_zero : binary 0 ≡ 48 ∷ []
unfolding binary
binary_zero = refl

pub binary_one : binary 1 ≡ 49 ∷ []
unfolding binary
binary_one = refl

-- ---- bounds

pub room_more : (a d r n : ℕ) → d < 2 → (a + 1) * 2 ^ (suc r) ≤ n → (2 * a + d + 1) * 2 ^ r ≤ n
room_more a d r n q h =
    let double : 2 ^ (suc r) ≡ 2 ^ r + 2 ^ r = two-pow-succ r in
    let p : ℕ = 2 ^ r in
    omega (arith, subst (λ (k : ℕ). (a + 1) * k ≤ n) double h, less_one d q)
  where
    less_one : (d : ℕ) → d < 2 → d * 2 ^ r ≤ 2 ^ r
    less_one zero q = omega arith
    less_one (suc zero) q = omega arith
    less_one (suc (suc d)) q = absurd (omega arith)

pub room_below : (a r n : ℕ) → (a + 1) * 2 ^ r ≤ n → a < n
room_below a r n h = let one : 1 ≤ 2 ^ r = omega (arith, pow_pos r) in omega (arith, h, mul-le-mul_left (a + 1) one)

-- ---- digits behind a number

ended : (before : Option ℕ) (a v n : ℕ) (w : Bytes) → a < n → IsEnd before a v w → (binary a ++ w ≡ binary v ++ 32 ∷ []) × (v < n) × (is_new before v ≡ true)
ended before a v n w h (e, same, new) = (
  ap (λ (l : Bytes). binary a ++ l) e ∙ ap (λ (k : ℕ). binary k ++ 32 ∷ []) (sym same),
  subst (λ (k : ℕ). k < n) (sym same) h,
  subst (λ (k : ℕ). is_new before k ≡ true) (sym same) new,
)

-- digits behind a number are those of a value that has them all
pub digits_sound : (before : Option ℕ) (a r v n : ℕ) (w : Bytes) → 0 < a → (a + 1) * 2 ^ r ≤ n → IsDigits before a r v w → (binary a ++ w ≡ binary v ++ 32 ∷ []) × (v < n) × (is_new before v ≡ true)
digits_sound before a zero v n w p h is = ended before a v n w (room_below a 0 n h) is
digits_sound before a (suc r) v n w p h (inl is) = ended before a v n w (room_below a (suc r) n h) is
digits_sound before a (suc r) v n w p h (inr (d, y, q, e, is)) =
    let ih : (binary (2 * a + d) ++ y ≡ binary v ++ 32 ∷ []) × (v < n) × (is_new before v ≡ true) = digits_sound before (2 * a + d) r v n y (omega arith) (room_more a d r n q h) is in (
      ap (λ (l : Bytes). binary a ++ l) e ∙ sym (append_assoc (binary a) ((48 + d) ∷ []) y) ∙ ap (λ (l : Bytes). l ++ y) (sym (binary_more a d p q)) ∙ ih.0,
      ih.1,
      ih.2,
    )

-- room for more digits
digits_wider : (before : Option ℕ) (a r s v : ℕ) (w : Bytes) → r ≤ s → IsDigits before a r v w → IsDigits before a s v w
digits_wider before a zero zero v w h is = is
digits_wider before a zero (suc s) v w h is = inl is
digits_wider before a (suc r) zero v w h is = absurd (omega arith)
digits_wider before a (suc r) (suc s) v w h (inl e) = inl e
digits_wider before a (suc r) (suc s) v w h (inr (d, y, q, e, is)) = inr (d, y, q, e, digits_wider before (2 * a + d) r s v y (omega arith) is)

-- the digits of a number above 0 begin with 1
digits_up : (before : Option ℕ) (c y r v : ℕ) (w : Bytes) → 0 < y → y < 2 ^ c → IsDigits before y r v w → (x : Bytes) × (s : ℕ) × (s + 1 ≤ r + c) × (binary y ++ w ≡ 49 ∷ x) × IsDigits before 1 s v x
digits_up before zero y r v w p h is = absurd (omega (arith, h))
digits_up before (suc c) y r v w p h is = elim (less y 2) [
  | inl t ↦
      let one : y ≡ 1 = omega (arith, t.1) in
      (w, r, omega arith, ap (λ (k : ℕ). binary k ++ w) one ∙ ap (λ (l : Bytes). l ++ w) binary_one, subst (λ (k : ℕ). IsDigits before k r v w) one is)
  | inr f ↦
      let half : ℕ = y / 2 in
      let low : ℕ = y % 2 in
      let whole : y ≡ 2 * (y / 2) + y % 2 = omega arith in
      let up : 0 < y / 2 = omega (arith, f.1) in
      let bit : y % 2 < 2 = omega arith in
      let below : y / 2 < 2 ^ c = omega (arith, h, two-pow-succ c) in
      let here : IsDigits before (y / 2) (suc r) v ((48 + y % 2) ∷ w) = inr (y % 2, w, bit, refl, subst (λ (k : ℕ). IsDigits before k r v w) whole is) in
      let ih : (x : Bytes) × (s : ℕ) × (s + 1 ≤ suc r + c) × (binary (y / 2) ++ (48 + y % 2) ∷ w ≡ 49 ∷ x) × IsDigits before 1 s v x = digits_up before c (y / 2) (suc r) v ((48 + y % 2) ∷ w) up below here in
      (ih.0, ih.1, omega (arith, ih.2), ap (λ (k : ℕ). binary k ++ w) whole ∙ ap (λ (l : Bytes). l ++ w) (binary_more (y / 2) (y % 2) up bit) ∙ append_assoc (binary (y / 2)) ((48 + y % 2) ∷ []) w ∙ ih.3, ih.4)
]

-- the digits of a new value: 0, or 1 and what may stand behind it
pub new_digits : (bits : ℕ) (before : Option ℕ) (w : Bytes) → AreNewDigits bits before w → ((w ≡ 48 ∷ 32 ∷ []) × (is_new before 0 ≡ true)) ⊎ ((x : Bytes) × (w ≡ 49 ∷ x) × AreDigits before 1 (bits - 1) x)
new_digits bits before w (zero, is, e) = inl (e ∙ ap (λ (l : Bytes). l ++ 32 ∷ []) binary_zero, is.1)
new_digits bits before w (suc v, is, e) =
    let up : (x : Bytes) × (s : ℕ) × (s + 1 ≤ 0 + bits) × (binary (suc v) ++ 32 ∷ [] ≡ 49 ∷ x) × IsDigits before 1 s (suc v) x = digits_up before bits (suc v) 0 (suc v) (32 ∷ []) (omega arith) is.0 (refl, refl, is.1) in
    inr (up.0, e ∙ up.3, (suc v, digits_wider before 1 up.1 (bits - 1) (suc v) up.0 (omega (arith, up.2)) up.4))

pub zero_digits : (bits : ℕ) (before : Option ℕ) (w : Bytes) → w ≡ 48 ∷ 32 ∷ [] → is_new before 0 ≡ true → AreNewDigits bits before w
zero_digits bits before w e new = (0, (pow_pos bits, new), e ∙ ap (λ (l : Bytes). l ++ 32 ∷ []) (sym binary_zero))

pub room_first : (bits : ℕ) → 1 ≤ bits → (1 + 1) * 2 ^ (bits - 1) ≤ 2 ^ bits
room_first zero h = absurd (omega arith)
room_first (suc b) h = let e : suc b - 1 ≡ b = omega arith in subst (λ (k : ℕ). (1 + 1) * 2 ^ k ≤ 2 ^ (suc b)) (sym e) (omega (arith, two-pow-succ b))

pub more_new_digits : (bits : ℕ) (before : Option ℕ) (x : Bytes) → 1 ≤ bits → AreDigits before 1 (bits - 1) x → AreNewDigits bits before (49 ∷ x)
more_new_digits bits before x h (v, is) =
    let s : (binary 1 ++ x ≡ binary v ++ 32 ∷ []) × (v < 2 ^ bits) × (is_new before v ≡ true) = digits_sound before 1 (bits - 1) v (2 ^ bits) x (omega arith) (room_first bits h) is in
    (v, (s.1, s.2), ap (λ (l : Bytes). l ++ x) (sym binary_one) ∙ s.0)

-- ---- some digits

other_new : (before : Option ℕ) (a b : ℕ) → is_new before a ≡ false → a ≢ b → is_new before b ≡ true
other_new None a b e ne = absurd (true_not_false e)
other_new (Some u) a b e ne = elim (eqb_tells a u) [
  | inl t ↦ elim (eqb_tells b u) [ inl s ↦ absurd (ne (t.1 ∙ sym s.1)) | inr s ↦ ap not s.0 ]
  | inr t ↦ absurd (true_not_false (ap not (sym t.0) ∙ e))
]

pub some_digits : (before : Option ℕ) (a r : ℕ) → 0 < a → IsOpen before a r → (w : Bytes) × AreDigits before a r w
some_digits before a zero p (inl h) = absurd (omega (arith, h))
some_digits before a zero p (inr new) = (32 ∷ [], (a, (refl, refl, new)))
some_digits before a (suc r) p opened = elim (yes_or_no (is_new before a)) [
  | inl new ↦ (32 ∷ [], (a, inl (refl, refl, new)))
  | inr old ↦
      let next : is_new before (2 * a + 0) ≡ true = other_new before a (2 * a + 0) old (λ e. absurd (omega (arith, e))) in
      let ih : (w : Bytes) × AreDigits before (2 * a + 0) r w = some_digits before (2 * a + 0) r (omega arith) (inr next) in
      (48 ∷ ih.0, (ih.1.0, inr (0, ih.0, omega arith, refl, ih.1.1)))
]

open_of : (before : Option ℕ) (a r v : ℕ) (w : Bytes) → IsDigits before a r v w → IsOpen before a r
open_of before a zero v w is = inr is.2
open_of before a (suc r) v w (inl is) = inr is.2
open_of before a (suc r) v w (inr is) = inl (omega arith)

pub some_new : (bits : ℕ) (before : Option ℕ) → 1 ≤ bits → (v : ℕ) × IsNewValue bits before v
some_new bits before h = elim (yes_or_no (is_new before 0)) [
  | inl new ↦ (0, (pow_pos bits, new))
  | inr old ↦ (1, (room_below 1 (bits - 1) (2 ^ bits) (room_first bits h), other_new before 0 1 old (λ e. absurd (omega (arith, e)))))
]

-- ---- where digits stop

digits_long : (before : Option ℕ) (a r v : ℕ) (w : Bytes) → IsDigits before a r v w → 0 < length w
digits_long before a zero v w is = subst (λ (l : Bytes). 0 < length l) (sym is.0) (omega arith)
digits_long before a (suc r) v w (inl is) = subst (λ (l : Bytes). 0 < length l) (sym is.0) (omega arith)
digits_long before a (suc r) v w (inr (d, y, q, e, is)) = subst (λ (l : Bytes). 0 < length l) (sym e) (omega arith)

-- a byte that is neither the blank nor one more digit
pub digits_stop : (before : Option ℕ) (a r byte : ℕ) (z : Bytes) → 0 < a → IsOpen before a r → (byte ≡ 32 → is_new before a ≡ true → ⊥) → ((next : ℕ) → IsMore before a r byte next → ⊥) → Stops (AreDigits before a r) (byte ∷ z) 0
digits_stop before a r byte z p opened no_end no_more =
    let some : (w : Bytes) × AreDigits before a r w = some_digits before a r p opened in
    stops_here (AreDigits before a r) (byte ∷ z) some.0 some.1 (λ w is. (other r w is.0 no_more is.1, digits_long before a r is.0 w is.1))
  where
    other : (r : ℕ) (w : Bytes) (v : ℕ) → ((next : ℕ) → IsMore before a r byte next → ⊥) → IsDigits before a r v w → common w (byte ∷ z) ≡ 0
    other zero w v never is = ap (λ (l : Bytes). common l (byte ∷ z)) is.0 ∙ common_other 32 byte [] z (λ same. no_end (sym same) is.2)
    other (suc r) w v never (inl is) = ap (λ (l : Bytes). common l (byte ∷ z)) is.0 ∙ common_other 32 byte [] z (λ same. no_end (sym same) is.2)
    other (suc r) w v never (inr (d, y, q, e, is)) =
        ap (λ (l : Bytes). common l (byte ∷ z)) e
        ∙ common_other (48 + d) byte y z (λ same. never (2 * a + d) (d, q, sym same, refl, omega arith, elim (open_of before (2 * a + d) r v y is) [ inl h ↦ inl (omega (arith, h)) | inr h ↦ inr h ]))

-- no byte at all
pub digits_none : (before : Option ℕ) (a r : ℕ) → 0 < a → IsOpen before a r → Stops (AreDigits before a r) [] 0
digits_none before a r p opened =
    let some : (w : Bytes) × AreDigits before a r w = some_digits before a r p opened in
    stops_empty (AreDigits before a r) some.0 some.1 (λ w is. digits_long before a r is.0 w is.1)

-- one digit more
pub digits_next : (before : Option ℕ) (a r byte next : ℕ) (z : Bytes) (n : ℕ) → IsMore before a r byte next → Stops (AreDigits before next (r - 1)) z n → Stops (AreDigits before a r) (byte ∷ z) (suc n)
digits_next before a zero byte next z n (d, q, is_byte, is_next, room, opened) s = absurd (omega (arith, room))
digits_next before a (suc r) byte next z n (d, q, is_byte, is_next, room, opened) s =
    let e : suc r - 1 ≡ r = omega arith in
    let t : Stops (AreDigits before (2 * a + d) r) z n = subst (λ (k : ℕ). Stops (AreDigits before k r) z n) is_next (subst (λ (k : ℕ). Stops (AreDigits before next k) z n) e s) in
    stops_next (AreDigits before a (suc r)) (AreDigits before (2 * a + d) r) byte z n
    (λ w is. (is.0, inr (d, w, q, ap (λ (k : ℕ). k ∷ w) is_byte, is.1)))
    (λ w is. out w is.0 is.1) t
  where
    out : (w : Bytes) (v : ℕ) → IsDigits before a (suc r) v w → ((y : Bytes) × (w ≡ byte ∷ y) × AreDigits before (2 * a + d) r y) ⊎ ((common w (byte ∷ z) ≡ 0) × (0 < length w))
    out w v (inl is) = inr (
      ap (λ (l : Bytes). common l (byte ∷ z)) is.0 ∙ common_other 32 byte [] z (λ same. absurd (omega (arith, same, is_byte))),
      subst (λ (l : Bytes). 0 < length l) (sym is.0) (omega arith),
    )
    out w v (inr (f, y, p, e, is)) = elim (eqb_tells f d) [
      | inl t ↦ inl (y, e ∙ ap (λ (k : ℕ). (48 + k) ∷ y) t.1 ∙ ap (λ (k : ℕ). k ∷ y) (sym is_byte), (v, subst (λ (k : ℕ). IsDigits before (2 * a + k) r v y) t.1 is))
      | inr t ↦ inr (
        ap (λ (l : Bytes). common l (byte ∷ z)) e ∙ common_other (48 + f) byte y z (λ same. t.1 (omega (arith, same, is_byte))),
        subst (λ (l : Bytes). 0 < length l) (sym e) (omega arith),
      )
    ]

-- ---- what is found

pub found_end : (before : Option ℕ) (a r byte : ℕ) (rest text : Bytes) → byte ≡ 32 → is_new before a ≡ true → text ≡ byte ∷ rest → (w : Bytes) × IsDigits before a r a w × (text ≡ w ++ rest)
found_end before a r byte rest text e new is = (32 ∷ [], ended r, is ∙ ap (λ (k : ℕ). k ∷ rest) e)
  where
    ended : (r : ℕ) → IsDigits before a r a (32 ∷ [])
    ended zero = (refl, refl, new)
    ended (suc r) = inl (refl, refl, new)

pub found_more : (before : Option ℕ) (a r byte next v : ℕ) (rest text behind w : Bytes) → IsMore before a r byte next → IsDigits before next (r - 1) v w → rest ≡ w ++ behind → text ≡ byte ∷ rest → (x : Bytes) × IsDigits before a r v x × (text ≡ x ++ behind)
found_more before a zero byte next v rest text behind w (d, q, is_byte, is_next, room, opened) is e f = absurd (omega (arith, room))
found_more before a (suc r) byte next v rest text behind w (d, q, is_byte, is_next, room, opened) is e f =
    let one : suc r - 1 ≡ r = omega arith in (
      byte ∷ w,
      inr (d, w, q, ap (λ (k : ℕ). k ∷ w) is_byte, subst (λ (k : ℕ). IsDigits before k r v w) is_next (subst (λ (k : ℕ). IsDigits before next k v w) one is)),
      f ∙ ap (λ (l : Bytes). byte ∷ l) e,
    )

-- what a call asks for that reads on behind one more digit
pub call_more : (before : Option ℕ) (a r byte next n : ℕ) → 0 < a → (a + 1) * 2 ^ r ≤ n → IsMore before a r byte next → (0 < next) × ((next + 1) * 2 ^ (r - 1) ≤ n) × IsOpen before next (r - 1)
call_more before a zero byte next n p h (d, q, is_byte, is_next, room, opened) = absurd (omega (arith, room))
call_more before a (suc r) byte next n p h (d, q, is_byte, is_next, room, opened) =
    let one : suc r - 1 ≡ r = omega arith in (
      omega (arith, is_next),
      subst (λ (k : ℕ). (k + 1) * 2 ^ (suc r - 1) ≤ n) (sym is_next) (subst (λ (k : ℕ). (2 * a + d + 1) * 2 ^ k ≤ n) (sym one) (room_more a d r n q h)),
      elim opened [ inl h ↦ inl (omega (arith, h)) | inr h ↦ inr h ],
    )

pub room_next : (a r n : ℕ) → (a + 1) * 2 ^ r ≤ n → 0 < r → 2 * a + 1 < n
room_next a zero n h p = absurd (omega arith)
room_next a (suc r) n h p = room_below (2 * a + 1) r n (room_more a 1 r n (omega arith) h)
