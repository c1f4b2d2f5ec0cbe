-- What pairs of slots say, from what their slots say.
use Rattle.std.proofs.Common.{◌≡◌, ℕ, ◌+◌, ◌-◌, ◌*◌, ◌/◌, ◌%◌, ◌^◌, ◌<◌, ◌≤◌, Bool, true, false, cond, List, refl, sym, ap, subst, ◌∙◌, arith}
use Rattle.std.specs.Prelude.{bit_and, ◌==◌}
use Rattle.std.proofs.Math.Pow.{pow_mono}
use Rattle.std.proofs.lemmas.Nat.{shr_split, shr_high, shr_below}
use Rattle.vlog_tree.specs.declared.tree.BinaryOp.{BinaryOp}
use Rattle.vlog_tree.specs.declared.tree.BinaryOp.TheVariants.{Minus}
use Rattle.vlog_tree.specs.Cycle.{op_value}
use Rattle.sim_tape.specs.declared.gates.Operator.{Operator}
use Rattle.sim_tape.specs.declared.gates.Pair.{Pair}
use Rattle.sim_tape.specs.Operators.{Cells, operator_value}
use Rattle.sim_tape.specs.Tape.{TapeTree, IsTape, number_at, pair_value}
use Rattle.sim_tape.specs.Solved.{IsSolved}
use Rattle.sim_tape.proofs.Growing.{zero_says}
use Rattle.sim_gates.specs.Operands.{narrow_of, IsBitwise}
use Rattle.sim_gates.proofs.Operating.{one_gate, two_gates}
use Rattle.sim_gates.proofs.ReadParts.{part_gate, low_part, high_part, high_is_none, low_alone, join_gate, join_wide, complement_gate}
use Rattle.tapa_base.proofs.Tests.{join_fits}

-- a slot with nothing above it
pub single : (t : TapeTree) → IsTape t → (cells : Cells) (ns : List ℕ) → IsSolved t cells ns → (s : ℕ) → pair_value ns (record { low = s; high = 0 }) ≡ number_at ns s
single t tape cells ns h s = low_alone (number_at ns 0) (number_at ns s) (zero_says t tape cells ns h)

pub nothing : (t : TapeTree) → IsTape t → (cells : Cells) (ns : List ℕ) → IsSolved t cells ns → pair_value ns (record { low = 0; high = 0 }) ≡ 0
nothing t tape cells ns h = single t tape cells ns h 0 ∙ zero_says t tape cells ns h

pub halves_are : (ns : List ℕ) (n l h : ℕ) → number_at ns l ≡ n % 2 ^ 64 → number_at ns h ≡ n / 2 ^ 64 → pair_value ns (record { low = l; high = h }) ≡ n
halves_are ns n l h low high = ap (λ x. x * 2 ^ 64 + number_at ns l) high ∙ ap (λ x. n / 2 ^ 64 * 2 ^ 64 + x) low ∙ shr_split n 64

-- a pair of 64 bits is its low slot
pub low_is : (ns : List ℕ) (p : Pair) → pair_value ns p < 2 ^ 64 → number_at ns p.low ≡ pair_value ns p
low_is ns p h = sym (low_alone (number_at ns p.high) (number_at ns p.low) (high_is_none (number_at ns p.high) (number_at ns p.low) h))

pub part_says : (a s m low bits r : ℕ) → r ≡ bit_and (a / 2 ^ s) m → s ≡ low → m ≡ 2 ^ bits - 1 → r ≡ a / 2 ^ low % 2 ^ bits
part_says a s m low bits r e f g = e ∙ ap (λ k. bit_and (a / 2 ^ k) m) f ∙ ap (λ k. bit_and (a / 2 ^ low) k) g ∙ part_gate a low bits

pub long_says : (a low bits s z r : ℕ) → r ≡ (s + z) % 2 ^ bits → s ≡ a / 2 ^ low → z ≡ 0 → r ≡ a / 2 ^ low % 2 ^ bits
long_says a low bits s z r e f g = e ∙ ap (λ k. (k + z) % 2 ^ bits) f ∙ ap (λ k. (a / 2 ^ low + k) % 2 ^ bits) g ∙ (let n : a / 2 ^ low + 0 ≡ a / 2 ^ low = omega arith in ap (λ k. k % 2 ^ bits) n)

pub gate_says : (w : ℕ) (op : BinaryOp) (o : Operator) (cells : Cells) (x y a b m r : ℕ) → o ≡ narrow_of op → r ≡ operator_value o cells x y m → x ≡ a → y ≡ b → m ≡ 2 ^ w - 1 → w ≤ 64 → (op ≡ Minus → b < 2 ^ w) → r ≡ op_value w op a b
gate_says w op o cells x y a b m r is e f g k h t =
    e ∙ ap (λ q. operator_value q cells x y m) is ∙ ap (λ q. operator_value (narrow_of op) cells q y m) f ∙ ap (λ q. operator_value (narrow_of op) cells a q m) g
    ∙ ap (λ q. operator_value (narrow_of op) cells a b q) k ∙ one_gate w op cells a b h t

pub gates_say : (w : ℕ) (op : BinaryOp) (o q : Operator) (cells : Cells) (ns : List ℕ) (left right : Pair) (m n l h : ℕ) → IsBitwise op → o ≡ narrow_of op → q ≡ narrow_of op
    → number_at ns left.low < 2 ^ 64 → number_at ns right.low < 2 ^ 64
    → number_at ns l ≡ operator_value o cells (number_at ns left.low) (number_at ns right.low) m → number_at ns h ≡ operator_value q cells (number_at ns left.high) (number_at ns right.high) n
    → pair_value ns (record { low = l; high = h }) ≡ op_value w op (pair_value ns left) (pair_value ns right)
gates_say w op o q cells ns left right m n l h i is js small_left small_right low high =
    ap (λ x. x * 2 ^ 64 + number_at ns l) (high ∙ ap (λ z. operator_value z cells (number_at ns left.high) (number_at ns right.high) n) js)
    ∙ ap (λ x. operator_value (narrow_of op) cells (number_at ns left.high) (number_at ns right.high) n * 2 ^ 64 + x) (low ∙ ap (λ z. operator_value z cells (number_at ns left.low) (number_at ns right.low) m) is)
    ∙ two_gates w op cells (number_at ns left.high) (number_at ns left.low) (number_at ns right.high) (number_at ns right.low) n m i small_left small_right

pub join_says : (a b n x s y r : ℕ) → r ≡ ((x * 2 ^ s) % 2 ^ 64 + y) % 2 ^ 64 → x ≡ a → s ≡ b → y ≡ n → a * 2 ^ b + n < 2 ^ 64 → r ≡ a * 2 ^ b + n
join_says a b n x s y r e f g k h =
    e ∙ ap (λ q. ((q * 2 ^ s) % 2 ^ 64 + y) % 2 ^ 64) f ∙ ap (λ q. ((a * 2 ^ q) % 2 ^ 64 + y) % 2 ^ 64) g ∙ ap (λ q. ((a * 2 ^ b) % 2 ^ 64 + q) % 2 ^ 64) k ∙ join_gate a b n h

pub wide_join_says : (a b n w s m r : ℕ) → r ≡ (m + n) % 2 ^ w → m ≡ (a * 2 ^ s) % 2 ^ w → s ≡ b → a * 2 ^ b + n < 2 ^ w → r ≡ a * 2 ^ b + n
wide_join_says a b n w s m r e f g h = e ∙ ap (λ q. (q + n) % 2 ^ w) (f ∙ ap (λ q. (a * 2 ^ q) % 2 ^ w) g) ∙ join_wide a b n w h

pub complement_says : (n w m r : ℕ) → r ≡ bit_and ((m + 2 ^ 64 - n) % 2 ^ 64) m → m ≡ 2 ^ w - 1 → w ≤ 64 → n < 2 ^ w → r ≡ 2 ^ w - 1 - n
complement_says n w m r e f h low = e ∙ ap (λ q. bit_and ((q + 2 ^ 64 - n) % 2 ^ 64) q) f ∙ complement_gate n w h low

choice_by : (b : Bool) (h l k m : ℕ) → cond b h k * 2 ^ 64 + cond b l m ≡ cond b (h * 2 ^ 64 + l) (k * 2 ^ 64 + m)
choice_by true h l k m = refl
choice_by false h l k m = refl

pub choice_says : (ns : List ℕ) (test : ℕ) (one other : Pair) (l h : ℕ) → number_at ns l ≡ cond (number_at ns test == 1) (number_at ns one.low) (number_at ns other.low)
    → number_at ns h ≡ cond (number_at ns test == 1) (number_at ns one.high) (number_at ns other.high) → pair_value ns (record { low = l; high = h }) ≡ cond (number_at ns test == 1) (pair_value ns one) (pair_value ns other)
choice_says ns test one other l h low high =
    ap (λ x. x * 2 ^ 64 + number_at ns l) high ∙ ap (λ x. cond (number_at ns test == 1) (number_at ns one.high) (number_at ns other.high) * 2 ^ 64 + x) low
    ∙ choice_by (number_at ns test == 1) (number_at ns one.high) (number_at ns one.low) (number_at ns other.high) (number_at ns other.low)

pub same_choice : (b : Bool) (n : ℕ) → n ≡ cond b n n
same_choice true n = refl
same_choice false n = refl

pub low_part_says : (h l low high bits : ℕ) → l < 2 ^ 64 → low ≤ high → high < 64 → bits ≡ high + 1 - low → l / 2 ^ low % 2 ^ bits ≡ (h * 2 ^ 64 + l) / 2 ^ low % 2 ^ (high + 1 - low)
low_part_says h l low high bits small order room e = ap (λ k. l / 2 ^ low % 2 ^ k) e ∙ sym (low_part h l low (high + 1 - low) small (omega arith))

pub high_part_says : (h l low high bits : ℕ) → l < 2 ^ 64 → 64 ≤ low → bits ≡ high + 1 - low → h / 2 ^ (low - 64) % 2 ^ bits ≡ (h * 2 ^ 64 + l) / 2 ^ low % 2 ^ (high + 1 - low)
high_part_says h l low high bits small far e = ap (λ k. h / 2 ^ (low - 64) % 2 ^ k) e ∙ sym (high_part h l low (high + 1 - low) small far)

-- nothing above
pub none_above : (a w n k : ℕ) → w ≡ 0 → a < 2 ^ w → n ≡ a * 2 ^ k + n
none_above a w n k e h =
    let one : a < 2 ^ 0 = subst (λ v. a < 2 ^ v) e h in
    let z : 0 ≡ a = omega arith in
    let s : n ≡ 0 * 2 ^ k + n = grind arith in
    s ∙ ap (λ v. v * 2 ^ k + n) z

pub fits_word : (n w : ℕ) → w ≤ 64 → n < 2 ^ w → n < 2 ^ 64
fits_word n w h low = let p : 2 ^ w ≤ 2 ^ 64 = pow_mono h in omega arith

pub both_fit_word : (a n j k : ℕ) → j + k ≤ 64 → a < 2 ^ j → n < 2 ^ k → a * 2 ^ k + n < 2 ^ 64
both_fit_word a n j k h l m = fits_word (a * 2 ^ k + n) (j + k) h (join_fits a n j k l m)

-- the high half of a number of so many bits
pub high_below : (h l w : ℕ) → 64 ≤ w → l < 2 ^ 64 → h * 2 ^ 64 + l < 2 ^ w → h < 2 ^ (w - 64)
high_below h l w far small low =
    let e : w ≡ (w - 64) + 64 = omega arith in
    subst (λ k. k < 2 ^ (w - 64)) (shr_high h 64 l small) (shr_below (h * 2 ^ 64 + l) (w - 64) 64 (subst (λ k. h * 2 ^ 64 + l < 2 ^ k) e low))
