-- Operators on numbers of at most 64 bits, and bit by bit on halves, as gates compute them.
use Rattle.std.proofs.Common.{◌≡◌, ℕ, zero, suc, ◌+◌, ◌-◌, ◌*◌, ◌%◌, ◌^◌, ◌<◌, ◌≤◌, refl, sym, ap, ◌∙◌, arith}
use Rattle.std.specs.Prelude.{bit_and}
use Rattle.std.proofs.Math.Nat.{add-mod_right}
use Rattle.std.proofs.Math.Pow.{mod-mod-pow, pow_pos}
use Rattle.std.proofs.lemmas.Nat.{pow-add, and_mask, and_block, or_block, xor_block}
use Rattle.vlog_tree.specs.declared.tree.BinaryOp.{BinaryOp}
use Rattle.vlog_tree.specs.declared.tree.BinaryOp.TheVariants.{Plus, Minus, Times, Divide, Remainder, And, Or, Xor, ShiftLeft, ShiftRight, Equals, Differs, Less}
use Rattle.vlog_tree.specs.Cycle.{op_value}
use Rattle.sim_tape.specs.Operators.{Cells, operator_value}
use Rattle.sim_gates.specs.Operands.{narrow_of, IsBitwise}

-- what is cut to 64 bits and then to fewer is cut to the fewer
pub cut_twice : (n w : ℕ) → w ≤ 64 → n % 2 ^ 64 % 2 ^ w ≡ n % 2 ^ w
cut_twice n w h = let e : (64 - w) + w ≡ 64 = omega arith in ap (λ k. n % 2 ^ k % 2 ^ w) (sym e) ∙ mod-mod-pow n (64 - w) w

pub masked : (n w : ℕ) → w ≤ 64 → bit_and (n % 2 ^ 64) (2 ^ w - 1) ≡ n % 2 ^ w
masked n w h = and_mask (n % 2 ^ 64) w ∙ cut_twice n w h

more_cut : (x k m : ℕ) → (x + k * m) % m ≡ x % m
more_cut x zero m = let e : x + 0 * m ≡ x = grind arith in ap (λ n. n % m) e
more_cut x (suc k) m = let e : x + suc k * m ≡ (x + k * m) + m = grind arith in ap (λ n. n % m) e ∙ add-mod_right (x + k * m) m ∙ more_cut x k m

one_less : (k m : ℕ) → 0 < k → k * m ≡ (k - 1) * m + m
one_less zero m h = absurd (omega arith)
one_less (suc k) m h =
    let e : suc k * m ≡ k * m + m = grind arith in
    let z : k ≡ suc k - 1 = omega arith in
    e ∙ ap (λ j. j * m + m) z

minus_terms : (a b big m k : ℕ) → big ≡ k + m → b ≤ m → a + big - b ≡ (a + m - b) + k
minus_terms a b big m k e h = omega arith

minus_cut : (a b w : ℕ) → w ≤ 64 → b < 2 ^ w → (a + 2 ^ 64 - b) % 2 ^ w ≡ (a + 2 ^ w - b) % 2 ^ w
minus_cut a b w h low =
    let e : (64 - w) + w ≡ 64 = omega arith in
    let s : 2 ^ 64 ≡ 2 ^ (64 - w) * 2 ^ w = ap (λ k. 2 ^ k) (sym e) ∙ pow-add 2 (64 - w) w in
    let q : 2 ^ 64 ≡ (2 ^ (64 - w) - 1) * 2 ^ w + 2 ^ w = s ∙ one_less (2 ^ (64 - w)) (2 ^ w) (pow_pos (64 - w)) in
    ap (λ n. n % 2 ^ w) (minus_terms a b (2 ^ 64) (2 ^ w) ((2 ^ (64 - w) - 1) * 2 ^ w) q (omega arith)) ∙ more_cut (a + 2 ^ w - b) (2 ^ (64 - w) - 1) (2 ^ w)

-- one gate with the mask of w bits computes an operator for a target of w bits
pub one_gate : (w : ℕ) (op : BinaryOp) (cells : Cells) (a b : ℕ) → w ≤ 64 → (op ≡ Minus → b < 2 ^ w) → operator_value (narrow_of op) cells a b (2 ^ w - 1) ≡ op_value w op a b
one_gate w Plus cells a b h t = masked (a + b) w h
one_gate w Minus cells a b h t = masked (a + 2 ^ 64 - b) w h ∙ minus_cut a b w h (t refl)
one_gate w Times cells a b h t = masked (a * b) w h
one_gate w ShiftLeft cells a b h t = masked (a * 2 ^ b) w h
one_gate w Divide cells a b h t = refl
one_gate w Remainder cells a b h t = refl
one_gate w And cells a b h t = refl
one_gate w Or cells a b h t = refl
one_gate w Xor cells a b h t = refl
one_gate w ShiftRight cells a b h t = refl
one_gate w Equals cells a b h t = refl
one_gate w Differs cells a b h t = refl
one_gate w Less cells a b h t = refl

-- a gate for each half computes an operator that goes bit by bit
pub two_gates : (w : ℕ) (op : BinaryOp) (cells : Cells) (a b c d m n : ℕ) → IsBitwise op → b < 2 ^ 64 → d < 2 ^ 64
    → operator_value (narrow_of op) cells a c m * 2 ^ 64 + operator_value (narrow_of op) cells b d n ≡ op_value w op (a * 2 ^ 64 + b) (c * 2 ^ 64 + d)
two_gates w And cells a b c d m n i h k = sym (and_block 64 a c b d h k)
two_gates w Or cells a b c d m n i h k = sym (or_block 64 a c b d h k)
two_gates w Xor cells a b c d m n i h k = sym (xor_block 64 a c b d h k)
two_gates w Plus cells a b c d m n i h k = absurd i
two_gates w Minus cells a b c d m n i h k = absurd i
two_gates w Times cells a b c d m n i h k = absurd i
two_gates w Divide cells a b c d m n i h k = absurd i
two_gates w Remainder cells a b c d m n i h k = absurd i
two_gates w ShiftLeft cells a b c d m n i h k = absurd i
two_gates w ShiftRight cells a b c d m n i h k = absurd i
two_gates w Equals cells a b c d m n i h k = absurd i
two_gates w Differs cells a b c d m n i h k = absurd i
two_gates w Less cells a b c d m n i h k = absurd i
