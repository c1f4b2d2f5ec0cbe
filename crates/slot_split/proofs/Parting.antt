-- Parts of rows and columns.
use Rattle.std.proofs.Common.{◌≡◌, ℕ, zero, suc, ◌+◌, ◌-◌, ◌<◌, ◌≤◌, Bool, true, false, refl, sym, ap, ◌∙◌, arith, ⊎_elim}
use Rattle.std.specs.Prelude.{◌≢◌, if◌then◌else◌, nat_lt}
use Rattle.std.proofs.lemmas.Bool.{cases_lt}
use Rattle.std.proofs.lemmas.Bool.Decides.{nat_tests}
use Rattle.slot_split.specs.Halving.{half, part_start, AreCuts}

-- ---- one cut

pub part_first : (k n x : ℕ) → x < half n → part_start (suc k) n x ≡ part_start k (half n) x
part_first k n x l =
    let e : nat_lt x (half n) ≡ true = grind (arith, nat_tests) in
    ap (λ (b : Bool). if b then part_start k (half n) x else half n + part_start k (n - half n) (x - half n)) e

pub part_second : (k n x : ℕ) → half n ≤ x → part_start (suc k) n x ≡ half n + part_start k (n - half n) (x - half n)
part_second k n x l =
    let e : nat_lt x (half n) ≡ false = grind (arith, nat_tests) in
    ap (λ (b : Bool). if b then part_start k (half n) x else half n + part_start k (n - half n) (x - half n)) e

-- a part begins no later than what is in it
pub part_le : (k n x : ℕ) → part_start k n x ≤ x
part_le zero n x = omega arith
part_le (suc k) n x =
    ⊎_elim
    (λ (l : x < half n). let a = part_first k n x l in let b = part_le k (half n) x in omega arith)
    (λ (l : half n ≤ x). let a = part_second k n x l in let b = part_le k (n - half n) (x - half n) in omega arith)
    (cases_lt x (half n))

-- as the code takes them
pub first_cut : (k n x : ℕ) → (k ≡ 0 → ⊥) → x < half n → part_start k n x ≡ part_start (k - 1) (half n) x
first_cut zero n x some l = absurd (some refl)
first_cut (suc k) n x some l = let e : suc k - 1 ≡ k = omega arith in part_first k n x l ∙ ap (λ (j : ℕ). part_start j (half n) x) (sym e)

-- ---- when each is alone

alone_step : (k b n x : ℕ) → ((m y : ℕ) → m ≤ b → y < m → part_start k m y ≡ y) → n ≤ b + b → x < n → part_start (suc k) n x ≡ x
alone_step k b n x h l lx =
    ⊎_elim
    (λ (a : x < half n). part_first k n x a ∙ h (half n) x (omega arith) a)
    (λ (a : half n ≤ x).
    let s = part_second k n x a in
    let i = h (n - half n) (x - half n) (omega arith) (omega arith) in
    omega arith)
    (cases_lt x (half n))

pub alone_0 : (n x : ℕ) → n ≤ 1 → x < n → part_start 0 n x ≡ x
alone_0 n x l lx = omega arith

pub alone_1 : (n x : ℕ) → n ≤ 2 → x < n → part_start 1 n x ≡ x
alone_1 n x l lx = alone_step 0 1 n x (λ m y lm ly. alone_0 m y lm ly) (omega arith) lx

pub alone_2 : (n x : ℕ) → n ≤ 4 → x < n → part_start 2 n x ≡ x
alone_2 n x l lx = alone_step 1 2 n x (λ m y lm ly. alone_1 m y lm ly) (omega arith) lx

pub alone_3 : (n x : ℕ) → n ≤ 8 → x < n → part_start 3 n x ≡ x
alone_3 n x l lx = alone_step 2 4 n x (λ m y lm ly. alone_2 m y lm ly) (omega arith) lx

-- ---- when some is not

joined_step : (k b n : ℕ) → ((m : ℕ) → b < m → (x : ℕ) × (x < m) × (part_start k m x ≢ x)) → b + b < n → (x : ℕ) × (x < n) × (part_start (suc k) n x ≢ x)
joined_step k b n h l =
    let w = h (half n) (omega arith) in
    let lx = w.1 in (w.0, omega arith, λ e. w.2 (sym (part_first k n w.0 w.1) ∙ e))

pub joined_0 : (n : ℕ) → 1 < n → (x : ℕ) × (x < n) × (part_start 0 n x ≢ x)
joined_0 n l = (1, l, λ e. let i : ⊥ = omega arith in i)

pub joined_1 : (n : ℕ) → 2 < n → (x : ℕ) × (x < n) × (part_start 1 n x ≢ x)
joined_1 n l = joined_step 0 1 n (λ m lm. joined_0 m lm) (omega arith)

pub joined_2 : (n : ℕ) → 4 < n → (x : ℕ) × (x < n) × (part_start 2 n x ≢ x)
joined_2 n l = joined_step 1 2 n (λ m lm. joined_1 m lm) (omega arith)

joined_below : (j k n : ℕ) → j < k → k ≤ 3 → (0 < k → 1 < n) → (1 < k → 2 < n) → (2 < k → 4 < n) → (x : ℕ) × (x < n) × (part_start j n x ≢ x)
joined_below zero k n l few a b c = joined_0 n (a (omega arith))
joined_below (suc zero) k n l few a b c = joined_1 n (b (omega arith))
joined_below (suc (suc zero)) k n l few a b c = joined_2 n (c (omega arith))
joined_below (suc (suc (suc j))) k n l few a b c = absurd (let i : ⊥ = omega arith in i)

pub cuts_0 : (n : ℕ) → n ≤ 1 → AreCuts n 0
cuts_0 n l = record { alone = λ x lx. alone_0 n x l lx; before = λ j lj. absurd (let i : ⊥ = omega arith in i) }

pub cuts_1 : (n : ℕ) → 1 < n → n ≤ 2 → AreCuts n 1
cuts_1 n a l = record { alone = λ x lx. alone_1 n x l lx; before = λ j lj. joined_below j 1 n lj (omega arith) (λ z. a) (λ z. absurd (let i : ⊥ = omega arith in i)) (λ z. absurd (let i : ⊥ = omega arith in i)) }

pub cuts_2 : (n : ℕ) → 2 < n → n ≤ 4 → AreCuts n 2
cuts_2 n a l = record { alone = λ x lx. alone_2 n x l lx; before = λ j lj. joined_below j 2 n lj (omega arith) (λ z. omega arith) (λ z. a) (λ z. absurd (let i : ⊥ = omega arith in i)) }

pub cuts_3 : (n : ℕ) → 4 < n → n ≤ 8 → AreCuts n 3
cuts_3 n a l = record { alone = λ x lx. alone_3 n x l lx; before = λ j lj. joined_below j 3 n lj (omega arith) (λ z. omega arith) (λ z. omega arith) (λ z. a) }

-- ---- parts of parts

-- where a part begins, an earlier part begins that it is in
pub part_again : (j k n x : ℕ) → j ≤ k → part_start j n (part_start k n x) ≡ part_start j n x
part_again zero k n x l = refl
part_again (suc j) zero n x l = absurd (let i : ⊥ = omega arith in i)
part_again (suc j) (suc k) n x l =
    ⊎_elim
    (λ (a : x < half n).
    let e = part_first k n x a in
    let s = part_le k (half n) x in
    ap (part_start (suc j) n) e
    ∙ (part_first j n (part_start k (half n) x) (omega arith)
    ∙ (part_again j k (half n) x (omega arith) ∙ sym (part_first j n x a))))
    (λ (a : half n ≤ x).
    let e = part_second k n x a in
    let y = part_start k (n - half n) (x - half n) in
    let back : half n + y - half n ≡ y = omega arith in
    ap (part_start (suc j) n) e
    ∙ (part_second j n (half n + y) (omega arith)
    ∙ (ap (λ (z : ℕ). half n + part_start j (n - half n) z) back
    ∙ (ap (λ (z : ℕ). half n + z) (part_again j k (n - half n) (x - half n) (omega arith)) ∙ sym (part_second j n x a)))))
    (cases_lt x (half n))
