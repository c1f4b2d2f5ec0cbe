-- Lists of tokens grow by one a cycle at most, and keep what they have.
use Rattle.std.proofs.Common.{◌≡◌, ℕ, zero, suc, ◌+◌, ◌-◌, ◌<◌, ◌≤◌, Bool, true, false, cond, eqb, List, [], ◌∷◌, ◌++◌, length, Some, refl, sym, ap, ◌∙◌, arith, length-append}
use Rattle.std.specs.Prelude.{slice_get}
use Rattle.hw_channel_laws.specs.signals.Signals.{Signal, carried_before, times, ones}

pub get_front : (xs ys : List ℕ) (i : ℕ) → i < length xs → slice_get (xs ++ ys) i ≡ slice_get xs i
get_front [] ys i h = absurd (omega arith)
get_front (x ∷ xs) ys zero h = refl
get_front (x ∷ xs) ys (suc i) h = get_front xs ys i (omega arith)

pub get_last : (xs : List ℕ) (x : ℕ) → slice_get (xs ++ x ∷ []) (length xs) ≡ Some x
get_last [] x = refl
get_last (y ∷ xs) x = get_last xs x

pub length_with : (b : Bool) (xs : List ℕ) (x : ℕ) → length (cond b (xs ++ x ∷ []) xs) ≡ cond b (length xs + 1) (length xs)
length_with true xs x = length-append xs (x ∷ [])
length_with false xs x = refl

get_with : (b : Bool) (xs : List ℕ) (x i : ℕ) → i < length xs → slice_get (cond b (xs ++ x ∷ []) xs) i ≡ slice_get xs i
get_with true xs x i h = get_front xs (x ∷ []) i h
get_with false xs x i h = refl

one_at_most : (b : Bool) (n : ℕ) → cond b (n + 1) n ≤ n + 1
one_at_most true n = omega arith
one_at_most false n = omega arith

pub no_less : (b : Bool) (n : ℕ) → n ≤ cond b (n + 1) n
no_less true n = omega arith
no_less false n = omega arith

module _ (go : ℕ → Bool) (a : Signal) where
  pub carried_none : (n : ℕ) → n ≤ 1 → carried_before go a n ≡ []
  carried_none zero h = refl
  carried_none (suc zero) h = refl
  carried_none (suc (suc n)) h = absurd (omega arith)

  pub carried_next : (n : ℕ) → 0 < n → carried_before go a (suc n) ≡ cond (go n) (carried_before go a n ++ a n ∷ []) (carried_before go a n)
  carried_next zero h = absurd (omega arith)
  carried_next (suc n) h = refl

  pub longer : (n : ℕ) → 0 < n → length (carried_before go a (suc n)) ≡ cond (go n) (length (carried_before go a n) + 1) (length (carried_before go a n))
  longer n h = ap length (carried_next n h) ∙ length_with (go n) (carried_before go a n) (a n)

  one_more : (n : ℕ) → length (carried_before go a (suc n)) ≤ length (carried_before go a n) + 1
  one_more zero = omega arith
  one_more (suc n) = omega (arith, longer (suc n) (omega arith), one_at_most (go (suc n)) (length (carried_before go a (suc n))))

  grows : (j m : ℕ) → length (carried_before go a (m + j)) ≤ length (carried_before go a m) + j
  grows zero m = let z : m + 0 ≡ m = omega arith in omega (arith, ap (λ n. length (carried_before go a n)) z)
  grows (suc j) m = let z : m + suc j ≡ suc (m + j) = omega arith in omega (arith, ap (λ n. length (carried_before go a n)) z, one_more (m + j), grows j m)

  pub grows_to : (m n : ℕ) → m ≤ n → length (carried_before go a n) ≤ length (carried_before go a m) + (n - m)
  grows_to m n h = let z : m + (n - m) ≡ n = omega arith in omega (arith, grows (n - m) m, ap (λ k. length (carried_before go a k)) z)

  keeps_one : (n i : ℕ) → i < length (carried_before go a n) → (slice_get (carried_before go a (suc n)) i ≡ slice_get (carried_before go a n) i) × (i < length (carried_before go a (suc n)))
  keeps_one zero i h = absurd (omega arith)
  keeps_one (suc n) i h = (
    get_with (go (suc n)) (carried_before go a (suc n)) (a (suc n)) i h,
    omega (arith, h, longer (suc n) (omega arith), no_less (go (suc n)) (length (carried_before go a (suc n)))),
  )

  keeps : (j m i : ℕ) → i < length (carried_before go a m) → (slice_get (carried_before go a (j + m)) i ≡ slice_get (carried_before go a m) i) × (i < length (carried_before go a (j + m)))
  keeps zero m i h =
      let z : m ≡ 0 + m = omega arith in
      (ap (λ n. slice_get (carried_before go a n) i) (sym z), omega (arith, h, ap (λ n. length (carried_before go a n)) z))
  keeps (suc j) m i h =
      let z : suc j + m ≡ suc (j + m) = omega arith in
      let was = keeps j m i h in
      let next = keeps_one (j + m) i was.1 in
      (ap (λ n. slice_get (carried_before go a n) i) z ∙ next.0 ∙ was.0, omega (arith, next.1, ap (λ n. length (carried_before go a n)) z))

  pub keeps_to : (m n i : ℕ) → m ≤ n → i < length (carried_before go a m) → slice_get (carried_before go a n) i ≡ slice_get (carried_before go a m) i
  keeps_to m n i le h = let z : n ≡ (n - m) + m = omega arith in ap (λ k. slice_get (carried_before go a k) i) z ∙ (keeps (n - m) m i h).0

  rises_one : (n : ℕ) → times go n ≤ times go (suc n)
  rises_one zero = omega arith
  rises_one (suc n) = no_less (go (suc n)) (times go (suc n))

  rises : (j m : ℕ) → times go m ≤ times go (m + j)
  rises zero m = let z : m + 0 ≡ m = omega arith in omega (arith, ap (times go) z)
  rises (suc j) m = let z : m + suc j ≡ suc (m + j) = omega arith in omega (arith, ap (times go) z, rises_one (m + j), rises j m)

  pub rises_to : (m n : ℕ) → m ≤ n → times go m ≤ times go n
  rises_to m n h = let z : m + (n - m) ≡ n = omega arith in omega (arith, rises (n - m) m, ap (times go) z)

pub times_same : (go other : ℕ → Bool) → ((n : ℕ) → go n ≡ other n) → (n : ℕ) → times go n ≡ times other n
times_same go other e zero = refl
times_same go other e (suc zero) = refl
times_same go other e (suc (suc n)) = ap (λ b. cond b (times go (suc n) + 1) (times go (suc n))) (e (suc n)) ∙ ap (λ k. cond (other (suc n)) (k + 1) k) (times_same go other e (suc n))

pub ones_few : (a : Signal) (n k : ℕ) → ones a n k ≤ k
ones_few a n zero = omega arith
ones_few a n (suc k) = omega (arith, ones_few a n k, one_at_most (eqb (a (n + k)) 1) (ones a n k))

-- one cycle of them is the first
pub ones_first : (a : Signal) (n k : ℕ) → a n ≡ 1 → 0 < ones a n (suc k)
ones_first a n zero e = let z : n + 0 ≡ n = omega arith in omega (arith, ap (λ x. cond (eqb x 1) (0 + 1) 0) (ap a z ∙ e))
ones_first a n (suc k) e = omega (arith, ones_first a n k e, no_less (eqb (a (n + suc k)) 1) (ones a n (suc k)))
