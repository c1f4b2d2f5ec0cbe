-- Amounts in lists, kind by kind.
use Rattle.std.proofs.Common.{◌≡◌, ℕ, zero, suc, ◌+◌, ◌-◌, ◌*◌, ◌<◌, ◌≤◌, ◌⊎◌, inl, inr, List, [], ◌∷◌, ◌++◌, length, get_or, set, refl, sym, ap, ◌∙◌, arith, ⊎_elim, length-set, Option, Some, replicate}
use Rattle.std.specs.Prelude.{slice_get}
use Rattle.std.specs.Option.{option_map_or}
use Rattle.std.proofs.lemmas.Bool.{cases_lt, cases_eq}
use Rattle.std.proofs.lemmas.Grind.{common_steps}
use Rattle.std.proofs.lemmas.Option.{gets, slice_get-get_or, slice_get_past, slice_get_read}
use Rattle.std.proofs.lemmas.List.{get_or-set_other, set-get_or}
use Rattle.task_graph.specs.declared.Use.{Use}
use Rattle.task_graph.specs.Streams.{amount, amount_at}
use Rattle.slot_plan.specs.Amounts.{AreBelow, FitsIn, IsAtMost}

pub amount_get : (xs : List Use) (s k : ℕ) (u : Use) → slice_get xs s ≡ Some u → amount_at xs s k ≡ amount u k
amount_get xs s k u e = ap (λ (o : Option Use). option_map_or (λ (x : Use). amount x k) o 0) e

get_set_same : (xs : List Use) (s : ℕ) (u : Use) → s < length xs → slice_get (set xs s u) s ≡ Some u
get_set_same xs s u l = grind (arith, common_steps, gets)

get_set_other : (xs : List Use) (s t : ℕ) (u : Use) → (t ≡ s → ⊥) → slice_get (set xs s u) t ≡ slice_get xs t
get_set_other xs s t u ne =
    ⊎_elim
    (λ (l : t < length xs).
    let n = length-set xs s u in
    slice_get-get_or (set xs s u) t u (omega arith) ∙ (ap (λ (x : Use). Some x) (get_or-set_other xs s t u u ne) ∙ sym (slice_get-get_or xs t u l)))
    (λ (l : length xs ≤ t).
    let n = length-set xs s u in
    slice_get_past (set xs s u) t (omega arith) ∙ sym (slice_get_past xs t l))
    (cases_lt t (length xs))

-- the amounts after one slot's is written
pub amount_set : (xs : List Use) (s t k : ℕ) (u : Use) → s < length xs → ((t ≡ s) × (amount_at (set xs s u) t k ≡ amount u k)) ⊎ ((t ≡ s → ⊥) × (amount_at (set xs s u) t k ≡ amount_at xs t k))
amount_set xs s t k u l =
    ⊎_elim
    (λ (e : t ≡ s). inl (e, ap (λ j. amount_at (set xs s u) j k) e ∙ amount_get (set xs s u) s k u (get_set_same xs s u l)))
    (λ (ne : t ≡ s → ⊥). inr (ne, ap (λ (o : Option Use). option_map_or (λ (x : Use). amount x k) o 0) (get_set_other xs s t u ne)))
    (cases_eq t s)

-- reading an amount
pub amount_read : (xs : List Use) (i : ℕ) (u : Use) → i < length xs → u ≡ get_or xs i u → (k : ℕ) → amount_at xs i k ≡ amount u k
amount_read xs i u l e k = amount_get xs i k u (slice_get_read xs (length xs) i u refl l e)

amount_add : (a b : Use) (k : ℕ) → amount (record { lut = a.lut + b.lut; ff = a.ff + b.ff; bram = a.bram + b.bram; dsp = a.dsp + b.dsp; uram = a.uram + b.uram }) k ≡ amount a k + amount b k
amount_add a b zero = refl
amount_add a b (suc zero) = refl
amount_add a b (suc (suc zero)) = refl
amount_add a b (suc (suc (suc zero))) = refl
amount_add a b (suc (suc (suc (suc zero)))) = refl
amount_add a b (suc (suc (suc (suc (suc k))))) = omega arith

pub amount_sum : (a b u : Use) → u ≡ record { lut = a.lut + b.lut; ff = a.ff + b.ff; bram = a.bram + b.bram; dsp = a.dsp + b.dsp; uram = a.uram + b.uram } → (k : ℕ) → amount u k ≡ amount a k + amount b k
amount_sum a b u e k = ap (λ (x : Use). amount x k) e ∙ amount_add a b k

pub amount_or : (xs : List Use) (i : ℕ) (d : Use) → i < length xs → (k : ℕ) → amount_at xs i k ≡ amount (get_or xs i d) k
amount_or xs i d l k = amount_get xs i k (get_or xs i d) (slice_get-get_or xs i d l)

abbrev pub no_use : Use
no_use = record { lut = 0; ff = 0; bram = 0; dsp = 0; uram = 0 }

set_twice : (xs : List Use) (s : ℕ) (a b : Use) → set (set xs s a) s b ≡ set xs s b
set_twice [] s a b = refl
set_twice (x ∷ xs) zero a b = refl
set_twice (x ∷ xs) (suc s) a b = ap (λ ys. x ∷ ys) (set_twice xs s a b)

pub restored : (xs ys : List Use) (s : ℕ) (a b : Use) → ys ≡ set xs s a → b ≡ get_or xs s b → set ys s b ≡ xs
restored xs ys s a b e r = ap (λ (zs : List Use). set zs s b) e ∙ (set_twice xs s a b ∙ (ap (λ (u : Use). set xs s u) r ∙ set-get_or xs s b))

pub nothing_used : (k : ℕ) → amount no_use k ≡ 0
nothing_used zero = refl
nothing_used (suc zero) = refl
nothing_used (suc (suc zero)) = refl
nothing_used (suc (suc (suc zero))) = refl
nothing_used (suc (suc (suc (suc zero)))) = refl
nothing_used (suc (suc (suc (suc (suc k))))) = refl

-- by kinds
pub fits_amount : (u capacity : Use) (percent : ℕ) → FitsIn u capacity percent → (k : ℕ) → amount u k * 100 ≤ amount capacity k * percent
fits_amount u c n h zero = h.lut
fits_amount u c n h (suc zero) = h.ff
fits_amount u c n h (suc (suc zero)) = h.bram
fits_amount u c n h (suc (suc (suc zero))) = h.dsp
fits_amount u c n h (suc (suc (suc (suc zero)))) = h.uram
fits_amount u c n h (suc (suc (suc (suc (suc k))))) = omega arith

pub amounts_fit : (u capacity : Use) (percent : ℕ) → ((k : ℕ) → amount u k * 100 ≤ amount capacity k * percent) → FitsIn u capacity percent
amounts_fit u c n h = record { lut = h 0; ff = h 1; bram = h 2; dsp = h 3; uram = h 4 }

pub amounts_below : (u : Use) (n : ℕ) → ((k : ℕ) → amount u k < n) → AreBelow u n
amounts_below u n h = record { lut = h 0; ff = h 1; bram = h 2; dsp = h 3; uram = h 4 }

pub amount_push : (xs : List Use) (u : Use) (v k : ℕ) → ((v < length xs) × (amount_at (xs ++ u ∷ []) v k ≡ amount_at xs v k)) ⊎ (((v ≡ length xs) × (amount_at (xs ++ u ∷ []) v k ≡ amount u k)) ⊎ ((length xs < v) × (amount_at (xs ++ u ∷ []) v k ≡ 0)))
amount_push [] u zero k = inr (inl (refl, refl))
amount_push [] u (suc v) k = inr (inr (omega arith, refl))
amount_push (x ∷ xs) u zero k = inl (omega arith, refl)
amount_push (x ∷ xs) u (suc v) k =
    ⊎_elim
    (λ w. let l = w.0 in inl (omega arith, w.1))
    (λ w. ⊎_elim (λ y. let e = y.0 in inr (inl (omega arith, y.1))) (λ z. let l = z.0 in inr (inr (omega arith, z.1))) w)
    (amount_push xs u v k)

-- slots that hold nothing
pub empty_at : (n s k : ℕ) → amount_at (replicate n no_use) s k ≡ 0
empty_at zero s k = refl
empty_at (suc n) zero k = nothing_used k
empty_at (suc n) (suc s) k = empty_at n s k

-- kind by kind
pub at_most_amounts : (a b : Use) → IsAtMost a b → (k : ℕ) → amount a k ≤ amount b k
at_most_amounts a b h zero = h.lut
at_most_amounts a b h (suc zero) = h.ff
at_most_amounts a b h (suc (suc zero)) = h.bram
at_most_amounts a b h (suc (suc (suc zero))) = h.dsp
at_most_amounts a b h (suc (suc (suc (suc zero)))) = h.uram
at_most_amounts a b h (suc (suc (suc (suc (suc k))))) = omega arith

pub amounts_at_most : (a b : Use) → ((k : ℕ) → amount a k ≤ amount b k) → IsAtMost a b
amounts_at_most a b h = record { lut = h 0; ff = h 1; bram = h 2; dsp = h 3; uram = h 4 }

minus_amount : (a b : Use) (k : ℕ) → amount (record { lut = a.lut - b.lut; ff = a.ff - b.ff; bram = a.bram - b.bram; dsp = a.dsp - b.dsp; uram = a.uram - b.uram }) k ≡ amount a k - amount b k
minus_amount a b zero = refl
minus_amount a b (suc zero) = refl
minus_amount a b (suc (suc zero)) = refl
minus_amount a b (suc (suc (suc zero))) = refl
minus_amount a b (suc (suc (suc (suc zero)))) = refl
minus_amount a b (suc (suc (suc (suc (suc k))))) = omega arith

pub amount_left : (a b u : Use) → IsAtMost b a → u ≡ record { lut = a.lut - b.lut; ff = a.ff - b.ff; bram = a.bram - b.bram; dsp = a.dsp - b.dsp; uram = a.uram - b.uram } → (k : ℕ) → amount u k + amount b k ≡ amount a k
amount_left a b u h e k =
    let x : amount u k ≡ amount a k - amount b k = ap (λ (z : Use). amount z k) e ∙ minus_amount a b k in
    let y = at_most_amounts b a h k in omega arith

times_amount : (a : Use) (n k : ℕ) → amount (record { lut = a.lut * n; ff = a.ff * n; bram = a.bram * n; dsp = a.dsp * n; uram = a.uram * n }) k ≡ amount a k * n
times_amount a n zero = refl
times_amount a n (suc zero) = refl
times_amount a n (suc (suc zero)) = refl
times_amount a n (suc (suc (suc zero))) = refl
times_amount a n (suc (suc (suc (suc zero)))) = refl
times_amount a n (suc (suc (suc (suc (suc k))))) = omega arith

pub amount_times : (a u : Use) (n : ℕ) → u ≡ record { lut = a.lut * n; ff = a.ff * n; bram = a.bram * n; dsp = a.dsp * n; uram = a.uram * n } → (k : ℕ) → amount u k ≡ amount a k * n
amount_times a u n e k = ap (λ (z : Use). amount z k) e ∙ times_amount a n k
