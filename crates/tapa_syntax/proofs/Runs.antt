-- Runs of bytes of a class.
use Rattle.std.proofs.Common.{◌≡◌, ℕ, zero, suc, ◌+◌, ◌<◌, ◌≤◌, Bool, true, false, cond, [], ◌∷◌, ◌++◌, length, take, drop, refl, ap, ◌∙◌, arith, add-one}
use Rattle.std.specs.List.{list_all}
use Rattle.std.proofs.lemmas.Bool.{and_parts}
use Rattle.tapa_base.specs.Gaps.{Bytes, begins}
use Rattle.tapa_syntax.specs.Characters.{run}

-- a choice, whichever it is
pub split : {X Y : Type 0} (t : Bool) (x y w : X) → cond t x y ≡ w → (t ≡ true → x ≡ w → Y) → (t ≡ false → y ≡ w → Y) → Y
split true x y w e f g = f refl e
split false x y w e f g = g refl e

passes_one : (class : ℕ → Bool) (b n : ℕ) (z : Bytes) (t : Bool) → class b ≡ t → list_all class (take n z) ≡ true → list_all class (take (cond t (n + 1) 0) (b ∷ z)) ≡ true
passes_one class b n z true is h = rw (add-one, is) h
passes_one class b n z false is h = refl

pub run_passes : (class : ℕ → Bool) (z : Bytes) → list_all class (take (run class z) z) ≡ true
run_passes class [] = refl
run_passes class (b ∷ z) = passes_one class b (run class z) z (class b) refl (run_passes class z)

stops_one : (class : ℕ → Bool) (b n : ℕ) (z : Bytes) (t : Bool) → class b ≡ t → begins class (drop n z) ≡ false → begins class (drop (cond t (n + 1) 0) (b ∷ z)) ≡ false
stops_one class b n z true is h = rw add-one h
stops_one class b n z false is h = is

pub run_stops : (class : ℕ → Bool) (z : Bytes) → begins class (drop (run class z) z) ≡ false
run_stops class [] = refl
run_stops class (b ∷ z) = stops_one class b (run class z) z (class b) refl (run_stops class z)

within_one : (n m : ℕ) (t : Bool) → n ≤ m → cond t (n + 1) 0 ≤ suc m
within_one n m true h = omega arith
within_one n m false h = omega arith

pub run_within : (class : ℕ → Bool) (z : Bytes) → run class z ≤ length z
run_within class [] = omega arith
run_within class (b ∷ z) = within_one (run class z) (length z) (class b) (run_within class z)

pub run_some : (class : ℕ → Bool) (z : Bytes) → begins class z ≡ true → 0 < run class z
run_some class [] h = absurd cc
run_some class (b ∷ z) h = rw h (omega arith)

-- a run ends where a byte of another class stands
pub run_is : (class : ℕ → Bool) (a rest : Bytes) → list_all class a ≡ true → begins class rest ≡ false → run class (a ++ rest) ≡ length a
run_is class [] [] all ends = refl
run_is class [] (b ∷ rest) all ends = rw ends refl
run_is class (b ∷ a) rest all ends =
    let both = and_parts (class b) (list_all class a) all in
    rw both.0 (add-one (run class (a ++ rest)) ∙ ap suc (run_is class a rest both.1 ends))

pub begins_take : (class : ℕ → Bool) (n : ℕ) (z : Bytes) → begins class z ≡ false → begins class (take n z) ≡ false
begins_take class zero z h = refl
begins_take class (suc n) [] h = refl
begins_take class (suc n) (b ∷ z) h = h

pub begins_taken : (class : ℕ → Bool) (n : ℕ) (z : Bytes) → 0 < n → begins class z ≡ true → begins class (take n z) ≡ true
begins_taken class zero z some h = absurd (omega arith)
begins_taken class (suc n) [] some h = h
begins_taken class (suc n) (b ∷ z) some h = h

pub begins_append : (class : ℕ → Bool) (a z : Bytes) → begins class a ≡ false → begins class z ≡ false → begins class (a ++ z) ≡ false
begins_append class [] z h k = k
begins_append class (b ∷ a) z h k = h

split_one : (class : ℕ → Bool) (b n : ℕ) (z : Bytes) (t : Bool) → (t ≡ true → class b ≡ true) → run class z ≡ n + run class (drop n z) → cond (class b) (run class z + 1) 0 ≡ cond t (n + 1) 0 + run class (drop (cond t (n + 1) 0) (b ∷ z))
split_one class b n z true in_class h = rw (in_class refl, add-one n) (omega (arith, h))
split_one class b n z false in_class h = omega arith

-- a run of a smaller class is a front of the run
pub run_split : (class part : ℕ → Bool) → ((b : ℕ) → part b ≡ true → class b ≡ true) → (z : Bytes) → run class z ≡ run part z + run class (drop (run part z) z)
run_split class part in_class [] = refl
run_split class part in_class (b ∷ z) = split_one class b (run part z) z (part b) (in_class b) (run_split class part in_class z)

pub take_both : (n m : ℕ) (z : Bytes) → take (n + m) z ≡ take n z ++ take m (drop n z)
take_both zero m z = ap (λ k. take k z) (omega arith)
take_both (suc n) m [] = let e : suc n + m ≡ suc (n + m) = omega arith in rw e (none m)
  where
    none : (k : ℕ) → [] ≡ take {A = ℕ} k []
    none zero = refl
    none (suc k) = refl
take_both (suc n) m (b ∷ z) = let e : suc n + m ≡ suc (n + m) = omega arith in rw e (ap (λ (y : Bytes). b ∷ y) (take_both n m z))
