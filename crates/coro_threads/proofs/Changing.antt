-- Which batch a seat is left with, where the instances that are out have changed as they may.
use Rattle.std.proofs.Common.{◌≡◌, ◌≢◌, ℕ, zero, suc, ◌+◌, Bool, true, false, List, [], ◌∷◌, refl, sym, ap, subst, ◌⊎◌, ⊎_elim, arith, Option, Some, None, eq-eqb, ne_eqb}
use mathlib.Core.Logic.{dite}
use native.Mathlib.Decide.{ℕ_discrete}
use Rattle.coro_threads.specs.Ends.{is_out}
use Rattle.coro_threads.specs.Turn.{MayChange, GoesOut, named, bit, batch_after, first_new, some_if}

pub first_none : (k : ℕ) (xs ys : List Bool) → ((i : ℕ) → is_out ys i ≡ is_out xs i) → first_new k xs ys ≡ None
first_none k xs [] h = refl
first_none k [] (false ∷ ys) h = first_none (suc k) [] ys (λ i. h (suc i))
first_none k [] (true ∷ ys) h = let e : true ≡ false = h zero in absurd (cc)
first_none k (x ∷ xs) (false ∷ ys) h = first_none (suc k) xs ys (λ i. h (suc i))
first_none k (true ∷ xs) (true ∷ ys) h = first_none (suc k) xs ys (λ i. h (suc i))
first_none k (false ∷ xs) (true ∷ ys) h = let e : true ≡ false = h zero in absurd (cc)

-- which one is new depends on who is out alone
pub first_same : (k : ℕ) (xs zs ys : List Bool) → ((i : ℕ) → is_out xs i ≡ is_out zs i) → first_new k xs ys ≡ first_new k zs ys
first_same k xs zs [] h = refl
first_same k [] [] (y ∷ ys) h = refl
first_same k [] (z ∷ zs) (false ∷ ys) h = first_same (suc k) [] zs ys (λ i. h (suc i))
first_same k [] (true ∷ zs) (true ∷ ys) h = let e : false ≡ true = h zero in absurd (cc)
first_same k [] (false ∷ zs) (true ∷ ys) h = refl
first_same k (x ∷ xs) [] (false ∷ ys) h = first_same (suc k) xs [] ys (λ i. h (suc i))
first_same k (true ∷ xs) [] (true ∷ ys) h = let e : true ≡ false = h zero in absurd (cc)
first_same k (false ∷ xs) [] (true ∷ ys) h = refl
first_same k (x ∷ xs) (z ∷ zs) (false ∷ ys) h = first_same (suc k) xs zs ys (λ i. h (suc i))
first_same k (true ∷ xs) (true ∷ zs) (true ∷ ys) h = first_same (suc k) xs zs ys (λ i. h (suc i))
first_same k (true ∷ xs) (false ∷ zs) (true ∷ ys) h = let e : true ≡ false = h zero in absurd (cc)
first_same k (false ∷ xs) (true ∷ zs) (true ∷ ys) h = let e : false ≡ true = h zero in absurd (cc)
first_same k (false ∷ xs) (false ∷ zs) (true ∷ ys) h = refl

pub first_goes : (k : ℕ) (xs ys : List Bool) (i n : ℕ) → k + i ≡ n → is_out xs i ≡ false → is_out ys i ≡ true → ((j : ℕ) → j ≢ i → is_out ys j ≡ is_out xs j) → first_new k xs ys ≡ Some n
first_goes k xs [] i n e home out others = absurd (cc)
first_goes k [] (false ∷ ys) zero n e home out others = absurd (cc)
first_goes k [] (false ∷ ys) (suc i) n e home out others = first_goes (suc k) [] ys i n (omega (arith, e)) refl out (λ j ne. others (suc j) (λ d. ne (omega (arith, d))))
first_goes k [] (true ∷ ys) zero n e home out others = let h : k ≡ n = omega (arith, e) in ap Some h
first_goes k [] (true ∷ ys) (suc i) n e home out others = let d : true ≡ false = others zero (λ f. omega (arith, f)) in absurd (cc)
first_goes k (x ∷ xs) (false ∷ ys) zero n e home out others = absurd (cc)
first_goes k (x ∷ xs) (false ∷ ys) (suc i) n e home out others = first_goes (suc k) xs ys i n (omega (arith, e)) home out (λ j ne. others (suc j) (λ d. ne (omega (arith, d))))
first_goes k (true ∷ xs) (true ∷ ys) zero n e home out others = absurd (cc)
first_goes k (true ∷ xs) (true ∷ ys) (suc i) n e home out others = first_goes (suc k) xs ys i n (omega (arith, e)) home out (λ j ne. others (suc j) (λ d. ne (omega (arith, d))))
first_goes k (false ∷ xs) (true ∷ ys) zero n e home out others = let h : k ≡ n = omega (arith, e) in ap Some h
first_goes k (false ∷ xs) (true ∷ ys) (suc i) n e home out others = let d : true ≡ false = others zero (λ f. omega (arith, f)) in absurd (cc)

named_if : (x : Bool) (b i : ℕ) → i ≢ b → named (some_if x b) i ≡ 0
named_if true b i ne = ap bit (ne_eqb b i (λ e. ne (sym e)))
named_if false b i ne = refl

named_own : (x : Bool) (b : ℕ) → named (some_if x b) b ≡ bit x
named_own true b = ap bit (eq-eqb b b refl)
named_own false b = refl

own_changed : (b : ℕ) (before after : List Bool) → ((i : ℕ) → i ≢ b → is_out after i ≡ is_out before i) → is_out before b ≡ true
    → (i : ℕ) → bit (is_out after i) + named (Some b) i ≡ bit (is_out before i) + named (some_if (is_out after b) b) i
own_changed b before after others away i = dite (ℕ_discrete i b)
    (λ (e : i ≡ b). subst (λ (x : ℕ). bit (is_out after x) + named (Some b) x ≡ bit (is_out before x) + named (some_if (is_out after b) b) x) (sym e)
    (omega (arith, ap bit away, named_own true b, named_own (is_out after b) b)))
    (λ (ne : i ≢ b). omega (arith, ap bit (others i ne), named_if true b i ne, named_if (is_out after b) b i ne))

further_changed : (before after : List Bool) (g : GoesOut before after) (i : ℕ) → bit (is_out after i) ≡ bit (is_out before i) + named (Some g.instance) i
further_changed before after g i = dite (ℕ_discrete i g.instance)
    (λ (e : i ≡ g.instance). subst (λ (x : ℕ). bit (is_out after x) ≡ bit (is_out before x) + named (Some g.instance) x) (sym e)
    (omega (arith, ap bit g.was_home, ap bit g.is_away, named_own true g.instance)))
    (λ (ne : i ≢ g.instance). omega (arith, ap bit (g.others i ne), named_if true g.instance i ne))

none_changed : (before after : List Bool) → ((i : ℕ) → is_out after i ≡ is_out before i) ⊎ GoesOut before after → (i : ℕ) → bit (is_out after i) + 0 ≡ bit (is_out before i) + named (first_new 0 before after) i
none_changed before after c i = ⊎_elim
    (λ (h : (j : ℕ) → is_out after j ≡ is_out before j). subst (λ (o : Option ℕ). bit (is_out after i) + 0 ≡ bit (is_out before i) + named o i) (sym (first_none 0 before after h)) (omega (arith, ap bit (h i))))
    (λ (g : GoesOut before after). subst (λ (o : Option ℕ). bit (is_out after i) + 0 ≡ bit (is_out before i) + named o i)
    (sym (first_goes 0 before after g.instance g.instance (omega arith) g.was_home g.is_away g.others)) (omega (arith, further_changed before after g i)))
    c

-- an instance is out after a turn where it was out before and the seat had no batch of it, or where the seat has one of it now
pub changed : (b : Option ℕ) (before after : List Bool) → MayChange b before after → ((i : ℕ) → b ≡ Some i → is_out before i ≡ true)
    → (i : ℕ) → bit (is_out after i) + named b i ≡ bit (is_out before i) + named (batch_after b before after) i
changed (Some b) before after may away i = own_changed b before after may (away b refl) i
changed None before after may away i = none_changed before after may i
