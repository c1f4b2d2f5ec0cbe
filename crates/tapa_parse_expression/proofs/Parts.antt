-- What a reader gives, part by part.
use Rattle.std.proofs.Common.{◌≡◌, ℕ, zero, suc, Bool, true, false, cond, List, [], ◌∷◌, drop, Option, Some, None, Ok, Err, refl, ap, subst, ◌∙◌, rules}
use denote.Enum.Bare.{same_true, true_same}
use Rattle.tapa_base.specs.declared.kind.Kind.{Kind}
use Rattle.tapa_syntax.specs.contracts.terminal.Terminal.{the_type}
use Rattle.tapa_syntax.specs.declared.terminal.Terminal.{Terminal}
use Rattle.tapa_syntax.specs.declared.terminal.Terminal.TheVariants as terminal
use Rattle.tapa_syntax.specs.declared.tree.Name.{Name}
use Rattle.tapa_syntax.specs.Symbols.{Symbol}
use Rattle.tapa_syntax.specs.Grammar.{Takes, MeansTree, MeansAt, IsName, IsPlainName, IsLiteral, named, is_name}
use Rattle.tapa_parse_expression.specs.declared.fault.ParseCode.{ParseCode}
use Rattle.tapa_parse_expression.specs.declared.fault.ParseCode.TheVariants.{P1, P2}
use Rattle.tapa_parse_expression.specs.Readers.{Outcome, Reader, and_then, next, first_place, same, sees, expect, past, name, plain_by, plain_name, literal_value}
use Rattle.tapa_parse_expression.specs.Reading.{count}
use Rattle.tapa_parse_expression.specs.Passing.{one_more, or_later}

abbrev pub Symbols : Type 0
Symbols = List Symbol

-- ---- what holds of each value that is given, and of what is left behind it

pub record Yields {A : Type 0} (Q : A → Symbols → Type 0) (o : Outcome A) : Type 0 where
  pub on : (a : A) (r : Symbols) → o ≡ Ok (a, r) → Q a r

abbrev pub done : {A : Type 0} → A × Symbols → Outcome A
done x = Ok x

abbrev pub failed : {A : Type 0} → ParseCode × Symbols → Outcome A
failed x = Err x

pub ok_is : {A : Type 0} (x y : A × Symbols) → done x ≡ done y → x ≡ y
ok_is x y e = cc

pub bind_ok : {A B : Type 0} (o : Outcome A) (f : A → Reader B) (y : B × Symbols) → and_then o f ≡ Ok y → (x : A × Symbols) × (o ≡ Ok x) × (f x.0 x.1 ≡ Ok y)
bind_ok (Ok x) f y e = (x, refl, e)
bind_ok (Err d) f y e = absurd cc

pub yields_pure : {A : Type 0} (Q : A → Symbols → Type 0) (a : A) (r : Symbols) → Q a r → Yields Q (done (a, r))
yields_pure {A} Q a r h = record { on = λ b j e. subst (λ (x : A × Symbols). Q x.0 x.1) (ok_is (a, r) (b, j) e) h }

pub yields_none : {A : Type 0} (Q : A → Symbols → Type 0) (x : ParseCode × Symbols) → Yields Q (failed x)
yields_none {A} Q x = record { on = λ b j e. absurd (never b j e) }
  where
    never : (b : A) (j : Symbols) → failed x ≡ done (b, j) → ⊥
    never b j e = cc

pub yields_then : {A B : Type 0} {P : A → Symbols → Type 0} {Q : B → Symbols → Type 0} {o : Outcome A} {f : A → Reader B} → Yields P o → ((a : A) (j : Symbols) → P a j → Yields Q (f a j)) → Yields Q (and_then o f)
yields_then {A} {B} {P} {Q} {o} {f} h k = record { on = λ b r e. let s = bind_ok o f (b, r) e in (k s.0.0 s.0.1 (h.on s.0.0 s.0.1 s.1)).on b r s.2 }

pub yields_if : {A : Type 0} {Q : A → Symbols → Type 0} {p q : Outcome A} (test : Bool) → (test ≡ true → Yields Q p) → (test ≡ false → Yields Q q) → Yields Q (cond test p q)
yields_if true h k = h refl
yields_if false h k = k refl

pub weaker : {A : Type 0} {P Q : A → Symbols → Type 0} {o : Outcome A} → Yields P o → ((a : A) (r : Symbols) → P a r → Q a r) → Yields Q o
weaker h k = record { on = λ a r e. k a r (h.on a r e) }

-- ---- single symbols

-- no symbol has this terminal
abbrev pub is_end : Terminal → Bool
is_end terminal.End = true
is_end _ = false

pub sees_is : (m : Terminal) (i : Symbols) → sees m i ≡ true → next i ≡ m
unfolding sees same
sees_is m i e = same_true the_type (search rules) _ _ e

pub is_seen : (m : Terminal) (i : Symbols) → next i ≡ m → sees m i ≡ true
unfolding sees same
is_seen m i e = true_same the_type _ _ e

pub takes : (m : Terminal) (i : Symbols) → is_end m ≡ false → sees m i ≡ true → Takes m i (drop 1 i)
takes m [] real e = absurd (let is = sees_is m [] e in let f : true ≡ false = ap is_end is ∙ real in cc)
takes m (x ∷ i) real e = (x, sees_is m (x ∷ i) e, refl)

pub expect_yields : (m : Terminal) (i : Symbols) → is_end m ≡ false → Yields (λ _ j. Takes m i j) (expect m i)
unfolding expect
expect_yields m i real = yields_if (sees m i) (λ e. yields_pure (λ _ j. Takes m i j) tt (drop 1 i) (takes m i real e)) (λ e. yields_none (λ _ j. Takes m i j) (P1, i))

pub means : {A : Type 0} (table : Terminal → Option A) (i : Symbols) (a : A) → table terminal.End ≡ None → table (next i) ≡ Some a → MeansAt table a (first_place i) i (drop 1 i)
means table [] a real e = absurd cc
means table (x ∷ i) a real e = (x, (e, refl), refl)

pub means_it : {A : Type 0} (table : Terminal → Option A) (i : Symbols) (a : A) → table terminal.End ≡ None → table (next i) ≡ Some a → MeansTree table a i (drop 1 i)
means_it table [] a real e = absurd cc
means_it table (x ∷ i) a real e = (x, e, refl)

pub name_yields : (i : Symbols) → Yields (λ x j. IsName x i j) (name i)
unfolding name
name_yields [] = yields_none (λ x j. IsName x [] j) (P1, [])
name_yields (x ∷ i) = yields_if (is_name x.terminal) (λ e. yields_pure (λ y j. IsName y (x ∷ i) j) (named x) i (x, (e, refl), refl)) (λ e. yields_none (λ y j. IsName y (x ∷ i) j) (P1, x ∷ i))

pub plain_yields : (i : Symbols) → Yields (λ x j. IsPlainName x i j) (plain_name i)
unfolding plain_name
plain_yields [] = yields_none (λ x j. IsPlainName x [] j) (P1, [])
plain_yields (x ∷ i) = pick x.terminal refl
  where
    pick : (m : Terminal) → x.terminal ≡ m → Yields (λ y j. IsPlainName y (x ∷ i) j) (plain_by m (x ∷ i))
    pick terminal.Name e = yields_pure (λ y j. IsPlainName y (x ∷ i) j) (named x) i (x, (e, refl), refl)
    pick _ e = yields_none (λ y j. IsPlainName y (x ∷ i) j) (P1, x ∷ i)

pub literal_yields : (i : Symbols) → Yields (λ v j. IsLiteral v.0 v.1 i j) (literal_value i)
unfolding literal_value
literal_yields [] = yields_if (sees terminal.Literal []) (λ e. absurd (let is = sees_is terminal.Literal [] e in cc)) (λ e. yields_none (λ v j. IsLiteral v.0 v.1 [] j) (P1, []))
literal_yields (x ∷ i) =
    yields_if (sees terminal.Literal (x ∷ i)) (λ e. yields_pure (λ v j. IsLiteral v.0 v.1 (x ∷ i) j) x.literal i (x, (sees_is terminal.Literal (x ∷ i) e, refl), refl)) (λ e. yields_none (λ v j. IsLiteral v.0 v.1 (x ∷ i) j) (P1, x ∷ i))

-- ---- what is given exactly

pub then_is : {A B : Type 0} {o : Outcome A} {y : Outcome B} (f : A → Reader B) (a : A) (j : Symbols) → o ≡ Ok (a, j) → f a j ≡ y → and_then o f ≡ y
then_is f a j e h = ap (λ o. and_then o f) e ∙ h

pub if_true : {A : Type 0} {test : Bool} {p y : A} (q : A) → test ≡ true → p ≡ y → cond test p q ≡ y
if_true {A} {p = p} q e h = ap (λ b. cond {A = A} b p q) e ∙ h

pub if_false : {A : Type 0} {test : Bool} {q y : A} (p : A) → test ≡ false → q ≡ y → cond test p q ≡ y
if_false {A} {q = q} p e h = ap (λ b. cond {A = A} b p q) e ∙ h

-- terminals of which something else holds are not the same
pub differ_by : {A : Type 0} (f : Terminal → A) (m n : Terminal) → (f m ≡ f n → ⊥) → same m n ≡ false
unfolding same
differ_by f m n h = pick (same m n) refl
  where
    pick : (b : Bool) → same m n ≡ b → same m n ≡ false
    pick false e = e
    pick true e = absurd (h (ap f (same_true the_type (search rules) _ _ e)))

pub next_is : (m : Terminal) (i j : Symbols) → Takes m i j → next i ≡ m
next_is m i j (x, e, is) = ap next is ∙ e

pub seen_is : (m : Terminal) (i j : Symbols) → Takes m i j → sees m i ≡ true
seen_is m i j h = is_seen m i (next_is m i j h)

pub dropped : (m : Terminal) (i j : Symbols) → Takes m i j → drop 1 i ≡ j
dropped m i j (x, e, is) = ap (drop 1) is

pub expect_is : (m : Terminal) (i j : Symbols) → Takes m i j → expect m i ≡ Ok (tt, j)
unfolding expect
expect_is m i j h = if_true _ (seen_is m i j h) (ap (λ (k : Symbols). done (tt, k)) (dropped m i j h))

pub past_is : (m : Terminal) (i j : Symbols) → Takes m i j → past m i ≡ j
unfolding past
past_is m i j h = if_true _ (seen_is m i j h) (dropped m i j h)

pub past_none : (m : Terminal) (i : Symbols) → sees m i ≡ false → past m i ≡ i
unfolding past
past_none m i e = if_false _ e refl

pub name_is : (x : Name) (i j : Symbols) → IsName x i j → name i ≡ Ok (x, j)
unfolding name
name_is x i j (s, e, is) = rw is (if_true _ e.0 (ap (λ (y : Name). done (y, j)) e.1))

pub plain_is : (x : Name) (i j : Symbols) → IsPlainName x i j → plain_name i ≡ Ok (x, j)
unfolding plain_name
plain_is x i j (s, e, is) = rw (is, e.0) (ap (λ (y : Name). done (y, j)) e.1)

pub literal_is : (k : Kind) (v : ℕ) (i j : Symbols) → IsLiteral k v i j → literal_value i ≡ Ok ((k, v), j)
unfolding literal_value
literal_is k v i j (s, e, is) = rw is (if_true _ (is_seen terminal.Literal (s ∷ j) e.0) (ap (λ (y : Kind × ℕ). done (y, j)) e.1))

-- ---- what is given, or refused where a limit is passed

abbrev pub told : {A : Type 0} → Option Symbols → A × Symbols → Outcome A
told None y = Ok y
told (Some w) y = Err (P2, w)

-- a reader gives this, or refuses where a limit is passed
pub record Told {A : Type 0} (w : Option Symbols) (y : A × Symbols) (o : Outcome A) : Type 0 where
  pub is : o ≡ told w y

pub told_ok : {A : Type 0} {o : Outcome A} {y : A × Symbols} → o ≡ Ok y → Told None y o
told_ok e = record { is = e }

pub told_by : {A : Type 0} {w : Option Symbols} {y : A × Symbols} {o p : Outcome A} → o ≡ p → Told w y p → Told w y o
told_by e h = record { is = e ∙ h.is }

-- the value and the symbols behind it, written otherwise
pub told_as : {A : Type 0} {w : Option Symbols} {y z : A × Symbols} {o : Outcome A} → y ≡ z → Told w y o → Told w z o
told_as {A} {w} {y} {z} {o} e h = subst (λ x. Told w x o) e h

-- the count of the operators that are left, written otherwise
pub told_left : {A : Type 0} {w : Option Symbols} {a : A} {n m : ℕ} {r : Symbols} {o : Outcome (A × ℕ)} → n ≡ m → Told w ((a, n), r) o → Told w ((a, m), r) o
told_left {A} {w} {a} {n} {m} {r} {o} e h = subst (λ k. Told w ((a, k), r) o) e h

-- the place where a limit is passed, written otherwise
pub told_over : {A : Type 0} {v w : Option Symbols} {y : A × Symbols} {o : Outcome A} → v ≡ w → Told v y o → Told w y o
told_over {A} {v} {w} {y} {o} e h = subst (λ v. Told v y o) e h

-- where no limit is passed
pub told_given : {A : Type 0} {w : Option Symbols} {y : A × Symbols} {o : Outcome A} → w ≡ None → Told w y o → o ≡ Ok y
told_given e h = (told_over e h).is

-- a part with its limits, and nothing with any behind it
pub told_only : {A : Type 0} {y : A × Symbols} {o : Outcome A} (first : Option Symbols) → Told (or_later first None) y o → Told first y o
told_only None h = h
told_only (Some w) h = h

pub told_true : {A : Type 0} {w : Option Symbols} {y : A × Symbols} {test : Bool} {p : Outcome A} (q : Outcome A) → test ≡ true → Told w y p → Told w y (cond test p q)
told_true q e h = record { is = if_true q e h.is }

pub told_false : {A : Type 0} {w : Option Symbols} {y : A × Symbols} {test : Bool} {q : Outcome A} (p : Outcome A) → test ≡ false → Told w y q → Told w y (cond test p q)
told_false p e h = record { is = if_false p e h.is }

-- behind what is given
pub told_behind : {A B : Type 0} {w : Option Symbols} {y : B × Symbols} {o : Outcome A} (f : A → Reader B) (a : A) (j : Symbols) → o ≡ Ok (a, j) → Told w y (f a j) → Told w y (and_then o f)
told_behind f a j e h = record { is = then_is f a j e h.is }

-- two parts, each with its limits
pub told_then : {A B : Type 0} {first later : Option Symbols} {y : B × Symbols} {o : Outcome A} (f : A → Reader B) (a : A) (j : Symbols) → Told first (a, j) o → Told later y (f a j)
    → Told (or_later first later) y (and_then o f)
told_then {A} {B} {first} {later} {y} {o} f a j e h = record { is = pick first e.is }
  where
    pick : (first : Option Symbols) → o ≡ told first (a, j) → and_then o f ≡ told (or_later first later) y
    pick None e = then_is f a j e h.is
    pick (Some w) e = ap (λ o. and_then o f) e

-- a part with its limits, and what is given behind it whatever the limits
pub told_after : {A B : Type 0} {first : Option Symbols} {y : B × Symbols} {o : Outcome A} (f : A → Reader B) (a : A) (j : Symbols) → Told first (a, j) o → f a j ≡ Ok y → Told first y (and_then o f)
told_after {A} {B} {first} {y} {o} f a j e h = record { is = pick first e.is }
  where
    pick : (first : Option Symbols) → o ≡ told first (a, j) → and_then o f ≡ told first y
    pick None e = then_is f a j e h
    pick (Some w) e = ap (λ o. and_then o f) e

-- one more operator
pub told_counted : {B : Type 0} {y : B × Symbols} (f : ℕ → Reader B) (n : ℕ) (i : Symbols) (behind : ℕ → Option Symbols) → ((m : ℕ) → n ≡ suc m → Told (behind m) y (f m i))
    → Told (one_more n i behind) y (and_then (count n i) f)
unfolding count
told_counted f zero i behind h = record { is = refl }
told_counted f (suc n) i behind h = h n refl
