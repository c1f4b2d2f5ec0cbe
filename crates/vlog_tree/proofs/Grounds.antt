-- What grounded is on no loop, and has a rank above that of its parts.
use Rattle.std.proofs.Common.{◌≡◌, ℕ, zero, suc, ◌<◌, ◌≤◌, max, inl, inr, List, [], ◌∷◌, refl, sym, ap, ◌∙◌, subst, arith}
use Rattle.vlog_tree.specs.Grounded.{Walk, OnLoop, IsGrounded, grounded}
use Rattle.tapa_base.specs.Lists.{Has}
use Rattle.vlog_tree.proofs.Ranked.{IsRanked, solution, solves, one_solution}

walk_on : {N : Type 0} (parts : N → List N) (n : ℕ) (a b c : N) → Walk parts n a b → Has (parts b) c → Walk parts (suc n) a c
walk_on parts zero a b c w h = (c, subst (λ x. Has (parts x) c) (sym w) h, refl)
walk_on parts (suc n) a b c w h = (w.0, w.1, walk_on parts n w.0 b c w.2 h)

pub no_loop : {N : Type 0} (parts : N → List N) {a : N} → IsGrounded parts a → OnLoop parts a → ⊥
no_loop parts {a} (grounded f) l =
    let c = l.1.0 in
    no_loop parts (f c l.1.1) (l.0, walk_on parts l.0 c a c l.1.2 l.1.1)

abbrev most_of : {N : Type 0} (xs : List N) → ((b : N) → Has xs b → ℕ) → ℕ
most_of [] g = 0
most_of (x ∷ xs) g = max (g x (inl refl)) (most_of xs (λ b h. g b (inr h)))

most_same : {N : Type 0} (xs : List N) (g k : (b : N) → Has xs b → ℕ) → ((b : N) (h : Has xs b) → g b h ≡ k b h) → most_of xs g ≡ most_of xs k
most_same [] g k e = refl
most_same (x ∷ xs) g k e =
    ap (λ n. max n (most_of xs (λ b h. g b (inr h)))) (e x (inl refl))
    ∙ ap (λ n. max (k x (inl refl)) n) (most_same xs (λ b h. g b (inr h)) (λ b h. k b (inr h)) (λ b h. e b (inr h)))

most_above : {N : Type 0} (xs : List N) (g : (b : N) → Has xs b → ℕ) (r : N → ℕ) → ((b : N) (h : Has xs b) → g b h ≡ r b) → (b : N) → Has xs b → r b ≤ most_of xs g
most_above [] g r e b h = absurd h
most_above (x ∷ xs) g r e b (inl p) = let same : r x ≡ r b = ap r p in let here : g x (inl refl) ≡ r x = e x (inl refl) in omega arith
most_above (x ∷ xs) g r e b (inr h) = let rest : r b ≤ most_of xs (λ b h. g b (inr h)) = most_above xs (λ b h. g b (inr h)) r (λ b h. e b (inr h)) b h in omega arith

abbrev height : {N : Type 0} (parts : N → List N) {a : N} → IsGrounded parts a → ℕ
height parts {a} (grounded f) = suc (most_of (parts a) (λ b h. height parts (f b h)))

height_same : {N : Type 0} (parts : N → List N) {a : N} (s t : IsGrounded parts a) → height parts s ≡ height parts t
height_same parts {a} (grounded f) (grounded g) = ap suc (most_same (parts a) (λ b h. height parts (f b h)) (λ b h. height parts (g b h)) (λ b h. height_same parts (f b h) (g b h)))

module _ {N : Type 0} (parts : N → List N) (all : (a : N) → IsGrounded parts a) where
  abbrev pub rank : N → ℕ
  rank a = height parts (all a)

  below_of : (a b : N) (s : IsGrounded parts a) → Has (parts a) b → rank b < height parts s
  below_of a b (grounded f) h =
      let le : rank b ≤ most_of (parts a) (λ b h. height parts (f b h)) = most_above (parts a) (λ b h. height parts (f b h)) rank (λ b h. height_same parts (f b h) (all b)) b h in
      omega arith

  pub part_below : (a b : N) → Has (parts a) b → rank b < rank a
  part_below a b h = below_of a b (all a) h

  -- equations that read parts alone have exactly one solution
  module _ (f : N → (N → ℕ) → ℕ) (reads : (x : N) (v w : N → ℕ) → ((y : N) → Has (parts x) y → v y ≡ w y) → f x v ≡ f x w) where
    pub ranked : IsRanked rank f
    ranked = record { rests = λ x v w e. reads x v w (λ y h. e y (part_below x y h)) }

    abbrev pub values : N → ℕ
    values = solution rank f ranked

    pub values_solve : (x : N) → values x ≡ f x values
    values_solve = solves rank f ranked

    pub values_unique : (v w : N → ℕ) → ((x : N) → v x ≡ f x v) → ((x : N) → w x ≡ f x w) → (x : N) → v x ≡ w x
    values_unique = one_solution rank f ranked
