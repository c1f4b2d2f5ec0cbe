-- Relations without loops on the members of a list come to an end.
use Rattle.std.proofs.Common.{◌≡◌, ℕ, zero, suc, ◌+◌, ◌<◌, ◌≤◌, List, [], ◌∷◌, length, inl, inr, refl, sym, ap, subst, ◌∙◌, arith}
use Rattle.tapa_base.specs.Lists.{Has}

-- each step from here comes to an end
pub data Ends {N : Type 0} (R : N → N → Type 0) : N → Type 0 where
  ends : {a : N} → ((b : N) → R a b → Ends R b) → Ends R a

-- none stands twice
abbrev pub Distinct : {N : Type 0} → List N → Type 0
Distinct [] = Unit {0}
Distinct (x ∷ xs) = (Has xs x → ⊥) × Distinct xs

-- a list without one of its members
abbrev without : {N : Type 0} (v : List N) (x : N) → Has v x → List N
without [] x h = []
without (y ∷ ys) x (inl e) = ys
without (y ∷ ys) x (inr h) = y ∷ without ys x h

without_length : {N : Type 0} (v : List N) (x : N) (h : Has v x) → suc (length (without v x h)) ≡ length v
without_length [] x h = absurd h
without_length (y ∷ ys) x (inl e) = refl
without_length (y ∷ ys) x (inr h) = ap suc (without_length ys x h)

others_stay : {N : Type 0} (v : List N) (x : N) (h : Has v x) (y : N) → (x ≡ y → ⊥) → Has v y → Has (without v x h) y
others_stay [] x h y ne k = absurd h
others_stay (z ∷ zs) x (inl e) y ne (inl f) = absurd (ne (sym e ∙ f))
others_stay (z ∷ zs) x (inl e) y ne (inr k) = k
others_stay (z ∷ zs) x (inr h) y ne (inl f) = inl f
others_stay (z ∷ zs) x (inr h) y ne (inr k) = inr (others_stay zs x h y ne k)

-- distinct members of a list are no more than the list has
pub no_more : {N : Type 0} (xs v : List N) → Distinct xs → ((x : N) → Has xs x → Has v x) → length xs ≤ length v
no_more [] v d f = omega arith
no_more (x ∷ xs) v d f =
    let h = f x (inl refl) in
    let rest : length xs ≤ length (without v x h) = no_more xs (without v x h) d.1 (λ y k. others_stay v x h y (λ e. d.0 (subst (λ z. Has xs z) (sym e) k)) (f y (inr k))) in
    let same : suc (length (without v x h)) ≡ length v = without_length v x h in
    omega arith

module _ {N : Type 0} (R : N → N → Type 0) (v : List N) (starts : (x y : N) → R x y → Has v x) (joins : (x y z : N) → R x y → R y z → R x z) (no_loop : (x : N) → Has v x → R x x → ⊥) where
  from_seen : (n : ℕ) (seen : List N) → Distinct seen → ((s : N) → Has seen s → Has v s) → length v < n + length seen → (x : N) → ((s : N) → Has seen s → R s x) → Ends R x
  from_seen zero seen d members many x before = let few : length seen ≤ length v = no_more seen v d members in absurd (omega arith)
  from_seen (suc n) seen d members many x before =
      ends (λ y r.
      let here : Has v x = starts x y r in
      from_seen n (x ∷ seen) ((λ h. no_loop x here (before x h)), d)
      (λ s h. elim h [ inl e ↦ subst (λ z. Has v z) e here | inr k ↦ members s k ])
      (omega arith) y
      (λ s h. elim h [ inl e ↦ subst (λ z. R z y) e r | inr k ↦ joins s x y (before s k) r ]))

  pub all_end : (x : N) → Ends R x
  all_end x = from_seen (suc (length v)) [] tt (λ s h. absurd h) (omega arith) x (λ s h. absurd h)
