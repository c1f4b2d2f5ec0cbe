-- The cost of a plan by parts: of the pinned groups, of each item beside these, and of each two items.
use Rattle.std.proofs.Common.{◌≡◌, ℕ, zero, suc, ◌+◌, ◌*◌, ◌<◌, ◌⊎◌, inl, inr, sym, ap, ◌∙◌, arith, ⊎_elim}
use Rattle.std.proofs.lemmas.Bool.{cases_eq}
use Rattle.task_graph.specs.Arcs.{total}
use Rattle.slot_plan.specs.Merging.{one}
use Rattle.flow_cert.proofs.Sums.{total_same, total_add}
use Rattle.slot_plan.proofs.Sums.{total_scale, pick_same, pick_other}

pub one_same : (v x : ℕ) → v ≡ x → one v x ≡ 1
one_same v x e = pick_same v x 1 e

pub one_other : (v x : ℕ) → (v ≡ x → ⊥) → one v x ≡ 0
one_other v x ne = pick_other v x 1 ne

-- products of which a factor is 0
zero_first : (a b c : ℕ) → a ≡ 0 → a * b * c ≡ 0
zero_first a b c e = let x = ap (λ (y : ℕ). y * b * c) e in omega arith

zero_second : (a b c : ℕ) → b ≡ 0 → a * b * c ≡ 0
zero_second a b c e = let x = ap (λ (y : ℕ). a * y * c) e in omega arith

zero_third : (a b c : ℕ) → c ≡ 0 → a * b * c ≡ 0
zero_third a b c e = let x = ap (λ (y : ℕ). a * b * y) e in omega arith

-- the same product, unless a factor is 0
pub unless_zero : (a b c z : ℕ) → ((a ≡ 0) ⊎ ((b ≡ 0) ⊎ (c ≡ z))) → a * b * c ≡ a * b * z
unless_zero a b c z h =
    ⊎_elim
    (λ (e : a ≡ 0). zero_first a b c e ∙ sym (zero_first a b z e))
    (λ (r : (b ≡ 0) ⊎ (c ≡ z)). ⊎_elim
    (λ (e : b ≡ 0). zero_second a b c e ∙ sym (zero_second a b z e))
    (λ (e : c ≡ z). ap (λ (y : ℕ). a * b * y) e)
    r)
    h

-- of two numbers, whether they are v and u
two_ones : (v u x y : ℕ) → (one v x ≡ 0) ⊎ ((one u y ≡ 0) ⊎ ((v ≡ x) × (u ≡ y)))
two_ones v u x y =
    ⊎_elim
    (λ (e : v ≡ x). ⊎_elim
    (λ (f : u ≡ y). inr (inr (e, f)))
    (λ (ne : u ≡ y → ⊥). inr (inl (one_other u y ne)))
    (cases_eq u y))
    (λ (ne : v ≡ x → ⊥). inl (one_other v x ne))
    (cases_eq v x)

-- a stream between v and u costs what these do
at_ends : (D : ℕ → ℕ → ℕ) (p : ℕ → ℕ) (w v u x y : ℕ) → one v x * one u y * (w * D (p x) (p y)) ≡ one v x * one u y * (w * D (p v) (p u))
at_ends D p w v u x y =
    unless_zero (one v x) (one u y) (w * D (p x) (p y)) (w * D (p v) (p u))
    (⊎_elim
    (λ (e : one v x ≡ 0). inl e)
    (λ (r : (one u y ≡ 0) ⊎ ((v ≡ x) × (u ≡ y))). ⊎_elim
    (λ (e : one u y ≡ 0). inr (inl e))
    (λ (q : (v ≡ x) × (u ≡ y)). inr (inr (ap (λ (z : ℕ). w * D (p z) (p y)) (sym q.0) ∙ ap (λ (z : ℕ). w * D (p v) (p z)) (sym q.1))))
    r)
    (two_ones v u x y))

-- algebra
expand_cost : (r d r' d' R R' L : ℕ) → R ≡ r + d → R' ≡ r' + d' → d * d' * L ≡ 0 → R * R' * L ≡ r * r' * L + (d * r' + r * d') * L
expand_cost r d r' d' R R' L e e' z =
    let a : R * R' * L ≡ (r + d) * R' * L = ap (λ (x : ℕ). x * R' * L) e in
    let b : (r + d) * R' * L ≡ (r + d) * (r' + d') * L = ap (λ (x : ℕ). (r + d) * x * L) e' in
    let c : (r + d) * (r' + d') * L ≡ r * r' * L + (d * r' + r * d') * L + d * d' * L = omega arith in
    omega arith

expand_meets : (o o' r d r' d' R R' L w K : ℕ) → R ≡ r + d → R' ≡ r' + d' → o * d' * L ≡ o * d' * (w * K) → d * o' * L ≡ d * o' * (w * K) → (o * R' + R * o') * L ≡ (o * r' + r * o') * L + (d * o' + o * d') * w * K
expand_meets o o' r d r' d' R R' L w K e e' f f' =
    let a : (o * R' + R * o') * L ≡ (o * (r' + d') + R * o') * L = ap (λ (x : ℕ). (o * x + R * o') * L) e' in
    let b : (o * (r' + d') + R * o') * L ≡ (o * (r' + d') + (r + d) * o') * L = ap (λ (x : ℕ). (o * (r' + d') + x * o') * L) e in
    let c : (o * (r' + d') + (r + d) * o') * L ≡ (o * r' + r * o') * L + o * d' * L + d * o' * L = omega arith in
    let g : (d * o' + o * d') * w * K ≡ o * d' * (w * K) + d * o' * (w * K) = omega arith in
    omega arith

-- groups that are pinned or among the first n items
abbrev pub reached : (ℕ → ℕ) → (ℕ → ℕ) → ℕ → ℕ → ℕ
reached pins item n x = pins x + total n (λ k. one (item k) x)

-- what the streams among those groups cost
abbrev pub upto : ℕ → (ℕ → ℕ) → (ℕ → ℕ) → (ℕ → ℕ) → (ℕ → ℕ) → (ℕ → ℕ) → ℕ → ℕ
upto m t h L pins item n = total m (λ e. reached pins item n (t e) * reached pins item n (h e) * L e)

-- what the streams between a group and those cost
abbrev pub meets : ℕ → (ℕ → ℕ) → (ℕ → ℕ) → (ℕ → ℕ) → (ℕ → ℕ) → (ℕ → ℕ) → ℕ → ℕ → ℕ
meets m t h L pins item v n = total m (λ e. (one v (t e) * reached pins item n (h e) + reached pins item n (t e) * one v (h e)) * L e)

-- the widths between two groups
abbrev pub widths : ℕ → (ℕ → ℕ) → (ℕ → ℕ) → (ℕ → ℕ) → ℕ → ℕ → ℕ
widths m t h w v u = total m (λ e. (one v (t e) * one u (h e) + one u (t e) * one v (h e)) * w e)

upto_more : (m : ℕ) (t h w : ℕ → ℕ) (D : ℕ → ℕ → ℕ) (p pins item : ℕ → ℕ) (n : ℕ) → ((x : ℕ) → D x x ≡ 0) →
    upto m t h (λ e. w e * D (p (t e)) (p (h e))) pins item (suc n) ≡ upto m t h (λ e. w e * D (p (t e)) (p (h e))) pins item n + meets m t h (λ e. w e * D (p (t e)) (p (h e))) pins item (item n) n
upto_more m t h w D p pins item n self =
    let r : ℕ → ℕ = reached pins item n in
    let o : ℕ → ℕ = one (item n) in
    let L : ℕ → ℕ = λ e. w e * D (p (t e)) (p (h e)) in
    total_same m _ _ (λ e l.
    expand_cost (r (t e)) (o (t e)) (r (h e)) (o (h e)) (reached pins item (suc n) (t e)) (reached pins item (suc n) (h e)) (L e) (omega arith) (omega arith)
    (at_ends D p (w e) (item n) (item n) (t e) (h e)
    ∙ zero_third (o (t e)) (o (h e)) (w e * D (p (item n)) (p (item n))) (let z = ap (λ (y : ℕ). w e * y) (self (p (item n))) in omega arith)))
    ∙ total_add m (λ e. r (t e) * r (h e) * L e) (λ e. (o (t e) * r (h e) + r (t e) * o (h e)) * L e)

meets_more : (m : ℕ) (t h w : ℕ → ℕ) (D : ℕ → ℕ → ℕ) (p pins item : ℕ → ℕ) (v n : ℕ) → ((x y : ℕ) → D x y ≡ D y x) →
    meets m t h (λ e. w e * D (p (t e)) (p (h e))) pins item v (suc n) ≡ meets m t h (λ e. w e * D (p (t e)) (p (h e))) pins item v n + widths m t h w (item n) v * D (p (item n)) (p v)
meets_more m t h w D p pins item v n swap =
    let r : ℕ → ℕ = reached pins item n in
    let o : ℕ → ℕ = one v in
    let s : ℕ → ℕ = one (item n) in
    let L : ℕ → ℕ = λ e. w e * D (p (t e)) (p (h e)) in
    let K = D (p (item n)) (p v) in
    total_same m _ _ (λ e l.
    expand_meets (o (t e)) (o (h e)) (r (t e)) (s (t e)) (r (h e)) (s (h e)) (reached pins item (suc n) (t e)) (reached pins item (suc n) (h e)) (L e) (w e) K (omega arith) (omega arith)
    (at_ends D p (w e) v (item n) (t e) (h e) ∙ ap (λ (y : ℕ). o (t e) * s (h e) * (w e * y)) (swap (p v) (p (item n))))
    (at_ends D p (w e) (item n) v (t e) (h e)))
    ∙ (total_add m (λ e. (o (t e) * r (h e) + r (t e) * o (h e)) * L e) (λ e. (s (t e) * o (h e) + o (t e) * s (h e)) * w e * K)
    ∙ ap (λ (y : ℕ). meets m t h L pins item v n + y) (total_scale m K (λ e. (s (t e) * o (h e) + o (t e) * s (h e)) * w e)))

pub meets_all : (m : ℕ) (t h w : ℕ → ℕ) (D : ℕ → ℕ → ℕ) (p pins item : ℕ → ℕ) (v n : ℕ) → ((x y : ℕ) → D x y ≡ D y x) →
    meets m t h (λ e. w e * D (p (t e)) (p (h e))) pins item v n ≡ meets m t h (λ e. w e * D (p (t e)) (p (h e))) pins item v 0 + total n (λ k. widths m t h w (item k) v * D (p (item k)) (p v))
meets_all m t h w D p pins item v zero swap = omega arith
meets_all m t h w D p pins item v (suc n) swap =
    let a = meets_more m t h w D p pins item v n swap in
    let b = meets_all m t h w D p pins item v n swap in omega arith

pub upto_all : (m : ℕ) (t h w : ℕ → ℕ) (D : ℕ → ℕ → ℕ) (p pins item : ℕ → ℕ) (n : ℕ) → ((x : ℕ) → D x x ≡ 0) → ((x y : ℕ) → D x y ≡ D y x) →
    upto m t h (λ e. w e * D (p (t e)) (p (h e))) pins item n ≡ upto m t h (λ e. w e * D (p (t e)) (p (h e))) pins item 0 + total n (λ j. meets m t h (λ e. w e * D (p (t e)) (p (h e))) pins item (item j) 0 + total j (λ k. widths m t h w (item k) (item j) * D (p (item k)) (p (item j))))
upto_all m t h w D p pins item zero self swap = omega arith
upto_all m t h w D p pins item (suc n) self swap =
    let a = upto_more m t h w D p pins item n self in
    let b = upto_all m t h w D p pins item n self swap in
    let c = meets_all m t h w D p pins item (item n) n swap in omega arith

one_both : (r r' L : ℕ) → r ≡ 1 → r' ≡ 1 → r * r' * L ≡ L
one_both r r' L e e' = ap (λ (x : ℕ). x * r' * L) e ∙ (ap (λ (x : ℕ). 1 * x * L) e' ∙ omega arith)

-- where each end is reached, all streams are counted
pub upto_whole : (m : ℕ) (t h L pins item : ℕ → ℕ) (n : ℕ) → ((e : ℕ) → e < m → reached pins item n (t e) ≡ 1) → ((e : ℕ) → e < m → reached pins item n (h e) ≡ 1) → upto m t h L pins item n ≡ total m L
upto_whole m t h L pins item n a b = total_same m _ _ (λ e l. one_both (reached pins item n (t e)) (reached pins item n (h e)) (L e) (a e l) (b e l))
