-- More on sums over the numbers below a bound: one term that changes, one that is picked, parts and a common factor.
use Rattle.std.proofs.Common.{◌≡◌, ℕ, zero, suc, ◌+◌, ◌*◌, ◌<◌, ◌≤◌, Bool, true, false, cond, ap, subst, arith, ⊎_elim}
use Rattle.std.specs.Prelude.{◌==◌, nat_lt, if◌then◌else◌}
use Rattle.std.proofs.lemmas.Bool.{cases_lt}
use Rattle.std.proofs.lemmas.Bool.Decides.{nat_tests}
use Rattle.task_graph.specs.Arcs.{total}
use Rattle.flow_cert.proofs.Sums.{total_same, total_zero}

pub total_more : (n m : ℕ) (f : ℕ → ℕ) → n ≤ m → total n f ≤ total m f
total_more n zero f l = let e : n ≡ 0 = omega arith in let s = ap (λ k. total k f) e in omega arith
total_more n (suc m) f l =
    ⊎_elim
    (λ (k : n < suc m). let a = total_more n m f (omega arith) in omega arith)
    (λ (k : suc m ≤ n). let e : n ≡ suc m = omega arith in let s = ap (λ j. total j f) e in omega arith)
    (cases_lt n (suc m))

-- one term that changes
pub total_but : (n v x : ℕ) (f g : ℕ → ℕ) → v < n → ((u : ℕ) → u < n → (u ≡ v → ⊥) → g u ≡ f u) → g v ≡ f v + x → total n g ≡ total n f + x
total_but zero v x f g l same here = absurd (omega arith)
total_but (suc n) v x f g l same here =
    ⊎_elim
    (λ (k : v < n).
    let a = total_but n v x f g k (λ u lu ne. same u (omega arith) ne) here in
    let b = same n (omega arith) (λ (e : n ≡ v). let i : ⊥ = omega arith in i) in omega arith)
    (λ (k : n ≤ v).
    let e : v ≡ n = omega arith in
    let a = total_same n g f (λ u lu. same u (omega arith) (λ (q : u ≡ v). let i : ⊥ = omega arith in i)) in
    let b : g n ≡ f n + x = subst (λ j. g j ≡ f j + x) e here in omega arith)
    (cases_lt v n)

pub pick_same : (a b x : ℕ) → a ≡ b → (if a == b then x else 0) ≡ x
pick_same a b x e = let t : (a == b) ≡ true = grind (arith, nat_tests) in ap (λ c. cond c x 0) t

pub pick_other : (a b x : ℕ) → (a ≡ b → ⊥) → (if a == b then x else 0) ≡ 0
pick_other a b x e = let t : (a == b) ≡ false = grind (arith, nat_tests) in ap (λ c. cond c x 0) t

-- a sum up to a bound, and what comes after it
pub total_split : (n m : ℕ) (f : ℕ → ℕ) → m ≤ n → total n f ≡ total m f + total n (λ j. if nat_lt j m then 0 else f j)
total_split zero m f l = let e : m ≡ 0 = omega arith in let s = ap (λ (k : ℕ). total k f) e in omega arith
total_split (suc n) m f l =
    ⊎_elim
    (λ (k : m < suc n).
    let a = total_split n m f (omega arith) in
    let t : nat_lt n m ≡ false = grind (arith, nat_tests) in
    let b = ap (λ (c : Bool). cond c 0 (f n)) t in omega arith)
    (λ (k : suc n ≤ m).
    let e : m ≡ suc n = omega arith in
    let s = ap (λ (j : ℕ). total j f) e in
    let z : total (suc n) (λ j. if nat_lt j m then 0 else f j) ≡ total (suc n) (λ j. 0) =
    total_same (suc n) _ _ (λ j lj. let t : nat_lt j m ≡ true = grind (arith, nat_tests) in ap (λ (c : Bool). cond c 0 (f j)) t) in
    let o = total_zero (suc n) in omega arith)
    (cases_lt m (suc n))

-- a common factor
pub total_scale : (n c : ℕ) (f : ℕ → ℕ) → total n (λ e. f e * c) ≡ total n f * c
total_scale zero c f = omega arith
total_scale (suc n) c f = let a = total_scale n c f in omega arith
