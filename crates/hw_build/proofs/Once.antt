-- Names that stand once.
use Rattle.std.proofs.Common.{◌≡◌, ℕ, zero, suc, ◌+◌, ◌<◌, ◌≤◌, List, ◌++◌, arith}
use Rattle.std.specs.Prelude.{bytes_eq}
use Rattle.tapa_base.specs.Lists.{Has}
use Rattle.vlog_tree.specs.Table.{Name, times_in}
use Rattle.hw_build.proofs.Tables.{count_append}
use Rattle.hw_build.proofs.Drivers.{times_has}
use Rattle.hw_build.specs.Scope.{each}
use Rattle.hw_build.specs.Fits.{AreOnce}
use Rattle.hw_build.proofs.Parts.{of_each}

-- two counts of which one at most is not 0
apart : (a b : ℕ) → a ≤ 1 → b ≤ 1 → (1 ≤ a → 1 ≤ b → ⊥) → a + b ≤ 1
apart zero b h k n = omega arith
apart (suc a) zero h k n = omega arith
apart (suc a) (suc b) h k n = absurd (n (omega arith) (omega arith))

pub two_once : (xs ys : List Name) → AreOnce xs → AreOnce ys → ((x : Name) → Has xs x → Has ys x → ⊥) → AreOnce (xs ++ ys)
two_once xs ys a b none x =
    let c : times_in (xs ++ ys) x ≡ times_in xs x + times_in ys x = count_append (λ y. bytes_eq y x) xs ys in
    let s : times_in xs x + times_in ys x ≤ 1 = apart (times_in xs x) (times_in ys x) (a x) (b x) (λ h k. none x (times_has xs x h) (times_has ys x k)) in
    omega (arith, c, s)

pub parts_once : (f : ℕ → List Name) (n : ℕ) → ((k : ℕ) → k < n → AreOnce (f k)) → ((j k : ℕ) (x : Name) → j < n → k < n → Has (f j) x → Has (f k) x → j ≡ k) → AreOnce (each f n)
parts_once f zero h d = λ x. omega arith
parts_once f (suc n) h d =
    two_once (each f n) (f n) (parts_once f n (λ k l. h k (omega arith)) (λ j k x l m. d j k x (omega arith) (omega arith))) (h n (omega arith))
    (λ x a b. let r = of_each f n x a in let low : r.0 < n = r.1 in let e : r.0 ≡ n = d r.0 n x (omega arith) (omega arith) r.2 b in omega (arith, low, e))
