use Rattle.std.proofs.Common.{◌≡◌, ◌<◌, ◌≤◌, ◌*◌, ◌^◌, ℕ, zero, suc, refl, ap, arith}
use Rattle.std.proofs.Math.Nat.{pow-le-pow_right, pow-suc, pow-zero}
use Rattle.slot_plan.proofs.limit.is_too_many.Goals as goal

no_slots : (s n : ℕ) → s ≡ 0 → s ^ n ≤ 1
no_slots s zero e = let a = pow-zero s in omega arith
no_slots s (suc n) e = let a = pow-suc s n in let b = ap (λ x. s ^ n * x) e in omega arith

pub returns-then-slots-eq0 : goal.returns-then-slots-eq0
returns-then-slots-eq0 c = ((λ e. cc), (λ big. let a = no_slots c.args.slots c.args.free (omega arith) in absurd (omega arith)))

over_stays : (s i n p : ℕ) → 0 < s → i < n → p ≡ s ^ i → 4194304 < p * s → 4194304 < s ^ n
over_stays s i n p pos l e big =
    let a = pow-suc s i in
    let b = pow-le-pow_right {n = s} pos {i = suc i} {j = n} (omega arith) in
    let d = ap (λ x. x * s) e in omega arith

pub returns-then-plans-gt4194304 : goal.returns-then-plans-gt4194304
returns-then-plans-gt4194304 c = ((λ e. over_stays c.args.slots c.loop.counter c.args.free c.loop.plans (omega arith) (omega arith) c.loop.invariant.power (omega arith)), (λ big. refl))
