use Rattle.std.proofs.Common.{◌≡◌, ◌<◌, ℕ, false, get_or}
use Rattle.plan_device.specs.Pins.{pin_at, is_pinned_at}
use Rattle.plan_device.proofs.pins.find_on_forbidden.Given as goal

abbrev pub invariant-loop-i : goal.invariant-loop-i
invariant-loop-i l = (j : ℕ) → j < l.i → is_pinned_at (λ s. get_or l.forbidden s false) (pin_at l.pins j) ≡ false
