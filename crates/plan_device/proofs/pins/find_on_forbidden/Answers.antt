use Rattle.std.proofs.Common.{◌≡◌, ℕ, false, true, get_or, length, sym, ap, arith, rules}
use Rattle.run_data.specs.Seen.{first}
use Rattle.plan_device.specs.Pins.{pin_at, is_pinned_at}
use Rattle.plan_device.proofs.Numbers.{first_of_numbers, none_of_numbers}
use Rattle.plan_device.proofs.pins.find_on_forbidden.Goals as goal

pub returns-then-forbidden-slot : goal.returns-then-forbidden-slot
returns-then-forbidden-slot c =
    let test = λ (i : ℕ). is_pinned_at (λ s. get_or c.args.forbidden.now s false) (pin_at c.args.pins.now i) in
    let here : test c.loop-i.i ≡ true = search rules in
    sym (first_of_numbers test (length c.args.pins.now) c.loop-i.i (omega arith) c.loop-i.invariant here)

pub returns : goal.returns
returns c =
    let test = λ (i : ℕ). is_pinned_at (λ s. get_or c.args.forbidden.now s false) (pin_at c.args.pins.now i) in
    sym (ap first (none_of_numbers test (length c.args.pins.now) (λ j less. c.loop-i.invariant j (omega arith))))
