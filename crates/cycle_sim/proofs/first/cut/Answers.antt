use Rattle.std.proofs.Common.{◌^◌, ◌<◌, ◌≤◌, sym, arith}
use Rattle.std.proofs.Math.Nat.{mod-eq_of_lt}
use Rattle.std.proofs.Math.Pow.{pow_mono}
use Rattle.cycle_sim.proofs.first.cut.Goals as goal

pub returns-else-bits-lt64 : goal.returns-else-bits-lt64
returns-else-bits-lt64 c =
    let many : 64 ≤ c.args.bits = c.if-bits-lt64.false in
    let most : 2 ^ 64 ≤ 2 ^ c.args.bits = pow_mono many in
    let fits : c.args.fill < 2 ^ 64 = c.ranges.fill.fits in
    let low : c.args.fill < 2 ^ c.args.bits = omega arith in
    sym (mod-eq_of_lt low)
