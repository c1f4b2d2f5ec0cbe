use Rattle.std.proofs.Common.{◌<◌, length, sym, subst, arith}
use Rattle.cycle_sim.specs.Firsts.{AreHeld}
use Rattle.cycle_sim.proofs.Filling.{filled_more, below}
use Rattle.cycle_sim.proofs.registers.fill_registers.Goals as goal

pub fill_register-requires : goal.fill_register-requires
fill_register-requires c = subst (λ n. AreHeld c.args.flat.now c.args.pairs.now n) (sym c.loop-number.auto.numbers) c.requires

pub loop-number-init : goal.loop-number-init
loop-number-init c = λ j bits p low h. absurd (omega (arith, low))

pub loop-number-preserved : goal.loop-number-preserved
loop-number-preserved c =
    filled_more c.args.flat.now c.args.pairs.now c.args.fill c.loop-number.number (length c.args.numbers.now) c.requires c.loop-number.numbers c.fill_register.new.numbers c.fill_register.ensures.value c.fill_register.ensures.kept c.loop-number.invariant

pub returns : goal.returns
returns c = λ number bits p h.
    let low : number < length c.args.pairs.now = below c.args.pairs.now number p h.placed in
    c.loop-number.invariant number bits p (omega (arith, low, c.loop-number-test.false)) h
