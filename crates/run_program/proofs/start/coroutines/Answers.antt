use Rattle.std.proofs.Common.{◌+◌, List, length, arith, sym, subst}
use Rattle.std.specs.declared.alloc.Global.{Global}
use Rattle.std.specs.declared.sync.Arc.{Arc}
use Rattle.coro_machine.specs.declared.coro.Coro.{Coro}
use Rattle.coro_machine.specs.declared.machine.Machine.{Machine}
use Rattle.run_program.specs.Started.{AreLowered, AreStarted}
use Rattle.run_program.proofs.Starting.{started_more}
use Rattle.run_program.proofs.start.coroutines.Goals as goal

pub loop-i-preserved : goal.loop-i-preserved
loop-i-preserved c = (
  omega (arith, c.loop-i.invariant.0, c.in_ok-push.ensures.len),
  subst (λ (l : List Coro). AreStarted c.args.program.now c.args.input.now (c.loop-i.i + 1) l) (sym c.in_ok-push.ensures.items) (started_more c.args.program.now c.args.input.now c.loop-i.i c.loop-i.all.items c.in_ok-start_one.field-0 c.loop-i.invariant.0 c.loop-i.invariant.1 c.in_ok-start_one.ensures),
)

pub returns-clause-first : goal.returns-clause-first
returns-clause-first c = λ i c' within at. c.loop-i.invariant.1 i c' (omega (arith, c.loop-i-test.false, c.len-i-end.ensures, within)) at

pub start_one-requires-clause-lowered : goal.start_one-requires-clause-lowered
start_one-requires-clause-lowered c =
    subst (λ (l : List (Arc Machine Global)). AreLowered c.args.program.now (length c.args.program.now.bodies.items) l) (sym c.deref.ensures.value) c.in_ok-machines.ensures.lowered
