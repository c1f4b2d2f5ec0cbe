use Rattle.std.proofs.Common.{◌≡◌, ◌+◌, ℕ, List, Some, sym, subst, arith}
use Rattle.std.specs.Prelude.{slice_get}
use Rattle.std.specs.Arc.{arc_value}
use Rattle.std.specs.declared.alloc.Global.{Global}
use Rattle.std.specs.declared.sync.Arc.{Arc}
use Rattle.tapa_syntax.specs.declared.program.Leaf.{Leaf}
use Rattle.tapa_syntax.specs.WellFormed.{IsLeaf}
use Rattle.task_fsm.specs.declared.machine.Fsm.{Fsm}
use Rattle.task_fsm.specs.Lowered.{IsLowered}
use Rattle.coro_machine.specs.declared.machine.Machine.{Machine}
use Rattle.coro_machine.specs.Coro.{IsMachineOf}
use Rattle.run_program.specs.Started.{AreLowered}
use Rattle.run_program.proofs.Starting.{lowered_more}
use Rattle.run_program.proofs.start.machines.Goals as goal

pub loop-body-preserved : goal.loop-body-preserved
loop-body-preserved c =
    let program = c.args.program.now in
    let same : c.loop-body.body ≡ c.in-Ok.number = omega (arith, c.in-Ok.ensures) in
    let last : (leaf : Leaf) → slice_get program.bodies.items c.loop-body.body ≡ Some leaf → IsLeaf leaf → IsMachineOf leaf (arc_value c.in_ok-new.field-0) =
    λ leaf at is.
    subst (λ (m : Machine). IsMachineOf leaf m) (sym c.in_ok-new.ensures.ok) (record {
      lowered = subst (λ (m : Fsm). IsLowered leaf m) (sym c.in_ok-machine.ensures.fsm) (c.in_ok-fsm.ensures leaf (subst (λ (n : ℕ). slice_get program.bodies.items n ≡ Some leaf) same at) is);
      coded = c.in_ok-machine.ensures.code;
    }) in (
      omega (arith, c.loop-body.invariant.0, c.in_ok-push.ensures.len),
      subst (λ (l : List (Arc Machine Global)). AreLowered program (c.loop-body.body + 1) l) (sym c.in_ok-push.ensures.items) (lowered_more program c.loop-body.body c.loop-body.all.items c.in_ok-new.field-0 c.loop-body.invariant.0 c.loop-body.invariant.1 last),
    )

pub returns-clause-lowered : goal.returns-clause-lowered
returns-clause-lowered c = λ b leaf machine within at_leaf at. c.loop-body.invariant.1 b leaf machine (omega (arith, c.loop-body-test.false, c.len-body-end.ensures, within)) at_leaf at
