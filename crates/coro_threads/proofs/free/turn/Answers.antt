use Rattle.std.proofs.Common.{sym, subst}
use Rattle.net_case.specs.declared.case_state.CaseState.{CaseState}
use Rattle.coro_threads.specs.Turn.{HasTurned}
use Rattle.coro_threads.proofs.InTurn.{same_run, turned_more}
use Rattle.coro_threads.proofs.free.turn.Goals as goal

pub returns-then-is_slow : goal.returns-then-is_slow
returns-then-is_slow g c =
    let h = rw c.in-Work.is at c.claim.ensures in
    let same = same_run c.run-ran.result c.in-Work.batch c.run-ran.new.self c.run-ran.ensures.failed c.run-ran.ensures.ran in
    subst (λ (x : CaseState). HasTurned c.args.case.now x) (sym c.is_slow.ensures)
    (turned_more c.loop.case c.valid.ensures c.in-Work.batch c.claim.new.self h.0 c.run-ran.new.self same c.args.case.now c.loop.invariant c.commit.new.self c.in-Ok.ensures.ok)

pub returns-then-is_awaited : goal.returns-then-is_awaited
returns-then-is_awaited g c =
    let h = rw c.in-Work.is at c.claim.ensures in
    let same = same_run c.run-ran.result c.in-Work.batch c.run-ran.new.self c.run-ran.ensures.failed c.run-ran.ensures.ran in
    subst (λ (x : CaseState). HasTurned c.args.case.now x) (sym c.is_slow.ensures)
    (turned_more c.loop.case c.valid.ensures c.in-Work.batch c.claim.new.self h.0 c.run-ran.new.self same c.args.case.now c.loop.invariant c.commit.new.self c.in-Ok.ensures.ok)

pub loop-preserved : goal.loop-preserved
loop-preserved g c =
    let h = rw c.in-Work.is at c.claim.ensures in
    let same = same_run c.run-ran.result c.in-Work.batch c.run-ran.new.self c.run-ran.ensures.failed c.run-ran.ensures.ran in
    subst (λ (x : CaseState). HasTurned c.args.case.now x) (sym c.is_slow.ensures)
    (turned_more c.loop.case c.valid.ensures c.in-Work.batch c.claim.new.self h.0 c.run-ran.new.self same c.args.case.now c.loop.invariant c.commit.new.self c.in-Ok.ensures.ok)
