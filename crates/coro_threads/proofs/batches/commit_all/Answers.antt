use Rattle.std.proofs.Common.{◌∙◌, refl, sym, subst}
use Rattle.coro_threads.specs.Out.{AreOut}
use Rattle.coro_threads.proofs.Outs.{of_case, may_commit}
use Rattle.coro_threads.proofs.Turns.{HaveComeBack, back_none, back_more}
use Rattle.coro_threads.proofs.batches.commit_all.Goals as goal

pub back-init : goal.back-init
back-init g c = record { back = back_none c.args.case.now c.args.batches.now.items c.requires; room = refl }

pub commit-requires-clause-program : goal.commit-requires-clause-program
commit-requires-clause-program g c = (of_case c.back.case c.pop.new.self.items c.in-Some.batch (subst (AreOut c.back.case) c.in-Some.ensures.items c.back.invariant.back.out)).program

pub commit-requires-clause-input : goal.commit-requires-clause-input
commit-requires-clause-input g c = (of_case c.back.case c.pop.new.self.items c.in-Some.batch (subst (AreOut c.back.case) c.in-Some.ensures.items c.back.invariant.back.out)).input

pub commit-requires-clause-budget : goal.commit-requires-clause-budget
commit-requires-clause-budget g c = (of_case c.back.case c.pop.new.self.items c.in-Some.batch (subst (AreOut c.back.case) c.in-Some.ensures.items c.back.invariant.back.out)).budget

pub commit-requires-clause-may : goal.commit-requires-clause-may
commit-requires-clause-may g c = λ e. may_commit c.back.case c.pop.new.self.items c.in-Some.batch (subst (AreOut c.back.case) c.in-Some.ensures.items c.back.invariant.back.out)

pub unreachable-requires : goal.unreachable-requires
unreachable-requires g c =
    let w = of_case c.back.case c.pop.new.self.items c.in-Some.batch (subst (AreOut c.back.case) c.in-Some.ensures.items c.back.invariant.back.out) in
    let s = c.in-Err.ensures.stale in
    s.0 (s.2 ∙ w.from ∙ sym s.1)

pub back-preserved : goal.back-preserved
back-preserved g c =
    let inv = c.back.invariant in record {
      back =
          back_more c.args.case.now c.args.batches.now.items c.back.case c.pop.new.self.items c.in-Some.batch c.commit.new.self
          (subst (HaveComeBack c.args.case.now c.args.batches.now.items c.back.case) c.in-Some.ensures.items inv.back) c.in-Ok.ensures.ok c.valid.ensures;
      room = c.pop.ensures.capacity ∙ inv.room;
    }
