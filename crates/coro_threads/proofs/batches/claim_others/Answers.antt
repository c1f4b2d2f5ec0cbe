use Rattle.std.proofs.Common.{◌∙◌, length, refl, sym, ap, subst, arith}
use Rattle.coro_threads.proofs.Turns.{HaveGone, gone_none, gone_more, gone_same}
use Rattle.coro_threads.proofs.batches.claim_others.Goals as goal

pub others-init : goal.others-init
others-init g c = record { gone = gone_none c.args.case.now c.args.batches.now.items c.requires.out; some = c.requires.some; room = refl }

pub push_reserved-requires : goal.push_reserved-requires
push_reserved-requires g c =
    let inv = c.others.invariant in
    let counts = ap length inv.gone.counts in
    let known = ap length c.counts.ensures in
    let room = inv.room in
    let all = c.requires.room in
    let t = c.others-test.true in
    let a = c.len.ensures in
    let o = c.others.batches.ok.0 in
    omega arith

pub others-preserved : goal.others-preserved
others-preserved g c =
    let inv = c.others.invariant in
    let h = rw c.in-Work.is at c.claim.ensures in
    let more = gone_more c.args.case.now c.others.case c.claim.new.self c.others.batches.items c.in-Work.batch inv.gone c.valid.ensures h.0 in
    record {
      gone = subst (HaveGone c.args.case.now c.claim.new.self) (sym c.push_reserved.ensures.items) more;
      some = let l = c.push_reserved.ensures.len in let o = c.push_reserved.new.self.ok.0 in omega arith;
      room = c.push_reserved.ensures.capacity ∙ inv.room;
    }

pub returns-in-Wait-clause-out : goal.returns-in-Wait-clause-out
returns-in-Wait-clause-out g c =
    let w = rw c.in-Wait.is at c.claim.ensures in
    (gone_same c.args.case.now c.others.case c.claim.new.self c.others.batches.items c.others.invariant.gone w.same).out

pub returns-in-Over-clause-out : goal.returns-in-Over-clause-out
returns-in-Over-clause-out g c =
    let w = rw c.in-Over.is at c.claim.ensures in
    (gone_same c.args.case.now c.others.case c.claim.new.self c.others.batches.items c.others.invariant.gone w.same).out
