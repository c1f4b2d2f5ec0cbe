use Rattle.std.proofs.Common.{◌∙◌, [], ◌∷◌, ◌++◌, length, sym, ap, subst, arith}
use Rattle.coro_threads.specs.Out.{AreOut}
use Rattle.coro_threads.proofs.Outs.{none_out, hands_out}
use Rattle.coro_threads.proofs.Turns.{no_wait}
use Rattle.coro_threads.proofs.batches.claim_all.Goals as goal

pub unreachable-requires : goal.unreachable-requires
unreachable-requires g c = no_wait c.args.case.now c.claim.new.self c.requires.home (rw c.in-Wait.is at c.claim.ensures)

pub push_reserved-requires : goal.push_reserved-requires
push_reserved-requires g c =
    let h = rw c.in-Work.is at c.claim.ensures in
    let inside = h.0.inside in
    let none = ap length c.requires.none in
    let room = c.requires.room in
    let o = c.args.batches.now.ok.0 in
    omega arith

pub claim_others-requires-clause-out : goal.claim_others-requires-clause-out
claim_others-requires-clause-out g c =
    let h = rw c.in-Work.is at c.claim.ensures in
    let items = c.push_reserved.ensures.items ∙ ap (λ l. l ++ c.in-Work.batch ∷ []) c.requires.none in
    subst (AreOut c.claim.new.self) (sym items) (hands_out c.args.case.now c.valid.ensures c.in-Work.batch c.claim.new.self h.0 [] (none_out c.args.case.now c.requires.home))
