use Rattle.std.proofs.Common.{ap, sym, subst}
use Rattle.coro_threads.specs.Turn.{MayGive}
use Rattle.coro_threads.specs.Seats.{view, origin}
use Rattle.coro_threads.proofs.Claiming.{may_commit, commit_gives}
use Rattle.coro_threads.proofs.free.commit_one.Goals as goal

pub commit-requires-clause-may : goal.commit-requires-clause-may
commit-requires-clause-may g c = let t = c.take-case.ensures in
    λ _. may_commit (origin c.args.board.now) (view c.args.seat.now) c.take-case.result c.args.batch c.requires.batch c.requires.seat.origin t.finds

pub give-requires : goal.give-requires
give-requires g c = let t = c.take-case.ensures in (
  t.same,
  ap (λ v. v.turn) t.view,
  subst (λ v. MayGive v c.commit.new.self) (sym t.view)
      (commit_gives (origin c.args.board.now) (view c.args.seat.now) c.take-case.result c.args.batch c.requires.batch c.requires.seat.origin t.finds c.commit.new.self c.in-Ok.ensures.ok),
)
