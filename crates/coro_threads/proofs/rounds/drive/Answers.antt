use Rattle.std.proofs.Common.{length, ap, arith}
use Rattle.coro_threads.proofs.Turns.{same_run_refl, same_run_trans, same_ahead}
use Rattle.coro_threads.proofs.rounds.drive.Goals as goal

pub rounds-init : goal.rounds-init
rounds-init g c = record { run = same_run_refl c.args.case.now; home = c.requires.home; none = c.requires.none; room = c.requires.room }

pub rounds-preserved : goal.rounds-preserved
rounds-preserved g c =
    let inv = c.rounds.invariant in record {
      run = same_run_trans c.args.case.now c.claim_all.new.case c.round.new.case (same_run_trans c.args.case.now c.rounds.case c.claim_all.new.case inv.run c.claim_all.ensures.run) c.round.ensures.run;
      home = c.round.ensures.home;
      none = c.round.ensures.none;
      room =
          let a = c.round.ensures.len in
          let b = ap length c.claim_all.ensures.counts in
          let d = c.round.ensures.room in
          let e = c.claim_all.ensures.room in
          let f = inv.room in
          omega arith;
    }

pub rounds-smaller : goal.rounds-smaller
rounds-smaller g c =
    let same = same_ahead c.rounds.case c.claim_all.new.case c.claim_all.ensures.run c.claim_all.ensures.counts in
    let less = c.in_ok-made_few.ensures.progress in
    omega arith
