use Rattle.std.proofs.Common.{refl, arith}
use Rattle.net_core.proofs.share.resume_within.Goals as goal

pub returns-then-not-detached-clause-resumed : goal.returns-then-not-detached-clause-resumed
returns-then-not-detached-clause-resumed g c = record {
  fuel = c.min-fuel.result;
  resumed = c.in_ok-pause.ensures.resumed;
  joined = λ j.
      let m = c.min-fuel.ensures in
      let l = c.left_to.ensures.joined j in
      let w = c.in_ok-pause.ensures.resumed.within in
      (grind arith, grind arith, λ z. grind arith);
  detached = λ d. let e = c.is_detached-detached.ensures in let f = c.if-not-detached.true in absurd (cc);
}

pub returns-else-not-detached-clause-resumed : goal.returns-else-not-detached-clause-resumed
returns-else-not-detached-clause-resumed g c = record {
  fuel = c.min-fuel.result;
  resumed = c.in_ok-pause.ensures.resumed;
  joined = λ j. let e = c.is_detached-detached.ensures in let f = c.if-not-detached.false in absurd (cc);
  detached = λ d.
      let m = c.min-fuel.ensures in
      let l = c.left_to.ensures.detached d in
      (grind arith, refl, λ z. grind arith);
}
