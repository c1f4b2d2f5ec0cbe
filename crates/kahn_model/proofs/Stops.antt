-- A network that stops within a bound on ticks stops at the same count within every greater one.
use Rattle.std.proofs.Common.{◌≤◌, ℕ, arith}
use Rattle.kahn_model.specs.Network.{Network, IsNetwork}
use Rattle.kahn_model.specs.Outcome.{IsStopped}
use Rattle.kahn_model.specs.Ending.{StopsStay}
use Rattle.kahn_model.proofs.Count.{reach_below}

pub stops_stay : StopsStay
stops_stay net ok n m le k s = record {
  greatest = record {
    reachable = s.greatest.reachable;
    capped = λ i. let c = s.greatest.capped i in omega arith;
    above = λ p r c i. reach_below net ok p k r (record { reachable = s.greatest.reachable; over = s.over }) i;
  };
  over = s.over;
  left = s.left;
  within = let w = s.within in omega arith;
}
