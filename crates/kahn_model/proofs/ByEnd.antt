-- Where every instance is joined, the one count that allows no step tells the outcome.
use Rattle.std.proofs.Common.{◌⊎◌, ◌<◌, ◌≤◌, ℕ, ⊎_elim, arith}
use Rattle.std.proofs.lemmas.Bool.{cases_lt}
use Rattle.kahn_model.specs.Network.{Network, IsNetwork}
use Rattle.kahn_model.specs.Counts.{total, with_tick_of, IsEnding}
use Rattle.kahn_model.specs.Outcome.{IsGreatest, joined_ticks, IsDone, IsStopped, GoesOn}
use Rattle.kahn_model.specs.Ending.{EndsWithin, StopsWithin, GoesPast, AreAllJoined, IsAllOver, IsDeadlock, IsToldByItsEnd}
use Rattle.kahn_model.proofs.Count.{total_grows, total_bump, bump_same, reach_below}
use Rattle.kahn_model.proofs.Reach.{total_has}
use Rattle.kahn_model.proofs.Ends.{reach_push, bump_capped}
use Rattle.kahn_model.proofs.Ended.{ended_over}
use Rattle.kahn_model.proofs.Joined.{joined_all, reach_outside}
use Rattle.kahn_model.proofs.Ending.{three_ways}
use Rattle.kahn_model.proofs.Shown.{ends_alike}

module _ (net : Network) (ok : IsNetwork net) (all : AreAllJoined net) (n : ℕ) where
  -- an end within the bound is the greatest count
  greatest_end : (k : ℕ → ℕ) → IsEnding net k → total net.size k ≤ n → IsGreatest net n k
  greatest_end k e w = record {
    reachable = e.reachable;
    capped = λ i.
        ⊎_elim
        (λ (l : i < net.size). let t = total_has net.size i k l in omega arith)
        (λ (l : net.size ≤ i). let z = reach_outside net k e.reachable i l in omega arith)
        (cases_lt i net.size);
    above = λ m rm c i. reach_below net ok m k rm e i;
  }

  within : (k : ℕ → ℕ) → joined_ticks net k ≤ n → total net.size k ≤ n
  within k w = let t = joined_all net k all in omega arith

  joined_within : (k : ℕ → ℕ) → total net.size k ≤ n → joined_ticks net k ≤ n
  joined_within k w = let t = joined_all net k all in omega arith

  all_over : (k : ℕ → ℕ) → IsDone net n k → IsAllOver net k
  all_over k d = record {
    ending = record { reachable = d.greatest.reachable; over = λ i a. let l = a.supplied.inside in ended_over net ok k i (d.ended i l (all i l)) a };
    ended = λ i l. d.ended i l (all i l);
  }

  deadlock : (k : ℕ → ℕ) → IsStopped net n k → IsDeadlock net k
  deadlock k s = record {
    ending = record { reachable = s.greatest.reachable; over = s.over };
    instance = s.left.instance;
    inside = s.left.inside;
    goes_on = s.left.goes_on;
  }

  -- the greatest count has as many ticks as the bound at least, where it goes on
  enough : (k : ℕ → ℕ) → IsGreatest net n k → GoesOn net k → n ≤ total net.size k
  enough k g on =
      let i = on.instance in
      let t = total_has net.size i k on.allowed.supplied.inside in
      ⊎_elim
      (λ (l : k i < n).
      let up = g.above (with_tick_of i k) (reach_push net k i g.reachable on.allowed) (bump_capped net n k i g.capped l) i in
      let b = bump_same i k in
      absurd (omega arith))
      (λ (l : n ≤ k i). omega arith)
      (cases_lt (k i) n)

  past_more : GoesPast net n → (m : ℕ → ℕ) → IsEnding net m → n < total net.size m
  past_more (k, p) m e =
      let up = total_grows net.size k m (reach_below net ok k m p.greatest.reachable e) in
      ⊎_elim
      (λ (l : n < joined_ticks net k). let t = joined_all net k all in omega arith)
      (λ (on : GoesOn net k).
      let i = on.instance in
      let t = total_bump net.size i k on.allowed.supplied.inside in
      let u = total_grows net.size (with_tick_of i k) m (reach_below net ok (with_tick_of i k) m (reach_push net k i p.greatest.reachable on.allowed) e) in
      let h = enough k p.greatest on in
      omega arith)
      p.more

  more_past : ((m : ℕ → ℕ) → IsEnding net m → n < total net.size m) → GoesPast net n
  more_past h =
      ⊎_elim
      (λ (d : EndsWithin net n). let l = h d.0 (all_over d.0 d.1).ending in let w = within d.0 d.1.within in absurd (omega arith))
      (λ (o : StopsWithin net n ⊎ GoesPast net n).
      ⊎_elim
      (λ (s : StopsWithin net n). let l = h s.0 (deadlock s.0 s.1).ending in let w = within s.0 s.1.within in absurd (omega arith))
      (λ (p : GoesPast net n). p)
      o)
      (three_ways net ok n)

  pub told_by_its_end : IsToldByItsEnd net n
  told_by_its_end = record {
    done = λ k. (
      λ d. (all_over k d, within k d.within),
      λ o. record { greatest = greatest_end k o.0.ending o.1; ended = λ i l j. o.0.ended i l; within = joined_within k o.1 },
    );
    stopped = λ k. (
      λ s. (deadlock k s, within k s.within),
      λ o. record {
        greatest = greatest_end k o.0.ending o.1;
        over = o.0.ending.over;
        left = record { instance = o.0.instance; inside = o.0.inside; joined = all o.0.instance o.0.inside; goes_on = o.0.goes_on };
        within = joined_within k o.1;
      },
    );
    past = (past_more, more_past);
    ticks = λ k. joined_all net k all;
    least = λ a k l d.
        let same = (ends_alike net ok l.count k l.reachable d.greatest.reachable l.ended d.ended).ticks in
        let x = joined_all net l.count all in
        let y = joined_all net k all in
        let s = l.sum in
        omega arith;
  }
