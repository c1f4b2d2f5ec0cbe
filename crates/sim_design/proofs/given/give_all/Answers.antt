use Rattle.std.proofs.Common.{◌≡◌, ◌+◌, ◌<◌, ◌++◌, ◌∷◌, [], length, sym, subst, ap, ◌∙◌, rules, arith}
use Rattle.std.proofs.lemmas.List.{length_push}
use Rattle.sim_gates.specs.Nets.{SlotsBefore}
use Rattle.sim_tape.specs.Trees.{tree_of}
use Rattle.sim_tape.proofs.Growing.{extends_twice}
use Rattle.sim_flat.specs.Flat.{HasNumber}
use Rattle.sim_flat.proofs.Standing.{number_low}
use Rattle.sim_design.specs.Given.{HaveOwn, AreGivenNets}
use Rattle.sim_design.proofs.Giving.{AllFreeBelow, given_more, slots_more, own_more, all_more}
use Rattle.sim_design.proofs.given.give_all.Goals as goal

pub loop-number-preserved : goal.loop-number-preserved
loop-number-preserved c =
    let i = c.loop-number.invariant in
    let e = c.in_ok-pair.ensures in
    let pairs = c.loop-number.pairs.items in
    let pair = c.in_ok-pair.pair in
    let t = tree_of c.give_net.new.tape in
    let is : c.push.new.self.items ≡ c.loop-number.pairs.items ++ c.in_ok-pair.pair ∷ [] = c.in_ok-push.ensures.items in
    record {
      extends = extends_twice _ _ _ i.extends e.extends;
      slots = subst (λ l. SlotsBefore l (length t.gates)) (sym is) (slots_more pairs pair _ _ e.extends.grows.gates i.slots e.slots);
      own = subst (λ l. HaveOwn l) (sym is) (own_more pairs pair (length (tree_of c.loop-number.tape).gates) i.slots e.fresh i.extends.new_tape.some i.own);
      count = ap length is ∙ length_push pairs pair ∙ ap (λ n. n + 1) i.count;
      all = λ ms top flat.
          subst (λ l. AllFreeBelow ms top c.args.flat.now l) (sym is) (all_more ms top c.args.flat.now pairs pair (i.all ms top flat)
          (λ n h free clock. e.all ms top n flat (subst (λ k. HasNumber ms c.args.flat.now k n) i.count h) free clock));
      given = λ ms top flat.
          subst (λ l. AreGivenNets ms top c.args.flat.now l t) (sym is) (given_more (tree_of c.loop-number.tape) t e.extends ms top c.args.flat.now pairs pair (i.given ms top flat)
          (λ n h. e.given ms top n flat (subst (λ k. HasNumber ms c.args.flat.now k n) i.count h)));
    }

pub returns-clause-all : goal.returns-clause-all
returns-clause-all c = λ ms top flat i n h free clock.
    let low : i < length c.args.flat.now.owners.items = number_low ms top c.args.flat.now flat i n h in
    let count : length c.loop-number.pairs.items ≡ length c.args.flat.now.owners.items = search rules in
    c.loop-number.invariant.all ms top flat i n (omega (arith, low, count)) h free clock
