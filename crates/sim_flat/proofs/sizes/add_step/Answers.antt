use Rattle.std.proofs.Common.{◌≡◌, ◌<◌, ℕ, List, [], ◌∷◌, ◌++◌, sym, subst, rules, arith}
use Rattle.sim_flat.specs.Sizes.{AreBelow}
use Rattle.sim_flat.proofs.Sizing.{pair, below_push}
use Rattle.sim_flat.proofs.sizes.add_step.Goals as goal

pub returns : goal.returns
returns c =
    let old = c.args.edges.now.items in
    let high : c.args.other < c.args.count = omega (arith, c.if-other-count.false) in
    let items : c.push.new.self.items ≡ old ++ pair c.args.kind c.args.other ∷ [] = search rules in
    subst (λ (l : List (ℕ × ℕ)). AreBelow c.args.count l) (sym items) (below_push c.args.count old c.args.kind c.args.other c.requires.below c.requires.low high)
