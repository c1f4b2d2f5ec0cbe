use Rattle.sim_flat.specs.Flat.{AreJoined}
use Rattle.sim_design.proofs.Joining.{same_number, linked, linked_there}
use Rattle.sim_design.proofs.joined.pair_around.Goals as goal

pub returns-clause-told : goal.returns-clause-told
returns-clause-told c = λ ms top n flat pos h input.
    linked ms top c.args.flat.now c.args.pairs.now n (λ a b. AreJoined ms top a b) (λ b j k v. same_number ms top n b j k v) c.net_around-number.result (c.net_around-number.ensures ms top n flat pos h input) c.pair_of.result c.pair_of.ensures.value

pub returns-clause-some : goal.returns-clause-some
returns-clause-some c = λ ms top n flat pos h input placed.
    linked_there ms top c.args.flat.now c.args.pairs.now n (λ a b. AreJoined ms top a b) (λ b j k v. same_number ms top n b j k v) c.net_around-number.result (c.net_around-number.ensures ms top n flat pos h input) c.pair_of.result c.pair_of.ensures.value placed
