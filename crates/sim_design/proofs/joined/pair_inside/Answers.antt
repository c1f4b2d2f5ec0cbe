use Rattle.std.proofs.Common.{sym}
use Rattle.sim_flat.specs.Flat.{AreJoined}
use Rattle.sim_design.proofs.Joining.{same_number, linked, linked_there}
use Rattle.sim_design.proofs.joined.pair_inside.Goals as goal

pub returns-clause-told : goal.returns-clause-told
returns-clause-told c = λ ms top j n flat h d.
    linked ms top c.args.flat.now c.args.pairs.now n (λ a b. AreJoined ms top b a) (λ b q k v. sym (same_number ms top b n q k v)) c.net_inside-number.result (c.net_inside-number.ensures ms top j n flat h d) c.pair_of.result c.pair_of.ensures.value

pub returns-clause-some : goal.returns-clause-some
returns-clause-some c = λ ms top j n flat h d placed.
    linked_there ms top c.args.flat.now c.args.pairs.now n (λ a b. AreJoined ms top b a) (λ b q k v. sym (same_number ms top b n q k v)) c.net_inside-number.result (c.net_inside-number.ensures ms top j n flat h d) c.pair_of.result c.pair_of.ensures.value placed
