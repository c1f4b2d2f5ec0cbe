use Rattle.std.proofs.Common.{subst}
use Rattle.net_core.specs.declared.net_state.NetState.{NetState}
use Rattle.net_core.specs.Settle.{IsSomeWithFuel, AreNoneWithFuel}
use Rattle.net_core.proofs.Settled.{done_ends, spent_ends, stopped_ends, told_joined, told_all}
use Rattle.net_core.proofs.drive.at_rest.Goals as goal

pub returns-then-is_done-clause-outcome : goal.returns-then-is_done-clause-outcome
returns-then-is_done-clause-outcome g c =
    done_ends c.args.net.now c.valid.ensures c.args.budget c.args.left c.requires.within c.if-is_done.ensures

pub returns-then-is_done-clause-pauses : goal.returns-then-is_done-clause-pauses
returns-then-is_done-clause-pauses g c =
    told_joined c.args.net.now c.valid.ensures c.args.budget c.args.left c.requires.within c.if-is_done.ensures

pub returns-then-goes_on-clause-outcome : goal.returns-then-goes_on-clause-outcome
returns-then-goes_on-clause-outcome g c =
    spent_ends c.args.net.now c.valid.ensures c.args.budget c.args.left c.requires.within c.requires.rest c.if-is_done.ensures (subst (λ (z : NetState). IsSomeWithFuel z.pauses) c.net.view_is c.if-goes_on.ensures)

pub returns-clause-outcome : goal.returns-clause-outcome
returns-clause-outcome g c =
    stopped_ends c.args.net.now c.valid.ensures c.args.budget c.args.left c.requires.within c.requires.rest c.if-is_done.ensures (subst (λ (z : NetState). AreNoneWithFuel z.pauses) c.net.view_is c.if-goes_on.ensures)

pub returns-clause-pauses : goal.returns-clause-pauses
returns-clause-pauses g c =
    told_all c.args.net.now c.valid.ensures c.args.budget c.args.left c.requires.within c.requires.rest (subst (λ (z : NetState). AreNoneWithFuel z.pauses) c.net.view_is c.if-goes_on.ensures)
