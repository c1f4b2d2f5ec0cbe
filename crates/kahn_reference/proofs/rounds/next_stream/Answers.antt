use Rattle.std.proofs.Common.{ap, ◌∙◌}
use Rattle.std.specs.Prelude.{flat_map}
use Rattle.kahn_model.specs.Network.{put_on}
use Rattle.kahn_reference.specs.Slow.{whole}
use Rattle.kahn_model.specs.Rows.{rows_of}
use Rattle.kahn_model.specs.Start.{network_of}
use Rattle.kahn_reference.proofs.RoundLists.{next_is}
use Rattle.kahn_reference.proofs.rounds.next_stream.Goals as goal

pub returns-clause-tokens : goal.returns-clause-tokens
unfolding network_of
returns-clause-tokens c =
    next_is c.args.program.now c.args.scalars.now (rows_of c.args.memories.now) c.args.s c.args.n c.producer_of.result (whole c.args.lists.now) c.in_ok-puts_on.field-0.items c.in_ok-ticks.ticks.items (c.in_ok-puts_on.ensures ∙ ap (flat_map (put_on c.args.s)) c.deref.ensures.value) c.in_ok-ticks.ensures.ticks c.producer_of.ensures
