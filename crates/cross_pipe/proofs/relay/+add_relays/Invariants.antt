use Rattle.cross_pipe.proofs.relay.+add_relays.Given as goal

abbrev pub decreases-add_relays : goal.decreases-add_relays
decreases-add_relays l = l.steps
