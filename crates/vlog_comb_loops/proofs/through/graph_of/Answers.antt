use Rattle.vlog_comb_loops.proofs.through.graph_of.Goals as goal

pub returns-clause-listed : goal.returns-clause-listed
returns-clause-listed c = c.in_ok-graph.ensures.listed (c.in_ok-add_all_through.ensures.listed c.in_ok-draft.ensures.listed)
