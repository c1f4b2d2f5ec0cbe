use Rattle.std.proofs.Common.{[], subst}
use Rattle.std.specs.Option.{option_copied}
use Rattle.vlog_tree.specs.Loops.{direct_edges}
use Rattle.vlog_net_graph.specs.Names.{IsDraftOf}
use Rattle.vlog_net_graph.specs.Merged.{is_named}
use Rattle.vlog_net_graph.proofs.Growing.{under_none}
use Rattle.vlog_net_graph.proofs.lines.direct_draft.Goals as goal

pub returns-clause-graph : goal.returns-clause-graph
returns-clause-graph c =
    subst (λ e. IsDraftOf e c.add_direct.new.g) (under_none (direct_edges c.args.library.now (is_named (option_copied c.args.root)) c.args.m.now)) (c.in_ok-add_direct.ensures.graph [] c.new-g.ensures.graph)

pub returns-clause-listed : goal.returns-clause-listed
returns-clause-listed c = c.in_ok-add_direct.ensures.listed c.new-g.ensures.listed
