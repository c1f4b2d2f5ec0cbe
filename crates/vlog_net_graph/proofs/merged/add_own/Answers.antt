use Rattle.std.proofs.Common.{◌≡◌, [], map, rules, subst, ap, ◌∙◌}
use Rattle.std.specs.Option.{option_copied}
use Rattle.vlog_tree.specs.Table.{Name}
use Rattle.vlog_tree.specs.Loops.{direct_edges, port_of}
use Rattle.vlog_net_graph.specs.Growth.{Adds}
use Rattle.vlog_net_graph.specs.Merged.{is_named, under}
use Rattle.vlog_net_graph.proofs.Growing.{under_named}
use Rattle.vlog_net_graph.proofs.merged.add_own.Goals as goal

pub returns : goal.returns
returns c =
    let edges = direct_edges c.args.library.now (is_named (option_copied c.args.root)) c.args.m.now in
    let front : c.deref.result.now ≡ port_of c.args.m.now.name [] = search rules in
    subst (λ e. Adds c.args.g.now c.add_direct.new.g e) (ap (λ (n : Name). map (under n) edges) front ∙ under_named c.args.m.now.name edges) c.in_ok-add_direct.ensures
