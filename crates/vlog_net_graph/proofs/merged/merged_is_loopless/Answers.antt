use Rattle.std.specs.Option.{option_copied}
use Rattle.vlog_net_graph.specs.Merged.{is_named, merged_edges}
use Rattle.vlog_net_graph.proofs.Covering.{merged_loopless}
use Rattle.vlog_net_graph.proofs.merged.merged_is_loopless.Goals as goal

pub returns : goal.returns
returns c =
    let ms = c.args.library.now in
    let is_top = is_named (option_copied c.args.root) in
    let edges = merged_edges ms is_top in
    let e = c.in_ok-loopless.ensures edges c.in_ok-draft.ensures in
    record { exact = e; loopless = λ yes. merged_loopless ms is_top (e.0 yes) }
