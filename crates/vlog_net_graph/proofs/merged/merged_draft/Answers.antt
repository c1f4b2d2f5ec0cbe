use Rattle.std.proofs.Common.{List, [], subst}
use Rattle.std.specs.List.{flat_map}
use Rattle.std.specs.Option.{option_copied}
use Rattle.vlog_tree.specs.Form.{ModuleTree}
use Rattle.vlog_net_graph.specs.Names.{IsDraftOf}
use Rattle.vlog_net_graph.specs.Merged.{is_named, module_merged}
use Rattle.vlog_net_graph.proofs.merged.merged_draft.Goals as goal

pub returns : goal.returns
returns c =
    subst (λ (l : List ModuleTree). IsDraftOf (flat_map (module_merged c.args.library.now (is_named (option_copied c.args.root))) l) c.add_modules.new.g) c.modules-modules.ensures.value
    (c.in_ok-add_modules.ensures.graph [] c.in_ok-g.ensures.graph)
