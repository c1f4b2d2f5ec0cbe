use Rattle.std.specs.List.{flat_map}
use Rattle.std.specs.Option.{option_copied}
use Rattle.vlog_net_graph.specs.Merged.{is_named, module_merged}
use Rattle.vlog_net_graph.proofs.Growing.{AddsSoFar}
use Rattle.vlog_net_graph.proofs.merged.add_modules.Given as goal

abbrev pub invariant-loop-m : goal.invariant-loop-m
invariant-loop-m l = AddsSoFar (flat_map (module_merged l.library (is_named (option_copied l.root)))) l.modules l.m-index l.fn.g l.g
