use Rattle.std.proofs.Common.{◌≡◌, drop}
use Rattle.std.specs.List.{flat_map}
use Rattle.vlog_tree.specs.Table.{first_violation}
use Rattle.vlog_tree.specs.V3.{item_widths}
use Rattle.vlog_rules.proofs.widths.items.Given as goal

abbrev pub invariant-loop-i : goal.invariant-loop-i
invariant-loop-i l = first_violation (flat_map (item_widths l.library l.scope) l.items) ≡ first_violation (flat_map (item_widths l.library l.scope) (drop l.i-index l.items))
