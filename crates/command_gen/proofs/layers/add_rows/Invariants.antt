use Rattle.std.proofs.Common.{◌≡◌, ◌++◌}
use Rattle.command_gen.specs.Layers.{each_below, row_of}
use Rattle.command_gen.proofs.layers.add_rows.Given as goal

abbrev pub invariant-loop-layer : goal.invariant-loop-layer
invariant-loop-layer l = l.text.items ≡ l.fn.text.items ++ each_below l.layer (row_of l.part)
