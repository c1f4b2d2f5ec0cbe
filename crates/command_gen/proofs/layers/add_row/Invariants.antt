use Rattle.std.proofs.Common.{◌≡◌, ◌++◌}
use Rattle.command_gen.specs.Layers.{each_below, line_of}
use Rattle.command_gen.proofs.layers.add_row.Given as goal

abbrev pub invariant-loop-place : goal.invariant-loop-place
invariant-loop-place l = l.text.items ≡ l.fn.text.items ++ each_below l.place (line_of l.part l.layer)
