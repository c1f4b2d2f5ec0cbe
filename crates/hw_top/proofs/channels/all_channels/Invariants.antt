use Rattle.std.proofs.Common.{◌≡◌}
use Rattle.hw_top_lines.specs.Designs.{channels_before}
use Rattle.hw_top.specs.Places.{ArePlaces}
use Rattle.hw_top.proofs.channels.all_channels.Given as goal

abbrev pub invariant-loop-s : goal.invariant-loop-s
invariant-loop-s l = record {
  modules : l.modules.items ≡ channels_before l.program l.added l.s;
  places : ArePlaces l.places l.modules.items;
}
