use Rattle.std.proofs.Common.{◌≡◌, vec_len}
use Rattle.hw_top_lines.specs.Channels.{with_new}
use Rattle.hw_top.specs.Places.{ArePlaces}
use Rattle.hw_top.proofs.channels.add_new.Given as goal

abbrev pub invariant-loop-alloc : goal.invariant-loop-alloc
invariant-loop-alloc l = record {
  modules : with_new l.modules.items l.rest.items ≡ with_new l.initial.modules.items l.initial.rest.items;
  places : ArePlaces l.places l.modules.items;
}

abbrev pub decreases-loop-alloc : goal.decreases-loop-alloc
decreases-loop-alloc l = vec_len l.rest
