use Rattle.std.proofs.Common.{◌≡◌, ◌++◌, replicate}
use Rattle.kahn_model.specs.declared.tick.Tick.TheVariants.{Did}
use Rattle.kahn_model.specs.declared.tick.Action.TheVariants.{Local}
use Rattle.kahn_reference.proofs.ticks.note_times.Given as goal

abbrev pub invariant-loop-tick : goal.invariant-loop-tick
invariant-loop-tick l = record {
  ticks : l.run.ticks.items ≡ l.fn.run.ticks.items ++ replicate l._tick (Did Local);
  state : l.run.state ≡ l.fn.run.state;
  heads : l.run.heads ≡ l.fn.run.heads;
}
