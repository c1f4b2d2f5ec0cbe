use Rattle.std.proofs.Common.{◌≡◌, take}
use Rattle.std.specs.Prelude.{flat_map}
use Rattle.kahn_model.specs.Network.{put_on}
use Rattle.kahn_reference.proofs.rounds.puts_on.Given as goal

abbrev pub invariant-loop-tick : goal.invariant-loop-tick
invariant-loop-tick l = l.tokens.items ≡ flat_map (put_on l.s) (take l.tick-index l.ticks)
