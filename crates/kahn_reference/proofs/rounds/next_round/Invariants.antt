use Rattle.std.proofs.Common.{◌≡◌, ℕ, ◌<◌, length}
use Rattle.std.specs.Prelude.{flat_map}
use Rattle.kahn_model.specs.Behavior.{ticks}
use Rattle.kahn_model.specs.Network.{put_on}
use Rattle.kahn_reference.specs.Slow.{whole}
use Rattle.kahn_model.specs.Rows.{rows_of}
use Rattle.kahn_model.specs.Start.{network_of}
use Rattle.kahn_reference.proofs.rounds.next_round.Given as goal

abbrev pub invariant-loop-s : goal.invariant-loop-s
invariant-loop-s l = record {
  many : length l.next.items ≡ l.s;
  each : (s : ℕ) → s < l.s → whole l.next.items s ≡ flat_map (put_on s) (ticks ((network_of l.program l.scalars (rows_of l.memories)).job ((network_of l.program l.scalars (rows_of l.memories)).producer s) l.n) (whole l.lists));
}
