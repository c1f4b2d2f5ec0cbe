use Rattle.std.proofs.Common.{◌≡◌, drop}
use Rattle.vlog_ref_cycle.specs.Sources.{held_at}
use Rattle.vlog_ref_cycle.proofs.places.held_at.Given as goal

abbrev pub invariant-loop-h : goal.invariant-loop-h
invariant-loop-h l = held_at l.held l.path ≡ held_at (drop l.h-index l.held) l.path
