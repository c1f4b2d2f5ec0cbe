use Rattle.std.proofs.Common.{◌≡◌, ◌+◌, ◌*◌, length, map, drop}
use Rattle.tapa_syntax.specs.Flat.{flat_instance}
use Rattle.check_upper.specs.Views.{invocation_view, task_view}
use Rattle.stream_check.specs.Parts as spec
use Rattle.stream_check.specs.Views.{flat_of, flat_faults, with_parts}
use Rattle.stream_check.proofs.parts.+hierarchy.Given as goal

abbrev pub decreases-expand : goal.decreases-expand
decreases-expand l = 3 * l.levels + 1

abbrev pub decreases-upper : goal.decreases-upper
decreases-upper l = 3 * l.levels

abbrev pub decreases-chain : goal.decreases-chain
decreases-chain l = 3 * l.levels + 2

abbrev pub invariant-chain-loop-position : goal.invariant-chain-loop-position
invariant-chain-loop-position l = record {
  faults :
      flat_faults (flat_of l.initial.parts)
      (spec.chain_parts (spec.parts_of l.levels (map task_view l.tasks)) (map task_view l.tasks) (flat_instance l.outer) l.first 0 (length l.initial.parts.streams.items) (map invocation_view l.invocations))
      ≡ flat_faults (flat_of l.parts)
      (spec.chain_parts (spec.parts_of l.levels (map task_view l.tasks)) (map task_view l.tasks) (flat_instance l.outer) l.first l.position (length l.parts.streams.items) (map invocation_view (drop l.position l.invocations)));
  after :
      with_parts (flat_of l.initial.parts)
      (spec.chain_parts (spec.parts_of l.levels (map task_view l.tasks)) (map task_view l.tasks) (flat_instance l.outer) l.first 0 (length l.initial.parts.streams.items) (map invocation_view l.invocations))
      ≡ with_parts (flat_of l.parts)
      (spec.chain_parts (spec.parts_of l.levels (map task_view l.tasks)) (map task_view l.tasks) (flat_instance l.outer) l.first l.position (length l.parts.streams.items) (map invocation_view (drop l.position l.invocations)));
}
