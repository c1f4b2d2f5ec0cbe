use Rattle.std.proofs.Common.{◌≡◌, ℕ, ◌*◌, ◌<◌, ◌≤◌, [], length, Some}
use Rattle.std.specs.Prelude.{slice_get}
use Rattle.net_core.specs.Load.{queue_at}
use Rattle.net_core.specs.Bindings.{depth_of}
use Rattle.net_case.specs.declared.queue.Queue.{Queue}
use Rattle.net_case.specs.Queue.{waits, space}
use Rattle.net_case.proofs.make.fill.Given as goal

abbrev pub invariant-loop-s : goal.invariant-loop-s
invariant-loop-s l = record {
  len : length l.queues.items ≡ length l.program.streams.items;
  filled : (t : ℕ) (q : Queue) → t < l.s → slice_get l.queues.items t ≡ Some q → waits q ≡ queue_at l.program l.streams t;
  empty : (t : ℕ) (q : Queue) → l.s ≤ t → slice_get l.queues.items t ≡ Some q → waits q ≡ [];
  spaces : (t : ℕ) (q : Queue) → slice_get l.queues.items t ≡ Some q → 2 * depth_of l.program t ≤ space q;
}
