use Rattle.std.proofs.Common.{◌≡◌, ◌<◌, ℕ, length, drop, get_or}
use Rattle.check_scope.specs.declared.users.Users.{Users}
use Rattle.stream_check.specs.Programs.{bound_memories}
use Rattle.check_scope.specs.Users.{with_users}
use Rattle.stream_check.proofs.bindings.add_memories.Given as goal

abbrev pub invariant-loop-memory : goal.invariant-loop-memory
invariant-loop-memory l = record {
  count : length l.owners.rows.items ≡ length l.initial.owners.rows.items;
  owned : (m : ℕ) (d : Users) → m < length l.initial.owners.rows.items → with_users (get_or l.owners.rows.items m d) (bound_memories l.instance m (drop l.memory-index l.memories)) ≡ with_users (get_or l.initial.owners.rows.items m d) (bound_memories l.instance m l.memories);
}
