use Rattle.std.proofs.Common.{◌≡◌, ◌<◌, ℕ, length, map, drop, get_or}
use Rattle.tapa_syntax.specs.Flat.{flat_instance}
use Rattle.check_scope.specs.declared.users.Users.{Users}
use Rattle.stream_check.specs.Programs.{instances_with}
use Rattle.check_scope.specs.Users.{users_of, with_users}
use Rattle.stream_check.proofs.bindings.memory_owners.Given as goal

abbrev pub invariant-loop-number : goal.invariant-loop-number
invariant-loop-number l = record {
  count : length l.owners.rows.items ≡ l.count;
  owned : (m : ℕ) (d : Users) → m < l.count → with_users (get_or l.owners.rows.items m d) (instances_with m l.number (map flat_instance (drop l.number l.instances))) ≡ users_of (instances_with m 0 (map flat_instance l.instances));
}
