use Rattle.std.proofs.Common.{◌≡◌, ◌<◌, ℕ, true, false, length, map, drop, get_or}
use Rattle.tapa_syntax.specs.Flat.{flat_instance}
use Rattle.check_upper.specs.Views.{task_view}
use Rattle.check_scope.specs.declared.users.Users.{Users}
use Rattle.stream_check.specs.Programs.{instances_at}
use Rattle.check_scope.specs.Users.{users_of, with_users}
use Rattle.stream_check.proofs.bindings.stream_users.Given as goal

abbrev pub invariant-loop-number : goal.invariant-loop-number
invariant-loop-number l = record {
  writers : length l.users.writers.rows.items ≡ l.count;
  readers : length l.users.readers.rows.items ≡ l.count;
  written : (s : ℕ) (d : Users) → s < l.count → with_users (get_or l.users.writers.rows.items s d) (instances_at (map task_view l.tasks) s true l.number (map flat_instance (drop l.number l.instances))) ≡ users_of (instances_at (map task_view l.tasks) s true 0 (map flat_instance l.instances));
  read : (s : ℕ) (d : Users) → s < l.count → with_users (get_or l.users.readers.rows.items s d) (instances_at (map task_view l.tasks) s false l.number (map flat_instance (drop l.number l.instances))) ≡ users_of (instances_at (map task_view l.tasks) s false 0 (map flat_instance l.instances));
}
