use Rattle.std.proofs.Common.{◌≡◌, ◌<◌, ℕ, true, false, length, drop, get_or}
use Rattle.check_scope.specs.declared.users.Users.{Users}
use Rattle.stream_check.specs.Programs.{bound_ends}
use Rattle.check_scope.specs.Users.{with_users}
use Rattle.stream_check.proofs.bindings.StreamUsers.add_ports.Given as goal

abbrev pub invariant-loop-position : goal.invariant-loop-position
invariant-loop-position l = record {
  writers : length l.self.writers.rows.items ≡ length l.initial.self.writers.rows.items;
  readers : length l.self.readers.rows.items ≡ length l.initial.self.readers.rows.items;
  written : (s : ℕ) (d : Users) → s < length l.initial.self.writers.rows.items → with_users (get_or l.self.writers.rows.items s d) (bound_ends l.instance s true (drop l.position l.streams) (drop l.position l.ends)) ≡ with_users (get_or l.initial.self.writers.rows.items s d) (bound_ends l.instance s true l.streams l.ends);
  read : (s : ℕ) (d : Users) → s < length l.initial.self.readers.rows.items → with_users (get_or l.self.readers.rows.items s d) (bound_ends l.instance s false (drop l.position l.streams) (drop l.position l.ends)) ≡ with_users (get_or l.initial.self.readers.rows.items s d) (bound_ends l.instance s false l.streams l.ends);
}
