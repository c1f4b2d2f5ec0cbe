use Rattle.std.proofs.Common.{◌≡◌, ◌+◌, ◌-◌, ◌≤◌, ◌++◌, length}
use Rattle.std.specs.Prelude.{vec_capacity}
use Rattle.net_case.specs.Make.{AreBroughtHome}
use Rattle.net_case.proofs.make.bring_home.Given as goal

abbrev pub invariant-loop-k : goal.invariant-loop-k
invariant-loop-k g l = record {
  len : length l.homes.items ≡ length l.fn.homes.items;
  limits_rest : (r : _) × (l.fn.limits.items ≡ l.limits.items ++ r);
  limits_len : length l.limits.items + l.k ≡ length l.fn.homes.items;
  bodies_rest : (r : _) × (l.fn.bodies.items ≡ l.bodies.items ++ r);
  bodies_len : length l.bodies.items + l.k ≡ length l.fn.homes.items;
  ports_rest : (r : _) × (l.fn.ports.items ≡ l.ports.items ++ r);
  ports_len : length l.ports.items + l.k ≡ length l.fn.homes.items;
  brought : AreBroughtHome (length l.fn.homes.items - l.k) l.fn.limits.items l.fn.bodies.items l.fn.ports.items l.homes.items;
  body_room : length l.fn.homes.items ≤ vec_capacity l.bodies;
  port_room : length l.fn.homes.items ≤ vec_capacity l.ports;
}
