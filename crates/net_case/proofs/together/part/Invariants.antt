use Rattle.std.proofs.Common.{◌≡◌, ℕ, ◌≤◌, length}
use Rattle.std.specs.Prelude.{slice_get, vec_capacity}
use Rattle.net_case.specs.Make.{AreParted}
use Rattle.net_case.proofs.together.part.Given as goal

abbrev pub invariant-loop-i : goal.invariant-loop-i
invariant-loop-i g l = record {
  len : length l.homes.items ≡ length l.fn.homes.items;
  rest : (j : ℕ) → l.i ≤ j → slice_get l.homes.items j ≡ slice_get l.fn.homes.items j;
  parted : AreParted l.i l.fn.homes.items l.bodies.items l.ports.items;
  body_room : length l.fn.homes.items ≤ vec_capacity l.bodies;
  port_room : length l.fn.homes.items ≤ vec_capacity l.ports;
}
