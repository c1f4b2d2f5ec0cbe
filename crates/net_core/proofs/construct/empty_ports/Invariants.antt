use Rattle.std.proofs.Common.{◌≡◌, ℕ, [], map, take}
use Rattle.std.specs.Prelude.{slice_get}
use Rattle.net_core.specs.declared.port.Port.{Port}
use Rattle.net_core.specs.Ports.{carried_in, waiting_in}
use Rattle.net_core.proofs.construct.empty_ports.Given as goal

abbrev pub invariant-loop-end : goal.invariant-loop-end
invariant-loop-end l = record {
  ends : map (λ (p : Port). p.end) l.ports.items ≡ take l.end-index l.ends;
  none : (p : ℕ) → carried_in (slice_get l.ports.items p) ≡ [];
  none_wait : (p : ℕ) → waiting_in (slice_get l.ports.items p) ≡ [];
}
