use Rattle.std.proofs.Common.{◌≡◌, ◌^◌, ◌<◌, ◌≤◌, ℕ, List, [], length, map}
use Rattle.std.specs.Prelude.{Some, None, slice_get}
use Rattle.tapa_base.specs.declared.shape.Port.{Port}
use Rattle.vcd_text.specs.Nets.{Net}
use Rattle.vcd_text.specs.Read.{port_of}
use Rattle.vcd_text.specs.Rest.{Left, Serves}
use Rattle.vcd_text.proofs.cycles.read_first.Given as goal

abbrev pub invariant-loop-net : goal.invariant-loop-net
invariant-loop-net l = record {
  short : length l.rest ≤ length l.text;
  count : length l.values.items ≡ l.net;
  fit : (i : ℕ) (p : Port) (v : ℕ) → slice_get l.nets i ≡ Some p → slice_get l.values.items i ≡ Some v → v < 2 ^ p.bits;
  serves : (xs : List Net) → l.nets ≡ map port_of xs → Serves (Left xs 0 0 (λ _. None) []) l.fn.text (Left xs 0 l.net (slice_get l.values.items) l.changes.items) l.rest;
}
