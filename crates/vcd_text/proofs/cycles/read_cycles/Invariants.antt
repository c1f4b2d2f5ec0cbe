use Rattle.std.proofs.Common.{◌≡◌, ◌+◌, ◌≤◌, List, length, map}
use Rattle.std.specs.Prelude.{slice_get}
use Rattle.vcd_text.specs.Nets.{Net}
use Rattle.vcd_text.specs.Read.{port_of}
use Rattle.vcd_text.specs.Rest.{Left, HaveValues, Serves}
use Rattle.vcd_text.proofs.cycles.read_cycles.Given as goal

abbrev pub invariant-loop-rest : goal.invariant-loop-rest
invariant-loop-rest l = record {
  turns : l.turn ≤ length l.nets.items;
  short : l.cycle + length l.rest ≤ length l.text;
  values : HaveValues l.nets.items l.values.items;
  serves : (xs : List Net) → l.nets.items ≡ map port_of xs → Serves (Left xs 0 (length xs) (slice_get l.fn.first.items) l.fn.done.items) l.fn.text (Left xs l.cycle l.turn (slice_get l.values.items) l.changes.items) l.rest;
}

abbrev pub decreases-loop-rest : goal.decreases-loop-rest
decreases-loop-rest l = length l.rest
