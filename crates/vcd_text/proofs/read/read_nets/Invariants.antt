use Rattle.std.proofs.Common.{◌+◌, ◌≤◌, length}
use Rattle.vcd_text.proofs.Tops.{HeadSo}
use Rattle.vcd_text.proofs.read.read_nets.Given as goal

abbrev pub invariant-lines : goal.invariant-lines
invariant-lines l = record {
  short : length l.nets + length l.rest ≤ length l.text;
  so : HeadSo l.nets l.fn.text l.rest;
}

abbrev pub decreases-lines : goal.decreases-lines
decreases-lines l = length l.rest
