use Rattle.std.proofs.Common.{◌≡◌, ◌≤◌, ◌-◌}
use Rattle.tapa_syntax.specs.Symbols.{text_of}
use Rattle.stream_arrays.specs.Words.{elements}
use Rattle.stream_arrays.specs.Writing.{writing, said}
use Rattle.stream_arrays.proofs.declaration.write_elements.Given as goal

abbrev pub invariant-loop-i : goal.invariant-loop-i
invariant-loop-i l = record {
  written : writing l.out ≡ said (writing l.fn.out) (elements (text_of l.text l.name) l.i);
  within : l.i - 1 ≤ l.count - 1;
}
