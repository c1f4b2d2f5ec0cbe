use Rattle.std.proofs.Common.{◌≡◌, take}
use Rattle.stream_arrays.specs.Words.{more_names}
use Rattle.stream_arrays.specs.Writing.{writing, said}
use Rattle.stream_arrays.proofs.declaration.write_names.Given as goal

abbrev pub invariant-loop-name : goal.invariant-loop-name
invariant-loop-name l = writing l.out ≡ said (writing l.initial.out) (more_names l.text l.count (take l.name-index l.more))
