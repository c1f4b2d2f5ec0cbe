use Rattle.std.proofs.Common.{◌≡◌, drop}
use Rattle.stream_arrays.specs.Written as spec
use Rattle.stream_arrays.proofs.declaration.with_arrays.Given as goal

abbrev pub invariant-loop-name : goal.invariant-loop-name
invariant-loop-name l = spec.with_arrays l.text l.count l.arrays (drop l.name-index l.names) ≡ spec.with_arrays l.text l.count l.fn.arrays l.names
