use Rattle.std.proofs.Common.{◌≡◌, drop}
use Rattle.std.specs.FinMap.{get}
use Rattle.tapa_files.specs.Memory.{files_of}
use Rattle.tapa_files.proofs.memory.find.Given as goal

abbrev pub invariant-loop-key : goal.invariant-loop-key
invariant-loop-key l = get (files_of l.files) l.name ≡ get (files_of (drop l.key-index l.files)) l.name
