-- What an instance is estimated to use.
use Rattle.std.specs.Prelude.{ℕ, List, map, slice_index_or}
use Rattle.tapa_syntax.specs.declared.program.Instance.{Instance}
use Rattle.tapa_syntax.specs.declared.program.Leaf.{Leaf}
use Rattle.task_graph.specs.declared.Use.{Use}
use Rattle.task_graph.specs.Estimate.{estimate}

abbrev pub nothing : Use
nothing = record { lut = 0; ff = 0; bram = 0; dsp = 0; uram = 0 }

-- what its leaf takes; a well-formed program has the leaf of each instance
abbrev pub use_of : List Leaf → Instance → Use
use_of bodies i = slice_index_or (map estimate bodies) i.body nothing
