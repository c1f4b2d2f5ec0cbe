-- What a program runs on where nothing is given, and the environment of its circuit. The top task of a generated network has no
-- parameters, so there is nothing to give; of any program each scalar is 0, each memory has no cells, and is always ready.
use Rattle.std.specs.Prelude.{[], length, replicate}
use Rattle.tapa_syntax.specs.declared.program.Program.{Program}
use Rattle.vlog_tree.specs.Environment.{Environment}
use Rattle.net_core.specs.Bounded.{Values}

abbrev pub no_values : Program → Values
no_values program = record { scalars = replicate (length program.scalars.items) 0; memories = replicate (length program.memories.items) [] }

abbrev pub no_environment : Program → Environment
no_environment program = record { scalars = replicate (length program.scalars.items) 0; memories = replicate (length program.memories.items) []; ready = replicate (length program.memories.items) [] }
