-- A read of an array, without where its index lies in memory.
use Rattle.std.specs.Prelude.{List, map}
use Rattle.task_fsm.specs.Machine.{expression_of}
use Rattle.hw_lines.specs.Wires.{ArrayRead as ReadForm}
use Rattle.hw_expressions.specs.declared.reads.ArrayRead.{ArrayRead}

abbrev pub read_form : ArrayRead → ReadForm
read_form r = record { array = r.array; index = expression_of r.index.now; first = r.first }

abbrev pub read_forms : List ArrayRead → List ReadForm
read_forms reads = map read_form reads
