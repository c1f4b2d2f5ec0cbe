-- What a task's module has for each register, array, stream or memory, and how many of these there are.
use Rattle.std.specs.Prelude.{ℕ, List, length}
use Rattle.hw_build.specs.Elements.{Element}
use Rattle.hw_lines.specs.Shape.{Shape}
use Rattle.hw_lines.specs.Texts.{variable_choices, array_choices, stream_outputs, memory_outputs, variable_block, array_block}
use Rattle.hw_outputs.specs.declared.parts.Part.{Part}
use Rattle.hw_outputs.specs.declared.parts.Part.TheVariants.{Variables, Arrays, Streams, Memories, VariableBlocks, ArrayBlocks}

abbrev pub part_of : Shape → Part → ℕ → List Element
part_of S Variables = variable_choices S
part_of S Arrays = array_choices S
part_of S Streams = stream_outputs S
part_of S Memories = memory_outputs S
part_of S VariableBlocks = variable_block S
part_of S ArrayBlocks = array_block S

abbrev pub part_count : Shape → Part → ℕ
part_count S Variables = length S.registers
part_count S Arrays = length S.arrays
part_count S Streams = length S.streams
part_count S Memories = length S.memories
part_count S VariableBlocks = length S.registers
part_count S ArrayBlocks = length S.arrays
