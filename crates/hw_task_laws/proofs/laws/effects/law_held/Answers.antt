use Rattle.hw_task_laws.proofs.effects.Registers.{registers_are_held}
use Rattle.hw_task_laws.proofs.effects.Arrays.{arrays_are_held}
use Rattle.hw_task_laws.proofs.effects.Memories.{memories_are_held}
use Rattle.hw_task_laws.proofs.effects.Ends.{end_is_held}
use Rattle.hw_task_laws.proofs.laws.effects.law_held.Goals as goal

pub returns : goal.returns
returns c = record { registers = registers_are_held; arrays = arrays_are_held; memories = memories_are_held; ends = end_is_held }
