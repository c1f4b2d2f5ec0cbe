-- What an emitted part of a machine denotes: its states are kept last first.
use Rattle.std.specs.Prelude.{map, reverse}
use Rattle.task_fsm.specs.declared.draft.Emission.{Emission}
use Rattle.task_fsm.specs.Machine.{form_of}
use Rattle.task_fsm.specs.Code.{Emitted}

abbrev pub emitted : Emission → Emitted
emitted d = record { places = reverse (map form_of d.states.items); entry = d.entry; regs = d.regs.items }
