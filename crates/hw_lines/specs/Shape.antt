-- What of a machine and its task the task's module is made of.
use Rattle.std.specs.Prelude.{ℕ, ◌-◌, List, length, Option, option_map, unwrap_or, slice_get, slice_index_or, if◌then◌else◌, ◌==◌}
use Rattle.tapa_base.specs.declared.kind.Kind.{Kind}
use Rattle.tapa_base.specs.declared.kind.Kind.TheVariants.{U64}
use Rattle.tapa_base.specs.Kinds.{bits_of}
use Rattle.tapa_syntax.specs.declared.program.Array.{Array}
use Rattle.tapa_syntax.specs.declared.program.End.{End}
use Rattle.tapa_syntax.specs.LeafKinds.{Kinds}
use Rattle.task_fsm.specs.declared.machine.Fsm.{Fsm}
use Rattle.task_fsm.specs.Machine.{StateForm, TrapAt, forms_of}
use Rattle.hw_build.specs.Widths.{bits_for}

-- the registers of the scalar parameters, the kinds of registers, arrays, memories and streams, and the states
pub record Shape : Type 0 where
  pub scalars : List ℕ
  pub registers : List Kind
  pub arrays : List Array
  pub memories : List Kind
  pub streams : List End
  pub states : List StateForm

abbrev pub shape_of : Fsm → List Kind → List End → Shape
shape_of machine memories streams = record {
  scalars = machine.scalars.items;
  registers = machine.regs.items;
  arrays = machine.arrays.items;
  memories = memories;
  streams = streams;
  states = forms_of machine.states.items;
}

abbrev pub array_kind : Shape → ℕ → Kind
array_kind S a = unwrap_or (option_map (λ (r : Array). r.kind) (slice_get S.arrays a)) U64

abbrev pub array_cells : Shape → ℕ → ℕ
array_cells S a = unwrap_or (option_map (λ (r : Array). r.cells) (slice_get S.arrays a)) 1

abbrev pub stream_kind : Shape → ℕ → Kind
stream_kind S s = unwrap_or (option_map (λ (e : End). e.kind) (slice_get S.streams s)) U64

abbrev pub register_kind : Shape → ℕ → Kind
register_kind S r = slice_index_or S.registers r U64

abbrev pub memory_kind : Shape → ℕ → Kind
memory_kind S m = slice_index_or S.memories m U64

abbrev pub kinds_in : Shape → Kinds
kinds_in S = record { vars = register_kind S; arrays = array_kind S; memories = memory_kind S; streams = stream_kind S }

-- the bits of an index of an array
abbrev pub index_bits : Shape → ℕ → ℕ
index_bits S a = bits_for (array_cells S a - 1)

-- the states before the trap, which is not printed, and the bits of their numbers
abbrev pub state_count : Shape → ℕ
state_count S = length S.states - 1

abbrev pub state_bits : Shape → ℕ
state_bits S = bits_for (state_count S - 1)

abbrev pub form_at : Shape → ℕ → StateForm
form_at S k = slice_index_or S.states k TrapAt
