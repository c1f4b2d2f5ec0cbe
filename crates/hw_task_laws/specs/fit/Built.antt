-- When the wires of an expression fit: its registers and the answers of its reads come before them, with the bits of their
-- kinds.
use Rattle.std.specs.Prelude.{ℕ, ◌<◌, List, ◌++◌}
use Rattle.tapa_base.specs.declared.kind.Kind.{Kind}
use Rattle.tapa_base.specs.Kinds.{bits_of}
use Rattle.tapa_syntax.specs.LeafKinds.{Kinds}
use Rattle.vlog_tree.specs.Table.{Name}
use Rattle.hw_build.specs.Elements.{Element}
use Rattle.hw_build.specs.Scope.{IsNet, AtomIs, FitInOrder}
use Rattle.task_fsm.specs.Machine.{Expression}
use Rattle.task_fsm.specs.MachineKinds.{IsOfKind}
use Rattle.task_fsm.specs.Ranges.{Ranges, NamesWithin}
use Rattle.hw_lines.specs.declared.nets.Net.TheVariants.{Variable, Answer}
use Rattle.hw_lines.specs.Nets.{name}
use Rattle.hw_lines.specs.Wires.{ArrayRead, Compiled, reads_in, compiled}
use Rattle.hw_task_laws.specs.wires.Shows.{IsWhole}
use Rattle.hw_task_laws.specs.wires.Computes.{Numbered}

-- the answer of a read is a net of its array's kind
abbrev pub AnswerNet : List Element → Kinds → ℕ → ArrayRead → Type 0
AnswerNet before K p r = IsNet before (name (Answer p r.array)) (bits_of (K.arrays r.array))

-- the registers are nets of their kinds
abbrev pub RegisterNets : List Element → Kinds → ℕ → Type 0
RegisterNets before K n = (x : ℕ) → x < n → IsNet before (name (Variable x)) (bits_of (K.vars x))

-- wires that fit, with an atom of w bits
pub record IsBuilt (before : List Element) (w : ℕ) (C : Compiled) : Type 0 where
  pub fits : FitInOrder before C.elements
  pub atom : AtomIs (before ++ C.elements) w C.atom
  pub whole : IsWhole C.atom

abbrev pub ExpressionsFit : Type 0
ExpressionsFit =
    (before : List Element) (K : Kinds) (R : Ranges) → RegisterNets before K R.registers → (e : Expression) (k : Kind) (front : Name) (m n : ℕ) → IsOfKind K e k → NamesWithin R e
    → Numbered (AnswerNet before K) m (reads_in m e) → IsBuilt before (bits_of k) (compiled front m n k e)
