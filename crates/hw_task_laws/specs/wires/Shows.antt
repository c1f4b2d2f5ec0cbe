-- Atoms show values: a conversion's wires show the converted value, and an operator's what it gives.
use Rattle.std.specs.Prelude.{◌≡◌, ℕ, ◌<◌, List}
use Rattle.tapa_base.specs.declared.kind.Kind.{Kind}
use Rattle.tapa_base.specs.declared.op.Op.{Op}
use Rattle.tapa_base.specs.declared.op.Op.TheVariants.{Div, Rem}
use Rattle.tapa_base.specs.Kinds.{bits_of, values_of, converted}
use Rattle.tapa_base.specs.Operators.{CanApply, applied}
use Rattle.tapa_syntax.specs.Typed.{right_kind}
use Rattle.task_fsm.specs.MachineKinds.{GivesKind}
use Rattle.vlog_tree.specs.declared.tree.Atom.{Atom}
use Rattle.vlog_tree.specs.declared.tree.Atom.TheVariants.{Net, Part, Literal}
use Rattle.vlog_tree.specs.declared.tree.Value.{Value}
use Rattle.tapa_base.specs.Lists.{Has}
use Rattle.vlog_tree.specs.Table.{Name}
use Rattle.vlog_tree.specs.Cycle.{Cycle, Sizes, atom_value, atom_width, driven}
use Rattle.hw_build.specs.Elements.{Element, Wire}
use Rattle.hw_lines.specs.Drivers.{wires_of, last_of, conversion, operation}

-- a net or a number
abbrev pub IsWhole : Atom → Type 0
IsWhole (Net x) = Unit {0}
IsWhole (Part x high low) = ⊥
IsWhole (Literal w n) = Unit {0}

abbrev pub IsNumber : Atom → Type 0
IsNumber (Net x) = ⊥
IsNumber (Part x high low) = ⊥
IsNumber (Literal w n) = Unit {0}

-- a divisor is a number
abbrev pub IsDivisor : Op → Atom → Type 0
IsDivisor Div b = IsNumber b
IsDivisor Rem b = IsNumber b
IsDivisor o b = Unit {0}

-- in a cycle, an atom of w bits has the value v
pub record Shows (s : Sizes) (c : Cycle) (a : Atom) (w v : ℕ) : Type 0 where
  pub whole : IsWhole a
  pub width : atom_width s a ≡ w
  pub value : atom_value c a ≡ v

-- each of these wires has its driver's value
abbrev pub AreSaid : Sizes → Cycle → List Element → Type 0
AreSaid s c elements = (w : ℕ) (x : Name) (v : Value) → Has elements (Wire w x v) → (c.net x ≡ driven s w c v) × (s.width x ≡ w)

abbrev pub ShowsConverted : Type 0
ShowsConverted =
    (s : Sizes) (c : Cycle) (source target : Kind) (front : Name) (n v : ℕ) (a : Atom) → v < values_of source → Shows s c a (bits_of source) v
    → AreSaid s c (wires_of front n (conversion front n source target a))
    → Shows s c (last_of front n (conversion front n source target a) a) (bits_of target) (converted source target v)

abbrev pub ShowsApplied : Type 0
ShowsApplied =
    (s : Sizes) (c : Cycle) (o : Op) (j k : Kind) (front : Name) (n x y : ℕ) (a b e : Atom) → x < values_of j → CanApply o j y → IsDivisor o b → GivesKind o j k
    → Shows s c a (bits_of j) x → Shows s c b (bits_of (right_kind o j)) y → AreSaid s c (wires_of front n (operation front n o j k a b))
    → Shows s c (last_of front n (operation front n o j k a b) e) (bits_of k) (applied o j x y)
