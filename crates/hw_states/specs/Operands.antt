-- The atoms of each state's index and value.
use Rattle.std.specs.Prelude.{◌≡◌, ℕ, List, [], ◌∷◌, map, Option, Some, None}
use Rattle.task_fsm.specs.declared.machine.Expr.{Expr}
use Rattle.task_fsm.specs.Machine.{Expression, expression_of}
use Rattle.vlog_tree.specs.declared.tree.Atom.{Atom}
use Rattle.hw_build.specs.Scope.{each}
use Rattle.hw_lines.specs.Shape.{Shape}
use Rattle.hw_lines.specs.States.{nothing, index_wires, value_wires}
use Rattle.hw_states.specs.declared.operands.Operands.{Operands}

-- an expression that a state may lack
abbrev pub expression_in : Option Expr → Expression
expression_in None = nothing
expression_in (Some e) = expression_of e

abbrev pub atoms_of : Operands → Atom × Atom
atoms_of o = (o.index, o.value)

abbrev pub atoms_at : Shape → ℕ → List (Atom × Atom)
atoms_at S k = ((index_wires S k).atom, (value_wires S k).atom) ∷ []

-- of one state, and of the first n
pub record IsOperands (S : Shape) (k : ℕ) (o : Operands) : Type 0 where
  pub index : o.index ≡ (index_wires S k).atom
  pub value : o.value ≡ (value_wires S k).atom

pub record AreOperands (S : Shape) (operands : List Operands) (n : ℕ) : Type 0 where
  pub atoms : map atoms_of operands ≡ each (atoms_at S) n
