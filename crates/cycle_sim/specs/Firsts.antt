-- What slots and cells have in the first cycle.
use Rattle.std.specs.Prelude.{◌≡◌, ◌≢◌, ℕ, ◌%◌, ◌^◌, List, [], ◌∷◌, Option, Some, None, bytes_eq, get_or, replicate}
use Rattle.std.specs.List.{position}
use Rattle.tapa_base.specs.declared.shape.Port.{Port}
use Rattle.vlog_tree.specs.declared.table.Declaration.{Declaration}
use Rattle.vlog_tree.specs.declared.table.NetKind.TheVariants.{Register}
use Rattle.vlog_tree.specs.Table.{Name}
use Rattle.sim_tape.specs.declared.gates.Pair.{Pair}
use Rattle.sim_flat.specs.declared.flat.Flat.{Flat}
use Rattle.sim_design.specs.declared.drafts.Width.{Width}
use Rattle.sim_design.specs.Memories.{declaration_at}
use Rattle.sim_design.specs.Given.{HaveOwnSlots}
use Rattle.cycle_sim.specs.Steps.{HasRoom}

-- the lists of a memory's low and high halves, where each cell has one number, cut to its width
abbrev pub width_lists : ℕ → Width → List (List ℕ)
width_lists fill w = replicate w.cells (fill % 2 ^ w.bits) ∷ replicate w.cells 0 ∷ []

-- the first index of a label
abbrev pub place_of : List Port → Name → Option ℕ
place_of labels x = position (λ (l : Port). bytes_eq l.name x) labels

-- a register of `bits` bits has a number and a pair
pub record IsHeldAt (f : Flat) (pairs : List (Option Pair)) (number bits : ℕ) (p : Pair) : Type 0 where
  pub declaration : Declaration
  pub named : declaration_at f number ≡ Some declaration
  pub is_register : declaration.net_kind ≡ Register
  pub wide : declaration.bits ≡ bits
  pub placed : get_or pairs number None ≡ Some p

-- registers have slots below n, each its own
pub record AreHeld (f : Flat) (pairs : List (Option Pair)) (n : ℕ) : Type 0 where
  pub room : (number bits : ℕ) (p : Pair) → IsHeldAt f pairs number bits p → HasRoom n p
  pub own : (i j b c : ℕ) (p q : Pair) → i ≢ j → IsHeldAt f pairs i b p → IsHeldAt f pairs j c q → HaveOwnSlots p q
