-- What a net has its number from can be read, and so is there before it.
use Rattle.std.proofs.Common.{◌≡◌, ℕ, ◌<◌, true, List, Option, None, length, get_or, take, inl, inr}
use Rattle.std.specs.Prelude.{IsSome}
use Rattle.vlog_tree.specs.Form.{ModuleTree}
use Rattle.tapa_base.specs.Lists.{Has}
use Rattle.vlog_tree.specs.Table.{first_violation}
use Rattle.vlog_tree.specs.V2.{v2_uses}
use Rattle.vlog_tree.specs.V6.{v6_uses, is_top}
use Rattle.vlog_tree.specs.Flattened.{FlatNet, parts, line_parts}
use Rattle.tapa_base.proofs.Lists.{of_flat}
use Rattle.vlog_run_laws.proofs.runs.Settled.{parts_split}
use Rattle.sim_tape.specs.declared.gates.Pair.{Pair}
use Rattle.sim_flat.specs.declared.flat.Flat.{Flat}
use Rattle.sim_flat.specs.Flat.{HasNumber}
use Rattle.sim_flat.specs.Order.{IsNetOrder}
use Rattle.sim_design.specs.States.{PartsPlaced}
use Rattle.vlog_run_laws.specs.runs.Readable.{CanBeRead}
use Rattle.vlog_run_laws.proofs.runs.NetsRead.{line_net, outside_net, answer_net}

module _ (ms : List ModuleTree) (root : ModuleTree) (names : first_violation (v2_uses ms) ≡ None) (tops : first_violation (v6_uses ms) ≡ None) (in_root : Has ms root) (top_is : is_top ms root.name ≡ true) where
  parts_read : (n : FlatNet) → CanBeRead ms root n → (b : FlatNet) → Has (parts ms root true n) b → CanBeRead ms root b
  parts_read (path, x) r b h = elim (parts_split ms root path x r.tree r.at b h) [
    | inl l ↦ (let t = of_flat (line_parts ms path x) r.tree.items b l in line_net ms root names tops in_root top_is path r.tree r.at x r.clock t.0 t.1 b t.2)
    | inr o ↦ (elim o [ inl g ↦ answer_net ms root names tops in_root top_is path x b g | inr g ↦ outside_net ms root names tops in_root top_is path r.tree r.at x r.clock b g ])
  ]

  -- what comes first in an order of all nets is there
  pub parts_placed : (f : Flat) (order : List ℕ) → IsNetOrder ms root f order → (pairs : List (Option Pair)) (i : ℕ) → i < length order
      → ((number : ℕ) (n : FlatNet) → Has (take i order) number → HasNumber ms f number n → CanBeRead ms root n → IsSome (get_or pairs number None))
      → (n : FlatNet) → HasNumber ms f (get_or order i 0) n → CanBeRead ms root n → PartsPlaced ms root f pairs n
  parts_placed f order o pairs i low was n h r number part has is = was number part (o.parts_first i number n part low h has is) has (parts_read n r part is)
