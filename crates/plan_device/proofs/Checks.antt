-- What the checks of pins say together.
use Rattle.std.proofs.Common.{◌≡◌, ℕ, ◌*◌, ◌<◌, All, IfSome, IfOk, IfErr, OnOk, Ok, Err, Option, None, List, false, length, get_or, sym, subst}
use Rattle.std.specs.Prelude.{Result}
use Rattle.serde_json.specs.Data.{Data as Json}
use Rattle.tapa_syntax.specs.declared.program.Program.{Program}
use Rattle.task_graph.specs.declared.Graph.{Graph}
use Rattle.run_data.specs.Seen.{first}
use Rattle.plan_device.specs.Answer.{IsFirstOf}
use Rattle.plan_device.specs.Checked.{AreKeysRight, IsPlaced}
use Rattle.plan_device.specs.GroupPins.{ArePins}
use Rattle.plan_device.specs.Pins.{pins_of, elsewhere, is_forbidden, on_forbidden}
use Rattle.plan_device.specs.Tests.{grid_of}
use Rattle.plan_device.specs.declared.fault.DeviceFault.{DeviceFault}
use Rattle.plan_device.specs.declared.read.Placed.{Placed}
use Rattle.plan_device.proofs.Pinned.{pinned_inside}

module _ (program : Program) (graph : Graph) (file : Json) where
  pub placed_of : (r : Result Placed DeviceFault) (slots : List (Option ℕ)) → OnOk r (None ≡ first (on_forbidden (grid_of file) program file)) → IfOk r (λ placed. placed.groups.items ≡ slots)
      → IfOk r (λ placed. length placed.forbidden.items ≡ (grid_of file).rows * (grid_of file).cols) → IfOk r (λ placed. (s : ℕ) → s < length placed.forbidden.items → get_or placed.forbidden.items s false ≡ is_forbidden (grid_of file) file s)
      → None ≡ first (elsewhere (grid_of file) program graph file) → ArePins graph.groups graph.group.items (pins_of (grid_of file) program file) slots → All (λ pin. IfSome pin (λ s. s < (grid_of file).rows * (grid_of file).cols)) (pins_of (grid_of file) program file)
      → IfOk r (λ placed. IsPlaced program graph file placed)
  placed_of (Err e) slots free groups marks forbidden together are inside = tt
  placed_of (Ok placed) slots free groups marks forbidden together are inside =
      let pins = subst (λ (l : List (Option ℕ)). ArePins graph.groups graph.group.items (pins_of (grid_of file) program file) l) (sym groups) are in
      record {
        together = together;
        free = free;
        as_many = pins.as_many;
        pinned = pins.pinned;
        inside = pinned_inside graph.groups ((grid_of file).rows * (grid_of file).cols) graph.group.items (pins_of (grid_of file) program file) placed.groups.items pins inside;
        slots = marks;
        forbidden = forbidden;
      }

  pub cause_together : (r : Result Placed DeviceFault) → IfErr r (λ fault. (g : Graph) → AreKeysRight program file → None ≡ first (elsewhere (grid_of file) program g file) → IsFirstOf program g file fault) → None ≡ first (elsewhere (grid_of file) program graph file)
      → IfErr r (λ fault. AreKeysRight program file → IsFirstOf program graph file fault)
  cause_together (Err e) cause together = λ right. cause graph right together
  cause_together (Ok placed) cause together = tt
