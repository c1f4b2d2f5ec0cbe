use Rattle.std.proofs.Common.{◌≡◌, ◌<◌, ◌*◌, map, take, All, IfSome}
use Rattle.tapa_syntax.specs.declared.program.Instance.{Instance}
use Rattle.run_data.specs.Seen.{seen}
use Rattle.plan_device.specs.Pins.{pin_by}
use Rattle.plan_device.proofs.pins.pins_of.Given as goal

abbrev pub invariant-loop-instance : goal.invariant-loop-instance
invariant-loop-instance l =
    (l.pins.items ≡ map (λ (x : Instance). pin_by l.grid (seen l.found) x.label) (take l.instance-index l.instances))
    × All (λ pin. IfSome pin (λ s. s < l.grid.rows * l.grid.cols)) l.pins.items
