use Rattle.std.proofs.Common.{◌*◌, ◌<◌, List, ℕ, Option, All, IfSome, Some, None, ap, subst, ◌∙◌}
use Rattle.serde_json.specs.View.{view}
use Rattle.plan_device.specs.Pins.{pins_of}
use Rattle.plan_device.specs.Tests.{grid_of}
use Rattle.plan_device.specs.declared.grid.Grid.{Grid}
use Rattle.plan_device.proofs.Checks.{placed_of, cause_together}
use Rattle.plan_device.proofs.Faults.{tells_elsewhere}
use Rattle.plan_device.proofs.Meaning.{as_many_instances}
use Rattle.plan_device.proofs.Pinned.{are_pins_of, label_of_elsewhere, pins_of_graph}
use Rattle.plan_device.proofs.read.check_pins.Goals as goal

pub check_forbidden-requires-clause-pins : goal.check_forbidden-requires-clause-pins
check_forbidden-requires-clause-pins c =
    let program = c.args.program.now in
    let file = view c.args.file.now in
    c.deref-in-Slots.ensures.value
    ∙ are_pins_of c.grid_of-grid.result program file c.in_ok-pins.pins.items c.deref.result.now c.deref.ensures.value c.in_ok-pins.ensures.value
    ∙ ap (λ (g : Grid). pins_of g program file) c.grid_of-grid.ensures.value

pub returns-in-Slots-clause-placed : goal.returns-in-Slots-clause-placed
returns-in-Slots-clause-placed c =
    let program = c.args.program.now in
    let graph = c.args.graph.now in
    let file = view c.args.file.now in
    let as_many = as_many_instances program graph c.requires.graph in
    let whole =
    are_pins_of c.grid_of-grid.result program file c.in_ok-pins.pins.items c.deref.result.now c.deref.ensures.value c.in_ok-pins.ensures.value
    ∙ ap (λ (g : Grid). pins_of g program file) c.grid_of-grid.ensures.value in
    let pinning = rw c.in-Slots.is at c.in_ok-groups.ensures in
    let together = label_of_elsewhere (grid_of file) program graph file c.deref-2.result.now c.deref-3.result.now None as_many c.deref-2.ensures.value (c.deref-3.ensures.value ∙ whole) pinning.0 in
    let are = pins_of_graph graph.groups c.deref-2.result.now graph.group.items c.deref-3.result.now (pins_of (grid_of file) program file) c.in-Slots.groups.items c.deref-2.ensures.value (c.deref-3.ensures.value ∙ whole) pinning.1 in
    let inside_here = subst (λ (g : Grid). All (λ pin. IfSome pin (λ s. s < g.rows * g.cols)) c.in_ok-pins.pins.items) c.grid_of-grid.ensures.value c.in_ok-pins.ensures.inside in
    let inside = subst (λ (p : List (Option ℕ)). All (λ pin. IfSome pin (λ s. s < (grid_of file).rows * (grid_of file).cols)) p) whole inside_here in
    placed_of program graph file c.check_forbidden.result c.in-Slots.groups.items c.check_forbidden.ensures.free c.check_forbidden.ensures.groups c.check_forbidden.ensures.slots c.check_forbidden.ensures.forbidden together are inside

pub returns-in-Slots-clause-cause : goal.returns-in-Slots-clause-cause
returns-in-Slots-clause-cause c =
    let program = c.args.program.now in
    let graph = c.args.graph.now in
    let file = view c.args.file.now in
    let as_many = as_many_instances program graph c.requires.graph in
    let whole =
    are_pins_of c.grid_of-grid.result program file c.in_ok-pins.pins.items c.deref.result.now c.deref.ensures.value c.in_ok-pins.ensures.value
    ∙ ap (λ (g : Grid). pins_of g program file) c.grid_of-grid.ensures.value in
    let pinning = rw c.in-Slots.is at c.in_ok-groups.ensures in
    let together = label_of_elsewhere (grid_of file) program graph file c.deref-2.result.now c.deref-3.result.now None as_many c.deref-2.ensures.value (c.deref-3.ensures.value ∙ whole) pinning.0 in
    cause_together program graph file c.check_forbidden.result c.check_forbidden.ensures.cause together

pub returns-clause-cause : goal.returns-clause-cause
returns-clause-cause c = λ right.
    let program = c.args.program.now in
    let graph = c.args.graph.now in
    let file = view c.args.file.now in
    let as_many = as_many_instances program graph c.requires.graph in
    let whole =
    are_pins_of c.grid_of-grid.result program file c.in_ok-pins.pins.items c.deref.result.now c.deref.ensures.value c.in_ok-pins.ensures.value
    ∙ ap (λ (g : Grid). pins_of g program file) c.grid_of-grid.ensures.value in
    let pinning = rw c.in-Elsewhere.is at c.in_ok-groups.ensures in
    tells_elsewhere program graph file c.in_ok-label_at-in-Elsewhere.field-0.items right
    (ap Some c.in_ok-label_at-in-Elsewhere.ensures ∙ label_of_elsewhere (grid_of file) program graph file c.deref-2.result.now c.deref-3.result.now (Some c.in-Elsewhere.i) as_many c.deref-2.ensures.value (c.deref-3.ensures.value ∙ whole) pinning)
