use Rattle.std.proofs.Common.{◌≡◌, ℕ, ◌*◌, ◌<◌, List, Bool, false, Some, None, filter, length, get_or, ap, subst, ◌∙◌}
use Rattle.serde_json.specs.View.{view}
use Rattle.run_data.specs.Seen.{first}
use Rattle.plan_device.specs.Pins.{numbers, pin_at, is_pinned_at, is_forbidden}
use Rattle.plan_device.specs.Tests.{grid_of}
use Rattle.plan_device.specs.declared.grid.Grid.{Grid}
use Rattle.plan_device.proofs.Faults.{tells_forbidden}
use Rattle.plan_device.proofs.Pinned.{label_of_forbidden}
use Rattle.plan_device.proofs.read.check_forbidden.Goals as goal

pub returns-in-Some-clause-cause : goal.returns-in-Some-clause-cause
returns-in-Some-clause-cause c = λ graph right together.
    let file = view c.args.file.now in
    let pins = c.args.pins.now in
    let marks = c.in_ok-forbidden.forbidden.items in
    let same = subst (λ (g : Grid). (s : ℕ) → s < g.rows * g.cols → get_or marks s false ≡ is_forbidden g file s) c.grid_of-grid.ensures.value c.in_ok-forbidden.ensures.value in
    let found = c.in-Some.ensures ∙ ap (λ (l : List Bool). first (filter (λ i. is_pinned_at (λ s. get_or l s false) (pin_at pins i)) (numbers (length pins)))) c.deref.ensures.value in
    tells_forbidden c.args.program.now graph file c.in_ok-label_at.field-0.items right together
    (ap Some c.in_ok-label_at.ensures ∙ label_of_forbidden (grid_of file) c.args.program.now file marks ((grid_of file).rows * (grid_of file).cols) pins (Some c.in-Some.i) c.requires.pins c.requires.inside same found)

pub returns-clause-free : goal.returns-clause-free
returns-clause-free c =
    let file = view c.args.file.now in
    let pins = c.args.pins.now in
    let marks = c.in_ok-forbidden.forbidden.items in
    let same = subst (λ (g : Grid). (s : ℕ) → s < g.rows * g.cols → get_or marks s false ≡ is_forbidden g file s) c.grid_of-grid.ensures.value c.in_ok-forbidden.ensures.value in
    let found = c.in_default.ensures ∙ ap (λ (l : List Bool). first (filter (λ i. is_pinned_at (λ s. get_or l s false) (pin_at pins i)) (numbers (length pins)))) c.deref.ensures.value in
    label_of_forbidden (grid_of file) c.args.program.now file marks ((grid_of file).rows * (grid_of file).cols) pins None c.requires.pins c.requires.inside same found
