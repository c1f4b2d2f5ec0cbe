use Rattle.std.proofs.Common.{◌∙◌, refl, arith}
use Rattle.slot_plan.proofs.Limits.{few_slots, grid_of}
use Rattle.slot_split.proofs.Grids.{grid_made, regions_made}
use Rattle.slot_split.proofs.regions.regions_of.Goals as goal

pub sums_of-requires-clause-few : goal.sums_of-requires-clause-few
sums_of-requires-clause-few c = few_slots c.args.graph.now c.args.device.now (grid_of c.args.graph.now c.args.device.now c.requires.device)

pub pins_of-requires : goal.pins_of-requires
pins_of-requires c = λ v s e. (let a = c.requires.device.pins_inside v s e in let b = c.requires.long in omega arith)

pub returns-clause-grid : goal.returns-clause-grid
returns-clause-grid c =
    grid_made c.args.graph.now c.args.device.now c.args.corners.now _ c.requires.device c.requires.long c.requires.inside
    (record { rows = refl; cols = refl; percent = refl; uses = c.in_ok-uses.ensures ∙ c.deref.ensures.value; sums = c.in_ok-slots.ensures; closed = c.in_ok-forbidden.ensures; pins = c.in_ok-pins.ensures })

pub returns-clause-regions : goal.returns-clause-regions
returns-clause-regions c = λ R K are.
    regions_made c.args.graph.now c.args.device.now c.args.corners.now _ R K c.requires.device are
    (record { rows = refl; cols = refl; percent = refl; uses = c.in_ok-uses.ensures ∙ c.deref.ensures.value; sums = c.in_ok-slots.ensures; closed = c.in_ok-forbidden.ensures; pins = c.in_ok-pins.ensures })
