-- The modules of a channel, and those that channels share: of one name there is one module.
use Rattle.std.specs.Prelude.{ℕ, zero, suc, ◌+◌, ◌*◌, ◌/◌, List, [], ◌∷◌, ◌++◌, ◌==◌, if◌then◌else◌}
use Rattle.vlog_tree.specs.Form.{ModuleTree}
use Rattle.vlog_tree.specs.Table.{is_module_name}
use Rattle.hw_channel_lines.specs.Texts.{step_tree, row_tree, plain_tree, relayed_tree, fifo_tree}

-- a relay of `steps` steps, and below it those that it is made of, on at most `levels` levels
abbrev pub relays_below : (levels bits steps : ℕ) → List ModuleTree
relays_below zero bits steps = []
relays_below (suc levels) bits steps = if steps == 1 then step_tree bits ∷ [] else row_tree bits steps ∷ relays_below levels bits (steps / 2)

-- the steps are halved on each level
abbrev pub relays : (bits steps : ℕ) → List ModuleTree
relays bits steps = relays_below steps bits steps

abbrev pub channel_modules : (bits depth late : ℕ) → List ModuleTree
channel_modules bits depth late =
    if late == 0 then plain_tree bits depth ∷ fifo_tree bits depth depth ∷ [] else relayed_tree bits depth late ∷ fifo_tree bits depth (depth + 2 * late) ∷ relays bits late

-- a module after others, if none has its name
abbrev pub with_one : List ModuleTree → ModuleTree → List ModuleTree
with_one ms m = if is_module_name ms m.name then ms else ms ++ m ∷ []

abbrev pub with_new : List ModuleTree → List ModuleTree → List ModuleTree
with_new ms [] = ms
with_new ms (m ∷ new) = with_new (with_one ms m) new
