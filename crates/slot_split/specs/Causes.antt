-- Why there is no plan by halving.
use Rattle.std.specs.Prelude.{◌≡◌, ◌<◌, ⊤}
use Rattle.task_graph.specs.declared.Graph.{Graph}
use Rattle.plan_device.specs.declared.device.Device.{Device}
use Rattle.slot_plan.specs.Causes.{free_groups}
use Rattle.slot_split.specs.declared.planning.SplitFault.{SplitFault}
use Rattle.slot_split.specs.declared.planning.SplitFault.TheVariants.{TooMany, NoSplit, OutOfMemory}
use Rattle.slot_split.specs.Halving.{HasNoHalving}

-- more than 22 groups are free, or no list of regions fits at a level
abbrev pub IsSplitCause : Graph → Device → SplitFault → Type 0
IsSplitCause g d (TooMany free) = (free ≡ free_groups d) × (22 < free)
IsSplitCause g d (NoSplit level) = HasNoHalving g d level
IsSplitCause g d OutOfMemory = ⊤
