-- The names that the code keeps.
use Rattle.plan_device.specs.Keys.{Names}
use Rattle.plan_device.specs.declared.names.Known.{Known}

abbrev pub names_known : Known → Names
names_known known = record { tasks = known.tasks.list.items; labels = known.labels.list.items }
