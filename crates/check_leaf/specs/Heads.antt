-- What the parameters of a task are where they lie in memory.
use Rattle.check_leaf.specs.declared.leaf.Head.{Head}
use Rattle.check_leaf.specs.Leaves as leaf

abbrev pub head_of : Head → leaf.Head
head_of h = record { frame = h.frame; streams = h.streams.items; memories = h.memories.items; scalars = h.scalars.items }
