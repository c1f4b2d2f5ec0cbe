-- The names of the nets and instances of a circuit's top, beside those of its ports and of the writer's side of its streams.
use Rattle.std.specs.Prelude.{ℕ, ◌++◌, codes}
use Rattle.vlog_tree.specs.Table.{Name}
use Rattle.hw_build.specs.Trees.{numbered}

-- the reader's side of a stream, by its label: whether a token is there, which, and whether it is taken
unfoldable pub s_has : Name → Name
s_has x = codes "s_" ++ x ++ codes "_has"

unfoldable pub s_dout : Name → Name
s_dout x = codes "s_" ++ x ++ codes "_dout"

unfoldable pub s_take : Name → Name
s_take x = codes "s_" ++ x ++ codes "_take"

-- the instance of a task, by the label of the program's instance, and that of a channel, by the label of its stream
unfoldable pub task_instance : Name → Name
task_instance x = codes "t_" ++ x

unfoldable pub channel_instance : Name → Name
channel_instance x = codes "c_" ++ x

-- by the number of an instance: whether it has ended
unfoldable pub ended_net : ℕ → Name
ended_net i = numbered (codes "ended") i

-- the prefix of the names of the nets that say which instances, but for the detached ones, are not done
unfoldable pub waits : Name
waits = codes "waits"

-- scalar parameter p of instance i: the value that it is bound to, after `steps` conversions
unfoldable pub bound_net : (i p steps : ℕ) → Name
bound_net i p steps = numbered (numbered (numbered (codes "b") i) p) steps
