-- The surroundings of a simulation as lists.
use Rattle.std.specs.Prelude.{List, Vec, map}
use Rattle.std.specs.declared.alloc.Global.{Global}
use Rattle.vlog_tree.specs.Environment.{Environment}
use Rattle.vlog_design.specs.declared.env.Env.{Env}

-- the items of each list
abbrev pub lists_of : {A : Type 0} → List (Vec A Global) → List (List A)
lists_of {A} vs = map (λ (v : Vec A Global). v.items) vs

-- the environment that these numbers are
abbrev pub environment_of : Env → Environment
environment_of s = record { scalars = s.scalars.items; memories = lists_of s.memories.items; ready = lists_of s.ready.items }
