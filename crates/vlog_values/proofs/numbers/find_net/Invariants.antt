use Rattle.std.proofs.Common.{◌≡◌, drop}
use Rattle.vlog_values.specs.Numbers.{first_net}
use Rattle.vlog_values.proofs.numbers.find_net.Given as goal

abbrev pub invariant-loop-n : goal.invariant-loop-n
invariant-loop-n l = first_net l.nets l.name ≡ first_net (drop l.n-index l.nets) l.name
