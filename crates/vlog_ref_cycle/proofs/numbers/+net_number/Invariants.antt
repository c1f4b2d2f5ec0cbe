use Rattle.std.proofs.Common.{◌≡◌, ◌+◌, ◌*◌, ◌++◌, drop}
use Rattle.std.specs.Option.{option_map}
use Rattle.vlog_ref_cycle.specs.Numbers.{all_numbers, number_at}
use Rattle.vlog_ref_cycle.proofs.numbers.+net_number.Given as goal

abbrev pub decreases-net_number : goal.decreases-net_number
decreases-net_number l = 2 * l.depth

abbrev pub decreases-all_numbers : goal.decreases-all_numbers
decreases-all_numbers l = 2 * l.depth + 1

abbrev pub invariant-all_numbers-loop-r : goal.invariant-all_numbers-loop-r
invariant-all_numbers-loop-r l =
    all_numbers (number_at l.design l.now l.depth l.path) l.reads ≡ option_map (λ ys. l.nets.items ++ ys) (all_numbers (number_at l.design l.now l.depth l.path) (drop l.r-index l.reads))
