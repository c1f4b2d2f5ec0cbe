-- The number of a net, in a number of steps up to a depth.
use Rattle.std.specs.Prelude.{ℕ, zero, suc, List, [], ◌∷◌, Option, Some, None, unwrap_or, slice_get, nat_le, if◌then◌else◌}
use Rattle.std.specs.Option.{option_map}
use Rattle.vlog_tree.specs.Form.{ModuleTree}
use Rattle.vlog_tree.specs.Cycle.{Path, and_then, driven}
use Rattle.vlog_tree.specs.Table.{Name}
use Rattle.vlog_values.specs.declared.numbers.NetNumber.{NetNumber}
use Rattle.vlog_values.specs.Numbers.{cycle_of, sizes_of, fitting}
use Rattle.vlog_values.specs.declared.moment.Circuit.{Circuit}
use Rattle.vlog_values.specs.declared.moment.Moment.{Moment}
use Rattle.vlog_ref_cycle.specs.Sources.{RuleTree, source_of}

abbrev pub first_number : List NetNumber → Option ℕ
first_number [] = None
first_number (n ∷ ns) = Some n.number

-- what a rule makes of the numbers that it reads; a driver's target has at most 128 bits
abbrev pub by_rule : RuleTree → List NetNumber → Option ℕ
by_rule (RuleTree.given n) nets = Some n
by_rule RuleTree.same nets = first_number nets
by_rule (RuleTree.driver w e memories) nets = if nat_le w 128 then fitting (driven (sizes_of nets memories) w (cycle_of nets memories) e) else None
by_rule (RuleTree.cells c) nets = option_map (λ a. unwrap_or (slice_get c a) 0) (first_number nets)

-- the nets with their numbers, where each has one
abbrev pub all_numbers : (Name → Option ℕ) → List NetNumber → Option (List NetNumber)
all_numbers number [] = Some []
all_numbers number (r ∷ rs) = and_then (number r.name) (λ n. and_then (all_numbers number rs) (λ ns. Some (record { name = r.name; bits = r.bits; number = n } ∷ ns)))

abbrev pub net_within : List ModuleTree → ModuleTree → Moment → ℕ → Path → Name → Option ℕ
net_within ms top now zero path x = None
net_within ms top now (suc d) path x =
    and_then (source_of ms top now path x) (λ s. and_then (all_numbers (net_within ms top now d s.path) s.reads) (by_rule s.rule))

abbrev pub number_at : Circuit → Moment → ℕ → Path → Name → Option ℕ
number_at c now d path x = net_within c.modules.now c.top.now now d path x
