use Rattle.std.proofs.Common.{ℕ, Option, Vec, refl, subst, arith}
use Rattle.std.specs.Prelude.{MatchOption}
use Rattle.std.specs.declared.alloc.Global.{Global}
use Rattle.slot_plan.specs.Least.{IsLeastOf, HasNoneOf}
use Rattle.slot_plan.specs.Merging.{StayAtHome}
use Rattle.slot_plan.proofs.Limits.{few_groups}
use Rattle.slot_plan.proofs.Merging.{least_of_all, none_of_all}
use Rattle.slot_plan.proofs.exact.exact_slots.Goals as goal

pub check_ways-requires-clause-groups : goal.check_ways-requires-clause-groups
check_ways-requires-clause-groups c = let a = few_groups c.args.graph.now in let b = c.requires.device.pins in omega arith

pub returns-in-None-clause-cause : goal.returns-in-None-clause-cause
returns-in-None-clause-cause c =
    let g = c.args.graph.now in
    let d = c.args.device.now in
    let homes = c.in_ok-homes.homes.items in
    let slots = c.in_ok-slots.slots.items in
    let none = subst (λ (o : Option (Vec ℕ Global)). MatchOption o (HasNoneOf g d (StayAtHome d homes slots)) (λ slot. IsLeastOf g d (StayAtHome d homes slots) slot.items)) c.in-None.is c.in_ok-least_at_home.ensures in
    (c.in_ok-check_ways.ensures.few, none_of_all g d homes slots g.groups c.len.result (c.in_ok-homes.ensures.items_if_clones_equal (λ y e. e)) (c.in_ok-slots.ensures.items_if_clones_equal (λ y e. e)) refl (let k = d.slots.ok.0 in let e = c.len.ensures in omega arith) none)

pub returns-clause-by_mode : goal.returns-clause-by_mode
returns-clause-by_mode c =
    let g = c.args.graph.now in
    let d = c.args.device.now in
    let homes = c.in_ok-homes.homes.items in
    let slots = c.in_ok-slots.slots.items in
    let least = subst (λ (o : Option (Vec ℕ Global)). MatchOption o (HasNoneOf g d (StayAtHome d homes slots)) (λ slot. IsLeastOf g d (StayAtHome d homes slots) slot.items)) c.in-Some.is c.in_ok-least_at_home.ensures in
    (c.in_ok-check_ways.ensures.few, least_of_all g d homes slots c.in-Some.slots.items g.groups c.len.result (c.in_ok-homes.ensures.items_if_clones_equal (λ y e. e)) (c.in_ok-slots.ensures.items_if_clones_equal (λ y e. e)) refl (let k = d.slots.ok.0 in let e = c.len.ensures in omega arith) least)
