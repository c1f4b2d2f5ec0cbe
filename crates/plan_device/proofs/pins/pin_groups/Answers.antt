use Rattle.std.proofs.Common.{◌≡◌, ◌+◌, ◌<◌, ℕ, List, Option, Vec, Global, length, length-set, set, slice_index, get_or, Some, None, arith, refl, sym, ap, subst, ◌∙◌}
use Rattle.std.proofs.lemmas.List.{with_items_is}
use Rattle.plan_device.specs.GroupPins.{IsTakenFrom, IsFreeFor}
use Rattle.plan_device.specs.Pins.{pin_at}
use Rattle.plan_device.proofs.Pinned.{IsTable, first_is_elsewhere, nowhere_elsewhere, are_pins, table_same, table_set, nothing_of}
use Rattle.plan_device.proofs.pins.pin_groups.Goals.{in-Some+else-not-pin_group, in_default}
use Rattle.plan_device.proofs.pins.pin_groups.Goals as goal

pub returns-then-not-pin_group : goal.returns-then-not-pin_group
returns-then-not-pin_group c =
    let slots = c.loop-i.slots.items in
    let g = slice_index c.args.group.now c.loop-i.i in
    let taken = subst (λ (l : List (Option ℕ)). IsTakenFrom c.in-Some.slot (get_or l g None)) c.deref_mut.ensures.value (c.if-not-pin_group.ensures.another refl) in
    first_is_elsewhere c.args.group.now c.args.pins.now slots c.loop-i.i c.in-Some.slot c.loop-i-test.true c.loop-i.invariant.1 c.in-Some.is taken

pub loop-i-preserved : goal.loop-i-preserved
loop-i-preserved c = elim c.match-pins-i.branch [
  | in-Some+else-not-pin_group w ↦
      let group = c.args.group.now in
      let pins = c.args.pins.now in
      let slots = c.loop-i.slots.items in
      let g = slice_index group c.loop-i.i in
      let slot = w.in-Some.slot in
      let new : w.pin_group.new.slots ≡ set w.deref_mut.result.now g (Some slot) = w.if-not-pin_group.ensures.pinned refl in
      let as_long : length w.pin_group.new.slots ≡ c.loop-i.slots.len = ap length new ∙ length-set w.deref_mut.result.now g (Some slot) ∙ w.deref_mut.ensures.len in
      let is_set : c.match-pins-i.slots.items ≡ set slots g (Some slot) =
      ap (λ (v : Vec (Option ℕ) Global). v.items) w.slots-is ∙ with_items_is c.loop-i.slots w.pin_group.new.slots as_long ∙ new ∙ ap (λ (l : List (Option ℕ)). set l g (Some slot)) w.deref_mut.ensures.value in
      let free = subst (λ (l : List (Option ℕ)). IsFreeFor slot (get_or l g None)) w.deref_mut.ensures.value (w.if-not-pin_group.ensures.was refl) in
      let below = c.requires.below c.loop-i.i c.loop-i-test.true in
      let inside : g < length slots = subst (λ (n : ℕ). g < n) (sym c.loop-i.invariant.0) below in (
        ap length is_set ∙ length-set slots g (Some slot) ∙ c.loop-i.invariant.0,
        subst (λ (l : List (Option ℕ)). IsTable group pins l (c.loop-i.i + 1)) (sym is_set) (table_set group pins slots c.loop-i.i slot inside w.in-Some.is free c.loop-i.invariant.1),
      )
  | in_default w ↦
      let same : c.match-pins-i.slots.items ≡ c.loop-i.slots.items = ap (λ (v : Vec (Option ℕ) Global). v.items) w.slots-is in
      let free = nothing_of (pin_at c.args.pins.now c.loop-i.i) w.in_default.not-Some in (
        ap length same ∙ c.loop-i.invariant.0,
        subst (λ (l : List (Option ℕ)). IsTable c.args.group.now c.args.pins.now l (c.loop-i.i + 1)) (sym same) (table_same c.args.group.now c.args.pins.now c.loop-i.slots.items c.loop-i.i free c.loop-i.invariant.1),
      )
]

pub returns : goal.returns
returns c = (
  nowhere_elsewhere c.args.group.now c.args.pins.now c.loop-i.slots.items c.loop-i.i (omega arith) c.loop-i.invariant.1,
  are_pins c.args.group.now c.args.pins.now c.loop-i.slots.items c.args.groups c.loop-i.i c.loop-i.invariant.0 (omega arith) c.loop-i.invariant.1,
)
