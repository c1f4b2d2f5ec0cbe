use Rattle.std.proofs.Common.{ℕ, List, refl, subst}
use Rattle.task_graph.specs.declared.Use.{Use}
use Rattle.slot_plan.specs.FirstFit.{is_pinned}
use Rattle.slot_plan.specs.Placing.{HasSpace, IsFirstSpace}
use Rattle.slot_plan.proofs.Placings.{placed_past, placed_push, stuck_at, kind_past, kind_own}
use Rattle.slot_plan.proofs.fit.Placing.place.Goals as goal

pub returns-then-is_free-free-clause-placed : goal.returns-then-is_free-free-clause-placed
returns-then-is_free-free-clause-placed c = λ yes.
    let d = c.args.device.now in
    placed_past d c.args.needs.now c.args.free c.args.group c.args.self.now c.requires.placed
    (kind_past (is_pinned d c.args.group) c.args.free c.is_free.result c.is_free.ensures c.if-is_free-free.true)

pub returns-in-None-clause-none : goal.returns-in-None-clause-none
returns-in-None-clause-none c = λ same.
    let d = c.args.device.now in
    stuck_at d c.args.needs.now c.args.free c.args.group c.args.self.now c.requires.placed c.requires.group
    (kind_own (is_pinned d c.args.group) c.args.free c.is_free.result c.is_free.ensures c.if-is_free-free.false)
    (subst (λ (x : List Use). (s : ℕ) → HasSpace d c.args.needs.now x c.args.group s → ⊥) c.deref.ensures.value c.in-None.ensures)

pub returns-in-Some-clause-placed : goal.returns-in-Some-clause-placed
returns-in-Some-clause-placed c = λ yes.
    let d = c.args.device.now in
    placed_push d c.args.needs.now c.args.free c.args.group c.args.self.now c.requires.placed c.requires.group
    (kind_own (is_pinned d c.args.group) c.args.free c.is_free.result c.is_free.ensures c.if-is_free-free.false)
    c.in-Some.slot c.in-Some.after
    (subst (λ (x : List Use). IsFirstSpace d c.args.needs.now x c.args.group c.in-Some.slot c.in-Some.after) c.deref.ensures.value c.in-Some.ensures)
    _ refl refl
