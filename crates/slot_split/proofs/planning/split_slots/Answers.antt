use Rattle.std.proofs.Common.{◌≡◌, ◌+◌, ℕ, Option, Vec, subst, arith}
use Rattle.std.specs.Prelude.{MatchOption}
use Rattle.std.specs.declared.alloc.Global.{Global}
use Rattle.slot_split.specs.Halving.{IsLevel, HasNone}
use Rattle.slot_split.specs.Regions.{IsBehind}
use Rattle.slot_split.proofs.Levels.{behind_next, level_behind}
use Rattle.slot_split.proofs.planning.split_slots.Goals as goal

pub loop-level-init : goal.loop-level-init
loop-level-init c = c.in_ok-homes.ensures.items_if_clones_equal (λ y e. e)

pub loop-level-preserved : goal.loop-level-preserved
loop-level-preserved c =
    let g = c.args.graph.now in
    let d = c.args.device.now in
    let R = c.cuts-row_levels.result in
    let L = c.loop-level.level in
    behind_next g d R L c.in-Some.next.items
    (subst (λ (o : Option (Vec ℕ Global)). MatchOption o (HasNone g d R L) (λ next. IsLevel g d R L next.items)) c.in-Some.is c.in_ok-next_homes.ensures)

pub returns-in-None-clause-cause : goal.returns-in-None-clause-cause
returns-in-None-clause-cause c =
    let g = c.args.graph.now in
    let d = c.args.device.now in
    let R = c.cuts-row_levels.result in
    let L = c.loop-level.level in
    record {
      rows = R;
      cols = c.cuts.result;
      row_levels = c.cuts-row_levels.ensures.cuts;
      col_levels = c.cuts.ensures.cuts;
      few = c.requires.few;
      within = (let a = c.loop-level-test.true in omega arith);
      none = subst (λ (o : Option (Vec ℕ Global)). MatchOption o (HasNone g d R L) (λ next. IsLevel g d R L next.items)) c.in-None.is c.in_ok-next_homes.ensures;
    }

pub returns-clause-halving : goal.returns-clause-halving
returns-clause-halving c =
    let g = c.args.graph.now in
    let d = c.args.device.now in
    let R = c.cuts-row_levels.result in
    let e : c.loop-level.level ≡ (R + c.cuts.result) + 1 = (let a = c.loop-level-test.false in let b = c.loop-level.auto.level-end in omega arith) in
    record {
      rows = R;
      cols = c.cuts.result;
      row_levels = c.cuts-row_levels.ensures.cuts;
      col_levels = c.cuts.ensures.cuts;
      few = c.requires.few;
      last = level_behind g d R (R + c.cuts.result) c.loop-level.homes.items (subst (λ (n : ℕ). IsBehind g d R n c.loop-level.homes.items) e c.loop-level.invariant);
    }
