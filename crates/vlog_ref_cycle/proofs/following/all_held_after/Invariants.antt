use Rattle.std.proofs.Common.{◌≡◌, suc, take, drop}
use Rattle.vlog_tree.specs.Grounded.{AllTwo}
use Rattle.std.specs.List.{list_all, AllByRecursion}
use Rattle.vlog_ref_cycle.specs.Moments.{InEachRun, HeldIs}
use Rattle.vlog_ref_cycle.specs.Next.{held_known, IsAlike}
use Rattle.vlog_ref_cycle.proofs.following.all_held_after.Given as goal

abbrev pub invariant-loop-h : goal.invariant-loop-h
invariant-loop-h l = record {
  known : list_all (held_known l.design l.now l.depth) l.now.held.items ≡ list_all (held_known l.design l.now l.depth) (drop l.h-index l.now.held.items);
  alike : AllTwo IsAlike (take l.h-index l.now.held.items) l.out.items;
  value : InEachRun l.design l.now (λ env nets. AllByRecursion (HeldIs l.design.modules.now l.design.top.now (nets (suc l.now.cycle))) l.out.items);
}
