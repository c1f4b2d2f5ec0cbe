use Rattle.std.proofs.Common.{◌≡◌, [], take, drop}
use Rattle.vlog_tree.specs.Grounded.{AllTwo}
use Rattle.std.specs.List.{list_all}
use Rattle.vlog_ref_cycle.specs.Moments.{InEachRun}
use Rattle.vlog_ref_cycle.specs.Next.{outside_known, IsAfterStore, IsSameMemory}
use Rattle.vlog_ref_cycle.proofs.following.all_outside_after.Given as goal

abbrev pub invariant-loop-m : goal.invariant-loop-m
invariant-loop-m l = record {
  known : list_all (outside_known l.design l.now l.depth) l.now.outside.items ≡ list_all (outside_known l.design l.now l.depth) (drop l.m-index l.now.outside.items);
  same : AllTwo IsSameMemory (take l.m-index l.now.outside.items) l.out.items;
  value : InEachRun l.design l.now (λ env nets. AllTwo (IsAfterStore (nets l.now.cycle [])) (take l.m-index l.now.outside.items) l.out.items);
}
