use Rattle.std.proofs.Common.{rules, ◌≡◌, [], ◌∷◌, ◌++◌}
use Rattle.vlog_ref_cycle.specs.Next.{IsCopy}
use Rattle.vlog_ref_cycle.proofs.Leaves.{taken_more}
use Rattle.vlog_ref_cycle.proofs.following.copy_memories.Goals as goal

pub loop-m-preserved : goal.loop-m-preserved
loop-m-preserved c =
    let e : c.push.new.self.items ≡ c.loop-m.out.items ++ c.in_ok-copy_memory.field-0 ∷ [] = search rules in
    taken_more IsCopy c.args.memories.now c.loop-m.m-index c.m-item.result c.loop-m.out.items c.push.new.self.items c.in_ok-copy_memory.field-0 c.loop-m-test.true c.m-item.is c.loop-m.invariant c.in_ok-copy_memory.ensures e
