use Rattle.std.proofs.Common.{rules, ◌≡◌, [], ◌∷◌, ◌++◌}
use Rattle.vlog_ref_cycle.specs.Next.{IsStored}
use Rattle.vlog_ref_cycle.proofs.Leaves.{taken_more}
use Rattle.vlog_ref_cycle.proofs.blocks.put_cell.Goals as goal

pub loop-k-preserved : goal.loop-k-preserved
loop-k-preserved c =
    let e : c.push.new.self.items ≡ c.loop-k.out.items ++ c.in_ok-stored.field-0 ∷ [] = search rules in
    taken_more (IsStored c.args.m.now c.args.at c.args.number) c.args.memories.now c.loop-k.k-index c.k-item.result c.loop-k.out.items c.push.new.self.items c.in_ok-stored.field-0 c.loop-k-test.true c.k-item.is c.loop-k.invariant c.in_ok-stored.ensures e
