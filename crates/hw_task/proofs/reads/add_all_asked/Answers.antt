use Rattle.std.proofs.Common.{◌≡◌, ◌+◌, sym, subst, arith}
use Rattle.hw_lines.specs.Shape.{state_count}
use Rattle.hw_lines.specs.Texts.{asked}
use Rattle.hw_nets.proofs.Grows.{each_more, each_end}
use Rattle.hw_nets.specs.Shapes.{form}
use Rattle.hw_task.specs.Asked.{AreAsked}
use Rattle.hw_task.proofs.ReadPorts.{one_more_asked}
use Rattle.hw_task.proofs.reads.add_all_asked.Goals as goal

pub loop-k-preserved : goal.loop-k-preserved
loop-k-preserved c =
    let S = form c.args.shape.now in
    record {
      draft = each_more c.args.draft.now c.loop-k.draft c.add_asked.new.draft (asked S c.args.p) c.loop-k.k c.loop-k.invariant.draft c.in_ok-add_asked.ensures.draft;
      asked =
          subst (λ xs. AreAsked S c.args.p xs (c.loop-k.k + 1)) (sym c.in_ok-push.ensures.items)
          (one_more_asked S c.args.p c.loop-k.k c.loop-k.all.items c.in_ok-add_asked.field-0 c.loop-k.invariant.asked c.in_ok-add_asked.ensures.asked);
    }

pub returns : goal.returns
returns c =
    let S = form c.args.shape.now in
    let all : c.loop-k.k ≡ state_count S = omega (arith, c.in_ok-count.ensures) in
    record {
      draft = each_end c.args.draft.now c.loop-k.draft (asked S c.args.p) c.loop-k.k (state_count S) all c.loop-k.invariant.draft;
      asked = subst (λ n. AreAsked S c.args.p c.loop-k.all.items n) all c.loop-k.invariant.asked;
    }
