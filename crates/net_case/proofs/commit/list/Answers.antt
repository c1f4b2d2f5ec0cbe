use Rattle.std.proofs.Common.{arith}
use Rattle.net_case.proofs.Listing.{far_first, far_more}
use Rattle.net_case.proofs.commit.list.Goals as goal

pub loop-p-init : goal.loop-p-init
loop-p-init c = far_first c.args.program.now c.args.i c.args.listed.now.items (let e = c.requires.listed_len in let l = c.requires.instance in omega arith)

pub loop-p-preserved : goal.loop-p-preserved
loop-p-preserved c =
    let inv = c.loop-p.invariant in
    let len = inv.len in
    let all = c.requires.listed_len in
    let a = c.producer.ensures.inside in
    let b = c.consumer.ensures.inside in
    far_more c.args.program.now c.args.i c.loop-p.p c.args.listed.now.items c.loop-p.listed.items c.stream_at-s.result c.producer.result c.consumer.result c.stream_at-s.ensures.is c.producer.ensures.is c.consumer.ensures.is (omega arith) (omega arith) inv

pub returns-clause-far : goal.returns-clause-far
returns-clause-far c = λ x e.
    let inv = c.loop-p.invariant in
    record {
      other = inv.other x e;
      no_producer = λ p l. inv.no_producer x p e (let a = c.arity-p-end.ensures in let t = c.loop-p-test.false in omega arith);
      no_consumer = λ p l. inv.no_consumer x p e (let a = c.arity-p-end.ensures in let t = c.loop-p-test.false in omega arith);
    }
