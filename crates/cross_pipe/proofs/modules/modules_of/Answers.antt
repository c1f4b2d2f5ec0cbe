use Rattle.std.proofs.Common.{arith}
use Rattle.std.proofs.lemmas.Result.{IfOk-weaker}
use Rattle.cross_pipe.proofs.Rows.{alone_are, relayed_are}
use Rattle.cross_pipe.proofs.modules.modules_of.Goals as goal

pub returns-then-latency-eq0 : goal.returns-then-latency-eq0
returns-then-latency-eq0 c = IfOk-weaker c.plain_modules.result _ _ (λ ms e. alone_are c.args.bits c.args.depth c.args.latency ms.items c.if-latency-eq0.true e) c.plain_modules.ensures

pub returns : goal.returns
returns c = IfOk-weaker c.relayed_modules.result _ _ (λ ms t. relayed_are c.args.bits c.args.depth c.args.latency ms.items (omega arith) t) c.relayed_modules.ensures
