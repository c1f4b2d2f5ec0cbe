use Rattle.std.proofs.Common.{arith}
use Rattle.std.proofs.lemmas.Result.{IfOk-weaker}
use Rattle.hw_channel_laws.proofs.modules.Whole.{acts}
use Rattle.hw_channel_laws.proofs.modules.Parts.{no_tasks}
use Rattle.hw_channel_laws.proofs.modules.Clear.{outermost, no_loop, first_cut, clocks}
use Rattle.hw_channel_laws.proofs.modules.Fits.{sound}
use Rattle.cross_pipe.proofs.modules.channel.Goals as goal

pub returns : goal.returns
returns c = record {
  text = c.modules_of.ensures;
  outermost = IfOk-weaker c.modules_of.result _ _ (λ ms are. outermost c.args.bits c.args.depth c.args.latency ms.items are) c.modules_of.ensures;
  acts = IfOk-weaker c.modules_of.result _ _ (λ ms are. acts c.args.bits c.args.depth c.args.latency ms.items (omega arith) (omega arith) are) c.modules_of.ensures;
  sound = IfOk-weaker c.modules_of.result _ _ (λ ms are. sound c.args.bits c.args.depth c.args.latency ms.items are (omega arith) (omega arith) (omega arith) (omega arith)) c.modules_of.ensures;
  loopless = IfOk-weaker c.modules_of.result _ _ (λ ms are. no_loop c.args.bits c.args.depth c.args.latency ms.items are (omega arith) (omega arith)) c.modules_of.ensures;
  registered = IfOk-weaker c.modules_of.result _ _ (λ ms are. first_cut c.args.bits c.args.depth c.args.latency ms.items are (omega arith) (omega arith)) c.modules_of.ensures;
  clocks = IfOk-weaker c.modules_of.result _ _ (λ ms are. clocks c.args.bits c.args.depth c.args.latency ms.items are) c.modules_of.ensures;
  names = IfOk-weaker c.modules_of.result _ _ (λ ms are. no_tasks c.args.bits c.args.depth c.args.latency ms.items are) c.modules_of.ensures;
}
