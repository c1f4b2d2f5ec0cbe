use Rattle.std.proofs.Common.{◌∙◌, sym, get_or}
use Rattle.std.proofs.lemmas.List.Elements.{All-more}
use Rattle.vlog_scope.specs.Chains.{IsShort}
use Rattle.vlog_scope.proofs.Shortness.{short_of}
use Rattle.vlog_scope.proofs.chains.is_one_long.Goals as goal

pub loop-head-preserved : goal.loop-head-preserved
loop-head-preserved c =
    All-more (IsShort c.args.nexts.now) c.args.heads.now c.loop-head.head-index 0 c.loop-head-test.true c.loop-head.invariant
    (short_of c.args.nexts.now (get_or c.args.heads.now c.loop-head.head-index 0) (sym c.is_longer.ensures ∙ c.if-is_longer.false))
