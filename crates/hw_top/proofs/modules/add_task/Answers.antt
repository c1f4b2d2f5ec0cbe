use Rattle.std.proofs.Common.{sym, ◌∙◌}
use Rattle.std.proofs.lemmas.Result.{IfOk-weaker}
use Rattle.hw_top.proofs.TaskModules.{used_grows, unused_stays, unused_kept}
use Rattle.hw_top.proofs.modules.add_task.Goals as goal

pub returns-then-not-used : goal.returns-then-not-used
returns-then-not-used c =
    let unused = sym c.is_used-used.ensures ∙ c.if-not-used.true in
    record { modules = unused_stays c.args.program.now c.args.machines.now c.args.b c.args.modules.now.items unused; promise = unused_kept c.args.program.now c.args.machines.now c.args.b unused }

pub returns : goal.returns
returns c =
    let used = sym c.is_used-used.ensures ∙ c.if-not-used.false in
    record {
      modules = IfOk-weaker c.add_body.result _ _ (λ u e. used_grows c.args.program.now c.args.machines.now c.args.b c.args.modules.now.items c.add_body.new.modules.items used e) c.add_body.ensures.modules;
      promise = c.add_body.ensures.promise;
    }
