use Rattle.std.proofs.Common.{◌∙◌, sym, subst}
use Rattle.vlog_tree.specs.Form.{ModuleTree}
use Rattle.hw_task.specs.Promise.{KeepsPromise}
use Rattle.hw_task.proofs.Promise.{keeps}
use Rattle.hw_task.proofs.module.module_of.Goals as goal

pub module-requires : goal.module-requires
module-requires c = (keeps c.args.machine.now c.args.memories.now c.args.streams.now c.in_ok-draft.ensures c.in_ok-count.ensures.states c.in_ok-count.ensures.lines c.requires.0 c.requires.1).form

pub returns : goal.returns
returns c =
    let machine = c.args.machine.now in
    record {
      tree = c.module.ensures ∙ c.in_ok-draft.ensures;
      promise = λ leaf o. subst (λ (t : ModuleTree). KeepsPromise leaf machine t) (sym c.module.ensures) (keeps machine c.args.memories.now c.args.streams.now c.in_ok-draft.ensures c.in_ok-count.ensures.states c.in_ok-count.ensures.lines leaf o);
    }
