use Rattle.std.proofs.Common.{[], ◌∷◌, ◌++◌, subst, ap, ◌∙◌}
use Rattle.vlog_tree.specs.Form.{ModuleTree}
use Rattle.hw_task.specs.Promise.{KeepsPromise}
use Rattle.hw_top.proofs.TaskModules.{of_own_leaf, own_tree}
use Rattle.hw_top.proofs.modules.add_module.Goals as goal

pub module_of-requires : goal.module_of-requires
module_of-requires c = (c.args.leaf.now, of_own_leaf c.args.leaf.now c.args.machine.now c.deref.result.now c.deref-2.result.now c.deref.ensures.value c.deref-2.ensures.value c.requires)

pub returns : goal.returns
returns c =
    let leaf = c.args.leaf.now in
    let machine = c.args.machine.now in
    let own = of_own_leaf leaf machine c.deref.result.now c.deref-2.result.now c.deref.ensures.value c.deref-2.ensures.value c.requires in
    let tree = own_tree leaf machine c.deref.result.now c.deref-2.result.now c.in_ok-module.module c.deref.ensures.value c.deref-2.ensures.value c.in_ok-module.ensures.tree in
    record {
      modules = c.in_ok-push.ensures.items ∙ ap (λ (m : ModuleTree). c.args.modules.now.items ++ m ∷ []) tree;
      promise = subst (λ (m : ModuleTree). KeepsPromise leaf machine m) tree (c.in_ok-module.ensures.promise leaf own);
    }
