use Rattle.std.proofs.Common.{List, [], ◌∷◌, ◌++◌, ap, ◌∙◌}
use Rattle.vlog_tree.specs.Form.{ModuleTree}
use Rattle.hw_top_lines.specs.Designs.{task_modules}
use Rattle.hw_top_lines.specs.Texts.{top_tree}
use Rattle.hw_top.proofs.TaskModules.{of_bodies}
use Rattle.hw_top.proofs.modules.modules_of.Goals as goal

pub add_tasks-requires : goal.add_tasks-requires
add_tasks-requires c = of_bodies c.args.program.now c.args.machines.now c.requires.program c.requires.names c.requires.machines

pub top_module-requires-clause-form : goal.top_module-requires-clause-form
top_module-requires-clause-form c = λ counted. c.requires.top counted c.in_ok-add_tasks.ensures.promises

pub returns : goal.returns
returns c =
    let program = c.args.program.now in
    record {
      modules =
          c.in_ok-push.ensures.items ∙ ap (λ (m : ModuleTree). c.add_tasks.new.modules.items ++ m ∷ []) c.in_ok-top.ensures.tree
          ∙ ap (λ (ms : List ModuleTree). ms ++ top_tree program c.args.added.now ∷ [])
          (c.in_ok-add_tasks.ensures.modules ∙ ap (λ (ms : List ModuleTree). ms ++ task_modules program c.args.machines.now) c.in_ok-modules.ensures);
      promises = c.in_ok-add_tasks.ensures.promises;
      countable = c.in_ok-top.ensures.countable;
    }
