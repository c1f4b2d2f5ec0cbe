use Rattle.std.proofs.Common.{map, ap, ◌∙◌}
use Rattle.tapa_syntax.specs.declared.program.Instance.{Instance}
use Rattle.tapa_syntax.specs.declared.program.Leaf.{Leaf}
use Rattle.plan_device.proofs.KnownNames.{names_by}
use Rattle.plan_device.proofs.names.Known.of.Goals as goal

pub returns : goal.returns
returns c =
    names_by c.args.program.now c.in_ok-tasks.tasks.list.items c.in_ok-labels-2.labels.list.items
    (c.in_ok-tasks.ensures ∙ c.in_ok-task_names.ensures ∙ ap (map (λ (leaf : Leaf). leaf.name)) c.deref.ensures.value)
    (c.in_ok-labels-2.ensures ∙ c.in_ok-labels.ensures ∙ ap (map (λ (x : Instance). x.label)) c.deref-2.ensures.value)
