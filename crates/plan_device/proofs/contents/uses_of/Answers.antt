use Rattle.std.proofs.Common.{ℕ, List, map, ap, ◌∙◌, arith}
use Rattle.std.proofs.lemmas.List.{take_all}
use Rattle.serde_json.specs.Find.{get}
use Rattle.serde_json.specs.View.{view}
use Rattle.tapa_syntax.specs.declared.program.Instance.{Instance}
use Rattle.task_graph.specs.Uses.{use_of}
use Rattle.run_data.specs.Seen.{seen}
use Rattle.plan_device.specs.Contents.{use_by}
use Rattle.plan_device.proofs.Uses.{uses_by}
use Rattle.plan_device.proofs.contents.uses_of.Goals as goal

pub returns : goal.returns
returns c =
    let file = view c.args.file.now in
    let leaves = c.as_slice-leaves.result.now in
    let instances = c.as_slice-instances.result.now in
    c.loop-i.invariant
    ∙ ap (map (λ (x : Instance). use_by (seen c.get-tasks.result) leaves x (use_of leaves x))) (take_all c.loop-i.i instances (omega arith))
    ∙ uses_by c.args.program.now file (seen c.get-tasks.result) leaves instances (c.get-tasks.ensures ∙ ap (λ (name : List ℕ). get name file) c.name.ensures) c.as_slice-leaves.ensures.value c.as_slice-instances.ensures.value
