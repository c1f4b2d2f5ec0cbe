use Rattle.std.proofs.Common.{ℕ, List, length}
use Rattle.std.specs.Prelude.{slice_get, slice_index}
use Rattle.hw_build.specs.Elements.{Element}
use Rattle.hw_build.specs.Scope.{each}
use Rattle.hw_nets.proofs.Grows.{both}
use Rattle.hw_top_lines.specs.Texts.{at_instance, channel_part, task_part}
use Rattle.hw_top.proofs.instances.add_instances.Goals as goal

pub returns : goal.returns
returns c =
    let program = c.args.program.now in
    let t : List Element = each (at_instance program (task_part program)) (length program.instances.items) in
    let s : List Element = each (λ (s : ℕ). channel_part (slice_index c.args.added.now s) (slice_get program.streams.items s)) (length program.streams.items) in
    both c.args.draft.now c.add_tasks.new.draft c.add_channels.new.draft t s c.in_ok-add_tasks.ensures c.in_ok-add_channels.ensures
