use Rattle.std.proofs.Common.{◌≡◌, length, below_more, arith}
use Rattle.hw_top_lines.specs.Designs.{used_module}
use Rattle.hw_top.proofs.Joined.{part_more, part_last}
use Rattle.hw_top.specs.Kept.{IsKept}
use Rattle.hw_top.proofs.TaskModules.{all_kept}
use Rattle.hw_top.proofs.modules.add_tasks.Goals as goal

pub add_task-requires : goal.add_task-requires
add_task-requires c = c.requires c.loop-b.b

pub loop-b-preserved : goal.loop-b-preserved
loop-b-preserved c =
    let program = c.args.program.now in
    let machines = c.args.machines.now in
    record {
      modules =
          part_more c.args.modules.now.items c.loop-b.modules.items c.add_task.new.modules.items (used_module program machines) c.loop-b.b c.loop-b.invariant.modules
          c.in_ok-add_task.ensures.modules;
      promises = below_more (IsKept program machines) c.loop-b.b c.loop-b.invariant.promises c.in_ok-add_task.ensures.promise;
    }

pub returns : goal.returns
returns c =
    let program = c.args.program.now in
    let machines = c.args.machines.now in
    let all : c.loop-b.b ≡ length program.bodies.items = omega (arith, c.in_ok-count.ensures, program.bodies.ok.0) in
    record {
      modules = part_last c.args.modules.now.items c.loop-b.modules.items (used_module program machines) c.loop-b.b (length program.bodies.items) all c.loop-b.invariant.modules;
      promises = all_kept program machines c.loop-b.b all c.loop-b.invariant.promises;
    }
