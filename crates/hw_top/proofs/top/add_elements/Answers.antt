use Rattle.std.proofs.Common.{◌++◌}
use Rattle.hw_nets.proofs.Grows.{both}
use Rattle.hw_top_lines.specs.Texts.{ports, wires, doneness, instances}
use Rattle.hw_top.proofs.top.add_elements.Goals as goal

pub returns : goal.returns
returns c =
    let program = c.args.program.now in
    both c.args.draft.now c.add_done.new.draft c.add_instances.new.draft (ports program ++ wires program ++ doneness program) (instances program c.args.added.now)
    (both c.args.draft.now c.add_all_wires.new.draft c.add_done.new.draft (ports program ++ wires program) (doneness program)
    (both c.args.draft.now c.add_ports.new.draft c.add_all_wires.new.draft (ports program) (wires program) c.in_ok-add_ports.ensures c.in_ok-add_all_wires.ensures) c.in_ok-add_done.ensures)
    c.in_ok-add_instances.ensures
