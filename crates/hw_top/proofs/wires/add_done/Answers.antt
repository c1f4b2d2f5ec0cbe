use Rattle.std.proofs.Common.{◌≡◌, length, arith}
use Rattle.hw_top.proofs.Tops.{done_grows}
use Rattle.hw_top.proofs.wires.add_done.Goals as goal

pub add_tree-requires : goal.add_tree-requires
add_tree-requires c = omega (arith, c.in_ok-count.ensures, c.args.program.now.instances.ok.0)

pub add_output-requires : goal.add_output-requires
add_output-requires c = omega (arith, c.in_ok-count.ensures, c.args.program.now.instances.ok.0)

pub returns : goal.returns
returns c =
    let all : c.in_ok-count.count ≡ length c.args.program.now.instances.items = omega (arith, c.in_ok-count.ensures, c.args.program.now.instances.ok.0) in
    done_grows c.args.program.now c.in_ok-count.count c.args.draft.now c.add_all_waiting.new.draft c.add_tree.new.draft c.add_output.new.draft all c.in_ok-add_all_waiting.ensures c.in_ok-add_tree.ensures c.in_ok-add_output.ensures
