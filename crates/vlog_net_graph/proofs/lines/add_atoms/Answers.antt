use Rattle.std.proofs.Common.{List, map, refl}
use Rattle.std.specs.List.{flat_map}
use Rattle.vlog_tree.specs.declared.tree.Atom.{Atom}
use Rattle.vlog_tree.specs.Loops.{atom_nets}
use Rattle.vlog_tree.specs.Table.{Name}
use Rattle.vlog_net_graph.specs.Merged.{under}
use Rattle.vlog_net_graph.proofs.Growing.{so_far_start, so_far_step, so_far_end}
use Rattle.tapa_base.proofs.Got.{map_append as map-append}
use Rattle.vlog_net_graph.proofs.lines.add_atoms.Goals as goal

pub loop-a-init : goal.loop-a-init
loop-a-init c = so_far_start (λ (atoms : List Atom). map (λ (y : Name). under c.args.front.now (c.args.x.now, y)) (flat_map atom_nets atoms)) c.args.atoms.now c.args.g.now

pub loop-a-preserved : goal.loop-a-preserved
loop-a-preserved c =
    so_far_step (λ (atoms : List Atom). map (λ (y : Name). under c.args.front.now (c.args.x.now, y)) (flat_map atom_nets atoms)) c.args.atoms.now c.loop-a.a-index c.a-item.result c.args.g.now c.loop-a.g c.add_atom.new.g (map (λ (y : Name). under c.args.front.now (c.args.x.now, y)) (atom_nets c.a-item.result)) (λ rest. map-append (λ (y : Name). under c.args.front.now (c.args.x.now, y)) (atom_nets c.a-item.result) (flat_map atom_nets rest))
    c.loop-a-test.true c.a-item.is c.loop-a.invariant c.in_ok-add_atom.ensures

pub returns : goal.returns
returns c = so_far_end (λ (atoms : List Atom). map (λ (y : Name). under c.args.front.now (c.args.x.now, y)) (flat_map atom_nets atoms)) c.args.atoms.now c.loop-a.a-index c.args.g.now c.loop-a.g refl c.loop-a-test.false c.loop-a.invariant
