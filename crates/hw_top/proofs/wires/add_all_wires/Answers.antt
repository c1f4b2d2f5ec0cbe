use Rattle.std.proofs.Common.{ℕ, List, ◌++◌, length}
use Rattle.std.specs.Prelude.{slice_get}
use Rattle.hw_build.specs.Elements.{Element}
use Rattle.hw_build.specs.Scope.{each}
use Rattle.hw_nets.proofs.Grows.{both}
use Rattle.hw_top_lines.specs.Bounds.{parameters}
use Rattle.hw_top_lines.specs.Texts.{at_instance, ended_wire, stream_wires, take_wire}
use Rattle.hw_top.proofs.wires.add_all_wires.Goals as goal

pub returns : goal.returns
returns c =
    let program = c.args.program.now in
    let s : List Element = each (λ (s : ℕ). stream_wires (slice_get program.streams.items s)) (length program.streams.items) in
    let b : List Element = each (at_instance program (parameters program)) (length program.instances.items) in
    let e : List Element = each ended_wire (length program.instances.items) in
    let t : List Element = each (λ (s : ℕ). take_wire (slice_get program.streams.items s)) (length program.streams.items) in
    both c.args.draft.now c.add_ends.new.draft c.add_takes.new.draft (s ++ b ++ e) t
    (both c.args.draft.now c.add_bounds.new.draft c.add_ends.new.draft (s ++ b) e (both c.args.draft.now c.add_streams.new.draft c.add_bounds.new.draft s b c.in_ok-add_streams.ensures c.in_ok-add_bounds.ensures) c.in_ok-add_ends.ensures)
    c.in_ok-add_takes.ensures
