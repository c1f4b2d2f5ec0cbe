use Rattle.std.proofs.Common.{◌∙◌}
use Rattle.vlog_tree.specs.Labels.{done}
use Rattle.cycle_sim.specs.Machines.{IsTopPlaced}
use Rattle.cycle_sim.proofs.TopNets.{done_read, done_clock}
use Rattle.cycle_sim.proofs.around.around_of.Goals as goal

pub returns : goal.returns
returns c = λ top f t at flat placed given.
    let d = c.args.design.now in
    let pairs = c.args.pairs.now in
    let names = c.scope-scope.result.now in
    let here : IsTopPlaced d.modules top f pairs t names = record { flat = flat; placed = placed; given = given; are_names = c.scope-scope.ensures top at } in
    let shape = c.in_ok-shape.ensures top at in
    record {
      inputs = c.in_ok-inputs.ensures d.modules top f t here shape.0 shape.1;
      outside = c.in_ok-outside.ensures d.modules top f t here (c.deref.ensures.value ∙ shape.1);
      streams = c.in_ok-streams.ensures d.modules top f t here (c.deref-2.ensures.value ∙ c.in_ok-ports.ensures top at);
      shown = c.in_ok-shown.ensures d.modules top f t here;
      is_done = c.pair_named-done.ensures d.modules top f t done here c.in_ok-done_name.ensures (done_read d.modules flat.top_place flat.design top flat.top_at) done_clock;
    }
