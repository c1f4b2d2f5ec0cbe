use Rattle.std.proofs.Common.{refl, ap, ◌∙◌}
use Rattle.vlog_tree.specs.Labels.{s_wr, s_rdy, s_din}
use Rattle.cycle_sim.proofs.TopNets.{wr_net, rdy_net, din_net, din_bits}
use Rattle.cycle_sim.proofs.around.stream_at.Goals as goal

pub returns : goal.returns
returns c = λ ms top f t here has.
    let pairs = c.args.pairs.now in
    let names = c.args.scope.now in
    let l = c.args.port.now in
    let named = c.bytes-label.ensures.value in
    let wr = wr_net ms here.flat.top_place here.flat.design top here.flat.top_at l has in
    let rdy = rdy_net ms here.flat.top_place here.flat.design top here.flat.top_at l has in
    let din = din_net ms here.flat.top_place here.flat.design top here.flat.top_at l has in
    let bits = din_bits ms here.flat.top_place here.flat.design top here.flat.top_at l has in
    record {
      wr = c.pair_named-wr.ensures ms top f t (s_wr l.name) here (c.in_ok-wr_name.ensures ∙ ap s_wr named) wr.0 wr.1;
      rdy = c.pair_named-rdy.ensures ms top f t (s_rdy l.name) here (c.in_ok-rdy_name.ensures ∙ ap s_rdy named) rdy.0 rdy.1;
      din = c.pair_named-din.ensures ms top f t (s_din l.name) here (c.in_ok-din_name.ensures ∙ ap s_din named) din.0 din.1;
      bits = refl;
      low = bits.0;
      high = bits.1;
    }
