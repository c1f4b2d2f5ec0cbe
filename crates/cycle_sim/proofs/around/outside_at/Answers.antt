use Rattle.std.proofs.Common.{refl, ap, ◌∙◌}
use Rattle.vlog_tree.specs.Labels.{m_ack, m_we, m_addr, m_wdata}
use Rattle.cycle_sim.proofs.TopNets.{ack_net, we_net, addr_net, wdata_net}
use Rattle.cycle_sim.proofs.around.outside_at.Goals as goal

pub returns : goal.returns
returns c = λ ms top f t l here has is.
    let pairs = c.args.pairs.now in
    let names = c.args.scope.now in
    let named = c.bytes-label.ensures.value ∙ is in
    let ack = ack_net ms here.flat.top_place here.flat.design top here.flat.top_at l has in
    let we = we_net ms here.flat.top_place here.flat.design top here.flat.top_at l has in
    let addr = addr_net ms here.flat.top_place here.flat.design top here.flat.top_at l has in
    let wdata = wdata_net ms here.flat.top_place here.flat.design top here.flat.top_at l has in
    record {
      ack = c.pair_named-ack.ensures ms top f t (m_ack l.name) here (c.in_ok-ack_name.ensures ∙ ap m_ack named) ack.0 ack.1;
      we = c.pair_named-we.ensures ms top f t (m_we l.name) here (c.in_ok-we_name.ensures ∙ ap m_we named) we.0 we.1;
      addr = c.pair_named-addr.ensures ms top f t (m_addr l.name) here (c.in_ok-addr_name.ensures ∙ ap m_addr named) addr.0 addr.1;
      written = c.pair_named-wdata.result;
      wdata = c.pair_named-wdata.ensures ms top f t (m_wdata l.name) here (c.in_ok-wdata_name.ensures ∙ ap m_wdata named) wdata.0 wdata.1;
      low = refl;
    }
