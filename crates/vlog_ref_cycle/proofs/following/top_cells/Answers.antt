use Rattle.std.proofs.Common.{◌≡◌, ◌&&◌, cond, eqb, ap, ◌∙◌, rules}
use Rattle.vlog_tree.specs.Labels.{m_ack, m_we, m_addr, m_wdata}
use Rattle.vlog_tree.specs.Environment.{set_cell}
use Rattle.vlog_ref_cycle.proofs.InRuns.{named_number, stores}
use Rattle.vlog_ref_cycle.proofs.following.top_cells.Goals as goal

pub returns-clause-value : goal.returns-clause-value
returns-clause-value c =
    let design = c.args.design.now in
    let now = c.args.now.now in
    let m = c.args.m.now in
    let x = m.name in
    let label = c.bytes-label.ensures.value in
    let same : c.in_ok-cells.cells.items ≡ m.cells.items = search rules in
    stores design now x c.in-Some.ack c.in-Some-2.we c.in-Some-3.addr c.in-Some-4.wdata
    (named_number design now c.in_ok-ack.field-0 c.in-Some.ack c.in_ok-ack_name.field-0.items (m_ack x) c.in-Some.is (c.in_ok-ack_name.ensures ∙ ap m_ack label) c.in_ok-ack.ensures.value)
    (named_number design now c.in_ok-we.field-0 c.in-Some-2.we c.in_ok-we_name.field-0.items (m_we x) c.in-Some-2.is (c.in_ok-we_name.ensures ∙ ap m_we label) c.in_ok-we.ensures.value)
    (named_number design now c.in_ok-addr.field-0 c.in-Some-3.addr c.in_ok-addr_name.field-0.items (m_addr x) c.in-Some-3.is (c.in_ok-addr_name.ensures ∙ ap m_addr label) c.in_ok-addr.ensures.value)
    (named_number design now c.in_ok-wdata.field-0 c.in-Some-4.wdata c.in_ok-wdata_name.field-0.items (m_wdata x) c.in-Some-4.is (c.in_ok-wdata_name.ensures ∙ ap m_wdata label) c.in_ok-wdata.ensures.value)
    m.cells.items c.stored.result.items
    (c.stored.ensures ∙ ap (λ l. cond (eqb c.in-Some.ack 1 && eqb c.in-Some-2.we 1) (set_cell l c.in-Some-3.addr c.in-Some-4.wdata) l) same)
