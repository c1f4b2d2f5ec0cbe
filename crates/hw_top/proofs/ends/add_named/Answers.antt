use Rattle.hw_channel_lines.specs.Texts.{connected_to}
use Rattle.vlog_tree.specs.Labels.{m_ack, m_addr, m_rdata, m_wdata, m_we}
use Rattle.hw_lines.specs.declared.nets.Net.TheVariants.{Ack, Addr, Rdata, Wdata, We}
use Rattle.hw_lines.specs.Nets.{name}
use Rattle.hw_top.proofs.Joined.{joined_as, three_more, five_more}
use Rattle.hw_top.proofs.ends.add_named.Goals as goal

pub returns : goal.returns
returns c =
    let m = c.args.memory.now in
    let p = c.args.p in
    let none = c.args.ends.now.items in
    let one = c.join_port.new.ends.items in
    let two = c.join_port-2.new.ends.items in
    let three = c.join_port-3.new.ends.items in
    let four = c.join_port-4.new.ends.items in
    let all = c.join_port-5.new.ends.items in
    let x = connected_to (name (Ack p)) (m_ack m) in
    let y = connected_to (name (Rdata p)) (m_rdata m) in
    let z = connected_to (name (Addr p)) (m_addr m) in
    five_more none three four all x y z (connected_to (name (Wdata p)) (m_wdata m)) (connected_to (name (We p)) (m_we m))
    (three_more none one two three x y z
    (joined_as none one (name (Ack p)) c.in_ok-ack.field-0 (m_ack m) c.in_ok-join_port.ensures c.in_ok-ack.ensures)
    (joined_as one two (name (Rdata p)) c.in_ok-rdata.field-0 (m_rdata m) c.in_ok-join_port-2.ensures c.in_ok-rdata.ensures)
    (joined_as two three (name (Addr p)) c.in_ok-addr.field-0 (m_addr m) c.in_ok-join_port-3.ensures c.in_ok-addr.ensures))
    (joined_as three four (name (Wdata p)) c.in_ok-wdata.field-0 (m_wdata m) c.in_ok-join_port-4.ensures c.in_ok-wdata.ensures)
    (joined_as four all (name (We p)) c.in_ok-we.field-0 (m_we m) c.in_ok-join_port-5.ensures c.in_ok-we.ensures)
