use Rattle.hw_channel_lines.specs.Texts.{connected_to}
use Rattle.vlog_tree.specs.Labels.{s_din, s_rdy, s_wr}
use Rattle.hw_lines.specs.declared.nets.Net.TheVariants.{Din, Rdy, Wr}
use Rattle.hw_lines.specs.Nets.{name}
use Rattle.hw_top.proofs.Joined.{joined_as, three_more}
use Rattle.hw_top.proofs.ends.add_written.Goals as goal

pub returns : goal.returns
returns c =
    let l = c.args.label.now in
    let none = c.args.ends.now.items in
    let one = c.join_port.new.ends.items in
    let two = c.join_port-2.new.ends.items in
    let all = c.join_port-3.new.ends.items in
    three_more none one two all (connected_to (name (Rdy c.args.p)) (s_rdy l)) (connected_to (name (Wr c.args.p)) (s_wr l)) (connected_to (name (Din c.args.p)) (s_din l))
    (joined_as none one (name (Rdy c.args.p)) c.in_ok-rdy.field-0 (s_rdy l) c.in_ok-join_port.ensures c.in_ok-rdy.ensures)
    (joined_as one two (name (Wr c.args.p)) c.in_ok-wr.field-0 (s_wr l) c.in_ok-join_port-2.ensures c.in_ok-wr.ensures)
    (joined_as two all (name (Din c.args.p)) c.in_ok-din.field-0 (s_din l) c.in_ok-join_port-3.ensures c.in_ok-din.ensures)
