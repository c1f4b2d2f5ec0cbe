use Rattle.hw_channel_lines.specs.Texts.{connected_to}
use Rattle.hw_lines.specs.declared.nets.Net.TheVariants.{Dout, Has, Taken}
use Rattle.hw_lines.specs.Nets.{name}
use Rattle.hw_top_lines.specs.Names.{s_dout, s_has, s_take}
use Rattle.hw_top.proofs.Joined.{joined_as, three_more}
use Rattle.hw_top.proofs.ends.add_read.Goals as goal

pub returns : goal.returns
returns c =
    let l = c.args.label.now in
    let none = c.args.ends.now.items in
    let one = c.join_port.new.ends.items in
    let two = c.join_port-2.new.ends.items in
    let all = c.join_port-3.new.ends.items in
    three_more none one two all (connected_to (name (Has c.args.p)) (s_has l)) (connected_to (name (Dout c.args.p)) (s_dout l)) (connected_to (name (Taken c.args.p)) (s_take l))
    (joined_as none one (name (Has c.args.p)) c.in_ok-has.field-0 (s_has l) c.in_ok-join_port.ensures c.in_ok-has.ensures)
    (joined_as one two (name (Dout c.args.p)) c.in_ok-dout.field-0 (s_dout l) c.in_ok-join_port-2.ensures c.in_ok-dout.ensures)
    (joined_as two all (name (Taken c.args.p)) c.in_ok-take.field-0 (s_take l) c.in_ok-join_port-3.ensures c.in_ok-take.ensures)
