use Rattle.std.proofs.Common.{◌≡◌, ◌*◌, ◌≤◌, length, length-drop, drop, refl, sym, ap, ◌∙◌, arith}
use Rattle.std.proofs.lemmas.Option.{slice_get_read}
use Rattle.std.proofs.lemmas.Grind.{common_steps}
use Rattle.net_core.specs.Ports.{waiting, waiting_in}
use Rattle.net_core.proofs.Moves.{adjust, get_set_same, space_grows, held_few}
use Rattle.net_core.proofs.ports.Ports.trim.Goals as goal

pub returns-clause-adjusted : goal.returns-clause-adjusted
returns-clause-adjusted c = adjust c.args.self.now _ c.args.s c.index_mut-port.result.now _ (slice_get_read c.args.self.now.ports.items _ c.args.s c.index_mut-port.result.now refl c.requires c.index_mut-port.ensures.value) refl refl refl

pub returns-clause-waits : goal.returns-clause-waits
returns-clause-waits c =
    let q = c.index_mut-port.result.now in
    let at = slice_get_read c.args.self.now.ports.items _ c.args.s q refl c.requires c.index_mut-port.ensures.value in
    let rest : c.truncate.new.self.items ≡ drop q.head q.tokens.items = grind (arith, common_steps) in
    ap waiting_in (get_set_same c.args.self.now.ports.items c.args.s _ c.requires) ∙ rest ∙ sym (ap waiting_in at)

pub returns-clause-few : goal.returns-clause-few
returns-clause-few c =
    let q = c.index_mut-port.result.now in
    let at = slice_get_read c.args.self.now.ports.items _ c.args.s c.index_mut-port.result.now refl c.requires c.index_mut-port.ensures.value in
    let waits = ap length (ap waiting_in at) in
    let many = length-drop q.head q.tokens.items in
    let cut = c.truncate.ensures.len in
    let turned = c.rotate_left.ensures.len in
    let few : length c.truncate.new.self.items ≤ 2 * length (waiting c.args.self.now c.args.s) = omega arith in
    held_few c.args.self.now.ports.items c.args.s q _ (2 * length (waiting c.args.self.now c.args.s)) at few

pub returns-then-head-left-clause-few : goal.returns-then-head-left-clause-few
returns-then-head-left-clause-few c =
    let q = c.index_mut-port.result.now in
    let at = slice_get_read c.args.self.now.ports.items _ c.args.s c.index_mut-port.result.now refl c.requires c.index_mut-port.ensures.value in
    let waits = ap length (ap waiting_in at) in
    let many = length-drop q.head q.tokens.items in
    let within = q.within in
    let less = c.if-head-left.true in
    let few : length q.tokens.items ≤ 2 * length (waiting c.args.self.now c.args.s) = omega arith in
    held_few c.args.self.now.ports.items c.args.s q _ (2 * length (waiting c.args.self.now c.args.s)) at few

pub returns-clause-space : goal.returns-clause-space
returns-clause-space c =
    let cut = c.truncate.ensures.capacity in
    let turned = c.rotate_left.ensures.capacity in
    space_grows c.args.self.now.ports.items c.args.s c.index_mut-port.result.now _ (slice_get_read c.args.self.now.ports.items _ c.args.s c.index_mut-port.result.now refl c.requires c.index_mut-port.ensures.value) (omega arith)
