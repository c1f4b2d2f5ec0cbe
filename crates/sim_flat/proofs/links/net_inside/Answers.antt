use Rattle.std.proofs.Common.{◌≡◌, ◌+◌, ◌<◌, ◌^◌, Some, length, get_or, subst, arith}
use Rattle.sim_flat.specs.Edges.{base_at}
use Rattle.sim_flat.proofs.Linked.{inside_low, inside_link}
use Rattle.sim_flat.proofs.links.net_inside.Goals as goal

pub returns : goal.returns
returns c = λ ms top j n flat h d.
    let f = c.args.flat.now in
    let k = c.args.instance in
    let fits : length f.owners.items < 2 ^ 64 = omega arith in
    let low : get_or f.first_child.items k 0 + c.args.child < length f.instances.items = inside_low ms top f flat k c.args.child d.0 h.tree h.there h.of_module d.1 in
    let few : length f.instances.items < 2 ^ 64 = omega arith in
    let first : c.first_at.result ≡ get_or f.first_child.items k 0 = c.first_at.ensures in
    let room : c.first_at.result + c.args.child < 2 ^ 64 = omega arith in
    inside_link ms top f flat k j c.args.child c.args.port n.0 n.1 h d c.number_inside.result
    (subst (λ a. base_at f (a + c.args.child) + c.args.port < 2 ^ 64 → c.number_inside.result ≡ Some (base_at f (a + c.args.child) + c.args.port)) first (c.number_inside.ensures room)) fits
