use Rattle.std.proofs.Common.{◌≡◌, ◌<◌, ◌≤◌, ◌^◌, List, length, ap, ◌∙◌, arith}
use Rattle.sim_flat.specs.declared.instances.Instance as row
use Rattle.sim_flat.specs.Rows.{row_at}
use Rattle.sim_flat.proofs.Linked.{tells_by_row, around_link}
use Rattle.sim_flat.proofs.links.net_around.Goals as goal

pub returns-in-Some : goal.returns-in-Some
returns-in-Some c = λ ms top n flat pos h input.
    let f = c.args.flat.now in
    let fits : length f.owners.items < 2 ^ 64 = omega arith in
    let is : c.in-Some.row.now ≡ row_at f.instances.items c.args.instance = c.in-Some.ensures.lookup.3.1 (record { kind = 0; around = 0; child = 0; depth = 0 }) ∙ ap (λ (l : List row.Instance). row_at l c.args.instance) c.deref.ensures.value in
    around_link ms top f flat fits c.args.instance c.args.place c.number_around.result
    (tells_by_row ms top f flat c.args.instance c.args.place c.number_around.result c.in-Some.row.now is c.number_around.ensures) pos n h input

pub returns-in-None : goal.returns-in-None
returns-in-None c = λ ms top n flat pos h input.
    let len : length c.deref.result.now ≡ length c.args.flat.now.instances.items = ap length c.deref.ensures.value in
    let high : length c.deref.result.now ≤ c.args.instance = c.in-None.ensures.lookup.3 in
    absurd (omega (arith, h.there))
