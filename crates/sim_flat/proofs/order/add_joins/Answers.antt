use Rattle.std.proofs.Common.{◌≡◌, ◌≤◌, ◌++◌, length, sym, ap, ◌∙◌, arith}
use Rattle.std.proofs.lemmas.List.{append-nil}
use Rattle.sim_flat.proofs.Edging.{join_past}
use Rattle.sim_flat.proofs.order.add_joins.Goals as goal

pub returns-in-None : goal.returns-in-None
returns-in-None c =
    let f = c.args.flat.now in
    let len : length c.deref.result.now ≡ length f.instances.items = ap length c.deref.ensures.value in
    let past : length c.deref.result.now ≤ c.args.k = c.in-None.ensures.lookup.3 in
    let high : length f.instances.items ≤ c.args.k = omega arith in
    sym (append-nil c.args.edges.now.items) ∙ ap (λ l. c.args.edges.now.items ++ l) (sym (join_past c.args.modules.now f c.args.k high))
