use Rattle.std.proofs.Common.{arith, ◌≡◌, ◌<◌, ◌+◌, ◌-◌, [], ℕ, List, length, get_or, inr, refl, sym, ap, subst, ◌∙◌}
use Rattle.std.proofs.lemmas.List.{get_or_push, length_push}
use Rattle.tapa_base.specs.Lists.{Has}
use Rattle.number_graph.specs.Graphs.{Steps}
use Rattle.number_graph.specs.Visits.{IsOpen}
use Rattle.number_graph.proofs.Numbers.{at_has}
use Rattle.number_graph.proofs.order.descend.Goals as goal

pub begin-requires-clause-follows : goal.begin-requires-clause-follows
begin-requires-clause-follows c = λ i e.
    let g = c.args.graph.now in
    let v = c.args.visit.now in
    let p = v.progress.items in
    let path = v.path.items in
    let r = c.requires in
    let same : i ≡ c.args.place = omega (arith, r.last, e) in
    let low : c.args.place < length path = omega (arith, r.last) in
    let o : IsOpen g p c.args.node = subst (λ n. IsOpen g p n) r.node (r.visit.opened c.args.place low) in
    let row = get_or g c.args.node [] in
    let n = get_or p c.args.node 0 - 1 in
    let within : n < length row = omega (arith, o.0, r.more) in
    let step : Has row c.args.to = subst (λ t. Has row t) (sym r.to) (at_has row n within) in
    subst (λ t. Steps g t c.args.to) (sym (ap (λ t. get_or path t 0) same ∙ r.node)) step

pub pass-requires-clause-behind : goal.pass-requires-clause-behind
pass-requires-clause-behind c =
    let g = c.args.graph.now in
    let v = c.args.visit.now in
    let p = v.progress.items in
    let path = v.path.items in
    let r = c.requires in
    let w = c.begin.new.visit in
    let ens = c.in_ok-begin.ensures in
    let low : c.args.place < length path = omega (arith, r.last) in
    let o : IsOpen g p c.args.node = subst (λ n. IsOpen g p n) r.node (r.visit.opened c.args.place low) in
    let stays : get_or w.progress.items c.args.node 0 ≡ get_or p c.args.node 0 = ens.others c.args.node o.0 in
    let to_is : c.args.to ≡ get_or (get_or g c.args.node []) (get_or w.progress.items c.args.node 0 - 1) 0 = r.to ∙ ap (λ t. get_or (get_or g c.args.node []) (t - 1) 0) (sym stays) in
    let len : length w.path.items ≡ length path + 1 = ap length ens.path ∙ length_push path c.args.to in
    let at : get_or w.path.items (length path) 0 ≡ c.args.to = ap (λ (l : List ℕ). get_or l (length path) 0) ens.path ∙ get_or_push path c.args.to 0 (length path) refl in
    inr (length path, low, omega (arith, len), at ∙ to_is)
