use Rattle.std.proofs.Common.{◌≡◌, ◌<◌, ◌+◌, ◌*◌, ℕ, length, get_or, set, ap, sym, subst, ◌∙◌, arith}
use Rattle.std.proofs.lemmas.List.{get_or_read}
use Rattle.std.proofs.lemmas.Bool.{eq-eqb}
use Rattle.slot_plan.specs.Tables.{items, places, cell, joint_at, distance_at}
use Rattle.slot_plan.proofs.Lowered.{IsRowPart, cell_inside, row_more}
use Rattle.slot_plan.proofs.rows.lower_row.Goals as goal

pub loop-y-preserved : goal.loop-y-preserved
loop-y-preserved c =
    let t = c.args.tables.now in
    let m = places t in
    let n = items t in
    let rows = c.args.rows.now in
    let item = c.args.item in
    let y = c.loop-y.y in
    let em : c.len-places.result ≡ m = (let k = t.room.ok.0 in let a = c.len-places.ensures in omega arith) in
    let en : c.len.result ≡ n = (let k = t.needs.ok.0 in let a = c.len.ensures in omega arith) in
    let ly : y < m = (let a = c.loop-y-test.true in omega arith) in
    let pj = ap (λ (x : ℕ). c.args.placed * x) en in
    let inj : c.args.placed * c.len.result + item < length t.joint.items = (let a = cell_inside c.args.placed item n n c.requires.placed c.requires.item in let b = c.requires.tables.joint in omega arith) in
    let w : c.index-width.result.now ≡ joint_at t c.args.placed item =
    get_or_read t.joint.items (c.args.placed * c.len.result + item) c.index-width.result.now inj c.index-width.ensures 0
    ∙ ap (λ (x : ℕ). get_or t.joint.items (c.args.placed * x + item) 0) en in
    let pd = ap (λ (x : ℕ). c.args.place * x) em in
    let ind : c.args.place * c.len-places.result + y < length t.distance.items = (let a = cell_inside c.args.place y m m c.requires.place ly in let b = c.requires.tables.distance in omega arith) in
    let z : c.index.result.now ≡ distance_at t c.args.place y =
    get_or_read t.distance.items (c.args.place * c.len-places.result + y) c.index.result.now ind c.index.ensures 0
    ∙ ap (λ (x : ℕ). get_or t.distance.items (c.args.place * x + y) 0) em in
    let value = get_or rows (item * c.len-places.result + y) 0 + c.index-width.result.now * c.index.result.now in
    let is : value ≡ cell rows m item y + joint_at t c.args.placed item * distance_at t c.args.place y =
    ap (λ (x : ℕ). get_or rows (item * x + y) 0 + c.index-width.result.now * c.index.result.now) em
    ∙ (ap (λ (x : ℕ). cell rows m item y + x * c.index.result.now) w ∙ ap (λ (x : ℕ). cell rows m item y + joint_at t c.args.placed item * x) z) in
    let lh : item < length t.homes.items = (let a = c.requires.tables.homes in let b = c.requires.item in omega arith) in
    let lr : y < length t.regions.items = (let a = c.requires.tables.regions in omega arith) in
    let home = get_or_read t.homes.items item c.index-home.result.now lh c.index-home.ensures 0 in
    let region = get_or_read t.regions.items y c.index-in-loop-y.result.now lr c.index-in-loop-y.ensures 0 in
    let r = row_more t rows c.args.next.now c.args.placed c.args.place item y c.loop-y.least c.loop-y.next value c.lesser-least.result
    c.lesser-least.ensures.least (λ suits. c.lesser-least.ensures.cost (eq-eqb c.index-in-loop-y.result.now c.index-home.result.now (region ∙ (sym suits ∙ sym home))))
    c.loop-y.invariant c.requires.item ly is in
    subst (λ (x : ℕ). IsRowPart t rows c.args.next.now c.args.placed c.args.place item (y + 1) c.lesser-least.result (set c.loop-y.next (item * x + y) value)) (sym em) r
