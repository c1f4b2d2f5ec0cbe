use Rattle.std.proofs.Common.{◌<◌, ◌≡◌, ◌++◌, ℕ, List, length, get_or, map, ap, sym, ◌∙◌, arith}
use Rattle.slot_plan.specs.Merging.{between}
use Rattle.slot_plan.proofs.Filling.{table_more, map_same}
use Rattle.slot_plan.proofs.tables.joint_table.Goals as goal

pub loop-group-preserved : goal.loop-group-preserved
loop-group-preserved c =
    let g = c.args.graph.now in
    let xs = c.args.choice.now.items.items in
    let i = c.loop-group.group-index in
    let same : c.deref-group-items.result.now ≡ xs = c.deref-group-items.ensures.value in
    let x = get_or c.deref-group-items.result.now i 0 in
    let l : i < length xs = (let long = ap length same in omega arith) in
    c.in_ok-push_joint.ensures
    ∙ (ap (λ (ws : List ℕ). c.loop-group.table.items ++ map (λ (u : ℕ). get_or ws u 0) xs) c.deref.ensures.value
    ∙ (ap (λ (zs : List ℕ). c.loop-group.table.items ++ zs) (map_same (λ (u : ℕ). get_or c.in_ok-widths.widths.items u 0) (between g x) xs (λ j lj. c.in_ok-widths.ensures.value (get_or xs j 0)))
    ∙ (ap (λ (zs : List ℕ). zs ++ map (between g x) xs) c.loop-group.invariant
    ∙ sym (table_more (between g) xs xs i x l (ap (λ (ys : List ℕ). get_or ys i 0) same)))))
