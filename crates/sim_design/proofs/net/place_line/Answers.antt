use Rattle.std.proofs.Common.{sym, subst, ap, ◌∙◌}
use Rattle.std.specs.Prelude.{IfSome}
use Rattle.vlog_tree.specs.Table.{bits_of}
use Rattle.sim_tape.specs.Trees.{tree_of}
use Rattle.sim_flat.specs.Edges.{lines_at}
use Rattle.sim_design.specs.States.{HasNumbersOf, PartsPlaced}
use Rattle.sim_design.proofs.Owning.{is_line}
use Rattle.sim_design.proofs.net.place_line.Goals as goal

pub returns-in_ok-pair-in-Assign-clause-told : goal.returns-in_ok-pair-in-Assign-clause-told
returns-in_ok-pair-in-Assign-clause-told c = λ ms top n plan a source count read.
    let f = c.args.plan.now.flat.now in
    let t = c.args.table.now in
    let x = c.in-Assign.net in
    let l = is_line ms top f plan.flat t c.args.spot c.args.place n a c.args.at c.bits-bits.result c.in-Some.item.now x c.in-Assign.value c.lines_at-items.result.now source
    (c.lines_at-items.ensures ∙ ap (λ z. lines_at z f c.args.spot.instance) plan.modules) c.in-Some.ensures c.in-Assign.is (c.bits-bits.ensures ∙ ap (λ y. bits_of t.scope y) c.bytes.ensures.value) in
    subst (λ y. IfSome c.in_ok-pair-in-Assign.pair (λ p. HasNumbersOf ms top f c.args.plan.now.memories.now c.args.pairs.now (tree_of c.pair_of_line.new.tape) (n.0, y) p)) l.0
    (c.in_ok-pair-in-Assign.ensures.told ms top n.0 a.at.tree x plan.flat l.1 count plan.many read plan.memories)

pub returns-in_ok-pair-in-Assign-clause-some : goal.returns-in_ok-pair-in-Assign-clause-some
returns-in_ok-pair-in-Assign-clause-some c = λ ms top n plan a source count placed.
    let f = c.args.plan.now.flat.now in
    let t = c.args.table.now in
    let x = c.in-Assign.net in
    let l = is_line ms top f plan.flat t c.args.spot c.args.place n a c.args.at c.bits-bits.result c.in-Some.item.now x c.in-Assign.value c.lines_at-items.result.now source
    (c.lines_at-items.ensures ∙ ap (λ z. lines_at z f c.args.spot.instance) plan.modules) c.in-Some.ensures c.in-Assign.is (c.bits-bits.ensures ∙ ap (λ y. bits_of t.scope y) c.bytes.ensures.value) in
    c.in_ok-pair-in-Assign.ensures.some ms top n.0 a.at.tree x plan.flat l.1 count plan.many (subst (λ y. PartsPlaced ms top f c.args.pairs.now (n.0, y)) (sym l.0) placed) plan.all
