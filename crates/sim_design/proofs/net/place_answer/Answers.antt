use Rattle.std.proofs.Common.{◌≡◌, sym, subst, ap, ◌∙◌}
use Rattle.std.specs.Prelude.{IfSome}
use Rattle.vlog_tree.specs.Labels.{rdata_of}
use Rattle.sim_tape.specs.Trees.{tree_of}
use Rattle.sim_design.specs.States.{HasNumbersOf, PartsPlaced}
use Rattle.sim_design.proofs.Owning.{is_answer, name_is, is_input_net, is_free, at_top}
use Rattle.sim_design.proofs.Answering.{asked_placed}
use Rattle.sim_flat.specs.declared.tables.Source.TheVariants as source
use Rattle.vlog_tree.specs.Table.{declared, net_kind_of}
use Rattle.vlog_tree.specs.Flattened.{FlatNet}
use Rattle.vlog_tree.specs.Form.{ModuleTree}
use Rattle.vlog_tree.specs.declared.table.NetKind.TheVariants.{Input}
use Rattle.sim_design.proofs.net.place_answer.Goals as goal

pub returns-clause-told : goal.returns-clause-told
returns-clause-told c = λ ms top n plan a zero source.
    let f = c.args.plan.now.flat.now in
    let t = c.args.table.now in
    let name = name_is ms top f plan.flat t c.args.spot c.args.place n a c.in-Some.d.now c.in-Some.ensures in
    let r = is_answer ms top f plan.flat t c.args.spot c.args.place n a zero source c.in-Some-rdata_of.label.now (ap rdata_of (sym name) ∙ sym c.in-Some-rdata_of.ensures.value) in
    subst (λ b. IfSome c.in_ok-pair.pair (λ p. HasNumbersOf ms top f c.args.plan.now.memories.now c.args.pairs.now (tree_of c.pair_of_answer.new.tape) b p)) (sym r.3)
    (c.in_ok-pair.ensures.told ms top f c.args.plan.now.memories.now plan.flat r.0 plan.outside r.1 r.2)

pub returns-clause-some : goal.returns-clause-some
returns-clause-some c = λ ms top n plan a zero from others placed.
    let f = c.args.plan.now.flat.now in
    let t = c.args.table.now in
    let name = name_is ms top f plan.flat t c.args.spot c.args.place n a c.in-Some.d.now c.in-Some.ensures in
    let r = is_answer ms top f plan.flat t c.args.spot c.args.place n a zero from c.in-Some-rdata_of.label.now (ap rdata_of (sym name) ∙ sym c.in-Some-rdata_of.ensures.value) in
    let top_of = at_top ms top f plan.flat t c.args.spot c.args.place n a zero in
    let input = subst (λ (m : ModuleTree). net_kind_of (declared m) n.1 ≡ Input) top_of.1 (is_input_net ms top f plan.flat t c.args.spot c.args.place n a from) in
    c.in_ok-pair.ensures.some ms top f plan.flat r.0 plan.outside r.1 r.2
    (asked_placed ms top f plan.flat c.in-Some-rdata_of.label.now r.1 r.2 c.args.pairs.now n.1 (ap (λ (q : FlatNet). q.1) r.3) input (subst (λ p. PartsPlaced ms top f c.args.pairs.now (p, n.1)) top_of.0 placed))

pub returns-in_default-rdata_of-clause-some : goal.returns-in_default-rdata_of-clause-some
returns-in_default-rdata_of-clause-some c = λ ms top n plan a zero from others placed.
    absurd (others (is_free ms top c.args.plan.now.flat.now plan.flat c.args.table.now c.args.spot c.args.place n a c.in-Some.d.now c.in-Some.ensures source.Input from (zero, sym c.in_default-rdata_of.ensures.value)))
