use Rattle.std.proofs.Common.{◌∙◌, List, false, sym, ap, arith}
use Rattle.std.specs.Prelude.{not}
use Rattle.std.proofs.lemmas.List.{get_or_read}
use Rattle.task_graph.specs.declared.Use.{Use}
use Rattle.task_graph.specs.Streams.{amount_at}
use Rattle.slot_plan.proofs.Uses.{amount_read}
use Rattle.slot_split.proofs.Sums.{add_made}
use Rattle.slot_split.proofs.regions.add_open.Goals as goal

pub add_at-sum-requires-clause-first : goal.add_at-sum-requires-clause-first
add_at-sum-requires-clause-first c = λ k.
    (let a = amount_read c.args.sums.now.items c.args.corner c.index-2.result.now c.requires.inside c.index-2.ensures k in
    let b = c.requires.low k in omega arith)

pub returns-clause-value : goal.returns-clause-value
returns-clause-value c = λ n k.
    let d = c.args.device.now in
    let read = get_or_read d.forbidden.items c.args.slot c.index.result.now (let a = c.requires.marks in let b = c.requires.slot in omega arith) c.index.ensures false in
    add_made d c.args.sums.now.items c.args.corner c.args.slot c.add_at-sum.result c.requires.inside (ap not (sym read ∙ c.if-index.false))
    (λ i. (let a = c.add_at-sum.ensures i in let b = amount_read c.args.sums.now.items c.args.corner c.index-2.result.now c.requires.inside c.index-2.ensures i in let e = ap (λ (us : List Use). amount_at us c.args.slot i) c.deref.ensures.value in omega arith)) n k
