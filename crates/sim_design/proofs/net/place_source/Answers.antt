use Rattle.std.proofs.Common.{◌≡◌, sym, ap, ◌∙◌, arith}
use Rattle.std.proofs.lemmas.Option.{IfSome_then}
use Rattle.vlog_tree.specs.Table.{net_kind_is_input}
use Rattle.sim_flat.specs.declared.tables.Source.TheVariants as source
use Rattle.sim_design.proofs.Owning.{from_source, is_input_net, is_register, is_read_here, no_nothing}
use Rattle.sim_design.proofs.net.place_source.Goals as goal

pub returns-in_ok-driven-in-Line-clause-told : goal.returns-in_ok-driven-in-Line-clause-told
returns-in_ok-driven-in-Line-clause-told c = λ ms top n plan a s count read.
    c.in_ok-driven-in-Line.ensures.told ms top n plan a (sym c.in-Line.is ∙ s) count read

pub returns-in-Child-clause-told : goal.returns-in-Child-clause-told
returns-in-Child-clause-told c = λ ms top n plan a s count read.
    let f = c.args.plan.now.flat.now in
    let d = from_source ms top f plan.flat c.args.table.now c.args.spot c.args.place n a (source.Child c.in-Child.child c.in-Child.port) (sym c.in-Child.is ∙ s) in
    IfSome_then c.pair_inside-inside.result (c.pair_inside-inside.ensures.told ms top c.args.place n plan.flat a.at d) (λ p h cells ns k solved v shows_cells shows. h k ns v shows)

pub returns-then-spot-gt0-clause-told : goal.returns-then-spot-gt0-clause-told
returns-then-spot-gt0-clause-told c = λ ms top n plan a s count read.
    let f = c.args.plan.now.flat.now in
    let input = is_input_net ms top f plan.flat c.args.table.now c.args.spot c.args.place n a (sym c.in-Input.is ∙ s) in
    IfSome_then c.pair_around-around.result (c.pair_around-around.ensures.told ms top n plan.flat c.if-spot-gt0.true a.at (ap net_kind_is_input input)) (λ p h cells ns k solved v shows_cells shows. h k ns v shows)

pub returns-in_ok-answered-in-Input-clause-told : goal.returns-in_ok-answered-in-Input-clause-told
returns-in_ok-answered-in-Input-clause-told c = λ ms top n plan a s count read.
    let none : c.args.spot.instance ≡ 0 = omega arith in
    c.in_ok-answered-in-Input.ensures.told ms top n plan a none (sym c.in-Input.is ∙ s)

pub returns-in_ok-driven-in-Line-clause-some : goal.returns-in_ok-driven-in-Line-clause-some
returns-in_ok-driven-in-Line-clause-some c = λ ms top n plan a s count r others placed. c.in_ok-driven-in-Line.ensures.some ms top n plan a (sym c.in-Line.is ∙ s) count placed

pub returns-in-Child-clause-some : goal.returns-in-Child-clause-some
returns-in-Child-clause-some c = λ ms top n plan a s count r others placed.
    let f = c.args.plan.now.flat.now in
    let d = from_source ms top f plan.flat c.args.table.now c.args.spot c.args.place n a (source.Child c.in-Child.child c.in-Child.port) (sym c.in-Child.is ∙ s) in
    c.pair_inside-inside.ensures.some ms top c.args.place n plan.flat a.at d placed

pub returns-then-spot-gt0-clause-some : goal.returns-then-spot-gt0-clause-some
returns-then-spot-gt0-clause-some c = λ ms top n plan a s count r others placed.
    let f = c.args.plan.now.flat.now in
    let input = is_input_net ms top f plan.flat c.args.table.now c.args.spot c.args.place n a (sym c.in-Input.is ∙ s) in
    c.pair_around-around.ensures.some ms top n plan.flat c.if-spot-gt0.true a.at (ap net_kind_is_input input) placed

pub returns-in_ok-answered-in-Input-clause-some : goal.returns-in_ok-answered-in-Input-clause-some
returns-in_ok-answered-in-Input-clause-some c = λ ms top n plan a s count r others placed.
    let none : c.args.spot.instance ≡ 0 = omega arith in
    c.in_ok-answered-in-Input.ensures.some ms top n plan a none (sym c.in-Input.is ∙ s) others placed

pub returns-in-Register-clause-some : goal.returns-in-Register-clause-some
returns-in-Register-clause-some c = λ ms top n plan a s count r others placed.
    absurd (others (is_register ms top c.args.plan.now.flat.now plan.flat c.args.table.now c.args.spot c.args.place n a (sym c.in-Register.is ∙ s)))

pub returns-in-Nothing-clause-some : goal.returns-in-Nothing-clause-some
returns-in-Nothing-clause-some c = λ ms top n plan a s count r others placed.
    let f = c.args.plan.now.flat.now in
    absurd (no_nothing ms top f plan.flat c.args.table.now c.args.spot c.args.place n a (sym c.in-Nothing.is ∙ s) (is_read_here ms top f plan.flat c.args.table.now c.args.spot c.args.place n a r) r.clock)
