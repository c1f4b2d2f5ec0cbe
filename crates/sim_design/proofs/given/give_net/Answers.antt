use Rattle.std.proofs.Common.{◌≡◌, ◌+◌, ◌-◌, arith, sym, ◌∙◌}
use Rattle.std.proofs.lemmas.Option.{IfSome_then}
use Rattle.sim_tape.specs.Trees.{tree_of}
use Rattle.sim_design.proofs.Owning.{at_spot, is_given, free_source}
use Rattle.sim_design.proofs.given.give_net.Goals as goal

pub returns-clause-given : goal.returns-clause-given
returns-clause-given c = λ ms top n flat h.
    let f = c.args.flat.now in
    let base = c.base_at-base.result in
    let is : c.args.number ≡ c.base_at-base.result + (c.args.number - c.base_at-base.result) = omega arith in
    let t = c.in-Some-table_at.table.now in
    let spot = at_spot ms top f flat t c.in-Some.instance base (c.args.number - c.base_at-base.result) c.args.number n h c.in-Some.ensures c.in-Some-table_at.ensures c.base_at-base.ensures is in
    IfSome_then c.in_ok-pair.pair c.in_ok-pair.ensures.given
    (λ p q. is_given ms top f flat t (record { instance = c.in-Some.instance; base = c.base_at-base.result }) (c.args.number - c.base_at-base.result) n spot c.in-Some-name_at.d.now c.in-Some-name_at.ensures c.source_at-source.result c.source_at-source.ensures (sym c.is_clock.ensures ∙ c.if-is_clock.false) (tree_of c.give_source.new.tape) p q)

pub returns-clause-all : goal.returns-clause-all
returns-clause-all c = λ ms top n flat h free clock.
    let f = c.args.flat.now in
    let base = c.base_at-base.result in
    let is : c.args.number ≡ c.base_at-base.result + (c.args.number - c.base_at-base.result) = omega arith in
    let t = c.in-Some-table_at.table.now in
    let spot = at_spot ms top f flat t c.in-Some.instance base (c.args.number - c.base_at-base.result) c.args.number n h c.in-Some.ensures c.in-Some-table_at.ensures c.base_at-base.ensures is in
    c.in_ok-pair.ensures.all (free_source ms top f flat t (record { instance = c.in-Some.instance; base = c.base_at-base.result }) (c.args.number - c.base_at-base.result) n spot c.in-Some-name_at.d.now c.in-Some-name_at.ensures free clock c.source_at-source.result c.source_at-source.ensures)
