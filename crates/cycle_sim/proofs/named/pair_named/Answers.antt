use Rattle.std.proofs.Common.{sym, ap, map, ◌∙◌}
use Rattle.vlog_tree.specs.Table.{declaration_name}
use Rattle.vlog_scope.specs.NameTable.{places_from}
use Rattle.cycle_sim.proofs.Naming.{no_place, no_pair, pair_here}
use Rattle.cycle_sim.proofs.named.pair_named.Goals as goal

pub returns-in_default : goal.returns-in_default
returns-in_default c = λ ms top f t x here is read clock.
    let names = c.args.scope.now in
    let place = c.in_default.ensures ∙ ap (λ y. places_from 0 (map declaration_name names) y) (c.new-text.ensures ∙ is) in
    absurd (no_place ms top f c.args.pairs.now t names here x read (sym place))

pub returns-in_default-pair_of : goal.returns-in_default-pair_of
returns-in_default-pair_of c = λ ms top f t x here is read clock.
    let names = c.args.scope.now in
    let place = c.in-Some.ensures ∙ ap (λ y. places_from 0 (map declaration_name names) y) (c.new-text.ensures ∙ is) in
    absurd (no_pair ms top f c.args.pairs.now t names here x read clock (c.in-Some.place, c.in-Some.field-0-1) (sym place) (sym c.in_default-pair_of.ensures.value))

pub returns : goal.returns
returns c = λ ms top f t x here is read clock.
    let names = c.args.scope.now in
    let place = c.in-Some.ensures ∙ ap (λ y. places_from 0 (map declaration_name names) y) (c.new-text.ensures ∙ is) in
    pair_here ms top f c.args.pairs.now t names here x (c.in-Some.place, c.in-Some.field-0-1) (sym place) c.in-Some-pair_of.pair (sym c.in-Some-pair_of.ensures.value)
