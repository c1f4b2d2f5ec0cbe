use Rattle.std.proofs.Common.{map, ap, ◌∙◌, sym}
use Rattle.tapa_syntax.specs.Flat.{flat_statement, in_row}
use Rattle.tapa_syntax.specs.TickPlaces as ticks
use Rattle.tapa_syntax.specs.TickPlaces.{capped}
use Rattle.tapa_syntax.proofs.Rows.{flat-If, flat-Loop}
use Rattle.tapa_syntax.proofs.Sums.{places_end}
use Rattle.tapa_syntax.proofs.tick_places.+places.Goals as goal

pub places-returns-in-If : goal.places-returns-in-If
places-returns-in-If t c =
    c.with_test.ensures (ticks.places_in (in_row (map flat_statement c.in-If.left.items))) (ticks.places_in (in_row (map flat_statement c.in-If.right.items)))
    (c.places_in.ensures ∙ ap (λ xs. capped (ticks.places_in (in_row (map flat_statement xs)))) c.deref.ensures.value)
    (c.places_in-in-If.ensures ∙ ap (λ xs. capped (ticks.places_in (in_row (map flat_statement xs)))) c.deref-in-If.ensures.value)
    ∙ ap (λ s. capped (ticks.places s)) (sym (flat-If c.in-If.test c.in-If.left c.in-If.right))
    ∙ ap (λ s. capped (ticks.places (flat_statement s))) (sym c.in-If.is)

pub places-returns-in-Loop : goal.places-returns-in-Loop
places-returns-in-Loop t c =
    c.with_test-in-Loop.ensures (ticks.places_in (in_row (map flat_statement c.in-Loop.body.items))) (ticks.places_in (in_row (map flat_statement c.in-Loop.step.items)))
    (c.places_in-in-Loop.ensures ∙ ap (λ xs. capped (ticks.places_in (in_row (map flat_statement xs)))) c.deref-in-Loop.ensures.value)
    (c.places_in-in-Loop-2.ensures ∙ ap (λ xs. capped (ticks.places_in (in_row (map flat_statement xs)))) c.deref-in-Loop-2.ensures.value)
    ∙ ap (λ s. capped (ticks.places s)) (sym (flat-Loop c.in-Loop.test c.in-Loop.body c.in-Loop.step))
    ∙ ap (λ s. capped (ticks.places (flat_statement s))) (sym c.in-Loop.is)

pub places_in-returns : goal.places_in-returns
places_in-returns t c = places_end c.loop-statement.statement-index c.args.code.now c.loop-statement.sum _ c.loop-statement.invariant.0 c.loop-statement.invariant.1 c.loop-statement-test.false
