use Rattle.std.proofs.Common.{◌≡◌, ◌<◌, length, get_or, None, sym, subst, ap, ◌∙◌, arith}
use Rattle.std.specs.Prelude.{is_some, IfSome}
use Rattle.sim_design.specs.States.{HasNumbersOf, AreRead, PartsPlaced}
use Rattle.sim_tape.specs.Trees.{tree_of}
use Rattle.sim_design.proofs.Telling.{kept, slots_put, placed_more, same_placed, not_placed, put_some}
use Rattle.sim_flat.proofs.Standing.{number_low}
use Rattle.sim_design.proofs.all.put_net.Goals as goal

pub returns-then-is_placed-clause-more : goal.returns-then-is_placed-clause-more
returns-then-is_placed-clause-more c = λ ms top plan. same_placed ms top c.args.plan.now.flat.now c.args.plan.now.memories.now c.args.pairs.now.items (tree_of c.args.tape.now)

pub returns-then-number-len-clause-more : goal.returns-then-number-len-clause-more
returns-then-number-len-clause-more c = λ ms top plan. same_placed ms top c.args.plan.now.flat.now c.args.plan.now.memories.now c.args.pairs.now.items (tree_of c.args.tape.now)

pub returns-clause-slots : goal.returns-clause-slots
returns-clause-slots c =
    let low : c.args.number < length c.args.pairs.now.items = omega (arith, c.args.pairs.now.ok.0) in
    let none = sym (c.is_placed.ensures ∙ ap (λ l. is_some (get_or l c.args.number None)) c.deref.ensures.value) ∙ c.if-is_placed.false in
    slots_put c.args.pairs.now.items c.args.number c.in_ok-pair.pair low none _ _ c.in_ok-pair.ensures.extends.grows.gates c.requires.slots c.in_ok-pair.ensures.slots

pub returns-clause-kept : goal.returns-clause-kept
returns-clause-kept c =
    let low : c.args.number < length c.args.pairs.now.items = omega (arith, c.args.pairs.now.ok.0) in
    let none = sym (c.is_placed.ensures ∙ ap (λ l. is_some (get_or l c.args.number None)) c.deref.ensures.value) ∙ c.if-is_placed.false in
    kept c.args.pairs.now.items c.args.number c.in_ok-pair.pair low none

pub returns-clause-more : goal.returns-clause-more
returns-clause-more c = λ ms top plan.
    let f = c.args.plan.now.flat.now in
    let memories = c.args.plan.now.memories.now in
    let t = tree_of c.place_net.new.tape in
    let same = c.deref-2.ensures.value in
    let low : c.args.number < length c.args.pairs.now.items = omega (arith, c.args.pairs.now.ok.0) in
    let none = sym (c.is_placed.ensures ∙ ap (λ l. is_some (get_or l c.args.number None)) c.deref.ensures.value) ∙ c.if-is_placed.false in
    placed_more c.args.pairs.now.items c.args.number c.in_ok-pair.pair low none ms top f memories (tree_of c.args.tape.now) t c.in_ok-pair.ensures.extends
    (λ n h count was. subst (λ l. IfSome c.in_ok-pair.pair (λ p. HasNumbersOf ms top f memories l t n p)) same
    (c.in_ok-pair.ensures.told ms top n plan h (subst (λ l. length l ≡ length f.owners.items) (sym same) count) (subst (λ l. AreRead ms top f l) (sym same) was)))
    (λ n m h at. c.in_ok-pair.ensures.read ms top n m plan h at)

pub returns-then-is_placed-clause-all : goal.returns-then-is_placed-clause-all
returns-then-is_placed-clause-all c = λ ms top n plan h r count free placed. sym (c.is_placed.ensures ∙ ap (λ l. is_some (get_or l c.args.number None)) c.deref.ensures.value) ∙ c.if-is_placed.true

pub returns-then-number-len-clause-all : goal.returns-then-number-len-clause-all
returns-then-number-len-clause-all c = λ ms top n plan h r count free placed.
    let low : c.args.number < length c.args.plan.now.flat.now.owners.items = number_low ms top c.args.plan.now.flat.now plan.flat c.args.number n h in
    absurd (omega (arith, low, count, c.args.pairs.now.ok.0))

pub returns-clause-all : goal.returns-clause-all
returns-clause-all c = λ ms top n plan h r count free placed.
    let f = c.args.plan.now.flat.now in
    let same = c.deref-2.ensures.value in
    let low : c.args.number < length c.args.pairs.now.items = omega (arith, c.args.pairs.now.ok.0) in
    let none = sym (c.is_placed.ensures ∙ ap (λ l. is_some (get_or l c.args.number None)) c.deref.ensures.value) ∙ c.if-is_placed.false in
    put_some c.args.pairs.now.items c.args.number c.in_ok-pair.pair low none
    (c.in_ok-pair.ensures.some ms top n plan h (subst (λ l. length l ≡ length f.owners.items) (sym same) count) r
    (λ is. not_placed c.args.pairs.now.items c.args.number c.in_ok-pair.pair low none (free c.args.number n h is r.clock)) (subst (λ l. PartsPlaced ms top f l n) (sym same) placed))
