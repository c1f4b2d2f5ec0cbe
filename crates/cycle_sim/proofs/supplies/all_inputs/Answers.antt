use Rattle.std.proofs.Common.{◌≡◌, ◌<◌, ◌+◌, ◌++◌, Some, length, sym, ap, subst, ◌∙◌, arith}
use Rattle.std.specs.Prelude.{slice_get}
use Rattle.std.specs.Option.{option_to_list}
use Rattle.std.proofs.lemmas.Option.{same_Some}
use Rattle.vlog_tree.specs.declared.table.Declaration.{Declaration}
use Rattle.vlog_tree.specs.Labels.{rdata_of}
use Rattle.tapa_base.proofs.Lists.{got_index}
use Rattle.cycle_sim.proofs.Supplying.{InputsBelow, no_inputs, more_inputs, all_inputs}
use Rattle.cycle_sim.proofs.supplies.all_inputs.Goals as goal

pub loop-place-init : goal.loop-place-init
loop-place-init c = λ ms top f t here are and. subst (λ l. InputsBelow ms top f c.args.pairs.now c.args.scalars.now 0 l) (sym c.new-inputs.ensures.items) (no_inputs ms top f c.args.pairs.now c.args.scalars.now)

pub loop-place-preserved : goal.loop-place-preserved
loop-place-preserved c = λ ms top f t here are and.
    let place = c.loop-place.place in
    let pairs = c.args.pairs.now in
    let scalars = c.args.scalars.now in
    let names = c.args.scope.now in
    let listed = c.declarations-names.ensures in
    let low : place < length c.declarations-names.result.now = omega (arith, c.loop-place-test.true) in
    let at : slice_get names place ≡ Some c.index-names-place.result = ap (λ ds. slice_get ds place) (sym listed) ∙ got_index c.declarations-names.result.now place c.index-names-place.result low c.index-names-place.is in
    let is : c.add_input.new.inputs.items ≡ c.loop-place.inputs.items ++ option_to_list c.input_at-input.result = c.in_ok-add_input.ensures in
    subst (λ l. InputsBelow ms top f pairs scalars (place + 1) l) (sym is)
    (more_inputs ms top f pairs t names here scalars place c.loop-place.inputs.items (c.loop-place.invariant ms top f t here are and) c.input_at-input.result (c.input_at-input.ensures.is ms top f t names here are and at)
    (λ p d got e input silent.
    let same = same_Some d _ (sym got ∙ at) in
    c.input_at-input.ensures.all ms top f t names p here are and at e (ap (λ (z : Declaration). z.net_kind) (sym same) ∙ input) (ap (λ (z : Declaration). rdata_of z.name) (sym same) ∙ silent)))

pub returns : goal.returns
returns c = λ ms top f t here are and.
    let names = c.args.scope.now in
    let stop : c.loop-place.place ≡ length names = (let e : c.loop-place.place ≡ length c.declarations-names.result.now = omega (arith, c.loop-place-test.false) in e ∙ ap length c.declarations-names.ensures) in
    all_inputs ms top f c.args.pairs.now t names here c.args.scalars.now c.loop-place.inputs.items
    (subst (λ n. InputsBelow ms top f c.args.pairs.now c.args.scalars.now n c.loop-place.inputs.items) stop (c.loop-place.invariant ms top f t here are and))
