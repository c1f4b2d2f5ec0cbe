use Rattle.std.proofs.Common.{◌≡◌, ◌<◌, ◌+◌, ◌++◌, ◌∷◌, [], List, Some, length, get_or, take, cond, sym, ap, subst, ◌∙◌, arith}
use Rattle.std.specs.Prelude.{slice_get}
use Rattle.std.specs.Option.{option_to_list}
use Rattle.std.specs.List.{AllZip, filter}
use Rattle.std.proofs.Math.Seq.{take-length}
use Rattle.std.proofs.lemmas.List.Elements.{filter_more}
use Rattle.vlog_tree.specs.declared.table.Declaration.{Declaration}
use Rattle.tapa_base.proofs.Lists.{got_index}
use Rattle.sim_tape.specs.declared.gates.Pair.{Pair}
use Rattle.cycle_sim.specs.Machines.{IsPairOf}
use Rattle.cycle_sim.specs.ShownNets.{is_shown}
use Rattle.cycle_sim.proofs.Showing.{zip_more, shown_pair, shown_all}
use Rattle.cycle_sim.proofs.shown.all_shown.Goals as goal

pub loop-place-init : goal.loop-place-init
loop-place-init c = λ ms top f t here. subst (λ l. AllZip (λ (d : Declaration) p. IsPairOf ms f c.args.pairs.now d.name p) [] l) (sym c.new-shown.ensures.items) tt

pub loop-place-preserved : goal.loop-place-preserved
loop-place-preserved c = λ ms top f t here.
    let place = c.loop-place.place in
    let pairs = c.args.pairs.now in
    let names = c.args.scope.now in
    let d = c.index-names-place.result in
    let listed = c.declarations-names.ensures in
    let low : place < length c.declarations-names.result.now = omega (arith, c.loop-place-test.true) in
    let here_low : place < length names = subst (λ (ds : List Declaration). place < length ds) listed low in
    let same : d ≡ get_or names place d = subst (λ (ds : List Declaration). d ≡ get_or ds place d) listed c.index-names-place.is in
    let at : slice_get names place ≡ Some d = got_index names place d here_low same in
    let R : Declaration → Pair → Type 0 = λ d p. IsPairOf ms f pairs d.name p in
    let more = zip_more R (filter is_shown (take place names)) c.loop-place.shown.items d (is_shown d) c.shown_at.result (c.loop-place.invariant ms top f t here)
    (λ e. (let p = shown_pair ms top f pairs t names here place d at e in (p.0, c.shown_at.ensures.shown e ∙ p.1, p.2)))
    c.shown_at.ensures.other in
    let grown : filter is_shown (take (place + 1) names) ≡ filter is_shown (take place names) ++ cond (is_shown d) (d ∷ []) [] =
    filter_more is_shown names place d here_low ∙ ap (λ z. filter is_shown (take place names) ++ cond (is_shown z) (z ∷ []) []) (sym same) in
    subst (λ l. AllZip R (filter is_shown (take (place + 1) names)) l) (sym c.in_ok-add_pair.ensures) (subst (λ l. AllZip R l (c.loop-place.shown.items ++ option_to_list c.shown_at.result)) (sym grown) more)

pub returns : goal.returns
returns c = λ ms top f t here.
    let names = c.args.scope.now in
    let R : Declaration → Pair → Type 0 = λ d p. IsPairOf ms f c.args.pairs.now d.name p in
    let stop : c.loop-place.place ≡ length names = (let e : c.loop-place.place ≡ length c.declarations-names.result.now = omega (arith, c.loop-place-test.false) in e ∙ ap length c.declarations-names.ensures) in
    let all : take c.loop-place.place names ≡ names = ap (λ n. take n names) stop ∙ take-length names in
    shown_all ms top f c.args.pairs.now t names here c.loop-place.shown.items
    (subst (λ (ds : List Declaration). AllZip R (filter is_shown ds) c.loop-place.shown.items) here.are_names (subst (λ (ds : List Declaration). AllZip R (filter is_shown ds) c.loop-place.shown.items) all (c.loop-place.invariant ms top f t here)))
