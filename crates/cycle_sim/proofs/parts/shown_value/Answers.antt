use Rattle.std.proofs.Common.{◌≡◌, ◌*◌, ◌+◌, ◌^◌, ◌<◌, ◌≤◌, ℕ, List, Some, length, sym, ap, subst, ◌∙◌}
use Rattle.std.specs.Prelude.{slice_get}
use Rattle.vlog_tree.specs.declared.table.Declaration.{Declaration}
use Rattle.tapa_base.proofs.Lists.{got_index}
use Rattle.sim_tape.specs.declared.gates.Pair.{Pair}
use Rattle.sim_tape.specs.Tape.{number_at, pair_value}
use Rattle.cycle_sim.specs.Sims.{InRuns}
use Rattle.cycle_sim.specs.ShownNets.{shown_nets}
use Rattle.cycle_sim.specs.Wholes.{sim_tree}
use Rattle.cycle_sim.proofs.Showing.{shown_told, shown_fits, none_shown}
use Rattle.cycle_sim.proofs.parts.shown_value.Goals as goal

-- a number that is joined of two slots is that of their pair
joined : (result low high : ℕ) (ms ns ks : List ℕ) (q : Pair) → result ≡ high * 2 ^ 64 + low → low ≡ number_at ms q.low → high ≡ number_at ks q.high → ms ≡ ns → ks ≡ ns → result ≡ pair_value ns q
joined result low high ms ns ks q is l h same also =
    is ∙ ap (λ z. z * 2 ^ 64 + low) (h ∙ ap (λ m. number_at m q.high) also) ∙ ap (λ z. number_at ns q.high * 2 ^ 64 + z) (l ∙ ap (λ m. number_at m q.low) same)

pub returns-in-Some-clause-told : goal.returns-in-Some-clause-told
returns-in-Some-clause-told c = λ m d top at.
    let p = c.args.parts.now in
    let q : Pair = c.in-Some.pair.now in
    let got = subst (λ l. slice_get l c.args.place ≡ Some q) c.deref.ensures.value (got_index c.deref.result.now c.args.place q c.in-Some.ensures.lookup.3.0 c.in-Some.ensures.lookup.1) in
    joined c.join.result c.number.result c.number-in-Some.result c.deref-in-Some.result.now c.args.state.now.numbers.items c.deref-in-Some-2.result.now q c.join.ensures c.number.ensures c.number-in-Some.ensures c.deref-in-Some.ensures.value c.deref-in-Some-2.ensures.value
    ∙ shown_told p c.args.state.now c.requires c.args.place q got m d top at

pub returns-in-Some-clause-fits : goal.returns-in-Some-clause-fits
returns-in-Some-clause-fits c =
    let p = c.args.parts.now in
    let q : Pair = c.in-Some.pair.now in
    let got = subst (λ l. slice_get l c.args.place ≡ Some q) c.deref.ensures.value (got_index c.deref.result.now c.args.place q c.in-Some.ensures.lookup.3.0 c.in-Some.ensures.lookup.1) in
    let value = joined c.join.result c.number.result c.number-in-Some.result c.deref-in-Some.result.now c.args.state.now.numbers.items c.deref-in-Some-2.result.now q c.join.ensures c.number.ensures c.number-in-Some.ensures c.deref-in-Some.ensures.value c.deref-in-Some-2.ensures.value in
    subst (λ (v : ℕ). InRuns (sim_tree p c.args.state.now) (λ m env nets. (d : Declaration) → slice_get (shown_nets m) c.args.place ≡ Some d → v < 2 ^ d.bits)) (sym value) (shown_fits p c.args.state.now c.requires c.args.place q got)

pub returns-in-None-clause-told : goal.returns-in-None-clause-told
returns-in-None-clause-told c = λ m d top at. absurd (none_shown c.args.parts.now c.args.state.now c.requires c.args.place (subst (λ l. length l ≤ c.args.place) c.deref.ensures.value c.in-None.ensures.lookup.3) m d top at)

pub returns-in-None-clause-fits : goal.returns-in-None-clause-fits
returns-in-None-clause-fits c = λ m env nets top f ready r told d at. absurd (none_shown c.args.parts.now c.args.state.now c.requires c.args.place (subst (λ l. length l ≤ c.args.place) c.deref.ensures.value c.in-None.ensures.lookup.3) m d top at)
