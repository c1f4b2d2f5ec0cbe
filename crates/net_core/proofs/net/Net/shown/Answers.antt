use Rattle.std.proofs.Common.{◌≡◌, ◌<◌, ℕ, length, take, true, false, refl, sym, ap, ◌∙◌, subst, arith}
use Rattle.std.specs.Prelude.{slice_index}
use Rattle.std.proofs.lemmas.Option.{slice_get_read, get_or_from_slice_get}
use Rattle.tapa_syntax.specs.declared.program.Program.{Program}
use Rattle.kahn_model.specs.Network.{IsNetwork}
use Rattle.kahn_model.specs.Counts.{taken, IsReachable}
use Rattle.net_core.specs.declared.net_state.NetState.{NetState}
use Rattle.net_core.specs.Bindings.{producer_of, consumer_of}
use Rattle.net_core.specs.State.{network, count}
use Rattle.net_core.proofs.Shown.{taken_front, shown_taken}
use Rattle.net_core.proofs.net.Net.shown.Given.{Over}
use Rattle.net_core.proofs.net.Net.shown.Goals.{After-index}
use Rattle.net_core.proofs.net.Net.shown.Goals as goal

-- how many tokens were taken, and which
module _ (g : Over) (c : After-index g) where
  many : c.index.result.now ≡ length (taken (network c.args.self.now) (count c.args.self.now) c.args.stream)
  many =
      let I = c.self.inside in
      let v = c.self.invariant in
      let took = subst (λ (z : NetState). (q : ℕ) → q < length z.program.streams.items → slice_index I.streams.taken.items q ≡ length (taken (network z) (count z) q)) c.self.view_is v.took in
      let inside : c.args.stream < length I.streams.taken.items = let a = v.taken_len in let b = ap (λ (z : NetState). length z.program.streams.items) c.self.view_is in let r = c.requires in omega arith in
      sym (get_or_from_slice_get I.streams.taken.items c.args.stream c.index.result.now 0 (slice_get_read I.streams.taken.items _ c.args.stream c.index.result.now refl inside c.index.ensures)) ∙ took c.args.stream c.requires

  front : take c.index.result.now c.carried-2.result.now ≡ taken (network c.args.self.now) (count c.args.self.now) c.args.stream
  front =
      let ok : IsNetwork (network c.args.self.now) = subst (λ (z : NetState). IsNetwork (network z)) c.self.view_is c.self.invariant.network.is_network in
      let reached : IsReachable (network c.args.self.now) (count c.args.self.now) = subst (λ (z : NetState). IsReachable (network z) (count z)) c.self.view_is c.self.invariant.reachable in
      ap (take c.index.result.now) c.carried-2.ensures ∙ taken_front (network c.args.self.now) ok (count c.args.self.now) reached c.args.stream c.index.result.now many

pub slice_bounds-result-end-2 : goal.slice_bounds-result-end-2
slice_bounds-result-end-2 g c = let k = (goal.at.slice_bounds-result-end-2 g c).After-index in many g k ∙ sym (ap length (front g k))

pub returns : goal.returns
returns g c =
    let now = c.args.self.now in
    let s = c.args.stream in
    let writer : c.producer.result ≡ producer_of now.program s = c.producer.ensures.is ∙ ap (λ (p : Program). producer_of p s) (c.deref.ensures ∙ ap (λ (z : NetState). z.program) c.self.view_is) in
    let reader : c.consumer.result ≡ consumer_of now.program s = c.consumer.ensures.is ∙ ap (λ (p : Program). consumer_of p s) (c.deref-2.ensures ∙ ap (λ (z : NetState). z.program) c.self.view_is) in
    let one : (network now).detached (producer_of now.program s) ≡ true = ap (network now).detached (sym writer) ∙ sym c.is_detached.ensures ∙ c.if-not-is_detached.false in
    let two : (network now).detached (consumer_of now.program s) ≡ false = ap (network now).detached (sym reader) ∙ sym c.is_detached-2.ensures ∙ c.if-is_detached.false in
    front g (goal.at.returns g c).After-index ∙ shown_taken now.program now.input (count now) s one two
