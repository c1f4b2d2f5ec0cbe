use Rattle.std.proofs.Common.{◌≡◌, ◌+◌, ◌<◌, ◌++◌, ◌∷◌, [], length, sym, ap, subst, ◌∙◌, arith}
use Rattle.std.specs.Prelude.{slice_get}
use Rattle.std.proofs.lemmas.List.{length_push}
use Rattle.std.proofs.lemmas.Option.{same_Some, slice_get_within}
use Rattle.tapa_base.specs.declared.shape.Port.{Port}
use Rattle.tapa_base.specs.Lists.{Has}
use Rattle.tapa_base.proofs.Lists.{has_got, got_index}
use Rattle.vlog_tree.specs.Environment.{streams_of}
use Rattle.cycle_sim.specs.declared.parts.Stream.{Stream}
use Rattle.cycle_sim.specs.Wholes.{IsStream}
use Rattle.cycle_sim.proofs.Growing.{EachBelow, each_more}
use Rattle.cycle_sim.proofs.around.all_streams.Goals as goal

pub loop-i-preserved : goal.loop-i-preserved
loop-i-preserved c =
    let i = c.loop-i.i in
    let pairs = c.args.pairs.now in
    let labels = c.args.ports.now in
    let low : i < length labels = omega (arith, c.loop-i-test.true) in
    let at = got_index labels i c.index-ports-i.result low c.index-ports-i.is in
    let is : c.push.new.self.items ≡ c.loop-i.streams.items ++ c.in_ok-one.one ∷ [] = c.in_ok-push.ensures.items in (
      ap length is ∙ length_push c.loop-i.streams.items c.in_ok-one.one ∙ ap (λ n. n + 1) c.loop-i.invariant.0,
      λ ms top f t here are.
          subst (λ l. EachBelow (λ (k : Port) (o : Stream). IsStream ms f pairs k o) (streams_of top) l (i + 1)) (sym is)
          (each_more (λ (k : Port) (o : Stream). IsStream ms f pairs k o) (streams_of top) c.loop-i.streams.items c.in_ok-one.one i c.loop-i.invariant.0 (c.loop-i.invariant.1 ms top f t here are)
          (λ k got.
          let same = same_Some _ k (sym at ∙ ap (λ ls. slice_get ls i) are ∙ got) in
          let has = has_got (streams_of top) i k got in
          subst (λ (z : Port). IsStream ms f pairs z c.in_ok-one.one) same (c.in_ok-one.ensures ms top f t here (subst (λ (z : Port). Has (streams_of top) z) (sym same) has)))),
    )

pub returns : goal.returns
returns c = λ ms top f t here are.
    let labels = c.args.ports.now in
    let stop : c.loop-i.i ≡ length labels = omega (arith, c.loop-i-test.false) in
    record {
      count = c.loop-i.invariant.0 ∙ stop ∙ ap length are;
      each = λ i l got.
          let low : i < length labels = subst (λ ls. i < length ls) (sym are) (slice_get_within (streams_of top) i l got) in
          c.loop-i.invariant.1 ms top f t here are i l (omega arith) got;
    }
