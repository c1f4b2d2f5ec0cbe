use Rattle.std.proofs.Common.{◌≡◌, ◌+◌, ◌<◌, ◌++◌, ◌∷◌, [], length, sym, ap, subst, ◌∙◌, arith}
use Rattle.std.specs.Prelude.{slice_get}
use Rattle.std.proofs.lemmas.List.{length_push}
use Rattle.std.proofs.lemmas.Option.{same_Some, slice_get-get_or, slice_get_within}
use Rattle.tapa_base.specs.declared.shape.Port.{Port}
use Rattle.tapa_base.proofs.Lists.{has_got}
use Rattle.vlog_tree.specs.Environment.{shape_of}
use Rattle.cycle_sim.specs.declared.cells.Outside.{Outside}
use Rattle.cycle_sim.specs.Machines.{IsOutside}
use Rattle.cycle_sim.proofs.Growing.{EachBelow, each_more}
use Rattle.cycle_sim.proofs.around.all_outside.Goals as goal

pub loop-i-preserved : goal.loop-i-preserved
loop-i-preserved c =
    let i = c.loop-i.i in
    let pairs = c.args.pairs.now in
    let labels = c.args.memories.now in
    let low : i < length labels = omega (arith, c.loop-i-test.true) in
    let at = slice_get-get_or labels i c.index-memories-i.result low in
    let is : c.push.new.self.items ≡ c.loop-i.outside.items ++ c.in_ok-one.one ∷ [] = c.in_ok-push.ensures.items in (
      ap length is ∙ length_push c.loop-i.outside.items c.in_ok-one.one ∙ ap (λ n. n + 1) c.loop-i.invariant.0,
      λ ms top f t here are.
          subst (λ l. EachBelow (λ (k : Port) (o : Outside). IsOutside ms f pairs k.name o) ((shape_of top).memories) l (i + 1)) (sym is)
          (each_more (λ (k : Port) (o : Outside). IsOutside ms f pairs k.name o) (shape_of top).memories c.loop-i.outside.items c.in_ok-one.one i c.loop-i.invariant.0 (c.loop-i.invariant.1 ms top f t here are)
          (λ k got. c.in_ok-one.ensures ms top f t k here (has_got (shape_of top).memories i k got) (ap (λ (z : Port). z.name) (same_Some _ k (sym at ∙ ap (λ ls. slice_get ls i) are ∙ got))))),
    )

pub returns : goal.returns
returns c = λ ms top f t here are.
    let labels = c.args.memories.now in
    let stop : c.loop-i.i ≡ length labels = omega (arith, c.loop-i-test.false) in
    record {
      count = c.loop-i.invariant.0 ∙ stop ∙ ap length are;
      each = λ i l got.
          let low : i < length labels = subst (λ ls. i < length ls) (sym are) (slice_get_within (shape_of top).memories i l got) in
          c.loop-i.invariant.1 ms top f t here are i l (omega arith) got;
    }
