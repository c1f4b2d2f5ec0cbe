use Rattle.std.proofs.Common.{◌≡◌, ◌<◌, length, get_or, sym, subst}
use Rattle.tapa_base.specs.Lists.{Has}
use Rattle.number_graph.proofs.Numbers.{at_has}
use Rattle.number_graph.proofs.Marking.{grows_both, kept, taken_of}
use Rattle.number_graph.proofs.reach.mark_all.Goals as goal

pub mark-requires-clause-low : goal.mark-requires-clause-low
mark-requires-clause-low c =
    let i = c.loop-number.number-index in
    let numbers = c.args.numbers.now in
    subst (λ n. get_or numbers i 0 < n) (sym c.loop-number.invariant.grows.len) (c.requires.low (get_or numbers i 0) (at_has numbers i c.loop-number-test.true))

pub returns-in_err-mark-clause-grows : goal.returns-in_err-mark-clause-grows
returns-in_err-mark-clause-grows c =
    let i = c.loop-number.number-index in
    let numbers = c.args.numbers.now in
    let at = at_has numbers i c.loop-number-test.true in
    grows_both c.args.marks.now.items c.loop-number.marks.items c.mark.new.marks.items c.args.found.now.items c.loop-number.found.items c.mark.new.found.items
    (λ m. Has numbers m) (λ m. m ≡ get_or numbers i 0) (λ m. Has numbers m) (λ m h. h) (λ m e. subst (λ n. Has numbers n) (sym e) at) c.loop-number.invariant.grows c.in_err-mark.ensures.grows

pub loop-number-preserved : goal.loop-number-preserved
loop-number-preserved c =
    let i = c.loop-number.number-index in
    let numbers = c.args.numbers.now in
    let low : i < length numbers = c.loop-number-test.true in
    let at = at_has numbers i low in
    let more = c.in_ok-mark.ensures in
    record {
      grows = grows_both c.args.marks.now.items c.loop-number.marks.items c.mark.new.marks.items c.args.found.now.items c.loop-number.found.items c.mark.new.found.items
          (λ m. Has numbers m) (λ m. m ≡ get_or numbers i 0) (λ m. Has numbers m) (λ m h. h) (λ m e. subst (λ n. Has numbers n) (sym e) at) c.loop-number.invariant.grows more.grows;
      there = λ m h.
          taken_of numbers i (λ n. Has c.mark.new.found.items n) low
          (λ n k. kept c.loop-number.marks.items c.mark.new.marks.items c.loop-number.found.items c.mark.new.found.items (λ m. m ≡ get_or numbers i 0) more.grows n (c.loop-number.invariant.there n k)) more.there m h;
    }
