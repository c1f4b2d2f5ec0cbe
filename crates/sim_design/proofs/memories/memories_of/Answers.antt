use Rattle.std.proofs.Common.{◌≡◌, ◌+◌, ◌++◌, ◌∷◌, [], length, sym, subst, ap, ◌∙◌, arith}
use Rattle.std.proofs.lemmas.List.{length_push}
use Rattle.sim_design.specs.Memories.{AreNumbersBelow, declaration_at, number_for}
use Rattle.sim_design.proofs.Numbering.{empty_below, below_more, are_memories}
use Rattle.sim_design.proofs.memories.memories_of.Goals as goal

pub loop-number-init : goal.loop-number-init
loop-number-init c = record { count = ap length c.new.ensures.items; below = empty_below c.args.flat.now c.args.outside _ _ c.new.ensures.items c.new-2.ensures.items }

pub loop-number-preserved : goal.loop-number-preserved
loop-number-preserved c =
    let i = c.loop-number.invariant in
    let e = c.in_ok-add_name.ensures in
    let f = c.args.flat.now in
    let numbers = c.loop-number.all.numbers.items in
    let widths = c.loop-number.all.widths.items in
    let d = declaration_at f c.loop-number.number in
    record {
      count = ap length e.numbers ∙ length_push numbers (number_for c.args.outside (length widths) d) ∙ ap (λ n. n + 1) i.count;
      below =
          subst (λ l. AreNumbersBelow f c.args.outside l c.add_name.new.all.widths.items) (sym e.numbers)
          (subst (λ l. AreNumbersBelow f c.args.outside (numbers ++ number_for c.args.outside (length widths) d ∷ []) l) (sym e.widths)
          (below_more f c.args.outside numbers widths d (ap (declaration_at f) i.count) i.below));
    }

pub returns : goal.returns
returns c = λ ms top flat out.
    are_memories ms top c.args.flat.now flat c.args.outside c.loop-number.all.numbers.items c.loop-number.all.widths.items out (let stop : c.loop-number.number ≡ length c.args.flat.now.owners.items = omega arith in c.loop-number.invariant.count ∙ stop) c.loop-number.invariant.below
