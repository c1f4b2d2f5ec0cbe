use Rattle.std.proofs.Common.{◌≡◌, ◌+◌, ◌-◌, length, take, drop, replicate, ap, sym, subst, ◌∙◌, add-one, length-set, arith, rules}
use Rattle.std.proofs.lemmas.List.{length-replicate}
use Rattle.stream_arrays.specs.Forms.{inside_size}
use Rattle.stream_arrays.specs.Reading.{AreClosings}
use Rattle.stream_arrays.proofs.Closings.{blank, table_behind, blank_at, one_told, tail_is, told_here}
use Rattle.stream_arrays.proofs.closing.closings.Goals as goal

pub loop-at-init : goal.loop-at-init
loop-at-init c =
    let ls = c.args.lexemes.now in
    let e : c.in_ok-table.table.items ≡ replicate (length ls + 1) blank = c.in_ok-table.ensures.items_if_clones_equal (λ y e. search rules) in
    record { size = ap length e ∙ length-replicate (length ls + 1) blank ∙ add-one (length ls); within = omega arith; known = blank_at c.args.text.now ls c.in_ok-table.table.items e }

pub closing_at-requires-clause-closings : goal.closing_at-requires-clause-closings
closing_at-requires-clause-closings c =
    let ls = c.args.lexemes.now in
    let table = c.deref.result.now in
    let k = c.loop-at.at - 1 + 1 in
    let h : AreClosings c.args.text.now (drop k ls) (drop k c.loop-at.table.items) =
    table_behind c.args.text.now ls c.loop-at.table.items k c.loop-at.invariant.size (omega arith) (λ i a b. c.loop-at.invariant.known i (omega arith) b) in
    let g : AreClosings c.args.text.now (drop k ls) (drop k table) = subst (λ t. AreClosings c.args.text.now (drop k ls) (drop k t)) (sym c.deref.ensures.value) h in
    subst (λ z. AreClosings c.args.text.now z (take (length table - k) (drop k table))) (sym (tail_is k ls)) (subst (λ z. AreClosings c.args.text.now (drop k ls) z) (sym (tail_is k table)) g)

pub loop-at-preserved : goal.loop-at-preserved
loop-at-preserved c =
    let ls = c.args.lexemes.now in
    let at = c.loop-at.at - 1 in
    let v : c.closing_at.result ≡ inside_size c.args.text.now 0 (drop at ls) = told_here c.args.text.now ls at _ c.closing_at.result (omega arith) c.closing_at.ensures in
    record {
      size = length-set c.loop-at.table.items at c.closing_at.result ∙ c.loop-at.invariant.size;
      within = omega arith;
      known = one_told c.args.text.now ls c.loop-at.table.items at c.closing_at.result (omega arith) c.loop-at.invariant.size (λ i a b. c.loop-at.invariant.known i (omega arith) b) v;
    }
