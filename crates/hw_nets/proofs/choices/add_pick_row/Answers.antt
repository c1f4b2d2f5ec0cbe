use Rattle.std.proofs.Common.{◌+◌, ◌<◌, length, drop, sym, ap, ◌∙◌, arith}
use Rattle.hw_build.specs.Elements.{Wire, with, with_all}
use Rattle.hw_build.specs.Trees.{numbered}
use Rattle.hw_build.specs.Choices.{row_of, pick_driver}
use Rattle.hw_nets.specs.Entries.{entry_form, entry_forms}
use Rattle.hw_nets.proofs.Rows.{row_next, row_end}
use Rattle.hw_nets.proofs.choices.add_pick_row.Goals as goal

pub loop-j-preserved : goal.loop-j-preserved
loop-j-preserved c =
    let x = c.index-entries-j.result in
    let j = c.loop-j.j in
    let width = c.args.width in
    let front = c.args.front.now in
    let entries = c.args.entries.now in
    let below : j < length entries = omega arith in
    let grown = c.in_ok-add_pick_net.ensures ∙ ap (λ i. with c.loop-j.draft (Wire width (numbered front i) (pick_driver front i (entry_form x)))) c.in_ok-narrow.ensures in
    ap (λ m. with_all m (row_of width front (pick_driver front) (j + 1) (entry_forms (drop (j + 1) entries)))) grown ∙ sym (row_next width front (pick_driver front) entries j x c.loop-j.draft below c.index-entries-j.is)
    ∙ c.loop-j.invariant

pub returns : goal.returns
returns c = sym (row_end c.args.width c.args.front.now (pick_driver c.args.front.now) c.args.entries.now c.loop-j.j c.loop-j.draft c.loop-j-test.false) ∙ c.loop-j.invariant
