use Rattle.std.proofs.Common.{◌≡◌, ◌<◌, ◌++◌, ℕ, List, length, take, sym, ap, ◌∙◌, append-nil, arith}
use Rattle.std.proofs.Math.Seq.{take-length}
use Rattle.vlog_tree.specs.declared.table.Declaration.{Declaration}
use Rattle.vcd_text.specs.Dump.{var_line, lines_from}
use Rattle.sim_output.specs.Dumped.{widths_of}
use Rattle.sim_output.proofs.Heading.{nets_among, more_widths, more_lines}
use Rattle.sim_output.proofs.dump_head.push_nets.Goals as goal

pub loop-i-init : goal.loop-i-init
loop-i-init c = (sym (append-nil c.args.text.now.items), c.new-widths.ensures.items)

pub loop-i-preserved : goal.loop-i-preserved
loop-i-preserved c =
    let i = c.loop-i.i in
    let names = c.args.names.now in
    let d = c.index-names-i.result in
    let low : i < length names = omega (arith, c.loop-i-test.true) in (
      more_lines names i d low c.index-names-i.is c.args.text.now.items c.loop-i.text.items c.push_net.new.text.items c.loop-i.widths.items c.loop-i.invariant.1 c.loop-i.invariant.0 c.in_ok-push_net.ensures.text,
      more_widths names i d low c.index-names-i.is c.loop-i.widths.items c.push_net.new.widths.items c.loop-i.invariant.1 c.in_ok-push_net.ensures.widths,
    )

pub returns-clause-text : goal.returns-clause-text
returns-clause-text c =
    let names = c.args.names.now in
    let stop : c.loop-i.i ≡ length names = omega (arith, c.loop-i-test.false) in
    c.loop-i.invariant.0 ∙ ap (λ (n : ℕ). c.args.text.now.items ++ lines_from var_line 0 (nets_among (take n names))) stop ∙ ap (λ (l : List Declaration). c.args.text.now.items ++ lines_from var_line 0 (nets_among l)) (take-length names)

pub returns-clause-widths : goal.returns-clause-widths
returns-clause-widths c =
    let names = c.args.names.now in
    let stop : c.loop-i.i ≡ length names = omega (arith, c.loop-i-test.false) in
    c.loop-i.invariant.1 ∙ ap (λ (n : ℕ). widths_of (nets_among (take n names))) stop ∙ ap (λ (l : List Declaration). widths_of (nets_among l)) (take-length names)
