use Rattle.std.proofs.Common.{◌≡◌, ◌<◌, ◌++◌, ℕ, List, length, take, get_or, sym, ap, ◌∙◌, arith}
use Rattle.std.proofs.Math.Seq.{take-length}
use Rattle.vcd_text.specs.declared.dump.Change.{Change}
use Rattle.vcd_text.specs.NetLines.{line_of, lines_of}
use Rattle.vcd_text.proofs.NetChanges.{net_lines, more_lines}
use Rattle.vcd_text.proofs.net_lines.net_text.Goals as goal

pub loop-i-init : goal.loop-i-init
loop-i-init c = c.new-text.ensures.items

pub loop-i-preserved : goal.loop-i-preserved
loop-i-preserved c =
    let i = c.loop-i.i in
    let k = c.args.net in
    let xs : List Change = c.args.changes.now in
    let low : i < length xs = omega (arith, c.loop-i-test.true) in
    let none : Change = record { cycle = 0; net = 0; value = 0 } in
    c.in_ok-push_if.ensures ∙ ap (λ (l : List ℕ). l ++ line_of k (get_or xs i none)) c.loop-i.invariant ∙ sym (more_lines k xs i none low)

pub returns-clause-lines : goal.returns-clause-lines
returns-clause-lines c =
    let stop : c.loop-i.i ≡ length c.args.changes.now = omega (arith, c.loop-i-test.false) in
    c.loop-i.invariant ∙ ap (λ (n : ℕ). lines_of c.args.net (take n c.args.changes.now)) stop ∙ ap (λ (l : List Change). lines_of c.args.net l) (take-length c.args.changes.now)

pub returns-clause-values : goal.returns-clause-values
returns-clause-values c = λ nets values last are low.
    let stop : c.loop-i.i ≡ length c.args.changes.now = omega (arith, c.loop-i-test.false) in
    c.loop-i.invariant ∙ ap (λ (n : ℕ). lines_of c.args.net (take n c.args.changes.now)) stop ∙ ap (λ (l : List Change). lines_of c.args.net l) (take-length c.args.changes.now ∙ are) ∙ net_lines nets values last c.args.net low
