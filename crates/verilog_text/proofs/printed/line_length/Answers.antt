use Rattle.std.proofs.Common.{◌≡◌, ◌<◌, ◌≤◌, get_or, length, arith}
use Rattle.std.proofs.lemmas.List.{get_or_default}
use Rattle.verilog_text.proofs.Lines.{goes_on, last_line}
use Rattle.verilog_text.proofs.printed.line_length.Goals as goal

pub loop-at-preserved : goal.loop-at-preserved
loop-at-preserved c =
    let text = c.args.text.now in
    let at = c.loop-at.at in
    let low : at < length text = c.loop-at-test.true in
    let byte = get_or text at 0 in
    let same : byte ≡ get_or text at byte = get_or_default text at 0 byte low in
    let other : byte ≡ 10 → ⊥ = c.if-text-at-eq10.false in
    goes_on text at c.loop-at.invariant byte low same other

pub returns-clause-line : goal.returns-clause-line
returns-clause-line c =
    let over : length c.args.text.now ≤ c.loop-at.at = omega (arith, c.loop-at-test.false) in
    last_line c.args.text.now c.loop-at.at c.loop-at.invariant over (length c.args.text.now) (omega arith)
