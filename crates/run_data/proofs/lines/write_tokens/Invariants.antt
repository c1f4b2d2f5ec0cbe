use Rattle.std.proofs.Common.{◌≡◌, ◌*◌, ◌≤◌, length, drop}
use Rattle.run_data.specs.Report.{tokens_text}
use Rattle.run_data.proofs.lines.write_tokens.Given as goal

abbrev pub invariant-back : goal.invariant-back
invariant-back l = record {
  room : l.left * 21 ≤ l.at;
  end : l.at ≤ 1344;
  within : l.left ≤ length l.tokens;
  text : drop l.at l.buffer ≡ tokens_text (drop l.left l.tokens);
}

abbrev pub decreases-back : goal.decreases-back
decreases-back l = l.left
