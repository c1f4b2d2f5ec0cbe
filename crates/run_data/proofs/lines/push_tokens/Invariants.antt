use Rattle.std.proofs.Common.{◌≡◌, ◌≤◌, ◌-◌, ◌++◌, length, drop}
use Rattle.run_data.specs.Report.{tokens_text}
use Rattle.run_data.proofs.lines.push_tokens.Given as goal

abbrev pub invariant-parts : goal.invariant-parts
invariant-parts l = record {
  within : l.done ≤ length l.tokens;
  text : l.line.items ++ tokens_text (drop l.done l.tokens) ≡ l.fn.line.items ++ tokens_text l.tokens;
}

abbrev pub decreases-parts : goal.decreases-parts
decreases-parts l = length l.tokens - l.done
