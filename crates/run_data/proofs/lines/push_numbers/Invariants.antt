use Rattle.std.proofs.Common.{◌≡◌, ◌++◌, drop}
use Rattle.run_data.specs.Report.{numbers_text}
use Rattle.run_data.proofs.lines.push_numbers.Given as goal

abbrev pub invariant-loop-number : goal.invariant-loop-number
invariant-loop-number l = l.line.items ++ numbers_text (drop l.number-index l.numbers) ≡ l.fn.line.items ++ numbers_text l.numbers
