use Rattle.std.specs.Prelude.{codes}
use Rattle.run_data.specs.Report.{numbers_text}
use Rattle.run_data.proofs.OneLine.{line_is, memory_word, numbers_none}
use Rattle.run_data.proofs.lines.memory_text.Goals as goal

pub returns-clause-line : goal.returns-clause-line
returns-clause-line c = λ h.
    line_is c.push.new.self.items c.push_numbers.new.line.items c.in_ok-line.line.items (codes "memory ") c.args.name.now (numbers_text c.args.cells.now)
    c.in_ok-push.ensures.items c.in_ok-push_numbers.ensures c.in_ok-line.ensures memory_word h (numbers_none c.args.cells.now)
