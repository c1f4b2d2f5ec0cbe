use Rattle.std.specs.Prelude.{codes}
use Rattle.run_data.specs.Report.{tokens_text}
use Rattle.run_data.proofs.OneLine.{line_is, stream_word, tokens_none}
use Rattle.run_data.proofs.lines.stream_text.Goals as goal

pub returns-clause-line : goal.returns-clause-line
returns-clause-line c = λ h.
    line_is c.push.new.self.items c.push_tokens.new.line.items c.in_ok-line.line.items (codes "stream ") c.args.label.now (tokens_text c.args.tokens.now)
    c.in_ok-push.ensures.items c.in_ok-push_tokens.ensures c.in_ok-line.ensures stream_word h (tokens_none c.args.tokens.now)
