use Rattle.command_plan.proofs.plan_text.lines_with.Goals as goal

pub returns : goal.returns
returns c = record {
  latencies = c.args.border.now;
  borders = c.requires.borders;
  balance = c.in_ok-balance.balance;
  best = c.in_ok-balance.ensures;
  told = c.in_ok-lines.ensures;
}
