use Rattle.command_plan.proofs.planning.planned_by.Goals as goal

pub returns-in-Ok-clause-found : goal.returns-in-Ok-clause-found
returns-in-Ok-clause-found c = λ mode kept. record {
  fits = c.in-Ok.ensures.plan;
  by = kept c.in-Ok.found.slot.items c.in-Ok.ensures.by_mode;
  used = c.in-Ok.ensures.used;
  cost = c.in-Ok.ensures.cost;
}

pub returns-in-Err-clause-refused : goal.returns-in-Err-clause-refused
returns-in-Err-clause-refused c = λ mode kept. c.refusal_by.ensures c.args.device.now mode (kept c.in-Err.fault c.in-Err.ensures.cause)
