use Rattle.std.proofs.Common.{IfOk, IfErr, sym, subst}
use Rattle.tapa_words.specs.declared.command.PlanMode.{PlanMode}
use Rattle.tapa_words.specs.declared.command.PlanMode.TheVariants.{Exact, Fit, Split}
use Rattle.command_answers.specs.Meaning.{end_at}
use Rattle.command_answers.specs.Steps.{Fails}
use Rattle.command_plan.specs.Planned.{IsFound, IsUnplanned}
use Rattle.command_plan.proofs.planning.planned.Goals as goal

pub returns-in-Exact-clause-found : goal.returns-in-Exact-clause-found
returns-in-Exact-clause-found c =
    subst (λ (mode : PlanMode). IfOk c.planned_by.result (λ found. IsFound c.args.graph.now c.args.device.now mode found)) (sym c.in-Exact.is) (c.planned_by.ensures.found Exact (λ slots h. h))

pub returns-in-Exact-clause-refused : goal.returns-in-Exact-clause-refused
returns-in-Exact-clause-refused c =
    subst (λ (mode : PlanMode). IfErr c.planned_by.result (λ refusal. Fails (IsUnplanned c.args.graph.now c.args.device.now mode) (end_at refusal))) (sym c.in-Exact.is) (c.planned_by.ensures.refused Exact (λ fault h. h))

pub returns-in-Fit-clause-found : goal.returns-in-Fit-clause-found
returns-in-Fit-clause-found c =
    subst (λ (mode : PlanMode). IfOk c.planned_by-in-Fit.result (λ found. IsFound c.args.graph.now c.args.device.now mode found)) (sym c.in-Fit.is) (c.planned_by-in-Fit.ensures.found Fit (λ slots h. h))

pub returns-in-Fit-clause-refused : goal.returns-in-Fit-clause-refused
returns-in-Fit-clause-refused c =
    subst (λ (mode : PlanMode). IfErr c.planned_by-in-Fit.result (λ refusal. Fails (IsUnplanned c.args.graph.now c.args.device.now mode) (end_at refusal))) (sym c.in-Fit.is) (c.planned_by-in-Fit.ensures.refused Fit (λ fault h. h))

pub returns-in-Ok-clause-found : goal.returns-in-Ok-clause-found
returns-in-Ok-clause-found c =
    subst (λ (mode : PlanMode). IsFound c.args.graph.now c.args.device.now mode c.in-Ok.found) (sym c.in-Split.is) (record {
      fits = c.in-Ok.ensures.plan;
      by = c.in-Ok.ensures.halving;
      used = c.in-Ok.ensures.used;
      cost = c.in-Ok.ensures.cost;
    })

pub returns-in-Err-clause-refused : goal.returns-in-Err-clause-refused
returns-in-Err-clause-refused c =
    subst (λ (mode : PlanMode). Fails (IsUnplanned c.args.graph.now c.args.device.now mode) (end_at c.refusal_of_split.result)) (sym c.in-Split.is) (c.refusal_of_split.ensures c.args.graph.now c.args.device.now c.in-Err.ensures.cause)
