use Rattle.std.proofs.Common.{refl, subst}
use Rattle.slot_split.specs.Causes.{IsSplitCause}
use Rattle.slot_split.specs.declared.planning.SplitFault.{SplitFault}
use Rattle.command_plan.proofs.planning.refusal_of_split.Goals as goal

pub returns-in-TooMany : goal.returns-in-TooMany
returns-in-TooMany c = λ graph device h. (refl, subst (λ (f : SplitFault). IsSplitCause graph device f) c.in-TooMany.is h)

pub returns-in-NoSplit : goal.returns-in-NoSplit
returns-in-NoSplit c = λ graph device h. subst (λ (f : SplitFault). IsSplitCause graph device f) c.in-NoSplit.is h
