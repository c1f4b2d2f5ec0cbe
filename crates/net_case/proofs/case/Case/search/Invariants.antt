use Rattle.net_case.specs.Claims.{IsSameCase, KeepsRest, RestsIn}
use Rattle.net_case.proofs.case.Case.search.Given as goal

abbrev pub invariant-loop-i : goal.invariant-loop-i
invariant-loop-i g l = record {
  same : IsSameCase l.fn.self l.self;
  keeps : KeepsRest l.fn.self l.self;
  rests : RestsIn l.self l.from l.i;
}
