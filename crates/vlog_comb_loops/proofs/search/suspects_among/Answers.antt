use Rattle.std.proofs.Common.{List, inl, subst}
use Rattle.tapa_base.specs.Lists.{Has}
use Rattle.vlog_comb_loops.specs.declared.suspects.Suspect.{Suspect}
use Rattle.vlog_comb_loops.proofs.search.suspects_among.Goals as goal

pub returns-then-loopless : goal.returns-then-loopless
returns-then-loopless c = record {
  right = λ s h. absurd (subst (λ (l : List Suspect). Has l s) c.new-none.ensures.items h);
  others = λ m h. inl (c.in_ok-loopless.ensures.loopless c.if-loopless.true m h);
}
