use Rattle.vlog_run_laws.proofs.loops.Flat.{refused_is_flat}
use Rattle.vlog_run_laws.proofs.laws.loops.law_refused_loops_are_flat.Goals as goal

pub returns : goal.returns
returns c = λ ms root x forms only flat h. refused_is_flat ms root x forms only flat h
