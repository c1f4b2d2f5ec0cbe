use Rattle.vlog_run_laws.proofs.loops.Flat.{loops_are_flat}
use Rattle.vlog_run_laws.proofs.laws.loops.law_loops_are_flat.Goals as goal

pub returns : goal.returns
returns c = λ ms root s forms sound only flat h. loops_are_flat ms root s forms sound only flat h
