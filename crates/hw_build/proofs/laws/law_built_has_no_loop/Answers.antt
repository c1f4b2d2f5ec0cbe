use Rattle.hw_build.proofs.Order.{no_loop}
use Rattle.hw_build.proofs.Free.{no_loop_of_registered}
use Rattle.hw_build.proofs.laws.law_built_has_no_loop.Goals as goal

pub returns : goal.returns
returns c = record {
  ordered = λ ms is_top name elements fit form order answers x r. no_loop ms name elements fit form is_top order answers x r;
  registered = no_loop_of_registered;
}
