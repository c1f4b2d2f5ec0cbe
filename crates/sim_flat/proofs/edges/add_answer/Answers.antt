use Rattle.vlog_run_laws.proofs.runs.Ascii.{addr_ascii}
use Rattle.sim_flat.proofs.edges.add_answer.Goals as goal

pub new-address-requires : goal.new-address-requires
new-address-requires c = addr_ascii c.in_ok-addr_name-in-Some.field-0.items c.in-Some.label.now c.in_ok-addr_name-in-Some.ensures c.in-Some.ensures.ascii
