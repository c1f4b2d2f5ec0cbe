use Rattle.tapa_laws.proofs.simulations.BuiltRuns.{circuit_texts_show_their_program, circuits_show_their_program, planned_circuits_show_their_program, latency_changes_no_report}
use Rattle.tapa_laws.proofs.laws.simulations.law_circuits_show_their_program.Goals as goal

pub returns : goal.returns
returns c = record {
  any = circuit_texts_show_their_program;
  built = circuits_show_their_program;
  planned = planned_circuits_show_their_program;
  latency = latency_changes_no_report;
}
