use Rattle.hw_task_laws.proofs.acts.Answered.{reads_are_shown, value_is_shown, index_is_shown}
use Rattle.hw_task_laws.proofs.laws.acts.law_reads.Goals as goal

pub returns : goal.returns
returns c = record { reads = reads_are_shown; value = value_is_shown; index = index_is_shown }
