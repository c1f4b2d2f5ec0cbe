use Rattle.hw_task_laws.proofs.names.Lined.{lines_count, titles_are_names}
use Rattle.hw_task_laws.proofs.laws.names.law_task_lines.Goals as goal

pub returns : goal.returns
returns c = record { lines = lines_count; titles = titles_are_names }
