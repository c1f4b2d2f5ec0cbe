use Rattle.tapa_laws.proofs.written.KeptLines.{texts_keep, forms_keep}
use Rattle.tapa_laws.proofs.laws.written.law_written_out_keeps_lines.Goals as goal

pub returns-clause-texts : goal.returns-clause-texts
returns-clause-texts c = texts_keep

pub returns-clause-forms : goal.returns-clause-forms
returns-clause-forms c = forms_keep
