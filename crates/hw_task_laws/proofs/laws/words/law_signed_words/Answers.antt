use Rattle.hw_task_laws.proofs.words.Signed.{plain_order, turned_order, opposite, divides, leaves}
use Rattle.hw_task_laws.proofs.laws.words.law_signed_words.Goals as goal

pub returns : goal.returns
returns c = record { plain = plain_order; turned = turned_order; opposite = opposite; divide = divides; leave = leaves }
