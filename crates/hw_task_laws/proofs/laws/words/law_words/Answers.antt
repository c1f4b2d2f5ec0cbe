use Rattle.hw_task_laws.proofs.words.Words.{cuts, extends, left, right}
use Rattle.hw_task_laws.proofs.laws.words.law_words.Goals as goal

pub returns : goal.returns
returns c = record { cut = cuts; extend = extends; left = left; right = right }
