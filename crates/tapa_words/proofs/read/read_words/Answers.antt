use Rattle.tapa_words.specs.Words.{texts}
use Rattle.tapa_words.proofs.Asked.{asked_in, refused_in}
use Rattle.tapa_words.proofs.read.read_words.Goals as goal

pub returns-clause-asked : goal.returns-clause-asked
returns-clause-asked c = asked_in (texts c.args.words.now) c.read_command.result c.read_command.ensures.asked

pub returns-clause-refused : goal.returns-clause-refused
returns-clause-refused c = refused_in (texts c.args.words.now) c.read_command.result c.read_command.ensures.asked
