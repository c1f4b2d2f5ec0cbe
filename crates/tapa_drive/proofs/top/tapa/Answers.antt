use Rattle.tapa_words.specs.Words.{texts}
use Rattle.command_answers.specs.Outside.{outside, written}
use Rattle.tapa_drive.proofs.Decided.{decided}
use Rattle.tapa_drive.proofs.top.tapa.Goals as goal

pub returns-clause-decided : goal.returns-clause-decided
returns-clause-decided g c =
    decided (texts c.args.words.now) (outside g.S.Shelf g.O.Sink c.args.shelf.now c.args.out.now) (outside g.S.Shelf g.O.Sink c.answer.new.shelf c.answer.new.out)
    (written g.E.Sink c.args.err.now) (written g.E.Sink c.answer.new.err) c.answer.result c.answer.ensures.answer
