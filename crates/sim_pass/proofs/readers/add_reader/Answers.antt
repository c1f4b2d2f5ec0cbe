use Rattle.sim_pass.proofs.Reading.{reader_added, readers_kept}
use Rattle.sim_pass.proofs.readers.add_reader.Goals as goal

pub returns-clause-kept : goal.returns-clause-kept
returns-clause-kept c = readers_kept c.args.readers.now c.args.slot c.add_block.new.list c.index-readers-at.result c.if-at-readers.false c.in_ok-add_block.ensures.kept

pub returns-clause-added : goal.returns-clause-added
returns-clause-added c = reader_added c.args.readers.now c.args.slot c.add_block.new.list c.args.block c.if-at-readers.false c.in_ok-add_block.ensures.added
