use Rattle.sim_pass.specs.Marks.{AreReaders}
use Rattle.sim_pass.specs.Rows.{gates_in}
use Rattle.sim_pass.proofs.readers.readers_of.Given as goal

abbrev pub invariant-loop-k : goal.invariant-loop-k
invariant-loop-k l = AreReaders l.wides (gates_in l.rows) l.blocks l.k l.readers.items
