use Rattle.sim_pass.specs.Marks.{KeepsReaders, ReadsThem}
use Rattle.sim_pass.specs.Rows.{gates_in}
use Rattle.sim_pass.proofs.readers.add_rows.Given as goal

abbrev pub invariant-loop-i : goal.invariant-loop-i
invariant-loop-i l = record { kept : KeepsReaders l.initial.readers l.readers; added : ReadsThem l.wides (gates_in l.rows) l.readers l.rule l.run.from l.i l.block }
