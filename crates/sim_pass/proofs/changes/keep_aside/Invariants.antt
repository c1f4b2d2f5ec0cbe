use Rattle.sim_pass.specs.Marks.{IsAside}
use Rattle.sim_pass.specs.Rows.{slots_in}
use Rattle.sim_pass.proofs.changes.keep_aside.Given as goal

abbrev pub invariant-loop-i : goal.invariant-loop-i
invariant-loop-i l = IsAside (slots_in l.rows) l.from l.i l.aside l.numbers
