use Rattle.std.proofs.Common.{◌≡◌, ◌+◌, drop}
use Rattle.tapa_syntax.specs.Characters.{run}
use Rattle.vlog_tree.specs.Names.{goes_on}
use Rattle.vcd_text.proofs.head.run_length.Given as goal

abbrev pub invariant-loop-at : goal.invariant-loop-at
invariant-loop-at l = l.at + run goes_on (drop l.at l.text) ≡ run goes_on l.text
