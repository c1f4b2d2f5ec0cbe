-- What reading answers.
use Rattle.tapa_base.specs.Gaps.{Bytes}
use Rattle.vcd_text.specs.Dump.{IsNoDumpAt}
use Rattle.vcd_text.specs.declared.dump.VcdFault.{VcdFault}
use Rattle.vcd_text.specs.declared.dump.VcdFault.TheVariants.{X1, OutOfMemory}

-- no dump goes on at the place, or memory ran out
abbrev pub IsFaultOf : Bytes → VcdFault → Type 0
IsFaultOf text (X1 place) = IsNoDumpAt text place
IsFaultOf text OutOfMemory = Unit {0}
