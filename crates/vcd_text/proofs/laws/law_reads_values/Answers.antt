use Rattle.vcd_text.proofs.OneDump.{reads_values}
use Rattle.vcd_text.proofs.laws.law_reads_values.Goals as goal

pub returns : goal.returns
returns c = λ top nets v last text ports end changes d r n k h q. reads_values top nets v last text ports end changes d r n k h q
