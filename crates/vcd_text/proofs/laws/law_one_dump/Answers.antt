use Rattle.vcd_text.proofs.OneDump.{one_dump}
use Rattle.vcd_text.proofs.laws.law_one_dump.Goals as goal

pub returns : goal.returns
returns c = λ top other nets others v w last end text d e. one_dump top other nets others v w last end text d e
