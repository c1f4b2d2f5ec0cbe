use Rattle.std.proofs.Common.{◌≡◌, drop}
use Rattle.vcd_text.specs.Read.{value_after, value_of}
use Rattle.vcd_text.proofs.dump.Dump.value_at.Given as goal

abbrev pub invariant-loop-change : goal.invariant-loop-change
invariant-loop-change l = value_after (drop l.change-index l.self.changes.items) l.net l.cycle l.value ≡ value_of l.self.changes.items l.net l.cycle
