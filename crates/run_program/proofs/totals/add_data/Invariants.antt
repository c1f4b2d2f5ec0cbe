use Rattle.std.proofs.Common.{◌≡◌, ◌+◌, ◌%◌, ◌^◌, take}
use Rattle.std.specs.Prelude.{sum_by}
use Rattle.run_program.specs.Totals.{datum_of}
use Rattle.run_program.proofs.totals.add_data.Given as goal

abbrev pub invariant-loop-token : goal.invariant-loop-token
invariant-loop-token l = l.sum ≡ (l.before + sum_by datum_of (take l.token-index l.tokens)) % 2 ^ 64
