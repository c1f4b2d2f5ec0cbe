use Rattle.std.proofs.Common.{◌≡◌, ◌<◌, ◌^◌, drop}
use Rattle.std.specs.Str.Parse.{digits_value, digits_value_after}
use Rattle.vlog_lex.proofs.number.large.Given as goal

abbrev pub invariant-loop-b : goal.invariant-loop-b
invariant-loop-b l = record { same : digits_value l.base l.digits ≡ digits_value_after l.base l.value (drop l.b-index l.digits); fits : l.value < 2 ^ 128 }
