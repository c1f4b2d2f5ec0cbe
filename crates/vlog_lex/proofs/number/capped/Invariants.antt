use Rattle.std.proofs.Common.{◌≡◌, ◌≤◌, min, drop}
use Rattle.std.specs.Str.Parse.{digits_value, digits_value_after}
use Rattle.vlog_lex.proofs.number.capped.Given as goal

abbrev pub invariant-loop-b : goal.invariant-loop-b
invariant-loop-b l = record { same : min (digits_value 10 l.digits) l.most ≡ min (digits_value_after 10 l.value (drop l.b-index l.digits)) l.most; least : l.value ≤ l.most }
