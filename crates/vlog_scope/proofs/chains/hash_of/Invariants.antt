use Rattle.std.proofs.Common.{◌≡◌, ◌<◌, drop}
use Rattle.vlog_scope.specs.Chains.{hash_from}
use Rattle.vlog_scope.proofs.chains.hash_of.Given as goal

abbrev pub invariant-loop-byte : goal.invariant-loop-byte
invariant-loop-byte l = record {
  small : l.hash < 4294967296;
  same : hash_from l.hash (drop l.byte-index l.name) ≡ hash_from 0 l.name;
}
