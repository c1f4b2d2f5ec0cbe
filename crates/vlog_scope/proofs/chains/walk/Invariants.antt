use Rattle.std.proofs.Common.{◌≡◌, ◌<◌, ◌-◌, length, drop, map}
use Rattle.vlog_tree.specs.Table.{declaration_name}
use Rattle.vlog_scope.specs.NameTable.{places_from}
use Rattle.vlog_scope.specs.Chains.{chain_of, name_at}
use Rattle.vlog_scope.proofs.chains.walk.Given as goal

abbrev pub invariant-loop-at : goal.invariant-loop-at
invariant-loop-at l = record {
  on : l.at < length l.declarations → chain_of (length l.chains.heads.items) (name_at l.declarations l.at) ≡ chain_of (length l.chains.heads.items) l.name;
  same : places_from l.from (map declaration_name (drop l.from l.declarations)) l.name ≡ places_from l.at (map declaration_name (drop l.at l.declarations)) l.name;
}

abbrev pub decreases-loop-at : goal.decreases-loop-at
decreases-loop-at l = length l.declarations - l.at
