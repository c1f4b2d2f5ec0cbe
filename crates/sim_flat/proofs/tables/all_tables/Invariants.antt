use Rattle.std.proofs.Common.{take}
use Rattle.vlog_tree.specs.Refused.{IsSound}
use Rattle.sim_flat.specs.Tables.{AreTablesOf}
use Rattle.sim_flat.proofs.tables.all_tables.Given as goal

abbrev pub invariant-loop-m : goal.invariant-loop-m
invariant-loop-m l = IsSound l.modules → AreTablesOf l.modules (take l.m-index l.modules) l.tables.items
