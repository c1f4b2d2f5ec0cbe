use Rattle.std.proofs.Common.{◌≡◌, ◌<◌, length}
use Rattle.vlog_tree.specs.Table.{Name}
use Rattle.vlog_tree.specs.Loops.{port_of}
use Rattle.vlog_comb_loops.specs.Questions.{asked_of, Keeps, AsksPort}
use Rattle.vlog_comb_loops.proofs.questions.ask_wire.Given as goal

abbrev pub invariant-loop-dot : goal.invariant-loop-dot
invariant-loop-dot l = record {
  there : (i x : Name) → length i < l.dot → l.name ≡ port_of i x → AsksPort l.questions l.k (asked_of l.named i) x;
  kept : Keeps l.fn.questions l.questions;
}
