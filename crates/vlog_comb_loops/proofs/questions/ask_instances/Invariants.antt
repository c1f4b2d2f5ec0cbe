use Rattle.std.proofs.Common.{take}
use Rattle.vlog_comb_loops.specs.Questions.{Keeps, AsksPort}
use Rattle.vlog_comb_loops.proofs.questions.ask_instances.Given as goal

abbrev pub invariant-loop-line : goal.invariant-loop-line
invariant-loop-line l = record {
  there : AsksPort l.questions l.k (take l.line-index l.line-items) l.port;
  kept : Keeps l.fn.questions l.questions;
}
