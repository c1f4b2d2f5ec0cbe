use Rattle.std.proofs.Common.{None, take}
use Rattle.tapa_base.specs.Lists.{Has}
use Rattle.vlog_tree.specs.Table.{Name}
use Rattle.vlog_tree.specs.Loops.{port_of}
use Rattle.vlog_net_graph.specs.Names.{texts}
use Rattle.vlog_comb_loops.specs.Questions.{asked_of, Keeps, AsksPort}
use Rattle.vlog_comb_loops.proofs.questions.ask_names.Given as goal

abbrev pub invariant-loop-name : goal.invariant-loop-name
invariant-loop-name l = record {
  own : (x : Name) → Has (texts (take l.name-index l.names)) x → Has (asked_of l.questions (port_of l.k.name x)) (l.at, None);
  wires : (i x : Name) → Has (texts (take l.name-index l.names)) (port_of i x) → AsksPort l.questions l.k (asked_of l.named i) x;
  kept : Keeps l.fn.questions l.questions;
}
