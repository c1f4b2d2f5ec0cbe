use Rattle.std.proofs.Common.{◌≡◌, rules, None, subst}
use Rattle.tapa_base.specs.Lists.{Has}
use Rattle.vlog_tree.specs.Table.{Name}
use Rattle.vlog_tree.specs.Loops.{port_of}
use Rattle.vlog_comb_loops.specs.Questions.{asked_of}
use Rattle.vlog_comb_loops.proofs.questions.ask_name.Goals as goal

pub returns-clause-own : goal.returns-clause-own
returns-clause-own c =
    let key : c.deref.result.now ≡ port_of c.args.k.now.name c.args.name.now = search rules in
    c.in_ok-ask_wire.ensures.kept (port_of c.args.k.now.name c.args.name.now) (c.args.at, None)
    (subst (λ (x : Name). Has (asked_of c.ask.new.self x) (c.args.at, None)) key c.in_ok-ask.ensures.there)

pub returns-clause-kept : goal.returns-clause-kept
returns-clause-kept c = λ m e h. c.in_ok-ask_wire.ensures.kept m e (c.in_ok-ask.ensures.kept m e h)
