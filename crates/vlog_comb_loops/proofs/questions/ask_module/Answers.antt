use Rattle.std.proofs.Common.{◌≡◌, List, Some, refl, sym, ap, subst}
use Rattle.vlog_tree.specs.declared.tree.Item.{Item}
use Rattle.tapa_base.specs.Lists.{Has}
use Rattle.vlog_tree.specs.Table.{Name}
use Rattle.vlog_tree.specs.Loops.{port_of}
use Rattle.vlog_net_graph.specs.Names.{texts}
use Rattle.vlog_comb_loops.specs.Questions.{NamesLines}
use Rattle.vlog_comb_loops.proofs.questions.ask_module.Goals as goal

pub returns-clause-there : goal.returns-clause-there
returns-clause-there c =
    let at = c.args.at in
    let named : NamesLines c.in_ok-named.named at c.args.k.now.items = subst (λ (l : List Item). NamesLines c.in_ok-named.named at l) c.items.ensures.value c.in_ok-named.ensures in
    let same : texts c.args.graph.now.names.items ≡ texts c.deref.result.now = ap texts (sym c.deref.ensures.value) in
    record {
      own = λ x h. c.in_ok-ask_names.ensures.own x (subst (λ (l : List Name). Has l x) same h);
      wires = λ j item m i x e h n. c.in_ok-ask_names.ensures.wires i x (subst (λ (l : List Name). Has l (port_of i x)) same n) (at, Some j) j item m i (named j item m i e h) refl e h;
    }
