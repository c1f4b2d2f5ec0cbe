use Rattle.std.proofs.Common.{subst, List}
use Rattle.vlog_tree.specs.Form.{ModuleTree}
use Rattle.vlog_tree.specs.Loops.{containment}
use Rattle.vlog_net_graph.specs.Names.{IsGraphOf}
use Rattle.vlog_comb_loops.specs.declared.suspects.Suspect.{Suspect}
use Rattle.vlog_comb_loops.specs.Questions.{AsksAll}
use Rattle.vlog_comb_loops.proofs.search.loops_of.Goals as goal

pub returns : goal.returns
returns c =
    let ms = c.args.library.now in
    let graph = subst (λ (l : List ModuleTree). IsGraphOf (containment l) c.in_ok-contains.contains) c.modules.ensures.value c.in_ok-contains.ensures in
    record {
      found = c.in_ok-suspects.ensures;
      contains = graph;
      questions = subst (λ (l : List Suspect). AsksAll ms l c.in_ok-questions.questions) c.deref.ensures.value c.in_ok-questions.ensures;
      flat = λ h. (c.in_ok-flat.ensures (containment ms) graph).0 h;
    }
