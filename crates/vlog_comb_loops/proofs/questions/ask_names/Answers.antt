use Rattle.std.proofs.Common.{◌≡◌, ◌∙◌, List, None, inl, inr, sym, ap, subst}
use Rattle.std.proofs.lemmas.List.{take_all}
use Rattle.tapa_base.specs.Lists.{Has}
use Rattle.vlog_tree.specs.Table.{Name}
use Rattle.vlog_tree.specs.Loops.{port_of}
use Rattle.vlog_net_graph.specs.Names.{texts}
use Rattle.vlog_comb_loops.specs.Questions.{asked_of}
use Rattle.vlog_comb_loops.proofs.Asking.{port_kept}
use Rattle.vlog_net_graph.proofs.Numbered.{texts_taken}
use Rattle.vlog_comb_loops.proofs.questions.ask_names.Goals as goal

pub loop-name-preserved : goal.loop-name-preserved
loop-name-preserved c =
    let names = c.args.names.now in
    let at = c.loop-name.name-index in
    let v = c.name-item.result in
    let k = c.args.k.now in
    let old = c.loop-name.questions in
    let new = c.ask_name.new.questions in
    let e = c.in_ok-ask_name.ensures in
    let name = c.deref.ensures.value in
    record {
      own = λ x h. elim (texts_taken names at v x c.loop-name-test.true c.name-item.is h) [
        | inl l ↦ e.kept (port_of k.name x) (c.args.at, None) (c.loop-name.invariant.own x l)
        | inr s ↦ subst (λ (z : Name). Has (asked_of new (port_of k.name z)) (c.args.at, None)) (name ∙ s) e.own
      ];
      wires = λ i x h. elim (texts_taken names at v (port_of i x) c.loop-name-test.true c.name-item.is h) [
        | inl l ↦ port_kept old new k (asked_of c.args.named.now i) x e.kept (c.loop-name.invariant.wires i x l)
        | inr s ↦ e.wires i x (name ∙ s)
      ];
      kept = λ m q h. e.kept m q (c.loop-name.invariant.kept m q h);
    }

pub returns : goal.returns
returns c =
    let all : texts c.args.names.now ≡ _ = ap texts (sym (take_all c.loop-name.name-index c.args.names.now c.loop-name-test.false)) in
    record {
      own = λ x h. c.loop-name.invariant.own x (subst (λ (l : List Name). Has l x) all h);
      wires = λ i x h. c.loop-name.invariant.wires i x (subst (λ (l : List Name). Has l (port_of i x)) all h);
      kept = c.loop-name.invariant.kept;
    }
