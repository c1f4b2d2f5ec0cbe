use Rattle.std.proofs.Common.{◌≡◌, ◌∙◌, sym, subst, inl, inr, List, Some, None, get_or}
use Rattle.std.proofs.lemmas.List.{take_all, get_or_default}
use Rattle.tapa_base.specs.Lists.{Has}
use Rattle.vlog_tree.specs.Loops.{port_of}
use Rattle.tapa_base.proofs.Lists.{taken_split}
use Rattle.vlog_comb_loops.specs.Questions.{Question, AsksPort, asked_of}
use Rattle.vlog_comb_loops.proofs.questions.ask_instances.Goals as goal

pub loop-line-preserved : goal.loop-line-preserved
loop-line-preserved c =
    let items = c.of_name-line-items.result.now in
    let at = c.loop-line.line-index in
    let low = c.loop-line-test.true in
    let line : Question = get_or items at (0, None) in
    let step = c.in_ok-ask_port.ensures in
    record {
      there = λ e j item m i has f g n. elim (taken_split items at line e low (get_or_default items at (0, None) line low) has) [
        | inl l ↦ step.kept (port_of m c.args.port.now) e (c.loop-line.invariant.there e j item m i l f g n)
        | inr same ↦ subst (λ (z : Question). Has (asked_of c.ask_port.new.questions (port_of m c.args.port.now)) z) same (step.there j item m i (subst (λ (z : Question). z.1 ≡ Some j) (sym same) f) g n)
      ];
      kept = λ m e h. step.kept m e (c.loop-line.invariant.kept m e h);
    }

pub returns-clause-there : goal.returns-clause-there
returns-clause-there c =
    subst (λ (l : List Question). AsksPort c.loop-line.questions c.args.k.now l c.args.port.now)
    (take_all c.loop-line.line-index c.of_name-line-items.result.now c.loop-line-test.false ∙ c.of_name-line-items.ensures) c.loop-line.invariant.there
