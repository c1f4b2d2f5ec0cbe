use Rattle.std.proofs.Common.{sym, ap, ◌∙◌}
use Rattle.vlog_tree.specs.declared.tree.Value.TheVariants.{Plain}
use Rattle.hw_top_lines.specs.Texts.{none_waits}
use Rattle.hw_top.proofs.Tops.{root_waits}
use Rattle.hw_top.proofs.wires.none_waits.Goals as goal

pub returns-then-count-eq0 : goal.returns-then-count-eq0
returns-then-count-eq0 c = ap Plain c.literal.ensures ∙ sym (ap none_waits c.if-count-eq0.true)

pub returns : goal.returns
returns c = root_waits c.args.count c.bytes.result.now c.in_ok-root.root c.if-count-eq0.false (c.bytes.ensures.value ∙ c.in_ok-front.ensures) c.in_ok-root.ensures
