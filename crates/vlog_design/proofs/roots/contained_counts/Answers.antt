use Rattle.std.proofs.Common.{◌≡◌, ◌++◌, ◌∙◌, refl, sym, ap, subst}
use Rattle.std.specs.List.{flat_map}
use Rattle.std.proofs.lemmas.List.{append-nil}
use Rattle.vlog_scope.specs.NameTable.{CountsTo}
use Rattle.vlog_tree.specs.Table.{times_in}
use Rattle.vlog_tree.specs.V6.{module_children}
use Rattle.vlog_tree.proofs.Walks.{grows, over}
use Rattle.vlog_design.proofs.roots.contained_counts.Goals as goal

pub loop-m-preserved : goal.loop-m-preserved
loop-m-preserved c =
    let i = c.loop-m.invariant in (
      i.0 ++ module_children c.m-item.result,
      c.in_ok-count_children.ensures i.0 i.1,
      grows (flat_map module_children) c.args.modules.now c.loop-m.m-index c.m-item.result i.0 _ (module_children c.m-item.result) _ (λ rest. refl) c.loop-m-test.true c.m-item.is refl i.2,
    )

pub returns : goal.returns
returns c =
    let i = c.loop-m.invariant in
    let f = flat_map module_children in
    let all : i.0 ≡ f c.args.modules.now = sym (append-nil i.0) ∙ sym (ap (λ l. i.0 ++ f l) (over c.args.modules.now c.loop-m.m-index c.loop-m-test.false)) ∙ i.2 in
    subst (λ ns. CountsTo c.loop-m.counts (times_in ns)) all i.1
