use Rattle.std.proofs.Common.{◌≡◌, ◌++◌, ◌∙◌, List, refl, sym, ap, subst}
use Rattle.std.specs.List.{flat_map}
use Rattle.std.proofs.lemmas.List.{append-nil}
use Rattle.vlog_tree.specs.declared.tree.Item.{Item}
use Rattle.vlog_scope.specs.NameTable.{CountsTo}
use Rattle.vlog_tree.specs.Table.{times_in}
use Rattle.vlog_tree.specs.V6.{item_children, module_children}
use Rattle.vlog_tree.proofs.Walks.{grows, over}
use Rattle.vlog_design.proofs.roots.count_children.Goals as goal

pub loop-i-preserved : goal.loop-i-preserved
loop-i-preserved c = λ names e.
    let i = c.loop-i.invariant names e in (
      i.0 ++ item_children c.i-item.result,
      c.in_ok-count_child.ensures i.0 i.1,
      grows (flat_map item_children) c.items-i-items.result.now c.loop-i.i-index c.i-item.result i.0 _ (item_children c.i-item.result) _ (λ rest. refl) c.loop-i-test.true c.i-item.is refl i.2,
    )

pub returns : goal.returns
unfolding module_children
returns c = λ names e.
    let i = c.loop-i.invariant names e in
    let f = flat_map item_children in
    let all : i.0 ≡ names ++ f c.args.m.now.items =
    sym (append-nil i.0) ∙ sym (ap (λ l. i.0 ++ f l) (over c.items-i-items.result.now c.loop-i.i-index c.loop-i-test.false)) ∙ i.2
    ∙ ap (λ (items : List Item). names ++ f items) c.items-i-items.ensures.value in
    subst (λ ns. CountsTo c.loop-i.counts (times_in ns)) all i.1
