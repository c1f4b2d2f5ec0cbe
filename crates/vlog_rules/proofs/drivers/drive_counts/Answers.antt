use Rattle.std.proofs.Common.{◌≡◌, ◌++◌, ◌∙◌, refl, sym, ap, subst}
use Rattle.std.specs.List.{flat_map}
use Rattle.std.proofs.lemmas.List.{append-nil}
use Rattle.vlog_rules.specs.Drives.{CountsPlaces}
use Rattle.vlog_tree.specs.Table.{times_in}
use Rattle.vlog_tree.specs.V4.{line_driven}
use Rattle.vlog_tree.proofs.Walks.{grows, over}
use Rattle.vlog_rules.proofs.drivers.drive_counts.Goals as goal

pub loop-i-preserved : goal.loop-i-preserved
loop-i-preserved c =
    let i = c.loop-i.invariant in (
      i.0 ++ line_driven c.args.library.now c.i-item.result,
      c.count_line.ensures i.0 i.1,
      grows (flat_map (line_driven c.args.library.now)) c.args.items.now c.loop-i.i-index c.i-item.result i.0 _ (line_driven c.args.library.now c.i-item.result) _ (λ rest. refl) c.loop-i-test.true c.i-item.is refl i.2,
    )

pub returns : goal.returns
returns c =
    let i = c.loop-i.invariant in
    let f = flat_map (line_driven c.args.library.now) in
    let all : i.0 ≡ f c.args.items.now = sym (append-nil i.0) ∙ sym (ap (λ l. i.0 ++ f l) (over c.args.items.now c.loop-i.i-index c.loop-i-test.false)) ∙ i.2 in
    subst (λ ns. CountsPlaces c.args.scope.now c.loop-i.counts.items (times_in ns)) all i.1
