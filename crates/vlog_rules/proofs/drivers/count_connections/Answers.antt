use Rattle.std.proofs.Common.{◌≡◌, ◌++◌, ◌∙◌, refl, sym, ap, subst}
use Rattle.std.specs.List.{flat_map}
use Rattle.std.proofs.lemmas.List.{append-nil}
use Rattle.vlog_rules.specs.Drives.{CountsPlaces}
use Rattle.vlog_tree.specs.Table.{times_in}
use Rattle.vlog_tree.specs.V4.{connection_driven}
use Rattle.vlog_tree.proofs.Walks.{grows, over}
use Rattle.vlog_rules.proofs.drivers.count_connections.Goals as goal

pub loop-l-preserved : goal.loop-l-preserved
loop-l-preserved c = λ names e.
    let i = c.loop-l.invariant names e in (
      i.0 ++ connection_driven c.args.ports.now c.l-item.result,
      c.count_connection.ensures i.0 i.1,
      grows (flat_map (connection_driven c.args.ports.now)) c.args.connections.now c.loop-l.l-index c.l-item.result i.0 _ (connection_driven c.args.ports.now c.l-item.result) _ (λ rest. refl) c.loop-l-test.true c.l-item.is refl i.2,
    )

pub returns : goal.returns
returns c = λ names e.
    let i = c.loop-l.invariant names e in
    let f = flat_map (connection_driven c.args.ports.now) in
    let all : i.0 ≡ names ++ f c.args.connections.now = sym (append-nil i.0) ∙ sym (ap (λ l. i.0 ++ f l) (over c.args.connections.now c.loop-l.l-index c.loop-l-test.false)) ∙ i.2 in
    subst (λ ns. CountsPlaces c.args.scope.now c.loop-l.counts.items (times_in ns)) all i.1
