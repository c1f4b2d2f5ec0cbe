use Rattle.std.proofs.Common.{◌≡◌, length, true, false, Some, sym, ◌∙◌}
use Rattle.std.specs.Prelude.{◌↔◌}
use Rattle.vlog_tree.specs.Loops.{Reaches}
use Rattle.tapa_base.specs.Lists.{Chain}
use Rattle.vlog_scope.specs.NameTable.{value_in}
use Rattle.number_graph.specs.Graphs.{Steps}
use Rattle.vlog_net_graph.proofs.Numbered.{reached_by_none, returns_both}
use Rattle.number_graph.proofs.Marking.{differ}
use Rattle.vlog_net_graph.proofs.names.NamedGraph.returns.Goals as goal

pub returns-in_ok-found-in-Some : goal.returns-in_ok-found-in-Some
returns-in_ok-found-in-Some c = λ edges g.
    let s = c.args.self.now in
    let n = c.in-Some.number in
    let at : value_in s.numbers c.args.name.now ≡ Some n = sym c.number.ensures ∙ c.in-Some.is in
    let both : Chain (Steps s.graph) n n ↔ Reaches edges c.args.name.now c.args.name.now = returns_both edges (value_in s.numbers) (Steps s.graph) (length s.graph) g c.args.name.now n at in
    let e = c.in_ok-found-in-Some.ensures in
    (λ h. both.0 (e.0 h), λ r. e.1 (both.1 r))

pub returns-in-None : goal.returns-in-None
returns-in-None c = λ edges g.
    let s = c.args.self.now in
    let none = sym c.number.ensures ∙ c.in-None.is in (
      λ h. absurd (differ h),
      λ r. absurd (reached_by_none edges (value_in s.numbers) (Steps s.graph) (length s.graph) g c.args.name.now c.args.name.now none r),
    )
