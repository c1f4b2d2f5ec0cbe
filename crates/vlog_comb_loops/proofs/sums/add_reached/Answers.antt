use Rattle.std.proofs.Common.{◌≡◌, ℕ, List, Some, None, length, sym, subst, rules}
use Rattle.std.specs.Prelude.{◌↔◌}
use Rattle.tapa_base.specs.Lists.{Has, Chain}
use Rattle.vlog_tree.specs.Loops.{Edges}
use Rattle.vlog_scope.specs.NameTable.{value_in}
use Rattle.number_graph.specs.Graphs.{Adjacency, Steps}
use Rattle.vlog_comb_loops.specs.Growth.{Gathers}
use Rattle.vlog_comb_loops.specs.Summaries.{IsPair}
use Rattle.vlog_comb_loops.proofs.Gathering.{found_gathers, not_numbered}
use Rattle.vlog_comb_loops.proofs.sums.add_reached.Goals as goal

pub returns-in_ok-add_inputs-in-Some-clause-gathers : goal.returns-in_ok-add_inputs-in-Some-clause-gathers
returns-in_ok-add_inputs-in-Some-clause-gathers c = λ edges g.
    let s = c.args.graph.now in
    let ports = c.args.ports.now in
    let x = c.args.x.now in
    let number = value_in s.numbers in
    let n = c.in-Some.number in
    let at : number x ≡ Some n = search rules in
    let found : (k : ℕ) → Has c.in_ok-found-in-Some.found.items k ↔ Chain (Steps s.graph) n k =
    subst (λ (a : Adjacency). (k : ℕ) → Has c.in_ok-found-in-Some.found.items k ↔ Chain (Steps a) n k) c.graph.ensures c.in_ok-found-in-Some.ensures.reached in
    let all = subst (λ (l : List ℕ). (k : ℕ) → Has l k ↔ Chain (Steps s.graph) n k) (sym c.deref.ensures.value) found in
    subst (λ (l : Edges). Gathers (IsPair edges ports) (λ a b. a ≡ x) c.args.pairs.now.items l) (sym c.in_ok-add_inputs-in-Some.ensures)
    (found_gathers edges ports number (Steps s.graph) (length s.graph) g x c.args.places.now c.requires.places c.requires.output n at c.deref.result.now all c.args.pairs.now.items)

pub returns-in-None-clause-gathers : goal.returns-in-None-clause-gathers
returns-in-None-clause-gathers c = λ edges g.
    let s = c.args.graph.now in
    let none : value_in s.numbers c.args.x.now ≡ None = search rules in
    not_numbered edges c.args.ports.now (value_in s.numbers) (Steps s.graph) (length s.graph) g c.args.x.now none c.args.pairs.now.items
