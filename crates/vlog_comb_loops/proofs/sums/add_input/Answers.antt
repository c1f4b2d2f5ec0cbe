use Rattle.std.proofs.Common.{◌≡◌, ◌++◌, ◌∙◌, List, None, sym, ap, subst}
use Rattle.std.specs.Prelude.{slice_get}
use Rattle.std.proofs.lemmas.List.{append-nil}
use Rattle.std.proofs.lemmas.Option.{slice_get_past}
use Rattle.vlog_tree.specs.declared.table.Declaration.{Declaration}
use Rattle.vlog_tree.specs.Loops.{Edges}
use Rattle.vlog_comb_loops.specs.Places.{picked, paired}
use Rattle.vlog_comb_loops.proofs.sums.add_input.Goals as goal

pub returns-in-None-get : goal.returns-in-None-get
returns-in-None-get c =
    let pairs = c.args.pairs.now.items in
    let x = c.args.x.now in
    let at = c.in-Some.at in
    let none : slice_get c.args.ports.now at ≡ None = subst (λ (l : List Declaration). slice_get l at ≡ None) c.declarations.ensures (slice_get_past c.declarations.result.now at c.in-None-get.ensures.lookup.3) in
    sym (ap (λ (l : Edges). pairs ++ l) (ap (λ o. picked x c.args.ports.now o) c.in-Some.is ∙ ap (λ o. paired x o) none) ∙ append-nil pairs)
