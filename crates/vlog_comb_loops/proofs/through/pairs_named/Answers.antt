use Rattle.std.proofs.Common.{◌∙◌, sym, ap, List, map}
use Rattle.vlog_tree.specs.declared.table.Declaration.{Declaration}
use Rattle.vlog_scope.specs.NameTable.{places_from}
use Rattle.vlog_tree.specs.Table.{declaration_name}
use Rattle.vlog_comb_loops.proofs.Resting.{sum_at, sum_missing}
use Rattle.vlog_comb_loops.proofs.through.pairs_named.Goals as goal

pub returns-in-Some : goal.returns-in-Some
returns-in-Some c =
    let at = sym (ap (λ (ds : List Declaration). places_from 0 (map declaration_name ds) c.args.name.now) c.names.ensures) ∙ sym c.place.ensures ∙ c.in-Some.is in
    c.pairs_at.ensures ∙ sym (sum_at c.args.library.now c.args.sums.now c.args.name.now c.in-Some.place _ at)

pub returns-in-None : goal.returns-in-None
returns-in-None c =
    let at = sym (ap (λ (ds : List Declaration). places_from 0 (map declaration_name ds) c.args.name.now) c.names.ensures) ∙ sym c.place.ensures ∙ c.in-None.is in
    sym (sum_missing 0 c.args.library.now c.args.sums.now c.args.name.now at)
