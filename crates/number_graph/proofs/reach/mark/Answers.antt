use Rattle.std.proofs.Common.{rules, ◌≡◌, ◌∷◌, [], get_or, true, false, slice_set, inl, refl, sym, subst}
use Rattle.tapa_base.specs.Lists.{Has}
use Rattle.number_graph.specs.Marks.{Grows}
use Rattle.tapa_base.proofs.Lists.{has_right}
use Rattle.number_graph.proofs.Marking.{grows_one}
use Rattle.number_graph.proofs.reach.mark.Goals as goal

pub returns-in_ok-push-clause-grows : goal.returns-in_ok-push-clause-grows
returns-in_ok-push-clause-grows c =
    let marks = c.args.marks.now.items in
    let found = c.args.found.now.items in
    let n = c.args.number in
    let free : get_or marks n false ≡ false = search rules in
    subst (λ l. Grows marks (slice_set marks n true) found l (λ m. m ≡ n)) (sym c.in_ok-push.ensures.items) (grows_one marks found n c.requires.marked c.requires.low free)

pub returns-in_ok-push-clause-there : goal.returns-in_ok-push-clause-there
returns-in_ok-push-clause-there c =
    subst (λ l. Has l c.args.number) (sym c.in_ok-push.ensures.items) (has_right c.args.found.now.items (c.args.number ∷ []) c.args.number (inl refl))
