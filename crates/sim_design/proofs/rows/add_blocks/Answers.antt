use Rattle.std.proofs.Common.{◌+◌, ◌≤◌, ◌++◌, length, refl, sym, ap, subst, ◌∙◌}
use Rattle.sim_design.proofs.Driving.{part_is}
use Rattle.sim_design.specs.Commits.{commits_below}
use Rattle.sim_design.specs.Left.{own_pairs}
use Rattle.sim_design.proofs.rows.add_blocks.Goals as goal

pub returns-clause-commits : goal.returns-clause-commits
returns-clause-commits c = λ room.
    let ds = c.args.table.now.scope in
    let base = c.args.base in
    let all = c.deref.ensures.value in
    let own = part_is c.deref.result.now c.part_of-pairs.result.now c.declarations-count.result.now ds base base c.declarations-count.ensures refl (subst (λ l. base + length ds ≤ length l) (sym all) room) c.part_of-pairs.ensures.value ∙ ap (λ l. own_pairs base ds l) all in
    c.in_ok-add_commits.ensures
    ∙ ap (λ l. c.args.draft.now.commits.items ++ commits_below ds l c.deref-2.result.now (length ds)) own
    ∙ ap (λ l. c.args.draft.now.commits.items ++ commits_below ds (own_pairs base ds c.args.draft.now.pairs.items) l (length ds)) c.deref-2.ensures.value
