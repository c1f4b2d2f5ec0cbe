use Rattle.std.proofs.Common.{sym, subst}
use Rattle.std.proofs.lemmas.Bool.{OnTrue_at, both_ways}
use Rattle.sim_tape.specs.Trees.{tree_of}
use Rattle.sim_design.specs.Drafts.{AreNext}
use Rattle.sim_design.specs.Below.{HasPlaces}
use Rattle.sim_design.proofs.Drafting.{draft_from}
use Rattle.sim_design.proofs.drafts.draft_of.Goals as goal

pub returns-clause-draft : goal.returns-clause-draft
returns-clause-draft c = λ m top.
    let ms = c.args.design.now.modules in
    let f = c.args.flat.now in
    let old = c.in_ok-draft.draft in
    let new = c.add_next.new.draft in
    let same = c.modules-modules.ensures.value in
    let e = c.in_ok-add_next.ensures in
    let places = c.in_ok-draft.ensures.places m top in
    let next = OnTrue_at c.if-not-branch.false (e.next m (tree_of old.tape) (subst (λ l. HasPlaces l m f old.pairs.items old.memories.items old.cells.items (tree_of old.tape)) (sym same) places)) in
    draft_from ms m f old new places (c.in_ok-draft.ensures.tells m top) e.extends e.pairs e.memories e.cells
    (subst (λ l. AreNext l m f old.pairs.items old.memories.items (tree_of new.tape) new.commits.items new.stores.items) same next)

pub returns-then-not-branch-clause-some : goal.returns-then-not-branch-clause-some
returns-then-not-branch-clause-some c =
    let one = c.modules-modules.ensures.design.one_top in
    let f = c.args.flat.now in
    let old = c.in_ok-draft.draft in
    absurd (both_ways c.in_ok-add_next.field-0 c.if-not-branch.true
    (c.in_ok-add_next.ensures.some one.0 (tree_of old.tape)
    (subst (λ l. HasPlaces l one.0 f old.pairs.items old.memories.items old.cells.items (tree_of old.tape)) (sym c.modules-modules.ensures.value) (c.in_ok-draft.ensures.places one.0 one.1))))
