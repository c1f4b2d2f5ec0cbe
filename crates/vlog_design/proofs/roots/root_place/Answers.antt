use Rattle.std.proofs.Common.{◌≡◌, ◌∙◌, ◌+◌, List, ◌∷◌, [], sym, ap, cond, drop, true, Some}
use Rattle.std.specs.Prelude.{◌==◌}
use Rattle.vlog_tree.specs.Form.{ModuleTree}
use Rattle.vlog_tree.specs.Table.{times_in}
use Rattle.vlog_tree.specs.V6.{roots_among}
use Rattle.vlog_tree.proofs.Walks.{step, over}
use Rattle.tapa_base.proofs.Lists.{got_index}
use Rattle.vlog_design.proofs.roots.root_place.Goals as goal

pub returns-then-is_root : goal.returns-then-is_root
returns-then-is_root c = λ names h m rest e.
    let x = c.index-modules-place.result in
    let left = roots_among names (drop (c.loop-place.place + 1) c.args.modules.now) in
    let t : (times_in names x.name == 0) ≡ true = sym (c.is_root.ensures names h) ∙ c.if-is_root.true in
    let here : m ∷ rest ≡ x ∷ left =
    sym e ∙ step (λ r. roots_among names r) c.args.modules.now c.loop-place.place x _ c.loop-place-test.true c.index-modules-place.is (c.loop-place.invariant names h)
    ∙ ap (λ b. cond b (x ∷ left) left) t in
    let same : x ≡ m = cc here in
    got_index c.args.modules.now c.loop-place.place x c.loop-place-test.true c.index-modules-place.is ∙ ap (λ (k : ModuleTree). Some k) same

pub returns : goal.returns
returns c = λ names h m rest e.
    let none : m ∷ rest ≡ [] = sym e ∙ c.loop-place.invariant names h ∙ ap (λ (l : List ModuleTree). roots_among names l) (over c.args.modules.now c.loop-place.place c.loop-place-test.false) in
    cc none
