use Rattle.std.proofs.Common.{◌≡◌, ◌∙◌, ◌+◌, ◌∷◌, sym, ap, cond, drop, true, Some}
use Rattle.std.specs.Prelude.{◌==◌}
use Rattle.vlog_tree.specs.Table.{times_in}
use Rattle.vlog_tree.specs.V6.{roots_among, first_name}
use Rattle.vlog_tree.proofs.Walks.{step}
use Rattle.vlog_design.proofs.roots.first_root.Goals as goal

pub returns-then-is_root : goal.returns-then-is_root
returns-then-is_root c = λ names h.
    let rest = roots_among names (drop (c.loop-m.m-index + 1) c.args.modules.now) in
    let t : (times_in names c.m-item.result.name == 0) ≡ true = sym (c.is_root.ensures names h) ∙ c.if-is_root.true in
    ap (λ x. Some x) c.name.ensures
    ∙ sym (step (λ r. first_name (roots_among names r)) c.args.modules.now c.loop-m.m-index c.m-item.result _ c.loop-m-test.true c.m-item.is (c.loop-m.invariant names h)
    ∙ ap (λ b. first_name (cond b (c.m-item.result ∷ rest) rest)) t)
