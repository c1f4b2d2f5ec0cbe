use Rattle.std.proofs.Common.{◌≡◌, ◌+◌, true, take, drop, subst}
use Rattle.vlog_tree.specs.Table.{Name}
use Rattle.vlog_comb_loops.specs.Questions.{AsksPort, asked_of}
use Rattle.vlog_comb_loops.proofs.Asking.{at_dot, no_dot_at}
use Rattle.vlog_comb_loops.proofs.questions.ask_at.Goals as goal

pub returns-then-not-is_dot-clause-there : goal.returns-then-not-is_dot-clause-there
returns-then-not-is_dot-clause-there c = λ i x at e.
    absurd (no_dot_at c.args.name.now c.args.dot (λ h. let yes : c.is_dot.result ≡ true = c.is_dot.ensures.1 h in cc (yes, c.if-not-is_dot.true)) i x at e)

pub returns-clause-there : goal.returns-clause-there
returns-clause-there c =
    let name = c.args.name.now in
    let dot = c.args.dot in
    let k = c.args.k.now in
    let new = c.ask_instances.new.questions in
    let named = c.args.named.now in
    let here : AsksPort new k (asked_of named (take dot name)) (drop (dot + 1) name) =
    subst (λ (z : Name). AsksPort new k (asked_of named z) (drop (dot + 1) name)) c.left_of_dot-instance.ensures
    (subst (λ (z : Name). AsksPort new k (asked_of named c.left_of_dot-instance.result.now) z) c.right_of_dot-port.ensures c.in_ok-ask_instances.ensures.there) in
    λ i x at e. at_dot new named k name dot here i x at e
