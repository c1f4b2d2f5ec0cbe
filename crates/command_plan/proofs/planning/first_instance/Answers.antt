use Rattle.std.proofs.Common.{◌≡◌, ◌≢◌, ◌<◌, ℕ, List, Some, length, sym, ◌∙◌, subst, arith}
use Rattle.std.specs.Prelude.{slice_get}
use Rattle.command_plan.proofs.FirstLabel.{least_at, least_none}
use Rattle.command_plan.proofs.planning.first_instance.Goals as goal

pub returns-in-Some : goal.returns-in-Some
returns-in-Some c =
    let at = c.in-Some.ensures.0 in
    let first = c.in-Some.ensures.1 in
    let list = c.deref.ensures.value in
    sym (least_at c.args.graph.now.group.items c.args.group c.in-Some.instance (subst (λ (l : List ℕ). slice_get l c.in-Some.instance ≡ Some c.args.group) list at) (subst (λ (l : List ℕ). (k : ℕ) → k < c.in-Some.instance → slice_get l k ≢ Some c.args.group) list first))

pub returns-in-None : goal.returns-in-None
returns-in-None c =
    let list = c.deref.ensures.value in
    let long : c.len.result ≡ length c.args.graph.now.group.items = omega arith in
    long ∙ sym (least_none c.args.graph.now.group.items c.args.group (subst (λ (l : List ℕ). (k : ℕ) → slice_get l k ≢ Some c.args.group) list c.in-None.ensures))
