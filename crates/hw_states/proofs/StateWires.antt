-- A module that grows by the wires of a state.
use Rattle.std.proofs.Common.{◌≡◌, ℕ, ◌++◌, ap, ◌∙◌}
use Rattle.vlog_tree.specs.Form.{ModuleTree}
use Rattle.hw_build.specs.Elements.{with_all}
use Rattle.task_fsm.specs.Machine.{StateForm}
use Rattle.hw_lines.specs.Shape.{Shape, form_at}
use Rattle.hw_lines.specs.States.{index_wires, value_wires, more_wires, go_of, awaited, needs_go, next_wires, state_wires}
use Rattle.hw_nets.proofs.Grows.{both}

pub state_grows : (S : Shape) (k : ℕ) (F : StateForm) (a b c d e f : ModuleTree) → F ≡ form_at S k → b ≡ with_all a (index_wires S k).elements → c ≡ with_all b (value_wires S k).elements
    → d ≡ with_all c (more_wires S k F) → e ≡ with_all d (go_of k (awaited F) (needs_go F)) → f ≡ with_all e (next_wires S k F) → f ≡ with_all a (state_wires S k)
state_grows S k F a b c d e f is i v m g n =
    let I = (index_wires S k).elements in
    let V = (value_wires S k).elements in
    let M = more_wires S k (form_at S k) in
    let G = go_of k (awaited (form_at S k)) (needs_go (form_at S k)) in
    let N = next_wires S k (form_at S k) in
    both a e f (I ++ V ++ M ++ G) N
    (both a d e (I ++ V ++ M) G (both a c d (I ++ V) M (both a b c I V i v) (m ∙ ap (λ z. with_all c (more_wires S k z)) is)) (g ∙ ap (λ z. with_all d (go_of k (awaited z) (needs_go z))) is))
    (n ∙ ap (λ z. with_all e (next_wires S k z)) is)
