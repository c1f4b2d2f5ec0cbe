use Rattle.std.proofs.Common.{◌≡◌, ℕ, List, [], length, Some, sym, ◌∙◌, subst, arith}
use Rattle.std.specs.Prelude.{slice_get}
use Rattle.std.specs.Arc.{arc_value}
use Rattle.std.proofs.lemmas.Option.{slice_get_within}
use Rattle.tapa_syntax.specs.declared.program.Program.{Program}
use Rattle.net_core.specs.declared.input.Input.{Input}
use Rattle.net_core.specs.Bounded.{instance_job}
use Rattle.coro_machine.specs.declared.coro.Coro.{Coro}
use Rattle.coro_machine.specs.Coro.{IsCoroOf}
use Rattle.run_program.specs.Started.{AreStarted}
use Rattle.run_program.proofs.run.network.Goals as goal

-- every coroutine stands for the job of its instance
all_started : (seen program : Program) (saw input : Input) (all : List Coro) → program ≡ seen → input ≡ saw → AreStarted seen saw (length seen.instances.items) all → length all ≡ length seen.instances.items → (i : ℕ) (c : Coro) → slice_get all i ≡ Some c → IsCoroOf c (instance_job program input i) []
all_started seen program saw input all same also started len i c at =
    subst (λ (p : Program). IsCoroOf c (instance_job p input i) []) (sym same) (subst (λ (n : Input). IsCoroOf c (instance_job seen n i) []) (sym also) (started i c (omega (arith, len, slice_get_within all i c at)) at))

pub new-requires-clause-first : goal.new-requires-clause-first
new-requires-clause-first c =
    all_started c.deref.result.now (arc_value c.in_ok-clone.field-0) c.deref-2.result.now (arc_value c.in_ok-clone-2.field-0) c.in_ok-bodies.bodies.items (c.in_ok-clone.ensures.cases ∙ sym c.deref.ensures) (c.in_ok-clone-2.ensures.cases ∙ sym c.deref-2.ensures) c.in_ok-bodies.ensures.first c.in_ok-bodies.ensures.as_many
