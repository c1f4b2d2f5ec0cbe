use Rattle.std.proofs.Common.{◌≡◌, ◌+◌, ap, sym, subst, ◌∙◌, arith}
use Rattle.kahn_model.specs.Outcome.{IsCapped, joined_ticks}
use Rattle.net_core.specs.declared.net_state.NetState.{NetState}
use Rattle.net_core.specs.State.{IsWithin}
use Rattle.net_case.specs.State.{network, count}
use Rattle.coro_threads.proofs.Turns.{same_run_refl}
use Rattle.coro_threads.proofs.crew.by_turns.Goals as goal

pub loop-init : goal.loop-init
loop-init g c = record { run = same_run_refl c.args.case; home = c.requires.home }

pub drive_small-requires-clause-budget : goal.drive_small-requires-clause-budget
drive_small-requires-clause-budget g c =
    let v = c.valid.ensures.few in
    let a = c.share-shared.ensures.run.budget in
    let b = c.loop.invariant.run.budget in
    let e = c.requires.budget in
    omega arith

pub drive_small-requires-clause-within : goal.drive_small-requires-clause-within
drive_small-requires-clause-within g c =
    let shared = c.share-shared.result in
    let v = c.valid.ensures in
    let joined : joined_ticks (network shared) (count shared) + c.in-Some-left.left ≡ shared.budget = c.in-Some-left.ensures in
    let e : c.args.budget ≡ shared.budget = c.requires.budget ∙ sym (c.share-shared.ensures.run.budget ∙ c.loop.invariant.run.budget) in
    subst (λ (z : NetState). IsWithin z c.args.budget c.in-Some-left.left) (sym c.into_net.ensures)
    (record { capped = subst (λ b. IsCapped (network shared) b (count shared)) (sym e) v.capped; joined = joined ∙ sym e })

pub loop-preserved : goal.loop-preserved
loop-preserved g c =
    let same = c.share-shared.ensures.run in
    let inv = c.loop.invariant.run in
    let e = c.in-Ok.ensures.grown in
    record {
      run = record {
        program = e.0 ∙ ap (λ (z : NetState). z.program) c.into_net.ensures ∙ same.program ∙ inv.program;
        input = e.1 ∙ ap (λ (z : NetState). z.input) c.into_net.ensures ∙ same.input ∙ inv.input;
        budget = e.2 ∙ c.requires.budget;
      };
      home = e.3;
    }

pub returns-in-Err-clause-program : goal.returns-in-Err-clause-program
returns-in-Err-clause-program g c = c.in-Err.ensures.program ∙ ap (λ (z : NetState). z.program) c.into_net.ensures ∙ c.share-shared.ensures.run.program ∙ c.loop.invariant.run.program

pub returns-in-Err-clause-input : goal.returns-in-Err-clause-input
returns-in-Err-clause-input g c = c.in-Err.ensures.input ∙ ap (λ (z : NetState). z.input) c.into_net.ensures ∙ c.share-shared.ensures.run.input ∙ c.loop.invariant.run.input
