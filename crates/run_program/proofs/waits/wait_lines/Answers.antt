use Rattle.std.proofs.Common.{◌≡◌, ◌<◌, ◌+◌, ◌++◌, ℕ, List, length, take, Option, Some, get_or, sym, ◌∙◌, ap, subst, suc, add-one, arith}
use Rattle.std.proofs.Math.Path.{fun_ext}
use Rattle.std.proofs.lemmas.Option.{slice_get-get_or}
use Rattle.std.specs.Prelude.{slice_get, slice_index}
use Rattle.tapa_syntax.specs.declared.program.Instance.{Instance}
use Rattle.tapa_syntax.specs.declared.program.Program.{Program}
use Rattle.kahn_model.specs.Network.{Network}
use Rattle.net_core.specs.declared.body.Pause.{Pause}
use Rattle.net_core.specs.declared.net_state.NetState.{NetState}
use Rattle.net_core.specs.Bindings.{stream_at, stream_in}
use Rattle.net_core.specs.Settle.{AreTold}
use Rattle.net_core.specs.State.{network, count}
use Rattle.net_core.specs.Waits.{IsToldBy}
use Rattle.run_data.specs.Lines.{lines_in}
use Rattle.run_program.specs.Pauses.{pause_line, in_list, last_pause_lines}
use Rattle.run_program.specs.Run.{AreWaitLines}
use Rattle.run_program.proofs.Waiting.{waits_more, last_lines}
use Rattle.tapa_base.proofs.Got.{the_same as some_is}
use Rattle.run_program.proofs.waits.wait_lines.Goals as goal

-- what a pause tells does not change with the name of the positions
told_same : (net : Network) (k : ℕ → ℕ) (i : ℕ) (f g : ℕ → ℕ) → ((p : ℕ) → f p ≡ g p) → (pause : Pause) → IsToldBy net k i f pause → IsToldBy net k i g pause
told_same net k i f g e pause told = subst (λ (h : ℕ → ℕ). IsToldBy net k i h pause) (fun_ext e) told

-- one turn: the instance's last pause, and its line behind those before
turn : (program : Program) (net : NetState) (i : ℕ) (x : Instance) (o : Option Pause) (before after : List (List ℕ)) → program ≡ net.program → AreTold net → i < length program.instances.items → x ≡ get_or program.instances.items i x → slice_get net.pauses i ≡ Some o → after ≡ before ++ last_pause_lines program.streams.items x o → AreWaitLines (network net) (count net) program.streams.items 0 (take i program.instances.items) before → AreWaitLines (network net) (count net) program.streams.items 0 (take (i + 1) program.instances.items) after
turn program net i x o before after same told within is last grown so_far =
    let xs = program.instances.items in
    let at = told i (subst (λ (p : Program). i < length p.instances.items) same within) in
    let f : (p : ℕ) → stream_at net.program i p ≡ slice_index (get_or xs i x).streams.items p =
    λ p. ap (λ (q : Program). stream_at q i p) (sym same) ∙ ap (λ (y : Option Instance). stream_in y p) (slice_get-get_or xs i x within) in
    let pause_is : o ≡ Some at.0 = some_is _ _ (sym last ∙ at.1) in
    let line : last_pause_lines program.streams.items x o ≡ in_list (pause_line program.streams.items (get_or xs i x) at.0) =
    ap (λ (y : Instance). last_pause_lines program.streams.items y o) is ∙ last_lines program.streams.items (get_or xs i x) o at.0 pause_is in
    let next = waits_more (network net) (count net) program.streams.items xs i x before at.0 within so_far (told_same (network net) (count net) i (stream_at net.program i) (λ p. slice_index (get_or xs i x).streams.items p) f at.0 at.2) in
    rw (add-one i) (subst (λ (v : List (List ℕ)). AreWaitLines (network net) (count net) program.streams.items 0 (take (suc i) xs) v) (sym (grown ∙ ap (λ (v : List (List ℕ)). before ++ v) line)) next)

pub loop-i-preserved : goal.loop-i-preserved
loop-i-preserved g c =
    turn c.args.program.now c.args.net.now c.loop-i.i c.index.result.now c.pause-pause.result (lines_in c.loop-i.lines.items) (lines_in c.push_wait.new.lines.items) c.requires.program c.requires.told (omega (arith, c.loop-i-test.true, c.len-i-end.ensures)) c.index.ensures c.pause-pause.ensures.last c.in_ok-push_wait.ensures c.loop-i.invariant
