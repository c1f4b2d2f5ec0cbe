-- What a done net shows in all is what the run carries in all.
use Rattle.std.proofs.Common.{◌≡◌, ℕ, zero, suc, ◌<◌, ◌%◌, ◌^◌, List, length, refl, ◌∙◌, ap, subst, arith}
use Rattle.std.specs.Prelude.{sum_by}
use Rattle.tapa_base.specs.declared.token.Token.{Token}
use Rattle.tapa_syntax.specs.declared.program.Program.{Program}
use Rattle.tapa_syntax.specs.WellFormed.{IsWellFormed}
use Rattle.kahn_model.specs.Counts.{IsReachable}
use Rattle.kahn_model.specs.Ending.{EndsWithin}
use Rattle.kahn_model.specs.Network.{Network}
use Rattle.kahn_model.specs.Outcome.{joined_ticks, HaveJoinedEnded, shown}
use Rattle.net_core.specs.declared.input.Input.{Input}
use Rattle.net_core.specs.declared.net_state.NetState.{NetState}
use Rattle.net_core.specs.State as state
use Rattle.net_core.specs.Settle.{EndsAs}
use Rattle.net_core.specs.declared.outcome.Outcome.{Outcome}
use Rattle.net_core.specs.declared.outcome.Outcome.TheVariants as outcome
use Rattle.run_data.specs.declared.lines.Last.TheVariants.{Done}
use Rattle.run_program.specs.Fresh.{IsFresh}
use Rattle.run_program.specs.Run.{network, ticks_of, report_of, DoneRun}
use Rattle.net_core.specs.Bounded.{Values, values_of}
use Rattle.run_program.specs.Totals.{datum_of, tokens_below, sum_below, AreCarried, IsTotalled}
use Rattle.run_program.specs.declared.totals.Totals.{Totals}
use Rattle.run_program.proofs.Running.{there, done_run, streams_same, ticks_same, same_network}

-- streams that have the same tokens have as many, and the same sum
tokens_alike : (f g : ℕ → List Token) (n : ℕ) → ((s : ℕ) → s < n → f s ≡ g s) → tokens_below n f ≡ tokens_below n g
tokens_alike f g zero same = refl
tokens_alike f g (suc n) same =
    let before = tokens_alike f g n (λ s h. same s (omega arith)) in
    let one = ap (λ (l : List Token). length l) (same n (omega arith)) in
    omega (arith, before, one)

sums_alike : (f g : ℕ → List Token) (n : ℕ) → ((s : ℕ) → s < n → f s ≡ g s) → sum_below n f ≡ sum_below n g
sums_alike f g zero same = refl
sums_alike f g (suc n) same =
    let before = sums_alike f g n (λ s h. same s (omega arith)) in
    let one = ap (λ (l : List Token). sum_by datum_of l) (same n (omega arith)) in
    omega (arith, before, one)

-- totals at a count at which the joined instances have ended, which they do within the limit
totalled : (program : Program) (values : Values) → IsWellFormed program → (k : ℕ → ℕ) (limit : ℕ) (t : Totals) → IsReachable (network program values) k → HaveJoinedEnded (network program values) k → EndsWithin (network program values) limit
    → AreCarried (shown (network program values) k) (length program.streams.items) (ticks_of program values k) t → IsTotalled program values limit t
totalled program values w k limit t reach ended ends c =
    let N = network program values in
    let u = ticks_of program values ends.0 in
    let d : DoneRun program values limit (report_of program values ends.0 (Done u)) = done_run program values w N refl ends.0 u limit refl ends.1 in
    let alike : (s : ℕ) → s < length program.streams.items → shown N k s ≡ shown N d.count s =
    λ s h. (let r = there program.streams.items s h in streams_same program values w k d.count reach d.done.greatest.reachable ended d.done.ended s r.0 r.1) in
    record {
      count = d.count;
      done = d.done;
      whole = d.whole;
      carried = record {
        ticks_are = c.ticks_are ∙ ticks_same program values w k d.count reach d.done.greatest.reachable ended d.done.ended;
        tokens_are = c.tokens_are ∙ tokens_alike (shown N k) (shown N d.count) (length program.streams.items) alike;
        sum_is = c.sum_is ∙ ap (λ (n : ℕ). n % 2 ^ 64) (sums_alike (shown N k) (shown N d.count) (length program.streams.items) alike);
      };
    }

pub totals_done : (program : Program) (input : Input) (old new : NetState) (limit : ℕ) (o : Outcome) → IsFresh program input old → new.program ≡ old.program → new.input ≡ old.input → (ticks : ℕ) → IsReachable (state.network new) (state.count new) → EndsAs new limit o → o ≡ outcome.Done ticks → (t : Totals)
    → AreCarried (shown (state.network new) (state.count new)) (length program.streams.items) ticks t → IsTotalled program (values_of input) limit t
totals_done program input old new limit o fresh p n ticks reach ends is t c =
    let e : EndsAs new limit (outcome.Done ticks) = subst (λ (x : Outcome). EndsAs new limit x) is ends in
    let k = state.count new in
    let same = same_network program input old new limit o fresh p n in
    totalled program (values_of input) fresh.well_formed k limit t
    (subst (λ (M : Network). IsReachable M k) same reach)
    (subst (λ (M : Network). HaveJoinedEnded M k) same e.1)
    (subst (λ (M : Network). EndsWithin M limit) same e.0)
    (record {
      ticks_are = c.ticks_are ∙ (e.2 ∙ ap (λ (M : Network). joined_ticks M k) same);
      tokens_are = c.tokens_are ∙ ap (λ (M : Network). tokens_below (length program.streams.items) (shown M k)) same;
      sum_is = c.sum_is ∙ ap (λ (M : Network). sum_below (length program.streams.items) (shown M k) % 2 ^ 64) same;
    })
