-- A design whose outputs rest on no input has one run beside memories that answer by its outputs. Its outputs are a fixed point: beside
-- memories that answer by given numbers there is one run, and its outputs up to a cycle depend on the numbers of the cycles before alone.
use Rattle.std.proofs.Common.{◌≡◌, ℕ, zero, suc, Bool, List, [], Some, sym, subst, ◌∙◌, arith}
use Rattle.std.specs.Prelude.{slice_get}
use Rattle.std.proofs.Math.Path.{fun_ext}
use Rattle.vlog_tree.specs.Form.{ModuleTree}
use Rattle.vlog_tree.specs.Cycle.{Cycle, Path}
use Rattle.vlog_tree.specs.V6.{is_top}
use Rattle.vlog_tree.specs.Environment.{Environment}
use Rattle.vlog_tree.specs.Refused.{IsDesign}
use Rattle.vlog_run_laws.specs.runs.OneRun.{FitsPowerUp, IsOnly, IsSameRun}
use Rattle.vlog_run_laws.specs.runs.Among.{IsRunAmong}
use Rattle.vlog_run_laws.proofs.runs.Among.{one_run_among}
use Rattle.hw_build.specs.Order.{RestsOnNoInput}
use Rattle.tapa_laws.specs.circuits.Reactive.{Seen, outputs_of_top, IsCausal, IsReactiveRun}
use Rattle.tapa_laws.proofs.circuits.Beside.{outputs_same}
use Rattle.tapa_laws.proofs.circuits.Fixed.{Agree, limit, limit_fixed}

module _ (ms : List ModuleTree) (place : ℕ) (m : ModuleTree) (env : Environment) (answers shows : Seen → ℕ → ℕ → Bool) (others : Seen → ℕ → ℕ → ℕ) (contents : Path → Cycle)
    (d : IsDesign ms place) (at : slice_get ms place ≡ Some m) (rests : RestsOnNoInput ms (is_top ms) m) (causal : IsCausal answers) (causal_shows : IsCausal shows)
    (causal_others : IsCausal others) (fits : FitsPowerUp ms m contents) where
  -- a run beside memories that answer as if these were the outputs
  abbrev IsRunAsIf : Seen → (ℕ → Path → Cycle) → Type 0
  IsRunAsIf h nets = IsRunAmong ms m env (answers h) (shows h) (others h) contents nets

  abbrev outputs_of : (ℕ → Path → Cycle) → Seen
  outputs_of nets = outputs_of_top m (λ n. nets n [])

  -- two such runs have the same outputs one cycle longer than the numbers agree
  near : (n : ℕ) (h k : Seen) (a b : ℕ → Path → Cycle) → IsRunAsIf h a → IsRunAsIf k b → Agree n h k → Agree (suc n) (outputs_of a) (outputs_of b)
  near n h k a b ra rb agree = λ j low x.
      outputs_same ms place m d at rests env contents (answers h) (answers k) (shows h) (shows k) (others h) (others k) n
      (λ i c below. causal h k i c (λ j up y. agree j (omega arith) y)) (λ i c below. causal_shows h k i c (λ j up y. agree j (omega arith) y))
      (λ i c below. causal_others h k i c (λ j up y. agree j (omega arith) y)) a b ra rb j (omega arith) x

  one_as_if : (h : Seen) → IsOnly ms m (IsRunAsIf h)
  one_as_if h = one_run_among ms m env contents (answers h) (shows h) (others h) place d at fits

  run_as_if : Seen → ℕ → Path → Cycle
  run_as_if h = (one_as_if h).run

  is_as_if : (h : Seen) → IsRunAsIf h (run_as_if h)
  unfolding run_as_if
  is_as_if h = (one_as_if h).is

  only_as_if : (h : Seen) (other : ℕ → Path → Cycle) → IsRunAsIf h other → IsSameRun ms m other (run_as_if h)
  unfolding run_as_if
  only_as_if h other r = (one_as_if h).only other r

  abbrev step : Seen → Seen
  step h = outputs_of (run_as_if h)

  step_near : (n : ℕ) (h k : Seen) → Agree n h k → Agree (suc n) (step h) (step k)
  step_near n h k agree = near n h k (run_as_if h) (run_as_if k) (is_as_if h) (is_as_if k) agree

  abbrev the_outputs : Seen
  the_outputs = limit step step_near

  abbrev the_run : ℕ → Path → Cycle
  the_run = run_as_if the_outputs

  outputs_are : outputs_of the_run ≡ the_outputs
  outputs_are = fun_ext (λ n. fun_ext (λ x. limit_fixed step step_near n x))

  is_run : IsReactiveRun ms m env answers shows others contents the_run
  is_run = subst (λ h. IsRunAsIf h the_run) (sym outputs_are) (is_as_if the_outputs)

  module _ (other : ℕ → Path → Cycle) (r : IsReactiveRun ms m env answers shows others contents other) where
    all_agree : (n : ℕ) → Agree n (outputs_of other) (outputs_of the_run)
    all_agree zero = λ j low x. absurd (omega arith)
    all_agree (suc n) = near n (outputs_of other) (outputs_of the_run) other the_run r is_run (all_agree n)

    same_outputs : outputs_of other ≡ the_outputs
    same_outputs = fun_ext (λ n. fun_ext (λ x. all_agree (suc n) n (omega arith) x)) ∙ outputs_are

    only_run : IsSameRun ms m other the_run
    only_run = only_as_if the_outputs other (subst (λ h. IsRunAsIf h other) same_outputs r)

  pub one_reactive_run : IsOnly ms m (IsReactiveRun ms m env answers shows others contents)
  one_reactive_run = record { run = the_run; is = is_run; only = only_run }
