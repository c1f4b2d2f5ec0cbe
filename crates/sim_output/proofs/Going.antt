-- A simulator that goes on from a first one, and where it ends.
use Rattle.std.proofs.Common.{◌≡◌, ℕ, zero, suc, ◌+◌, ◌<◌, ◌≤◌, Option, Some, None, inl, inr, refl, sym, ap, subst, ◌∙◌, arith}
use Rattle.std.specs.Prelude.{◌⊎◌, ◌≢◌}
use Rattle.std.proofs.lemmas.Bool.{cases_eq}
use Rattle.vlog_tree.specs.Form.{ModuleTree}
use Rattle.vlog_tree.specs.Cycle.{Cycle, Path}
use Rattle.vlog_tree.specs.Environment.{Environment, FitsShape, RunsIn, RaisesDone, shape_of}
use Rattle.vlog_tree.specs.Labels as label
use Rattle.vlog_design.specs.Designs.{DesignTree, TopOf}
use Rattle.cycle_sim.specs.Told.{IsToldOf}
use Rattle.cycle_sim.specs.Sims.{SimTree, InRuns, IsNext, IsLater, IsDoneAt, last_cycle}

module _ (first now : SimTree) (n : ℕ) (run : IsLater first now n) where
  -- what holds of the runs that a later one tells of holds of those of the first one
  pub from_later : (P : ModuleTree → Environment → (ℕ → Path → Cycle) → Type 0) → InRuns now P → InRuns first P
  from_later P h m env nets at f ready r told =
      h m env nets (subst (λ (d : DesignTree). TopOf d m) (sym run.same) at) f (ready ∙ sym run.ready) (subst (λ (d : DesignTree). RunsIn d.modules m env nets) (sym run.same) r)
      (subst (λ (d : DesignTree). IsToldOf d.modules m env nets now.told) (sym run.same) (run.told m env nets at f ready r told))

  -- one cycle later
  pub later_step : (next : SimTree) → IsNext now next → IsLater first next (n + 1)
  later_step next step = record {
    same = step.same ∙ run.same;
    at = step.cycle ∙ ap (λ (k : ℕ). k + 1) run.at;
    ready = step.ready ∙ run.ready;
    told = from_later (λ m env nets. IsToldOf first.design.modules m env nets next.told)
        (subst (λ (d : DesignTree). InRuns now (λ m env nets. IsToldOf d.modules m env nets next.told)) run.same step.told);
  }

-- none of the cycles before was the last
abbrev pub IsGoing : (ℕ → Cycle) → ℕ → Type 0
IsGoing run n = (j : ℕ) → j < n → RaisesDone run j → ⊥

pub not_at_first : (run : ℕ → Cycle) → RaisesDone run 0 → ⊥
not_at_first run d = (let low : 1 ≤ 0 = d.0 in absurd (omega arith))

-- so the last comes later
pub goes_to : (run : ℕ → Cycle) (limit n : ℕ) (at : Option ℕ) → IsDoneAt run limit at → n ≤ limit → IsGoing run n → n ≤ last_cycle limit at
goes_to run limit n None done low going = low
goes_to run limit n (Some k) done low going = by_order (cases_less k n) where
  cases_less : (a b : ℕ) → (a < b) ⊎ (b ≤ a)
  cases_less a b = grind arith

  by_order : (k < n) ⊎ (n ≤ k) → n ≤ k
  by_order (inl less) = absurd (going k less done.1)
  by_order (inr h) = h

pub going_on : (run : ℕ → Cycle) (n : ℕ) → IsGoing run n → (RaisesDone run n → ⊥) → IsGoing run (n + 1)
going_on run n going not_now j low d = by_case (cases_eq j n) where
  by_case : (j ≡ n) ⊎ (j ≢ n) → ⊥
  by_case (inl e) = not_now (subst (λ (k : ℕ). RaisesDone run k) e d)
  by_case (inr ne) = going j (omega arith) d

-- ---- a design is done first in some cycle, or in none up to a limit

one_more : (run : ℕ → Cycle) (n : ℕ) → ((j : ℕ) → j ≤ n → RaisesDone run j → ⊥) → ((run (suc n)).net label.done ≡ 1) ⊎ ((run (suc n)).net label.done ≢ 1) → (at : Option ℕ) × IsDoneAt run (suc n) at
one_more run n none (inl is) = (Some (suc n), (omega arith, (omega arith, is), λ j low d. none j (omega arith) d))
one_more run n none (inr not) = (None, λ j low d. by_case j low d (cases_eq j (suc n))) where
  by_case : (j : ℕ) → j ≤ suc n → RaisesDone run j → (j ≡ suc n) ⊎ (j ≢ suc n) → ⊥
  by_case j low d (inl e) = not (subst (λ (k : ℕ). (run k).net label.done ≡ 1) e d.1)
  by_case j low d (inr ne) = none j (omega arith) d

further : (run : ℕ → Cycle) (n : ℕ) → (at : Option ℕ) × IsDoneAt run n at → (at : Option ℕ) × IsDoneAt run (suc n) at
further run n (Some k, is) = (Some k, (omega (arith, is.0), is.1, is.2))
further run n (None, none) = one_more run n none (cases_eq ((run (suc n)).net label.done) 1)

pub some_done_at : (run : ℕ → Cycle) (limit : ℕ) → (at : Option ℕ) × IsDoneAt run limit at
some_done_at run zero = (None, λ j low d. (let some : 1 ≤ j = d.0 in absurd (omega arith)))
some_done_at run (suc n) = further run n (some_done_at run n)
