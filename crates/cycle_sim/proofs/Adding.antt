-- What streams carried, from cycle to cycle.
use Rattle.std.proofs.Common.{◌≡◌, ◌≢◌, ℕ, zero, suc, ◌+◌, ◌<◌, ◌≤◌, List, [], ◌∷◌, ◌++◌, Some, None, length, get_or, inl, inr, refl, sym, ap, subst, ◌∙◌, arith}
use Rattle.std.specs.Prelude.{◌⊎◌, slice_get, slice_set, slice_index_or, Vec}
use Rattle.std.specs.declared.alloc.Global.{Global}
use Rattle.std.specs.Option.{option_to_list}
use Rattle.std.proofs.lemmas.Bool.{cases_eq}
use Rattle.std.proofs.lemmas.List.{get_or-set_other}
use Rattle.std.proofs.lemmas.Grind.{get_or-set_at}
use Rattle.std.proofs.lemmas.Option.{slice_get_within}
use Rattle.tapa_base.specs.declared.shape.Port.{Port}
use Rattle.tapa_base.specs.declared.token.Token.{Token}
use Rattle.vlog_tree.specs.Form.{ModuleTree}
use Rattle.vlog_tree.specs.Cycle.{Cycle, Path}
use Rattle.vlog_tree.specs.Environment.{Environment, FitsShape, RunsIn, RaisesDone, shape_of, streams_of, tokens}
use Rattle.vlog_design.specs.Designs.{DesignTree, TopOf}
use Rattle.vlog_design.specs.Environments.{lists_of}
use Rattle.cycle_sim.specs.Told.{IsToldOf}
use Rattle.cycle_sim.specs.Sims.{SimTree, InRuns, IsNext, IsLater, IsCarried, IsAdded, AreTokensAdded, IsRunTo, IsDoneAt}

pub lists_set : {A : Type 0} (vs : List (Vec A Global)) (i : ℕ) (v : Vec A Global) → lists_of (slice_set vs i v) ≡ slice_set (lists_of vs) i v.items
lists_set [] i v = refl
lists_set (u ∷ vs) zero v = refl
lists_set (u ∷ vs) (suc i) v = ap (λ z. u.items ∷ z) (lists_set vs i v)

pub lists_got : {A : Type 0} (vs : List (Vec A Global)) (i : ℕ) (d : Vec A Global) → i < length vs → get_or (lists_of vs) i [] ≡ (get_or vs i d).items
lists_got [] i d low = absurd (omega arith)
lists_got (u ∷ vs) zero d low = refl
lists_got (u ∷ vs) (suc i) d low = lists_got vs i d (omega arith)

pub lists_long : {A : Type 0} (vs : List (Vec A Global)) → length (lists_of vs) ≡ length vs
lists_long [] = refl
lists_long (u ∷ vs) = ap suc (lists_long vs)

module _ (s : SimTree) (old now : List (Vec Token Global)) (i : ℕ) (low : i < length now) (d new : Vec Token Global) (added : IsAdded s i (get_or now i d).items new.items)
    (before : (j : ℕ) → j < i → IsAdded s j (get_or (lists_of old) j []) (get_or (lists_of now) j [])) (behind : (j : ℕ) → i ≤ j → get_or (lists_of now) j [] ≡ get_or (lists_of old) j []) where
  here : (j : ℕ) → (j ≡ i) → get_or (lists_of (slice_set now i new)) j [] ≡ new.items
  here j e = ap (λ l. get_or l j []) (lists_set now i new) ∙ get_or-set_at (lists_of now) i j new.items [] e (subst (λ n. i < n) (sym (lists_long now)) low)

  away : (j : ℕ) → (j ≢ i) → get_or (lists_of (slice_set now i new)) j [] ≡ get_or (lists_of now) j []
  away j ne = ap (λ l. get_or l j []) (lists_set now i new) ∙ get_or-set_other (lists_of now) i j new.items [] ne

  added_at : (j : ℕ) → j < i + 1 → (j ≡ i) ⊎ (j ≢ i) → IsAdded s j (get_or (lists_of old) j []) (get_or (lists_of (slice_set now i new)) j [])
  added_at j h (inl e) =
      let held : (get_or now i d).items ≡ get_or (lists_of old) j [] = sym (lists_got now i d low) ∙ behind i (omega arith) ∙ ap (λ k. get_or (lists_of old) k []) (sym e) in
      (added.0, subst (λ k. IsCarried s k added.0) (sym e) added.1, here j e ∙ added.2 ∙ ap (λ l. l ++ option_to_list added.0) held)
  added_at j h (inr ne) = let b = before j (omega arith) in (b.0, b.1, away j ne ∙ b.2)

  -- one more stream's token is added
  pub added_more : (j : ℕ) → j < i + 1 → IsAdded s j (get_or (lists_of old) j []) (get_or (lists_of (slice_set now i new)) j [])
  added_more j h = added_at j h (cases_eq j i)

  pub behind_more : (j : ℕ) → i + 1 ≤ j → get_or (lists_of (slice_set now i new)) j [] ≡ get_or (lists_of old) j []
  behind_more j h = away j (λ e. absurd (omega arith)) ∙ behind j (omega arith)

module _ (first now next : SimTree) (old : List (List Token)) (run : IsRunTo first now old) (step : IsNext now next) where
  told_next : InRuns first (λ m env nets. IsToldOf first.design.modules m env nets next.told)
  told_next m env nets at f ready r told =
      let at_now : TopOf now.design m = subst (λ (d : DesignTree). TopOf d m) (sym run.same) at in
      let runs : RunsIn now.design.modules m env nets = subst (λ (d : DesignTree). RunsIn d.modules m env nets) (sym run.same) r in
      let told_now : IsToldOf now.design.modules m env nets now.told = subst (λ (d : DesignTree). IsToldOf d.modules m env nets now.told) (sym run.same) (run.told m env nets at f ready r told) in
      subst (λ (d : DesignTree). IsToldOf d.modules m env nets next.told) run.same (step.told m env nets at_now f (ready ∙ sym run.ready) runs told_now)

  -- what holds of the runs that the next one tells of holds of those of the first one
  pub from_next : (P : ModuleTree → Environment → (ℕ → Path → Cycle) → Type 0) → InRuns next P → InRuns first P
  from_next P h m env nets at f ready r told =
      let same : next.design ≡ first.design = step.same ∙ run.same in
      h m env nets (subst (λ (d : DesignTree). TopOf d m) (sym same) at) f (ready ∙ sym (step.ready ∙ run.ready)) (subst (λ (d : DesignTree). RunsIn d.modules m env nets) (sym same) r)
      (subst (λ (d : DesignTree). IsToldOf d.modules m env nets next.told) (sym same) (told_next m env nets at f ready r told))

  -- it stands in a later cycle of the same runs
  pub later_next : IsLater first next next.told.cycle
  later_next = record { same = step.same ∙ run.same; at = refl; ready = step.ready ∙ run.ready; told = told_next }

module _ (first now next : SimTree) (old new : List (List Token)) (run : IsRunTo first now old) (step : IsNext now next) (added : AreTokensAdded next old new) where
  pub tokens_next : InRuns first (λ m env nets. (place : ℕ) (l : Port) → slice_get (streams_of m) place ≡ Some l → tokens l.bits (λ n. nets n []) l.name next.told.cycle ≡ slice_index_or new place [])
  tokens_next m env nets at f ready r told place l got =
      let low : place < length (streams_of m) = slice_get_within (streams_of m) place l got in
      let c : length old ≡ length (streams_of m) = run.count m at in
      let a = added.1 place (omega arith) in
      let later : next.told.cycle ≡ suc now.told.cycle = omega (arith, step.cycle) in
      let grows = from_next first now next old run step (λ m env nets. (l : Port) (n : ℕ) → slice_get (streams_of m) place ≡ Some l → next.told.cycle ≡ suc n → tokens l.bits (λ k. nets k []) l.name (suc n) ≡ tokens l.bits (λ k. nets k []) l.name n ++ option_to_list a.0)
      a.1.later m env nets at f ready r told l now.told.cycle got later in
      ap (λ n. tokens l.bits (λ n. nets n []) l.name n) later ∙ grows ∙ ap (λ z. z ++ option_to_list a.0) (run.tokens m env nets at f ready r told place l got) ∙ sym a.2

  pub run_on : InRuns next (λ m env nets. RaisesDone (λ n. nets n []) next.told.cycle → ⊥) → IsRunTo first next new
  run_on not_done = record {
    same = step.same ∙ run.same;
    ready = step.ready ∙ run.ready;
    told = told_next first now next old run step;
    count = λ m at. added.0 ∙ run.count m at;
    tokens = tokens_next;
    going = λ m env nets at f ready r told n le d. by_last m env nets at f ready r told n d le (cases_eq n next.told.cycle);
  } where
    by_last : (m : ModuleTree) (env : Environment) (nets : ℕ → Path → Cycle) → TopOf first.design m → FitsShape env (shape_of m) → env.ready ≡ first.ready → RunsIn first.design.modules m env nets → IsToldOf first.design.modules m env nets first.told
        → (n : ℕ) → RaisesDone (λ n. nets n []) n → n ≤ next.told.cycle → (n ≡ next.told.cycle) ⊎ (n ≢ next.told.cycle) → ⊥
    by_last m env nets at f ready r told n d le (inl e) = from_next first now next old run step (λ m env nets. RaisesDone (λ n. nets n []) next.told.cycle → ⊥) not_done m env nets at f ready r told (subst (λ k. RaisesDone (λ n. nets n []) k) e d)
    by_last m env nets at f ready r told n d le (inr ne) =
        let c : next.told.cycle ≡ now.told.cycle + 1 = step.cycle in
        run.going m env nets at f ready r told n (omega arith) d

-- a simulator that has not gone on stands in cycle 0 of its own runs
pub later_none : (first : SimTree) → first.told.cycle ≡ 0 → IsLater first first 0
later_none first e = record { same = refl; at = e; ready = refl; told = λ m env nets at f ready r told. told }

-- where no cycle up to the limit was the last
pub none_done : (first now : SimTree) (carried : List (List Token)) (limit : ℕ) → IsRunTo first now carried → now.told.cycle ≡ limit → InRuns first (λ m env nets. IsDoneAt (λ n. nets n []) limit None)
none_done first now carried limit run e m env nets at f ready r told n le d = run.going m env nets at f ready r told n (omega (arith, e)) d

-- a simulator that went on stands in a later cycle of the same runs
pub later_of : (first now : SimTree) (carried : List (List Token)) (n : ℕ) → IsRunTo first now carried → now.told.cycle ≡ n → IsLater first now n
later_of first now carried n run e = record { same = run.same; at = e; ready = run.ready; told = run.told }
