-- A graph has one plan on a device by a mode, or one reason for none.
use Rattle.std.proofs.Common.{◌≡◌, ℕ, ◌^◌, ◌<◌, ◌≤◌, true, List, None, Some, length, get_or, refl, sym, ap, subst, ◌∙◌, arith}
use Rattle.std.proofs.lemmas.Grind.{same_number_lists}
use Rattle.std.proofs.lemmas.List.{ext_get_or}
use Rattle.tapa_words.specs.declared.command.PlanMode.{PlanMode}
use Rattle.tapa_words.specs.declared.command.PlanMode.TheVariants.{Exact, Fit, Split}
use Rattle.task_graph.specs.declared.Graph.{Graph}
use Rattle.task_graph.specs.declared.Use.{Use}
use Rattle.task_graph.specs.Streams.{amount}
use Rattle.task_graph.specs.Uses.{nothing}
use Rattle.plan_device.specs.declared.device.Device.{Device}
use Rattle.slot_plan.specs.declared.floorplan.PlanFault.TheVariants.{NoFit, TooMany}
use Rattle.slot_plan.specs.Causes.{open_slots, free_groups, AreUsed}
use Rattle.slot_plan.specs.Plan.{need_of, cost, IsPlanOf}
use Rattle.slot_plan.proofs.Beating.{beat_both}
use Rattle.slot_plan.proofs.Uses.{amount_or}
use Rattle.slot_split.proofs.Single.{one_halving_plan, halves_or_fails, fails_at_one_level}
use Rattle.plan_report.specs.Added.{AreAdded}
use Rattle.plan_report.proofs.OneAdded.{one_added}
use Rattle.command_answers.specs.Refusal.{Refusal, Read, TooLong, Source, Data, Device as BadDevice, Verilog, Dump, Ticks, Stopped, TooManyPlans, NoPlan, NoRoom, NoHalving, Undone}
use Rattle.command_plan.specs.Planned.{IsPlanFor, IsFaultOf, IsUnhalved, IsUnplanned, first_label}
use Rattle.tapa_laws.specs.plans.OnePlanOf.{PlansAreOne, RefusalsAreOne, PlannedOrRefused, BuildAddsWhatPlanPrints}
use Rattle.tapa_laws.proofs.plans.OneFirstFit.{one_by_all, one_blamed, never_blamed}

-- ---- one plan

slots_one : (g : Graph) (d : Device) (mode : PlanMode) (p q : List ℕ) → IsPlanFor g d mode p → IsPlanFor g d mode q → p ≡ q
slots_one g d Exact p q a b = beat_both g d p q (a.1.plan.whole ∙ sym b.1.plan.whole) (a.1.beats q b.1.plan) (b.1.beats p a.1.plan)
slots_one g d Fit p q a b =
    same_number_lists p q (a.whole ∙ sym b.whole)
    (λ v l. one_by_all g.groups (need_of g d) d p q a.each b.each v (let n = a.whole in omega arith))
slots_one g d Split p q a b = one_halving_plan g d p q a b

abbrev uses : ℕ → ℕ → ℕ → ℕ → ℕ → Use
uses lut ff bram dsp uram = record { lut = lut; ff = ff; bram = bram; dsp = dsp; uram = uram }

-- amounts that are the same in each kind are one
one_use : (a b : Use) → ((k : ℕ) → amount a k ≡ amount b k) → a ≡ b
one_use a b h =
    ap (λ (x : ℕ). uses x a.ff a.bram a.dsp a.uram) (h 0)
    ∙ (ap (λ (x : ℕ). uses b.lut x a.bram a.dsp a.uram) (h 1)
    ∙ (ap (λ (x : ℕ). uses b.lut b.ff x a.dsp a.uram) (h 2)
    ∙ (ap (λ (x : ℕ). uses b.lut b.ff b.bram x a.uram) (h 3) ∙ ap (λ (x : ℕ). uses b.lut b.ff b.bram b.dsp x) (h 4))))

used_one : (g : Graph) (d : Device) (slots : List ℕ) (a b : List Use) → AreUsed g d slots a → AreUsed g d slots b → a ≡ b
used_one g d slots a b x y =
    ext_get_or nothing a b (x.long ∙ sym y.long)
    (λ s l.
    let inside : s < length d.slots.items = (let n = x.long in omega arith) in
    let other : s < length b = (let n = y.long in omega arith) in
    one_use (get_or a s nothing) (get_or b s nothing)
    (λ k. sym (amount_or a s nothing l k) ∙ (x.value s k inside ∙ (sym (y.value s k inside) ∙ amount_or b s nothing other k))))

pub plans_are_one : PlansAreOne
plans_are_one = λ g d mode p q a b.
    let is : p.slot.items ≡ q.slot.items = slots_one g d mode p.slot.items q.slot.items a.by b.by in
    let used : AreUsed g d p.slot.items q.used.items = subst (λ (xs : List ℕ). AreUsed g d xs q.used.items) (sym is) b.used in
    (is, used_one g d p.slot.items p.used.items q.used.items a.used used, a.cost ∙ (ap (cost g d) is ∙ sym b.cost))

-- ---- one reason for none

-- what a refusal to plan is
data Reason (g : Graph) (d : Device) (mode : PlanMode) (why : Refusal) : Type 0 where
  Many : (slots free : ℕ) → why ≡ TooManyPlans slots free → IsFaultOf g d mode (TooMany slots free) → Reason g d mode why
  Nowhere : why ≡ NoPlan → IsFaultOf g d mode (NoFit None) → Reason g d mode why
  Blamed : (group : ℕ) → why ≡ NoRoom (first_label g group) → IsFaultOf g d mode (NoFit (Some group)) → Reason g d mode why
  Unhalved : (level : ℕ) → why ≡ NoHalving level → IsUnhalved g d mode level → Reason g d mode why

reason : (g : Graph) (d : Device) (mode : PlanMode) (why : Refusal) → IsUnplanned g d mode why → Reason g d mode why
reason g d mode (TooManyPlans slots free) h = Many slots free refl h
reason g d mode NoPlan h = Nowhere refl h
reason g d mode (NoRoom label) h = Blamed h.0 (ap NoRoom h.1) h.2
reason g d mode (NoHalving level) h = Unhalved level refl h
reason g d mode (Read file) h = absurd h
reason g d mode (TooLong file) h = absurd h
reason g d mode (Source place code) h = absurd h
reason g d mode (Data fault) h = absurd h
reason g d mode (BadDevice fault) h = absurd h
reason g d mode (Verilog fault) h = absurd h
reason g d mode (Dump fault) h = absurd h
reason g d mode (Ticks limit) h = absurd h
reason g d mode (Stopped lines) h = absurd h
reason g d mode (Undone limit) h = absurd h

over : (n m : ℕ) → m < n → n ≤ m → ⊥
over n m a b = omega arith

-- as many ways as the device has are not both few and too many
many_not_few : (d : Device) (slots free : ℕ) → slots ≡ open_slots d → free ≡ free_groups d → 4194304 < slots ^ free → open_slots d ^ free_groups d ≤ 4194304 → ⊥
many_not_few d slots free s f many few =
    let same : slots ^ free ≡ open_slots d ^ free_groups d = ap (λ (x : ℕ). x ^ free) s ∙ ap (λ (y : ℕ). open_slots d ^ y) f in
    over (open_slots d ^ free_groups d) 4194304 (subst (λ (n : ℕ). 4194304 < n) same many) few

same_many : (slots free more others : ℕ) → slots ≡ more → free ≡ others → TooManyPlans slots free ≡ TooManyPlans more others
same_many slots free more others s f = ap (λ (x : ℕ). TooManyPlans x free) s ∙ ap (λ (y : ℕ). TooManyPlans more y) f

one_reason : (g : Graph) (d : Device) (mode : PlanMode) (why other : Refusal) → Reason g d mode why → Reason g d mode other → why ≡ other
one_reason g d Exact why other (Many s f is h) (Many t k are m) = is ∙ (same_many s f t k (h.0 ∙ sym m.0) (h.1 ∙ sym m.1) ∙ sym are)
one_reason g d Exact why other (Many s f is h) (Nowhere are m) = absurd (many_not_few d s f h.0 h.1 h.2 m.0)
one_reason g d Exact why other (Many s f is h) (Blamed group are m) = absurd m
one_reason g d Exact why other (Many s f is h) (Unhalved level are m) = absurd m
one_reason g d Exact why other (Nowhere is h) (Many t k are m) = absurd (many_not_few d t k m.0 m.1 m.2 h.0)
one_reason g d Exact why other (Nowhere is h) (Nowhere are m) = is ∙ sym are
one_reason g d Exact why other (Nowhere is h) (Blamed group are m) = absurd m
one_reason g d Exact why other (Nowhere is h) (Unhalved level are m) = absurd m
one_reason g d Exact why other (Blamed group is h) r = absurd h
one_reason g d Exact why other (Unhalved level is h) r = absurd h
one_reason g d Fit why other (Many s f is h) r = absurd h
one_reason g d Fit why other (Nowhere is h) r = absurd h
one_reason g d Fit why other (Unhalved level is h) r = absurd h
one_reason g d Fit why other (Blamed v is h) (Many t k are m) = absurd m
one_reason g d Fit why other (Blamed v is h) (Nowhere are m) = absurd m
one_reason g d Fit why other (Blamed v is h) (Unhalved level are m) = absurd m
one_reason g d Fit why other (Blamed v is h) (Blamed w are m) =
    let same : v ≡ w = one_blamed g.groups (need_of g d) d h.0 m.0 v w h.1 m.1 in
    is ∙ (ap (λ (x : ℕ). NoRoom (first_label g x)) same ∙ sym are)
one_reason g d Split why other (Nowhere is h) r = absurd h
one_reason g d Split why other (Blamed v is h) r = absurd h
one_reason g d Split why other (Many s f is h) (Many t k are m) = is ∙ (same_many s f t k (h.0 ∙ sym m.0) (h.1.0 ∙ sym m.1.0) ∙ sym are)
one_reason g d Split why other (Many s f is h) (Nowhere are m) = absurd m
one_reason g d Split why other (Many s f is h) (Blamed group are m) = absurd m
one_reason g d Split why other (Many s f is h) (Unhalved level are m) = absurd (let a = h.1.0 in let b = h.1.1 in let c = m.few in over f 22 b (omega arith))
one_reason g d Split why other (Unhalved level is h) (Nowhere are m) = absurd m
one_reason g d Split why other (Unhalved level is h) (Blamed group are m) = absurd m
one_reason g d Split why other (Unhalved level is h) (Many t k are m) = absurd (let a = m.1.0 in let b = m.1.1 in let c = h.few in over k 22 b (omega arith))
one_reason g d Split why other (Unhalved level is h) (Unhalved lower are m) = is ∙ (ap NoHalving (fails_at_one_level g d level lower h m) ∙ sym are)

pub refusals_are_one : RefusalsAreOne
refusals_are_one = λ g d mode why other h m. one_reason g d mode why other (reason g d mode why h) (reason g d mode other m)

-- ---- a plan, or a reason for none

no_reason : (g : Graph) (d : Device) (mode : PlanMode) (p : List ℕ) (why : Refusal) → IsPlanOf g d p → IsPlanFor g d mode p → Reason g d mode why → ⊥
no_reason g d Exact p why plan by (Many s f is h) = many_not_few d s f h.0 h.1 h.2 by.0
no_reason g d Exact p why plan by (Nowhere is h) = h.1 p plan
no_reason g d Exact p why plan by (Blamed v is h) = h
no_reason g d Exact p why plan by (Unhalved level is h) = h
no_reason g d Fit p why plan by (Many s f is h) = h
no_reason g d Fit p why plan by (Nowhere is h) = h
no_reason g d Fit p why plan by (Blamed v is h) = never_blamed g.groups (need_of g d) d h.0 p v h.1 by.each
no_reason g d Fit p why plan by (Unhalved level is h) = h
no_reason g d Split p why plan by (Many s f is h) = let a = h.1.0 in let b = h.1.1 in let c = by.few in over f 22 b (omega arith)
no_reason g d Split p why plan by (Nowhere is h) = h
no_reason g d Split p why plan by (Blamed v is h) = h
no_reason g d Split p why plan by (Unhalved level is h) = halves_or_fails g d p level by h

pub planned_or_refused : PlannedOrRefused
planned_or_refused = λ g d mode p why found h. no_reason g d mode p.slot.items why found.fits found.by (reason g d mode why h)

-- ---- what a plan adds is what its lines tell

pub build_adds : BuildAddsWhatPlanPrints
build_adds = λ program g d mode p q lines told a b printed built e inside.
    let is : p.slot.items ≡ q.slot.items = slots_one g d mode p.slot.items q.slot.items a.by b.by in
    let are : AreAdded g d p.slot.items true built.added = subst (λ (xs : List ℕ). AreAdded g d xs true built.added) (sym is) built.are in
    let sum = one_added g d p.slot.items printed.latencies printed.balance built.added printed.borders printed.best are e inside in
    let bal = printed.best.bal e inside in
    omega arith
