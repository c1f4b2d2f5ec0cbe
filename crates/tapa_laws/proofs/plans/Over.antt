-- What is told of plans of a graph on a device is told of every graph and device that are the same as plain data.
use Rattle.std.proofs.Common.{◌≡◌, ℕ, zero, suc, ◌+◌, ◌*◌, ◌^◌, ◌<◌, ◌≤◌, Bool, true, false, List, Option, None, Some, length, sym, ap, subst, ◌∙◌}
use Rattle.std.specs.Prelude.{◌-◌, ◌/◌, ◌%◌, if◌then◌else◌, ◌==◌, ◌&&◌, not, nat_lt, count_by, slice_get, slice_index, slice_index_or}
use Rattle.task_graph.specs.declared.Edge.{Edge}
use Rattle.task_graph.specs.declared.Graph.{Graph}
use Rattle.task_graph.specs.declared.Use.{Use}
use Rattle.task_graph.specs.Arcs.{total}
use Rattle.task_graph.specs.Streams.{from_of, to_of, width_of, amount_at}
use Rattle.flow_cert.proofs.Sums.{total_same}
use Rattle.plan_device.specs.One.{AreAlike}
use Rattle.plan_device.specs.declared.device.Device.{Device}
use Rattle.slot_plan.specs.declared.floorplan.Mode.{Mode}
use Rattle.slot_plan.specs.declared.floorplan.Mode.TheVariants.{Exact, Fit}
use Rattle.slot_plan.specs.declared.floorplan.PlanFault.{PlanFault}
use Rattle.slot_plan.specs.declared.floorplan.PlanFault.TheVariants.{NoFit, TooMany, OutOfMemory}
use Rattle.slot_plan.specs.Causes.{open_slots, has_no_pin, free_groups, HasFewWays, AreUsed, IsPlanBy, IsPlanCause}
use Rattle.slot_plan.specs.FirstFit.{is_pin, comes_before, used_before, HasRoom, StandsFirst, FindsNone, IsFirstFit}
use Rattle.slot_plan.specs.Least.{Beats, IsLeastPlanOf}
use Rattle.slot_plan.specs.Plan.{need_of, gap, cost, used_in, MayStand, IsPlanOf}
use Rattle.slot_split.specs.declared.planning.SplitFault.{SplitFault}
use Rattle.slot_split.specs.declared.planning.SplitFault.TheVariants as split_fault
use Rattle.slot_split.specs.Causes.{IsSplitCause}
use Rattle.slot_split.specs.Halving.{part_start, row_cuts, AreCuts, corner, capacity_in, IsOpenIn, IsIn, FitsLevel, StaysIn, IsNextLevel, IsLevel, HasNone, IsHalvingPlan, HasNoHalving}
use Rattle.tapa_laws.specs.plans.OneGraph.{AreAlikeGraphs}
use Rattle.slot_split.proofs.Grids.{within_as as bound_over}

-- ---- what a plan is measured by, from the lists of a graph and of a device

abbrev need_by : List ℕ → List Use → ℕ → ℕ → ℕ
need_by group uses v k = total (length group) (λ i. if slice_index group i == v then amount_at uses i k else 0)

abbrev used_by : List ℕ → List Use → List ℕ → ℕ → ℕ → ℕ
used_by group uses p s k = total (length p) (λ v. if slice_index p v == s then need_by group uses v k else 0)

abbrev distance_by : ℕ → ℕ → ℕ → ℕ
distance_by cols x y = gap (x / cols) (y / cols) + gap (x % cols) (y % cols)

abbrev cost_by : List ℕ → List Edge → ℕ → List ℕ → ℕ
cost_by group edges cols p =
    total (length edges)
    (λ e. width_of edges e * distance_by cols (slice_index p (slice_index group (from_of edges e))) (slice_index p (slice_index group (to_of edges e))))

abbrev comes_by : List (Option ℕ) → ℕ → ℕ → Bool
comes_by pins u v =
    if is_pin (slice_get pins u)
    then (if is_pin (slice_get pins v) then nat_lt u v else true)
    else (if is_pin (slice_get pins v) then false else nat_lt u v)

abbrev before_by : ℕ → (ℕ → ℕ → ℕ) → List (Option ℕ) → List ℕ → ℕ → ℕ → ℕ → ℕ
before_by n need pins p v s k = total n (λ u. if comes_by pins u v && (slice_index p u == s) then need u k else 0)

abbrev corner_by : ℕ → ℕ → ℕ → ℕ → ℕ → ℕ
corner_by rows cols R K s = part_start (row_cuts R K) rows (s / cols) * cols + part_start (K - R) cols (s % cols)

abbrev capacity_by : ℕ → ℕ → List Use → List Bool → ℕ → ℕ → ℕ → ℕ → ℕ
capacity_by rows cols slots forbidden R K c k =
    total (length slots) (λ s. if (corner_by rows cols R K s == c) && not (slice_index_or forbidden s false) then amount_at slots s k else 0)

-- ---- there and back

pub flip_graphs : (g h : Graph) → AreAlikeGraphs g h → AreAlikeGraphs h g
flip_graphs g h a = record { labels = sym a.labels; group = sym a.group; groups = sym a.groups; uses = sym a.uses; edges = sym a.edges }

flip_devices : (d e : Device) → AreAlike d e → AreAlike e d
flip_devices d e b = record {
  rows = sym b.rows;
  cols = sym b.cols;
  levels_rows = sym b.levels_rows;
  levels_cols = sym b.levels_cols;
  percent = sym b.percent;
  slots = sym b.slots;
  uses = sym b.uses;
  pins = sym b.pins;
  forbidden = sym b.forbidden;
}

-- ---- slots and regions of a device

module _ (d e : Device) (b : AreAlike d e) where
  slot_over : (s : ℕ) → s < length d.slots.items → s < length e.slots.items
  slot_over s l = subst (λ (xs : List Use). s < length xs) b.slots l

  slot_back : (s : ℕ) → s < length e.slots.items → s < length d.slots.items
  slot_back s l = subst (λ (xs : List Use). s < length xs) (sym b.slots) l

  pin_back : (v t : ℕ) → slice_get e.pins.items v ≡ Some (Some t) → slice_get d.pins.items v ≡ Some (Some t)
  pin_back v t at = subst (λ (xs : List (Option ℕ)). slice_get xs v ≡ Some (Some t)) (sym b.pins) at

  may_over : (v s : ℕ) → MayStand d v s → MayStand e v s
  may_over v s may = record {
    inside = slot_over s may.inside;
    free = subst (λ (xs : List Bool). slice_index_or xs s false ≡ false) b.forbidden may.free;
    pinned = λ t at. may.pinned t (pin_back v t at);
  }

  slot_same : (s k : ℕ) → amount_at d.slots.items s k ≡ amount_at e.slots.items s k
  slot_same s k = ap (λ (xs : List Use). amount_at xs s k) b.slots

  open_same : open_slots d ≡ open_slots e
  open_same = ap (λ (xs : List Bool). count_by not xs) b.forbidden

  free_same : free_groups d ≡ free_groups e
  free_same = ap (λ (xs : List (Option ℕ)). count_by has_no_pin xs) b.pins

  few_over : HasFewWays d → HasFewWays e
  few_over few = subst (λ (n : ℕ). n ^ free_groups e ≤ 4194304) open_same (subst (λ (n : ℕ). open_slots d ^ n ≤ 4194304) free_same few)

  comes_same : (u v : ℕ) → comes_before d u v ≡ comes_before e u v
  comes_same u v = ap (λ (xs : List (Option ℕ)). comes_by xs u v) b.pins

  corner_same : (R K s : ℕ) → corner d R K s ≡ corner e R K s
  corner_same R K s = ap (λ (n : ℕ). corner_by n d.cols R K s) b.rows ∙ ap (λ (n : ℕ). corner_by e.rows n R K s) b.cols

  region_over : (R K s c : ℕ) → corner d R K s ≡ c → corner e R K s ≡ c
  region_over R K s c at = sym (corner_same R K s) ∙ at

  region_same : (R K c k : ℕ) → capacity_in d R K c k ≡ capacity_in e R K c k
  region_same R K c k =
      ap (λ (n : ℕ). capacity_by n d.cols d.slots.items d.forbidden.items R K c k) b.rows
      ∙ (ap (λ (n : ℕ). capacity_by e.rows n d.slots.items d.forbidden.items R K c k) b.cols
      ∙ (ap (λ (xs : List Use). capacity_by e.rows e.cols xs d.forbidden.items R K c k) b.slots
      ∙ ap (λ (xs : List Bool). capacity_by e.rows e.cols e.slots.items xs R K c k) b.forbidden))

  usable_over : (R K c s : ℕ) → IsOpenIn d R K c s → IsOpenIn e R K c s
  usable_over R K c s usable = record {
    inside = slot_over s usable.inside;
    region = region_over R K s c usable.region;
    free = subst (λ (xs : List Bool). not (slice_index_or xs s false) ≡ true) b.forbidden usable.free;
  }

  in_over : (R K v c : ℕ) → IsIn d R K v c → IsIn e R K v c
  in_over R K v c is = record {
    inside = slot_over c is.inside;
    region = region_over R K c c is.region;
    usable = (is.usable.0, usable_over R K c is.usable.0 is.usable.1);
    pinned = λ t at. region_over R K t c (is.pinned t (pin_back v t at));
  }

  stays_over : (R K : ℕ) (p q : List ℕ) → StaysIn d R K p q → StaysIn e R K p q
  stays_over R K p q stays = λ v l. region_over R K (slice_index q v) (slice_index p v) (stays v l)

-- ---- slots that have room, where groups need as much

module _ (n m : ℕ) (need other : ℕ → ℕ → ℕ) (d e : Device) (groups : n ≡ m) (needs : (v k : ℕ) → need v k ≡ other v k) (b : AreAlike d e) where
  before_needs : (p : List ℕ) (v s k : ℕ) → used_before n need d p v s k ≡ used_before n other d p v s k
  before_needs p v s k = total_same n _ _ (λ u l. ap (λ (x : ℕ). if comes_before d u v && (slice_index p u == s) then x else 0) (needs u k))

  before_same : (p : List ℕ) (v s k : ℕ) → used_before n need d p v s k ≡ used_before m other e p v s k
  before_same p v s k =
      before_needs p v s k
      ∙ (ap (λ (xs : List (Option ℕ)). before_by n other xs p v s k) b.pins ∙ ap (λ (x : ℕ). before_by x other e.pins.items p v s k) groups)

  beside_same : (p : List ℕ) (v s k : ℕ) → used_before n need d p v s k + need v k ≡ used_before m other e p v s k + other v k
  beside_same p v s k =
      ap (λ (x : ℕ). x + need v k) (before_same p v s k) ∙ ap (λ (x : ℕ). used_before m other e p v s k + x) (needs v k)

  room_over : (p : List ℕ) (v s : ℕ) → HasRoom n need d p v s → HasRoom m other e p v s
  room_over p v s has = record {
    may = may_over d e b v s has.may;
    room = λ k. bound_over _ _ _ _ _ _ (beside_same p v s k) (slot_same d e b s k) b.percent (has.room k);
  }

module _ (n m : ℕ) (need other : ℕ → ℕ → ℕ) (d e : Device) (groups : n ≡ m) (needs : (v k : ℕ) → need v k ≡ other v k) (b : AreAlike d e) where
  room_back : (p : List ℕ) (v s : ℕ) → HasRoom m other e p v s → HasRoom n need d p v s
  room_back p v s has = room_over m n other need e d (sym groups) (λ u k. sym (needs u k)) (flip_devices d e b) p v s has

  stands_over : (p : List ℕ) (v : ℕ) → StandsFirst n need d p v → StandsFirst m other e p v
  stands_over p v stands = record {
    room = room_over n m need other d e groups needs b p v (slice_index p v) stands.room;
    first = λ s l has. stands.first s l (room_back p v s has);
  }

  finds_over : (p : List ℕ) (v : ℕ) → FindsNone n need d p v → FindsNone m other e p v
  finds_over p v finds = record {
    inside = subst (λ (x : ℕ). v < x) groups finds.inside;
    before = λ u l first. stands_over p u (finds.before u (subst (λ (x : ℕ). u < x) (sym groups) l) (comes_same d e b u v ∙ first));
    none = λ s has. finds.none s (room_back p v s has);
  }

-- ---- plans and levels, one way

module _ (g h : Graph) (d e : Device) (a : AreAlikeGraphs g h) (b : AreAlike d e) where
  need_same : (v k : ℕ) → need_of g d v k ≡ need_of h e v k
  need_same v k = ap (λ (xs : List ℕ). need_by xs d.uses.items v k) a.group ∙ ap (λ (xs : List Use). need_by h.group.items xs v k) b.uses

  used_same : (p : List ℕ) (s k : ℕ) → used_in g d p s k ≡ used_in h e p s k
  used_same p s k = ap (λ (xs : List ℕ). used_by xs d.uses.items p s k) a.group ∙ ap (λ (xs : List Use). used_by h.group.items xs p s k) b.uses

  -- a plan costs as much
  pub cost_over : (p : List ℕ) → cost g d p ≡ cost h e p
  cost_over p =
      ap (λ (xs : List ℕ). cost_by xs g.edges.items d.cols p) a.group
      ∙ (ap (λ (xs : List Edge). cost_by h.group.items xs d.cols p) a.edges ∙ ap (λ (n : ℕ). cost_by h.group.items h.edges.items n p) b.cols)

  -- a plan is a plan
  pub plan_over : (p : List ℕ) → IsPlanOf g d p → IsPlanOf h e p
  plan_over p plan = record {
    whole = plan.whole ∙ a.groups;
    each = λ v l. may_over d e b v (slice_index p v) (plan.each v l);
    within = λ s k l. bound_over _ _ _ _ _ _ (used_same p s k) (slot_same d e b s k) b.percent (plan.within s k (slot_back d e b s l));
  }

  -- its slots are used as much
  pub used_over : (p : List ℕ) (used : List Use) → AreUsed g d p used → AreUsed h e p used
  used_over p used are = record {
    long = are.long ∙ ap (λ (xs : List Use). length xs) b.slots;
    value = λ s k l. are.value s k (slot_back d e b s l) ∙ used_same p s k;
  }

  beats_over : (p q : List ℕ) → Beats g d p q → Beats h e p q
  beats_over p q beats = record {
    cheap = subst (λ (x : ℕ). x ≤ cost h e q) (cost_over p) (subst (λ (x : ℕ). cost g d p ≤ x) (cost_over q) beats.cheap);
    first = λ same. beats.first (cost_over p ∙ (same ∙ sym (cost_over q)));
  }

  first_fit_over : (p : List ℕ) → IsFirstFit g d p → IsFirstFit h e p
  first_fit_over p fit = record {
    whole = fit.whole ∙ a.groups;
    each = λ v l. stands_over g.groups h.groups (need_of g d) (need_of h e) d e a.groups need_same b p v (fit.each v (subst (λ (x : ℕ). v < x) (sym a.groups) l));
  }

  blamed_over : (p : List ℕ) (v : ℕ) → FindsNone g.groups (need_of g d) d p v → FindsNone h.groups (need_of h e) e p v
  blamed_over p v finds = finds_over g.groups h.groups (need_of g d) (need_of h e) d e a.groups need_same b p v finds

  fits_over : (R K : ℕ) (p : List ℕ) → FitsLevel g d R K p → FitsLevel h e R K p
  fits_over R K p fits = record {
    whole = fits.whole ∙ a.groups;
    each = λ v l. in_over d e b R K v (slice_index p v) (fits.each v l);
    within = λ c k l. bound_over _ _ _ _ _ _ (used_same p c k) (region_same d e b R K c k) b.percent (fits.within c k (slot_back d e b c l));
  }

-- ---- what is told of all plans and of all lists of regions: these come back

module _ (g h : Graph) (d e : Device) (a : AreAlikeGraphs g h) (b : AreAlike d e) where
  plan_back : (p : List ℕ) → IsPlanOf h e p → IsPlanOf g d p
  plan_back p plan = plan_over h g e d (flip_graphs g h a) (flip_devices d e b) p plan

  fits_back : (R K : ℕ) (p : List ℕ) → FitsLevel h e R K p → FitsLevel g d R K p
  fits_back R K p fits = fits_over h g e d (flip_graphs g h a) (flip_devices d e b) R K p fits

  stays_back : (R K : ℕ) (p q : List ℕ) → StaysIn e R K p q → StaysIn d R K p q
  stays_back R K p q stays = stays_over e d (flip_devices d e b) R K p q stays

  least_over : (p : List ℕ) → IsLeastPlanOf g d p → IsLeastPlanOf h e p
  least_over p least = record {
    plan = plan_over g h d e a b p least.plan;
    beats = λ q plan. beats_over g h d e a b p q (least.beats q (plan_back q plan));
  }

  -- the plan of a mode is that mode's plan
  pub by_over : (mode : Mode) (p : List ℕ) → IsPlanBy g d mode p → IsPlanBy h e mode p
  by_over Exact p by = (few_over d e b by.0, least_over p by.1)
  by_over Fit p by = first_fit_over g h d e a b p by

  -- why a mode has no plan
  pub cause_over : (mode : Mode) (fault : PlanFault) → IsPlanCause g d mode fault → IsPlanCause h e mode fault
  cause_over Exact (TooMany slots free) cause = (cause.0 ∙ open_same d e b, cause.1 ∙ free_same d e b, cause.2)
  cause_over Exact (NoFit None) cause = (few_over d e b cause.0, λ q plan. cause.1 q (plan_back q plan))
  cause_over Exact (NoFit (Some v)) cause = absurd cause
  cause_over Exact OutOfMemory cause = tt
  cause_over Fit (TooMany slots free) cause = absurd cause
  cause_over Fit (NoFit None) cause = absurd cause
  cause_over Fit (NoFit (Some v)) cause = (cause.0, blamed_over g h d e a b cause.0 v cause.1)
  cause_over Fit OutOfMemory cause = tt

  next_over : (R K : ℕ) (p q : List ℕ) → IsNextLevel g d R K p q → IsNextLevel h e R K p q
  next_over R K p q next = record {
    fits = fits_over g h d e a b R (suc K) q next.fits;
    stays = stays_over d e b R K p q next.stays;
    beats = λ r fits stays. beats_over g h d e a b q r (next.beats r (fits_back R (suc K) r fits) (stays_back R K p r stays));
  }

  level_over : (R K : ℕ) (p : List ℕ) → IsLevel g d R K p → IsLevel h e R K p
  level_over R zero p level = fits_over g h d e a b R 0 p level
  level_over R (suc K) p level = (level.0, level_over R K level.0 level.1, next_over R K level.0 p level.2)

  none_over : (R K : ℕ) → HasNone g d R K → HasNone h e R K
  none_over R zero none = λ p fits. none p (fits_back R 0 p fits)
  none_over R (suc K) none =
      (none.0, level_over R K none.0 none.1, λ q fits stays. none.2 q (fits_back R (suc K) q fits) (stays_back R K none.0 q stays))

  -- a plan by halving is one
  pub halving_over : (p : List ℕ) → IsHalvingPlan g d p → IsHalvingPlan h e p
  halving_over p halving = record {
    rows = halving.rows;
    cols = halving.cols;
    row_levels = subst (λ (n : ℕ). AreCuts n halving.rows) b.rows halving.row_levels;
    col_levels = subst (λ (n : ℕ). AreCuts n halving.cols) b.cols halving.col_levels;
    few = subst (λ (n : ℕ). n ≤ 22) (free_same d e b) halving.few;
    last = level_over halving.rows (halving.rows + halving.cols) p halving.last;
  }

  no_halving_over : (level : ℕ) → HasNoHalving g d level → HasNoHalving h e level
  no_halving_over level fails = record {
    rows = fails.rows;
    cols = fails.cols;
    row_levels = subst (λ (n : ℕ). AreCuts n fails.rows) b.rows fails.row_levels;
    col_levels = subst (λ (n : ℕ). AreCuts n fails.cols) b.cols fails.col_levels;
    few = subst (λ (n : ℕ). n ≤ 22) (free_same d e b) fails.few;
    within = fails.within;
    none = none_over fails.rows level fails.none;
  }

  -- why there is no plan by halving
  pub split_cause_over : (fault : SplitFault) → IsSplitCause g d fault → IsSplitCause h e fault
  split_cause_over (split_fault.TooMany free) cause = (cause.0 ∙ free_same d e b, cause.1)
  split_cause_over (split_fault.NoSplit level) cause = no_halving_over level cause
  split_cause_over split_fault.OutOfMemory cause = tt
