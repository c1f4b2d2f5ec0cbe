-- The grid of a level's regions: it is one, and its plans are the lists of regions that fit.
use Rattle.std.proofs.Common.{◌≡◌, ℕ, ◌+◌, ◌*◌, ◌/◌, ◌%◌, ◌<◌, ◌≤◌, List, length, get_or, map, refl, sym, ap, subst, ◌∙◌, arith, Option, Some, None}
use Rattle.std.specs.Prelude.{if◌then◌else◌, ◌==◌, ◌&&◌, slice_get}
use Rattle.std.specs.Option.{option_map}
use Rattle.std.proofs.lemmas.List.{length-map}
use Rattle.std.proofs.lemmas.Option.{slice_get-map, none-some, same_Some}
use Rattle.task_graph.specs.declared.Graph.{Graph}
use Rattle.task_graph.specs.declared.Use.{Use}
use Rattle.task_graph.specs.Streams.{amount_at}
use Rattle.task_graph.specs.Arcs.{total, streams, tail, head, width}
use Rattle.plan_device.specs.declared.device.Device.{Device}
use Rattle.plan_device.specs.Devices.{IsDevice}
use Rattle.flow_cert.proofs.Sums.{total_same}
use Rattle.slot_plan.specs.Grids.{IsGrid}
use Rattle.slot_plan.specs.Merging.{is_open}
use Rattle.slot_plan.specs.Plan.{gap, cost, need_of, used_in, IsPlanOf, AreNeeds}
use Rattle.slot_plan.proofs.Limits.{few_slots, grid_of}
use Rattle.slot_split.specs.Halving.{corner, capacity_in, FitsLevel}
use Rattle.slot_split.specs.Regions.{AreCorners, AreSums, AreClosed, IsRegions}
use Rattle.slot_split.proofs.Corners.{corner_again}

-- ---- pins

pin_back : (f : ℕ → ℕ) (o : Option (Option ℕ)) (u : ℕ) → option_map (option_map f) o ≡ Some (Some u) → (t : ℕ) × (o ≡ Some (Some t)) × (u ≡ f t)
pin_back f None u e = absurd (none-some (Some u) e)
pin_back f (Some None) u e = absurd (none-some u (same_Some None (Some u) e))
pin_back f (Some (Some t)) u e = (t, refl, sym (same_Some (f t) u (same_Some (Some (f t)) (Some u) e)))

pub pin_of_map : (f : ℕ → ℕ) (pins old : List (Option ℕ)) (v u : ℕ) → pins ≡ map (option_map f) old → slice_get pins v ≡ Some (Some u) → (t : ℕ) × (slice_get old v ≡ Some (Some t)) × (u ≡ f t)
pin_of_map f pins old v u are e = pin_back f (slice_get old v) u (sym (slice_get-map (option_map f) old v) ∙ (sym (ap (λ (xs : List (Option ℕ)). slice_get xs v) are) ∙ e))

pub map_of_pin : (f : ℕ → ℕ) (pins old : List (Option ℕ)) (v t : ℕ) → pins ≡ map (option_map f) old → slice_get old v ≡ Some (Some t) → slice_get pins v ≡ Some (Some (f t))
map_of_pin f pins old v t are e = ap (λ (xs : List (Option ℕ)). slice_get xs v) are ∙ (slice_get-map (option_map f) old v ∙ ap (λ (o : Option (Option ℕ)). option_map (option_map f) o) e)

-- ---- the grid of regions

-- what the code makes of a device
pub record AreMade (d : Device) (corners : List ℕ) (r : Device) : Type 0 where
  pub rows : r.rows ≡ d.rows
  pub cols : r.cols ≡ d.cols
  pub percent : r.percent ≡ d.percent
  pub uses : r.uses.items ≡ d.uses.items
  pub sums : AreSums d corners (length d.slots.items) r.slots.items
  pub closed : AreClosed d corners (length d.slots.items) r.forbidden.items
  pub pins : r.pins.items ≡ map (option_map (λ (s : ℕ). get_or corners s 0)) d.pins.items

pub grid_made : (g : Graph) (d : Device) (corners : List ℕ) (r : Device) → IsDevice g d → length corners ≡ length d.slots.items → ((s : ℕ) → s < length corners → get_or corners s 0 < length corners) → AreMade d corners r → IsGrid g r
grid_made g d corners r device long inside made = record {
  few_rows = (let a = made.rows in let b = device.few_rows in omega arith);
  some_cols = (let a = made.cols in let b = device.some_cols in omega arith);
  few_cols = (let a = made.cols in let b = device.few_cols in omega arith);
  percent = (let a = made.percent in let b = device.percent in omega arith);
  slots = made.sums.long ∙ (device.slots ∙ (ap (λ (n : ℕ). n * d.cols) (sym made.rows) ∙ ap (λ (n : ℕ). r.rows * n) (sym made.cols)));
  forbidden = made.closed.long ∙ sym made.sums.long;
  pins = ap length made.pins ∙ (length-map d.pins.items (option_map (λ (s : ℕ). get_or corners s 0)) ∙ device.pins);
  pins_inside = λ v u e. (
      let w = pin_of_map (λ (s : ℕ). get_or corners s 0) r.pins.items d.pins.items v u made.pins e in
      let a = inside w.0 (let b = device.pins_inside v w.0 w.1 in omega arith) in
      let b = w.2 in
      let c = made.sums.long in omega arith);
  uses = ap length made.uses ∙ device.uses;
  capacities = λ s k. (
      let a = made.sums.low s k in
      let b = few_slots g d (grid_of g d device) in omega arith);
  amounts = λ i k. (
      let a = device.amounts i k in
      let b = ap (λ (us : List Use). amount_at us i k) made.uses in omega arith);
}

pub regions_made : (g : Graph) (d : Device) (corners : List ℕ) (r : Device) (R K : ℕ) → IsDevice g d → AreCorners d R K corners → AreMade d corners r → IsRegions g d R K r
regions_made g d corners r R K device are made = record {
  rows = made.rows;
  cols = made.cols;
  percent = made.percent;
  uses = made.uses;
  long = made.sums.long;
  capacity = λ c k l. made.sums.value c k
      ∙ total_same (length d.slots.items) _ _ (λ s ls. ap (λ (x : ℕ). if (x == c) && is_open d s then amount_at d.slots.items s k else 0) (are.value s ls));
  marks = made.closed.long;
  usable = λ c l.
      (let u = made.closed.usable c (let a = made.closed.long in omega arith) in (
        (λ f. let h = u.0 f in (h.slot, record { inside = h.below; region = sym (are.value h.slot h.below) ∙ h.region; free = h.free })),
        (λ w. u.1 (record { slot = w.0; below = w.1.inside; region = are.value w.0 w.1.inside ∙ w.1.region; free = w.1.free })),
      ));
  pins = ap length made.pins ∙ (length-map d.pins.items (option_map (λ (s : ℕ). get_or corners s 0)) ∙ device.pins);
  pinned = λ v u. (
    (λ e.
        let w = pin_of_map (λ (s : ℕ). get_or corners s 0) r.pins.items d.pins.items v u made.pins e in
        (w.0, w.1, w.2 ∙ are.value w.0 (device.pins_inside v w.0 w.1))),
    (λ w. map_of_pin (λ (s : ℕ). get_or corners s 0) r.pins.items d.pins.items v w.0 made.pins w.1
        ∙ ap (λ (x : ℕ). Some (Some x)) (are.value w.0 (device.pins_inside v w.0 w.1) ∙ sym w.2)),
  );
}

-- ---- plans of the grid of regions

pub same_cost : (g : Graph) (d r : Device) (p : List ℕ) → r.cols ≡ d.cols → cost g r p ≡ cost g d p
same_cost g d r p e =
    ap (λ (n : ℕ). total (streams g) (λ e. width g e * (gap (get_or p (tail g e) 0 / n) (get_or p (head g e) 0 / n) + gap (get_or p (tail g e) 0 % n) (get_or p (head g e) 0 % n)))) e

same_need : (g : Graph) (d r : Device) (v k : ℕ) → r.uses.items ≡ d.uses.items → need_of g r v k ≡ need_of g d v k
same_need g d r v k e =
    ap (λ (uses : List Use). total (length g.group.items) (λ i. if get_or g.group.items i 0 == v then amount_at uses i k else 0)) e

pub same_used : (g : Graph) (d r : Device) (p : List ℕ) (s k : ℕ) → r.uses.items ≡ d.uses.items → used_in g r p s k ≡ used_in g d p s k
same_used g d r p s k e =
    ap (λ (uses : List Use). total (length p) (λ v. if get_or p v 0 == s then total (length g.group.items) (λ i. if get_or g.group.items i 0 == v then amount_at uses i k else 0) else 0)) e

pub same_needs : (g : Graph) (d r : Device) (needs : List Use) → r.uses.items ≡ d.uses.items → AreNeeds g d needs → AreNeeds g r needs
same_needs g d r needs e h = record {
  long = h.long;
  value = λ v k l. h.value v k l ∙ sym (same_need g d r v k e);
  small = h.small;
}

pub within_as : (used used' has has' percent percent' : ℕ) → used ≡ used' → has ≡ has' → percent ≡ percent' → used * 100 ≤ has * percent → used' * 100 ≤ has' * percent'
within_as used used' has has' percent percent' a b c h =
    subst (λ (n : ℕ). used' * 100 ≤ has' * n) c (subst (λ (n : ℕ). used' * 100 ≤ n * percent) b (subst (λ (n : ℕ). n * 100 ≤ has * percent) a h))

pub fits_of_plan : (g : Graph) (d r : Device) (R K : ℕ) (q : List ℕ) → 0 < d.cols → IsRegions g d R K r → IsPlanOf g r q → FitsLevel g d R K q
fits_of_plan g d r R K q some are plan = record {
  whole = plan.whole;
  each = λ v l.
      (let may = plan.each v l in
      let c = get_or q v 0 in
      let inside : c < length d.slots.items = (let a = may.inside in let b = are.long in omega arith) in
      let w = (are.usable c inside).0 may.free in
      record {
        inside = inside;
        region = ap (corner d R K) (sym w.1.region) ∙ (corner_again d R K K w.0 (omega arith) some ∙ w.1.region);
        usable = w;
        pinned = λ t e. sym (may.pinned (corner d R K t) ((are.pinned v (corner d R K t)).1 (t, e, refl)));
      });
  within = λ c k l. within_as (used_in g r q c k) (used_in g d q c k) (amount_at r.slots.items c k) (capacity_in d R K c k) r.percent d.percent
      (same_used g d r q c k are.uses) (are.capacity c k l) are.percent (plan.within c k (let b = are.long in omega arith));
}

pub plan_of_fits : (g : Graph) (d r : Device) (R K : ℕ) (q : List ℕ) → IsRegions g d R K r → FitsLevel g d R K q → IsPlanOf g r q
plan_of_fits g d r R K q are fits = record {
  whole = fits.whole;
  each = λ v l.
      (let has = fits.each v l in
      record {
        inside = (let a = has.inside in let b = are.long in omega arith);
        free = (are.usable (get_or q v 0) has.inside).1 has.usable;
        pinned = λ u e. (let w = (are.pinned v u).0 e in sym (has.pinned w.0 w.1) ∙ sym w.2);
      });
  within = λ c k l.
      (let lc : c < length d.slots.items = (let b = are.long in omega arith) in
      within_as (used_in g d q c k) (used_in g r q c k) (capacity_in d R K c k) (amount_at r.slots.items c k) d.percent r.percent
      (sym (same_used g d r q c k are.uses)) (sym (are.capacity c k lc)) (sym are.percent) (fits.within c k lc));
}
