-- The least plan of the grid of a level's regions in which groups stay at home is the next level.
use Rattle.std.proofs.Common.{◌≡◌, ℕ, zero, suc, ◌+◌, ◌-◌, ◌<◌, true, false, List, length, get_or, replicate, sym, ap, subst, ◌∙◌, arith, ⊎_elim, Option, Some, None, Vec}
use Rattle.std.specs.Prelude.{slice_get, MatchOption}
use Rattle.std.specs.declared.alloc.Global.{Global}
use Rattle.std.proofs.lemmas.List.{get_or-replicate}
use Rattle.std.proofs.lemmas.Bool.{cases_Bool}
use Rattle.task_graph.specs.declared.Graph.{Graph}
use Rattle.plan_device.specs.declared.device.Device.{Device}
use Rattle.slot_plan.specs.FirstFit.{is_pinned}
use Rattle.slot_plan.specs.Least.{Beats, IsLeastOf, HasNoneOf}
use Rattle.slot_plan.specs.Merging.{StayAtHome}
use Rattle.slot_plan.proofs.Merging.{pin_is}
use Rattle.slot_split.specs.Halving.{corner, FitsLevel, StaysIn, IsNextLevel, IsLevel, HasNone}
use Rattle.slot_split.specs.Regions.{AreCorners, IsRegions, IsBehind}
use Rattle.slot_split.proofs.Corners.{corner_again, corner_start}
use Rattle.slot_split.proofs.Grids.{same_cost, fits_of_plan, plan_of_fits}

-- a pinned group stays in its region by its pin, and a free one by its home
pub stays_in : (g : Graph) (d r : Device) (R K : ℕ) (p q before : List ℕ) → 0 < d.cols → IsRegions g d R (suc K) r → AreCorners d R K before → FitsLevel g d R K p → FitsLevel g d R (suc K) q → StayAtHome r p before q → StaysIn d R K p q
stays_in g d r R K p q before some are corners old new home = λ v l.
    let c = get_or q v 0 in
    let inside = (new.each v l).inside in
    let lp : v < length p = (let a = old.whole in let b = new.whole in omega arith) in
    ⊎_elim
    (λ (e : is_pinned r v ≡ true).
    let w = pin_is (slice_get r.pins.items v) e in
    let t = (are.pinned v w.0).0 w.1 in
    ap (corner d R K) (sym ((new.each v l).pinned t.0 t.1))
    ∙ (corner_again d R K (suc K) t.0 (omega arith) some ∙ (old.each v lp).pinned t.0 t.1))
    (λ (e : is_pinned r v ≡ false). sym (corners.value c inside) ∙ sym (home v l e))
    (cases_Bool (is_pinned r v))

pub home_of : (g : Graph) (d r : Device) (R K : ℕ) (p q before : List ℕ) → AreCorners d R K before → FitsLevel g d R (suc K) q → StaysIn d R K p q → StayAtHome r p before q
home_of g d r R K p q before corners new stays = λ v l e. sym (stays v l) ∙ sym (corners.value (get_or q v 0) (new.each v l).inside)

pub beats_as : (g : Graph) (d r : Device) (p q : List ℕ) → r.cols ≡ d.cols → Beats g r p q → Beats g d p q
beats_as g d r p q e h =
    let a = same_cost g d r p e in
    let b = same_cost g d r q e in
    record { cheap = (let c = h.cheap in omega arith); first = λ same. h.first (omega arith) }

pub next_level : (g : Graph) (d r : Device) (R K : ℕ) (p q before : List ℕ) → 0 < d.cols → IsRegions g d R (suc K) r → AreCorners d R K before → FitsLevel g d R K p → IsLeastOf g r (StayAtHome r p before) q → IsNextLevel g d R K p q
next_level g d r R K p q before some are corners old least =
    let fits = fits_of_plan g d r R (suc K) q some are least.plan in
    record {
      fits = fits;
      stays = stays_in g d r R K p q before some are corners old fits least.holds;
      beats = λ x other stays. beats_as g d r q x are.cols (least.beats x (plan_of_fits g d r R (suc K) x are other) (home_of g d r R K p x before corners other stays));
    }

pub no_next : (g : Graph) (d r : Device) (R K : ℕ) (p before : List ℕ) → IsRegions g d R (suc K) r → AreCorners d R K before → HasNoneOf g r (StayAtHome r p before) → (q : List ℕ) → FitsLevel g d R (suc K) q → StaysIn d R K p q → ⊥
no_next g d r R K p before are corners none q fits stays = none q (plan_of_fits g d r R (suc K) q are fits) (home_of g d r R K p q before corners fits stays)

-- each level fits
pub level_fits : (g : Graph) (d : Device) (R K : ℕ) (p : List ℕ) → IsLevel g d R K p → FitsLevel g d R K p
level_fits g d R zero p h = h
level_fits g d R (suc K) p h = h.2.fits

-- at level 0 all groups are at home in the one region
all_home : (g : Graph) (d r : Device) (R : ℕ) (q homes before : List ℕ) → AreCorners d R 0 before → homes ≡ replicate g.groups 0 → FitsLevel g d R 0 q → StayAtHome r homes before q
all_home g d r R q homes before corners zeros fits = λ v l e.
    let c = get_or q v 0 in
    ap (λ (xs : List ℕ). get_or xs v 0) zeros
    ∙ (get_or-replicate g.groups v 0 0 (let a = fits.whole in omega arith)
    ∙ (sym (corner_start d R c) ∙ sym (corners.value c (fits.each v l).inside)))

corners_behind : (d : Device) (R K : ℕ) (before : List ℕ) → AreCorners d R (suc K - 1) before → AreCorners d R K before
corners_behind d R K before h = let e : suc K - 1 ≡ K = omega arith in subst (λ (n : ℕ). AreCorners d R n before) e h

-- ---- one level, whichever it is

pub none_at : (g : Graph) (d r : Device) (R L : ℕ) (homes before : List ℕ) → IsRegions g d R L r → AreCorners d R (L - 1) before → IsBehind g d R L homes → HasNoneOf g r (StayAtHome r homes before) → HasNone g d R L
none_at g d r R zero homes before are corners behind none = λ p fits. none p (plan_of_fits g d r R 0 p are fits) (all_home g d r R p homes before corners behind fits)
none_at g d r R (suc K) homes before are corners behind none = (homes, behind, no_next g d r R K homes before are (corners_behind d R K before corners) none)

pub level_at : (g : Graph) (d r : Device) (R L : ℕ) (homes before q : List ℕ) → 0 < d.cols → IsRegions g d R L r → AreCorners d R (L - 1) before → IsBehind g d R L homes → IsLeastOf g r (StayAtHome r homes before) q → IsLevel g d R L q
level_at g d r R zero homes before q some are corners behind least = fits_of_plan g d r R 0 q some are least.plan
level_at g d r R (suc K) homes before q some are corners behind least = (homes, behind, next_level g d r R K homes q before some are (corners_behind d R K before corners) (level_fits g d R K homes behind) least)

-- as many homes as groups
pub homes_long : (g : Graph) (d : Device) (R L : ℕ) (homes : List ℕ) → length {A = ℕ} (replicate g.groups 0) ≡ g.groups → IsBehind g d R L homes → length homes ≡ g.groups
homes_long g d R zero homes long h = ap length h ∙ long
homes_long g d R (suc K) homes long h = (level_fits g d R K homes h).whole

-- a level is what is behind the next
pub behind_next : (g : Graph) (d : Device) (R L : ℕ) (homes : List ℕ) → IsLevel g d R L homes → IsBehind g d R (L + 1) homes
behind_next g d R L homes h = let e : suc L ≡ L + 1 = omega arith in subst (λ (n : ℕ). IsBehind g d R n homes) e h

pub level_behind : (g : Graph) (d : Device) (R L : ℕ) (homes : List ℕ) → IsBehind g d R (L + 1) homes → IsLevel g d R L homes
level_behind g d R L homes h = let e : L + 1 ≡ suc L = omega arith in subst (λ (n : ℕ). IsBehind g d R n homes) e h

pub level_or_none : (g : Graph) (d r : Device) (R L : ℕ) (homes before : List ℕ) (found : Option (Vec ℕ Global)) → 0 < d.cols → IsRegions g d R L r → AreCorners d R (L - 1) before → IsBehind g d R L homes
    → MatchOption found (HasNoneOf g r (StayAtHome r homes before)) (λ slot. IsLeastOf g r (StayAtHome r homes before) slot.items) → MatchOption found (HasNone g d R L) (λ next. IsLevel g d R L next.items)
level_or_none g d r R L homes before None some are corners behind none = none_at g d r R L homes before are corners behind none
level_or_none g d r R L homes before (Some next) some are corners behind least = level_at g d r R L homes before next.items some are corners behind least
