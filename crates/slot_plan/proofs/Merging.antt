-- The plan of a layout of the free groups.
use Rattle.std.proofs.Common.{◌≡◌, ℕ, zero, suc, ◌+◌, ◌*◌, ◌<◌, ◌≤◌, ◌⊎◌, Bool, true, false, List, [], ◌∷◌, ◌++◌, length, get_or, refl, sym, ap, subst, ◌∙◌, arith, ⊎_elim, length-append, Option, None, Some}
use Rattle.std.specs.Prelude.{if◌then◌else◌, ◌==◌, ◌&&◌, not, nat_lt, slice_get, replicate}
use Rattle.std.proofs.lemmas.Bool.{cases_lt, cases_eq, cases_Bool, not-true, not_from_false, false≢true}
use Rattle.std.proofs.lemmas.Bool.Decides.{nat_tests}
use Rattle.std.proofs.lemmas.List.{get_or-replicate, get_or_append_left, get_or_push}
use Rattle.task_graph.specs.declared.Graph.{Graph}
use Rattle.task_graph.specs.declared.Use.{Use}
use Rattle.task_graph.specs.Streams.{amount_at}
use Rattle.task_graph.specs.Arcs.{total}
use Rattle.plan_device.specs.declared.device.Device.{Device}
use Rattle.slot_plan.specs.declared.fit.Placing.{Placing}
use Rattle.slot_plan.specs.declared.search.Best.{Best}
use Rattle.slot_plan.specs.declared.tables.Tables.{Tables}
use Rattle.slot_plan.specs.declared.tables.Choice.{Choice}
use Rattle.slot_plan.specs.declared.tables.Regions.{Regions}
use Rattle.slot_plan.specs.FirstFit.{is_pin, is_pinned, comes_before}
use Rattle.slot_plan.specs.Least.{NotAfter, IsLeastOf, HasNoneOf, IsLeastPlanOf}
use Rattle.slot_plan.specs.Merging.{is_open, one, pin, StayAtHome, IsMerged}
use Rattle.slot_plan.specs.Placing.{is_placed, ArePlaced, IsStuck}
use Rattle.slot_plan.specs.Plan.{need_of, load, MayStand, used_in, IsPlanOf, AreNeeds}
use Rattle.slot_plan.specs.Search.{IsAnswer}
use Rattle.slot_plan.specs.Tables.{IsLayout}
use Rattle.slot_plan.proofs.Parts.{one_same, one_other, reached}
use Rattle.slot_plan.proofs.Placings.{not_self}
use Rattle.flow_cert.proofs.Sums.{total_same, total_add, total_one, total_zero}
use Rattle.slot_plan.proofs.Sums.{total_scale, pick_same, pick_other}
use Rattle.slot_plan.proofs.Those.{those_apart, Agree, Differ, order_cases, agree_order, differ_order}
use Rattle.slot_plan.proofs.Tabled.{AreParts, reached_one, home_is, region_is, cost_merged}
use Rattle.task_graph.proofs.Sizes.{total_le}

-- ---- what slots hold

split_part : (G n : ℕ) (X pins item : ℕ → ℕ) → ((j : ℕ) → j < n → item j < G) → total G (λ v. reached pins item n v * X v) ≡ total G (λ v. pins v * X v) + total n (λ j. X (item j))
split_part G zero X pins item inside =
    let a : total G (λ v. reached pins item zero v * X v) ≡ total G (λ v. pins v * X v) = total_same G _ _ (λ v l. omega arith) in omega arith
split_part G (suc n) X pins item inside =
    let a = split_part G n X pins item (λ j l. inside j (omega arith)) in
    let b : total G (λ v. reached pins item (suc n) v * X v) ≡ total G (λ v. reached pins item n v * X v + X v * one (item n) v) = total_same G _ _ (λ v l. omega arith) in
    let c = total_add G (λ v. reached pins item n v * X v) (λ v. X v * one (item n) v) in
    let e = total_one G (item n) 1 X (inside n (omega arith)) in
    omega arith

split_sum : (G n : ℕ) (X pins item : ℕ → ℕ) → ((v : ℕ) → v < G → reached pins item n v ≡ 1) → ((j : ℕ) → j < n → item j < G) → total G X ≡ total G (λ v. pins v * X v) + total n (λ j. X (item j))
split_sum G n X pins item ones inside =
    total_same G _ _ (λ v l. sym (ap (λ (x : ℕ). x * X v) (ones v l) ∙ omega arith)) ∙ split_part G n X pins item inside

pinned_bit : (a : Bool) (u n : ℕ) → u < n → (if a then nat_lt u n else false) ≡ a
pinned_bit true u n l = grind (arith, nat_tests)
pinned_bit false u n l = refl

pinned_term : (a c c' : Bool) (x y : ℕ) → (a ≡ true → c ≡ c') → x ≡ y → (if a then 1 else 0) * (if c then x else 0) ≡ (if a && c' then y else 0)
pinned_term true c c' x y h e =
    let k : (if c then x else 0) ≡ (if c' then y else 0) = ap (λ (z : Bool). if z then x else 0) (h refl) ∙ ap (λ (z : ℕ). if c' then z else 0) e in omega arith
pinned_term false c c' x y h e = omega arith

pick_scaled : (a c a' c' x y : ℕ) → ((a ≡ c) → (a' ≡ c')) → ((a' ≡ c') → (a ≡ c)) → y ≡ x * 100 → (if a == c then x else 0) * 100 ≡ (if a' == c' then y else 0)
pick_scaled a c a' c' x y h k e =
    ⊎_elim
    (λ (q : a ≡ c). let r = pick_same a c x q in let s = pick_same a' c' y (h q) in omega arith)
    (λ (ne : a ≡ c → ⊥). let r = pick_other a c x ne in let s = pick_other a' c' y (λ q. ne (k q)) in omega arith)
    (cases_eq a c)

pub pinned_may : (d : Device) (needs : List Use) (b : Placing) (v : ℕ) → ArePlaced d needs false (length needs) b → v < length needs → is_pinned d v ≡ true → MayStand d v (get_or b.slots.items v 0)
pinned_may d needs b v h l e = (h.each v l (pinned_bit (is_pinned d v) v (length needs) l ∙ e)).room.may

free_may : (d : Device) (v s : ℕ) → is_pinned d v ≡ false → s < length d.slots.items → is_open d s ≡ true → MayStand d v s
free_may d v s unpinned l e = record {
  inside = l;
  free = not-true _ e;
  pinned = λ t q. absurd (false≢true (sym unpinned ∙ ap is_pin q));
}

pub pin_is : (o : Option (Option ℕ)) → is_pin o ≡ true → (t : ℕ) × (o ≡ Some (Some t))
pin_is None e = absurd (false≢true e)
pin_is (Some None) e = absurd (false≢true e)
pin_is (Some (Some t)) e = (t, refl)

same_pin : (d : Device) (v s u : ℕ) → is_pinned d v ≡ true → MayStand d v s → MayStand d v u → s ≡ u
same_pin d v s u e h k =
    let w = pin_is (slice_get d.pins.items v) e in
    h.pinned w.0 w.1 ∙ sym (k.pinned w.0 w.1)

-- a list of numbers that are found one by one
pub chosen : (n m : ℕ) (opens : List ℕ) (want : ℕ → ℕ) → ((j : ℕ) → j < n → (y : ℕ) × (y < m) × (get_or opens y 0 ≡ want j)) → (f : List ℕ) × (length f ≡ n) × ((j : ℕ) → j < n → (get_or f j 0 < m) × (get_or opens (get_or f j 0) 0 ≡ want j))
chosen zero m opens want h = ([], refl, λ j l. absurd (omega arith))
chosen (suc n) m opens want h =
    let r = chosen n m opens want (λ j l. h j (omega arith)) in
    let w = h n (omega arith) in
    let f = r.0 in
    let long = r.1 in
    let last : get_or (f ++ w.0 ∷ []) n 0 ≡ w.0 = ap (λ (i : ℕ). get_or (f ++ w.0 ∷ []) i 0) (sym long) ∙ get_or_push f w.0 0 (length f) refl in (
      f ++ w.0 ∷ [],
      (let y = length-append f (w.0 ∷ []) in omega arith),
      λ j l. ⊎_elim
          (λ (k : j < n).
          let e = get_or_append_left f (w.0 ∷ []) 0 j (omega arith) in
          let a = r.2 j k in
          let a0 = a.0 in
          (omega arith, ap (λ (x : ℕ). get_or opens x 0) e ∙ a.1))
          (λ (k : n ≤ j).
          let e : j ≡ n = omega arith in
          let is : get_or (f ++ w.0 ∷ []) j 0 ≡ w.0 = ap (λ (i : ℕ). get_or (f ++ w.0 ∷ []) i 0) e ∙ last in
          let b = w.1 in
          (omega arith, ap (λ (x : ℕ). get_or opens x 0) is ∙ (w.2 ∙ ap want (sym e))))
          (cases_lt j n),
    )

module _ (g : Graph) (d : Device) (needs : List Use) (b : Placing) (c : Choice) (r : Regions) (t : Tables) (parts : AreParts g d needs b c r t) where
  open b use {slots.{items as fixed}, used.{items as used}}
  open c use {items.{items as free}, places.{items as opens}}
  open parts use {chosen.{items as frees, places as opened}}

  module _ (f p : List ℕ) (long : length f ≡ length free) (inside : (j : ℕ) → j < length f → get_or f j 0 < length opens) (merged : IsMerged g d b c f p) where
    -- what the free groups use of a kind in a slot
    abbrev free_use : ℕ → ℕ → ℕ
    free_use s k = total (length free) (λ j. if get_or p (get_or free j 0) 0 == s then need_of g d (get_or free j 0) k else 0)

    -- what a plan's groups use in a slot: the pinned ones, and the others
    used_merged : (s k : ℕ) → s < length d.slots.items → used_in g d p s k ≡ amount_at used s k + free_use s k
    used_merged s k ls =
        let G = g.groups in
        let N = length needs in
        let X : ℕ → ℕ = λ v. if get_or p v 0 == s then need_of g d v k else 0 in
        let a = split_sum G (length free) X (pin d) (λ j. get_or free j 0) (λ v l. reached_one g d free v frees l) frees.inside in
        let o = ap (λ (n : ℕ). total n X) merged.long in
        let q : total G (λ v. pin d v * X v) ≡ total G (λ v. if is_placed d false N v && (get_or fixed v 0 == s) then amount_at needs v k else 0) =
        total_same G _ _ (λ v l.
        let lv : v < N = (let y = parts.needed.long in omega arith) in
        pinned_term (is_pinned d v) (get_or p v 0 == s) (get_or fixed v 0 == s) (need_of g d v k) (amount_at needs v k)
        (λ q. ap (λ (x : ℕ). x == s) (merged.pinned v l q))
        (sym (parts.needed.value v k l))
        ∙ ap (λ (x : Bool). if x && (get_or fixed v 0 == s) then amount_at needs v k else 0) (sym (pinned_bit (is_pinned d v) v N lv))) in
        let e = ap (λ (n : ℕ). total n (λ v. if is_placed d false N v && (get_or fixed v 0 == s) then amount_at needs v k else 0)) parts.needed.long in
        let i = parts.placed.used_is s k ls in
        omega arith

    -- of an open slot in hundredths
    load_merged : (y k : ℕ) → y < length opens → free_use (get_or opens y 0) k * 100 ≡ load t.needs.items f y k
    load_merged y k ly =
        let n = length free in
        let s = get_or opens y 0 in
        let a = total_scale n 100 (λ j. if get_or p (get_or free j 0) 0 == s then need_of g d (get_or free j 0) k else 0) in
        let q : total n (λ j. (if get_or p (get_or free j 0) 0 == s then need_of g d (get_or free j 0) k else 0) * 100) ≡ total n (λ j. if get_or f j 0 == y then amount_at t.needs.items j k else 0) =
        total_same n _ _ (λ j l.
        pick_scaled (get_or p (get_or free j 0) 0) s (get_or f j 0) y (need_of g d (get_or free j 0) k) (amount_at t.needs.items j k)
        (λ q. those_apart (length d.slots.items) (is_open d) opens (get_or f j 0) y opened (inside j (omega arith)) ly (sym (merged.items j l) ∙ q))
        (λ q. merged.items j l ∙ ap (λ (x : ℕ). get_or opens x 0) q)
        (parts.tables.needs_are j k l ∙ ap (λ (x : ℕ). x * 100) (parts.needed.value (get_or free j 0) k (frees.inside j l)))) in
        let o = ap (λ (z : ℕ). total z (λ j. if get_or f j 0 == y then amount_at t.needs.items j k else 0)) long in
        omega arith

    -- no item stands in a slot that is not open
    closed_merged : (s k : ℕ) → is_open d s ≡ false → free_use s k ≡ 0
    closed_merged s k shut =
        total_same (length free) _ _ (λ j l.
        pick_other (get_or p (get_or free j 0) 0) s (need_of g d (get_or free j 0) k)
        (λ q. false≢true (sym shut ∙ (ap (is_open d) (sym q ∙ merged.items j l) ∙ opened.pass (get_or f j 0) (inside j (omega arith))))))
        ∙ total_zero (length free)

  -- a layout has a place for each item
  whole_layout : (f : List ℕ) → IsLayout t f → length f ≡ length free
  whole_layout f layout = layout.whole ∙ parts.tables.needs_long

  in_layout : (f : List ℕ) → IsLayout t f → (j : ℕ) → j < length f → get_or f j 0 < length opens
  in_layout f layout j l = let a = layout.rooms.inside j l in let y = parts.tables.room_long in omega arith

  -- ---- a layout's plan is a plan

  plan_of_layout : (f p : List ℕ) → IsLayout t f → IsMerged g d b c f p → IsPlanOf g d p
  plan_of_layout f p layout merged =
      let long = whole_layout f layout in
      let inside = in_layout f layout in
      record {
        whole = merged.long;
        each = λ v l. (
            let lg : v < g.groups = (let y = merged.long in omega arith) in
            ⊎_elim
            (λ (e : is_pinned d v ≡ true).
            subst (MayStand d v) (sym (merged.pinned v lg e)) (pinned_may d needs b v parts.placed (let y = parts.needed.long in omega arith) e))
            (λ (e : is_pinned d v ≡ false).
            let w = frees.all v lg (ap not e) in
            let is : get_or p v 0 ≡ get_or opens (get_or f w.0 0) 0 = ap (λ (x : ℕ). get_or p x 0) (sym w.2) ∙ merged.items w.0 w.1 in
            let lf : w.0 < length f = (let y = w.1 in omega arith) in
            subst (MayStand d v) (sym is) (free_may d v (get_or opens (get_or f w.0 0) 0) e (opened.inside (get_or f w.0 0) (inside w.0 lf)) (opened.pass (get_or f w.0 0) (inside w.0 lf))))
            (cases_Bool (is_pinned d v)));
        within = λ s k l. (
            let u = used_merged f p long inside merged s k l in
            ⊎_elim
            (λ (e : is_open d s ≡ true).
            let w = opened.all s l e in
            let a = load_merged f p long inside merged w.0 k w.1 in
            let m = layout.rooms.within w.0 k (let y = parts.tables.room_long in let z = w.1 in omega arith) in
            let r = parts.tables.room w.0 k w.1 in
            let x = ap (λ (z : ℕ). total (length free) (λ j. if get_or p (get_or free j 0) 0 == z then need_of g d (get_or free j 0) k else 0)) w.2 in
            let x' = ap (λ (z : ℕ). amount_at used z k) w.2 in
            let x'' = ap (λ (z : ℕ). amount_at d.slots.items z k * d.percent) w.2 in
            omega arith)
            (λ (e : is_open d s ≡ false).
            let a = closed_merged f p long inside merged s k e in
            let m = parts.placed.loads.within s k l in
            omega arith)
            (cases_Bool (is_open d s)));
      }

  -- the plan of a layout keeps the homes
  stays_merged : (f p : List ℕ) → IsLayout t f → IsMerged g d b c f p → StayAtHome d r.homes.items r.slots.items p
  stays_merged f p layout merged = λ v l e.
      let long = whole_layout f layout in
      let w = frees.all v (let y = merged.long in omega arith) (ap not e) in
      let lf : w.0 < length f = (let y = w.1 in omega arith) in
      let is : get_or p v 0 ≡ get_or opens (get_or f w.0 0) 0 = ap (λ (x : ℕ). get_or p x 0) (sym w.2) ∙ merged.items w.0 w.1 in
      ap (λ (x : ℕ). get_or r.homes.items x 0) (sym w.2)
      ∙ (sym (home_is g d needs b c r t parts.tables w.0 w.1)
      ∙ (layout.rooms.home w.0 lf ∙ (region_is g d needs b c r t parts.tables (get_or f w.0 0) (in_layout f layout w.0 lf) ∙ ap (λ (x : ℕ). get_or r.slots.items x 0) (sym is))))

  -- ---- a plan is that of a layout

  layout_of_plan : (q : List ℕ) → IsPlanOf g d q → StayAtHome d r.homes.items r.slots.items q → (f : List ℕ) × IsLayout t f × IsMerged g d b c f q
  layout_of_plan q plan stays =
      let n = length free in
      let found = chosen n (length opens) opens (λ j. get_or q (get_or free j 0) 0)
      (λ j l.
      let v = get_or free j 0 in
      let lv : v < length q = (let a = frees.inside j l in let y = plan.whole in omega arith) in
      let may = plan.each v lv in
      opened.all (get_or q v 0) may.inside (not_from_false _ may.free)) in
      let f = found.0 in
      let long : length f ≡ n = found.1 in
      let inside : (j : ℕ) → j < length f → get_or f j 0 < length opens = (λ j l. (found.2 j (omega arith)).0) in
      let merged : IsMerged g d b c f q = record {
        long = plan.whole;
        pinned = λ v l e. same_pin d v (get_or q v 0) (get_or fixed v 0) e (plan.each v (let y = plan.whole in omega arith)) (pinned_may d needs b v parts.placed (let y = parts.needed.long in omega arith) e);
        items = λ j l. sym (found.2 j l).1;
      } in (
        f,
        record {
          whole = long ∙ sym parts.tables.needs_long;
          rooms = record {
            inside = λ j l. (let a = inside j l in let y = parts.tables.room_long in omega arith);
            home = λ j l. (
                let lj : j < n = omega arith in
                let v = get_or free j 0 in
                home_is g d needs b c r t parts.tables j lj
                ∙ (stays v (let a = frees.inside j lj in let y = plan.whole in omega arith) (not-true _ (frees.pass j lj))
                ∙ (ap (λ (x : ℕ). get_or r.slots.items x 0) (sym (found.2 j lj).1) ∙ sym (region_is g d needs b c r t parts.tables (get_or f j 0) (inside j l)))));
            within = λ y k l. (
                let ly : y < length opens = (let z = parts.tables.room_long in omega arith) in
                let s = get_or opens y 0 in
                let ls = opened.inside y ly in
                let u = used_merged f q long inside merged s k ls in
                let a = load_merged f q long inside merged y k ly in
                let m = plan.within s k ls in
                let e = parts.tables.room y k ly in
                omega arith);
          };
        },
        merged,
      )

  -- ---- the order of plans is that of layouts

  order_merged : (f f' p p' : List ℕ) → length f ≡ length free → length f' ≡ length free → ((j : ℕ) → j < length f' → get_or f' j 0 < length opens) → IsMerged g d b c f p → IsMerged g d b c f' p' → NotAfter f f' → NotAfter p p'
  order_merged f f' p p' long long' inside m m' h =
      let lp : length p ≡ length p' = m.long ∙ sym m'.long in
      ⊎_elim
      (λ (a : Agree f f').
      agree_order p p' lp (λ v l.
      let lg : v < g.groups = (let y = m.long in omega arith) in
      ⊎_elim
      (λ (e : is_pinned d v ≡ true). m.pinned v lg e ∙ sym (m'.pinned v lg e))
      (λ (e : is_pinned d v ≡ false).
      let w = frees.all v lg (ap not e) in
      let lf : w.0 < length f = (let y = w.1 in omega arith) in
      ap (λ (x : ℕ). get_or p x 0) (sym w.2)
      ∙ (m.items w.0 w.1 ∙ (ap (λ (x : ℕ). get_or opens x 0) (a w.0 lf) ∙ (sym (m'.items w.0 w.1) ∙ ap (λ (x : ℕ). get_or p' x 0) w.2))))
      (cases_Bool (is_pinned d v))))
      (λ (w : Differ f f').
      let j = w.0 in
      let lj : j < length free = (let y = w.1 in omega arith) in
      let lv = frees.inside j lj in
      let up = opened.rising (get_or f j 0) (get_or f' j 0) w.2 (inside j (omega arith)) in
      let x = m.items j lj in
      let y = m'.items j lj in
      differ_order p p' (get_or free j 0) lp (let z = m.long in omega arith) (omega arith)
      (λ v l.
      let lg : v < g.groups = omega arith in
      ⊎_elim
      (λ (e : is_pinned d v ≡ true). m.pinned v lg e ∙ sym (m'.pinned v lg e))
      (λ (e : is_pinned d v ≡ false).
      let u = frees.all v lg (ap not e) in
      let lu : u.0 < j = ⊎_elim
      (λ (k : u.0 < j). k)
      (λ (k : j ≤ u.0). absurd (⊎_elim
      (λ (q : j ≡ u.0). let o = ap (λ (i : ℕ). get_or free i 0) q in let z = u.2 in let i : ⊥ = omega arith in i)
      (λ (ne : j ≡ u.0 → ⊥). let o = frees.rising j u.0 (⊎_elim (λ (z : j < u.0). z) (λ (z : u.0 ≤ j). absurd (ne (omega arith))) (cases_lt j u.0)) u.1 in let z = u.2 in let i : ⊥ = omega arith in i)
      (cases_eq j u.0)))
      (cases_lt u.0 j) in
      ap (λ (i : ℕ). get_or p i 0) (sym u.2)
      ∙ (m.items u.0 u.1 ∙ (ap (λ (i : ℕ). get_or opens i 0) (w.3 u.0 lu) ∙ (sym (m'.items u.0 u.1) ∙ ap (λ (i : ℕ). get_or p' i 0) u.2))))
      (cases_Bool (is_pinned d v))))
      (order_cases f f' (long ∙ sym long') h)

  -- ---- the least layout's plan is the least plan

  pub least_merged : (best : Best) (p : List ℕ) → IsAnswer t (Some best) → IsMerged g d b c best.places.items p → IsLeastOf g d (StayAtHome d r.homes.items r.slots.items) p
  least_merged best p answer merged =
      let f = best.places.items in
      let long = whole_layout f answer.layout in
      let mine = cost_merged g d needs b c r t parts f p long (in_layout f answer.layout) merged in
      record {
        plan = plan_of_layout f p answer.layout merged;
        holds = stays_merged f p answer.layout merged;
        beats = λ q plan stays. (
            let w = layout_of_plan q plan stays in
            let f' = w.0 in
            let long' = whole_layout f' w.1 in
            let inside' = in_layout f' w.1 in
            let theirs = cost_merged g d needs b c r t parts f' q long' inside' w.2 in
            let n = answer.least f' w.1 in
            record {
              cheap = (let a = n.cheap in omega arith);
              first = λ same. order_merged f f' p q long long' inside' merged w.2 (n.first (omega arith));
            });
      }

  pub none_merged : IsAnswer t None → HasNoneOf g d (StayAtHome d r.homes.items r.slots.items)
  none_merged answer = λ q plan stays. (
      let w = layout_of_plan q plan stays in answer w.0 w.1)

-- ---- where pinned groups have no room there is no plan

before_pinned : (a c : Bool) (u v : ℕ) → c ≡ true → (if a then (if c then nat_lt u v else true) else (if c then false else nat_lt u v)) ≡ true → a ≡ true
before_pinned true c u v e h = refl
before_pinned false c u v e h = sym (ap (λ (z : Bool). if z then false else nat_lt u v) e) ∙ h

term_low : (a c c' : Bool) (x y : ℕ) → (a ≡ true → c ≡ c') → x ≡ y → (if a && c then x else 0) ≤ (if c' then y else 0)
term_low true c c' x y h e =
    let k : (if c then x else 0) ≡ (if c' then y else 0) = ap (λ (z : Bool). if z then x else 0) (h refl) ∙ ap (λ (z : ℕ). if c' then z else 0) e in omega arith
term_low false c c' x y h e = omega arith

pub stuck_none : (g : Graph) (d : Device) (needs : List Use) (b : List ℕ) (v : ℕ) → AreNeeds g d needs → IsStuck d needs false b v → (q : List ℕ) → IsPlanOf g d q → ⊥
stuck_none g d needs b v needed stuck q plan =
    let N = length needs in
    let need : ℕ → ℕ → ℕ = amount_at needs in
    let lv : v < length q = (let a = stuck.none.inside in let c = needed.long in let e = plan.whole in omega arith) in
    let s = get_or q v 0 in
    let may = plan.each v lv in
    stuck.none.none s (record {
      may = may;
      room = λ k. (
          let F : ℕ → ℕ = λ u. if comes_before d u v && (get_or b u 0 == s) then need u k else 0 in
          let X : ℕ → ℕ = λ u. if get_or q u 0 == s then need_of g d u k else 0 in
          let a : total N (λ u. F u + need u k * one v u) ≤ total N X =
          total_le N _ _ (λ u l.
          let lg : u < g.groups = (let y = needed.long in omega arith) in
          let val = needed.value u k lg in
          ⊎_elim
          (λ (e : v ≡ u).
          let z : F u ≡ 0 = ap (λ (c : Bool). if c && (get_or b u 0 == s) then need u k else 0) (ap (λ (x : ℕ). comes_before d x v) (sym e) ∙ not_self d false v stuck.kind) in
          let o = ap (λ (x : ℕ). need u k * x) (one_same v u e) in
          let i = pick_same (get_or q u 0) s (need_of g d u k) (ap (λ (x : ℕ). get_or q x 0) (sym e)) in
          omega arith)
          (λ (ne : v ≡ u → ⊥).
          let o = ap (λ (x : ℕ). need u k * x) (one_other v u ne) in
          let i = term_low (comes_before d u v) (get_or b u 0 == s) (get_or q u 0 == s) (need u k) (need_of g d u k)
          (λ c.
          let e = before_pinned (is_pinned d u) (is_pinned d v) u v stuck.kind c in
          ap (λ (x : ℕ). x == s) (same_pin d u (get_or b u 0) (get_or q u 0) e (stuck.none.before u l c).room.may (plan.each u (let y = plan.whole in omega arith))))
          val in
          omega arith)
          (cases_eq v u)) in
          let c = total_add N F (λ u. need u k * one v u) in
          let e = total_one N v 1 (λ u. need u k) stuck.none.inside in
          let w = plan.within s k may.inside in
          let o = ap (λ (n : ℕ). total n X) (needed.long ∙ sym plan.whole) in
          omega arith);
    })

-- ---- one region: all plans stay at home

pub zeros_stay : (g : Graph) (d : Device) (homes regions q : List ℕ) (n m : ℕ) → homes ≡ replicate n 0 → regions ≡ replicate m 0 → n ≡ g.groups → m ≡ length d.slots.items → IsPlanOf g d q → StayAtHome d homes regions q
zeros_stay g d homes regions q n m eh er en em plan = λ v l e.
    let s = get_or q v 0 in
    let inside = (plan.each v l).inside in
    ap (λ (xs : List ℕ). get_or xs v 0) eh
    ∙ (get_or-replicate n v 0 0 (let a = plan.whole in omega arith)
    ∙ sym (ap (λ (xs : List ℕ). get_or xs s 0) er ∙ get_or-replicate m s 0 0 (omega arith)))

pub least_of_all : (g : Graph) (d : Device) (homes regions p : List ℕ) (n m : ℕ) → homes ≡ replicate n 0 → regions ≡ replicate m 0 → n ≡ g.groups → m ≡ length d.slots.items → IsLeastOf g d (StayAtHome d homes regions) p → IsLeastPlanOf g d p
least_of_all g d homes regions p n m eh er en em h = record {
  plan = h.plan;
  beats = λ q plan. h.beats q plan (zeros_stay g d homes regions q n m eh er en em plan);
}

pub none_of_all : (g : Graph) (d : Device) (homes regions : List ℕ) (n m : ℕ) → homes ≡ replicate n 0 → regions ≡ replicate m 0 → n ≡ g.groups → m ≡ length d.slots.items → HasNoneOf g d (StayAtHome d homes regions) → (q : List ℕ) → IsPlanOf g d q → ⊥
none_of_all g d homes regions n m eh er en em h q plan = h q plan (zeros_stay g d homes regions q n m eh er en em plan)
