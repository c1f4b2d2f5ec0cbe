-- How the tables of the search are filled, and that their numbers are small.
use Rattle.std.proofs.Common.{◌≡◌, ℕ, zero, suc, ◌+◌, ◌*◌, ◌<◌, ◌≤◌, ◌⊎◌, inl, inr, Bool, true, false, List, [], ◌∷◌, ◌++◌, length, get_or, map, take, drop, refl, sym, ap, ◌∙◌, arith, add-one, ⊎_elim, append-nil}
use Rattle.std.specs.Prelude.{if◌then◌else◌, not}
use Rattle.std.proofs.Math.Nat.{div-le_self, mod-lt}
use Rattle.std.proofs.lemmas.Bool.{cases_eq, false≢true}
use Rattle.std.proofs.lemmas.Grind.{flat_map-append}
use Rattle.std.proofs.lemmas.List.{length-map, take_more, take_all, take-append-le}
use Rattle.std.proofs.lemmas.Nat.{mul-le}
use Rattle.task_graph.specs.declared.Graph.{Graph}
use Rattle.task_graph.specs.declared.Use.{Use}
use Rattle.task_graph.specs.Arcs.{streams, tail, head, width, total}
use Rattle.plan_device.specs.declared.device.Device.{Device}
use Rattle.slot_plan.specs.Grids.{IsGrid}
use Rattle.slot_plan.specs.declared.fit.Placing.{Placing}
use Rattle.slot_plan.specs.declared.tables.Tables.{Tables}
use Rattle.slot_plan.specs.declared.tables.Choice.{Choice}
use Rattle.slot_plan.specs.declared.tables.Regions.{Regions}
use Rattle.slot_plan.specs.FirstFit.{is_pinned}
use Rattle.slot_plan.specs.Merging.{AreThose, is_open, is_unpinned, one, pin, between, beside_pins, table_of, AreFixed, AreChoices, IsMerged}
use Rattle.slot_plan.specs.Placing.{ArePlaced}
use Rattle.slot_plan.specs.Plan.{distance, AreNeeds}
use Rattle.slot_plan.specs.Tables.{items, places, AreTables}
use Rattle.slot_plan.proofs.Cells.{length_table, table_low}
use Rattle.slot_plan.proofs.Limits.{few_slots}
use Rattle.slot_plan.proofs.Tabled.{AreParts}
use Rattle.slot_plan.proofs.Merging.{pinned_may}
use Rattle.flow_cert.proofs.Duality.{heads_inside, tails_inside}
use Rattle.slot_plan.proofs.Parts.{one_same, one_other}
use Rattle.flow_cert.proofs.Sums.{total_const}
use Rattle.task_graph.proofs.Sizes.{total_le}

-- ---- row by row

pub table_more : (F : ℕ → ℕ → ℕ) (xs ys : List ℕ) (i x : ℕ) → i < length xs → x ≡ get_or xs i 0 → table_of F (take (i + 1) xs) ys ≡ table_of F (take i xs) ys ++ map (F x) ys
table_more F xs ys i x l e =
    ap (λ (zs : List ℕ). table_of F zs ys) (take_more xs i 0 l)
    ∙ (flat_map-append (λ z. map (F z) ys) (take i xs) (get_or xs i 0 ∷ [])
    ∙ (ap (λ (zs : List ℕ). table_of F (take i xs) ys ++ zs) (append-nil (map (F (get_or xs i 0)) ys))
    ∙ ap (λ (z : ℕ). table_of F (take i xs) ys ++ map (F z) ys) (sym e)))

pub map_same : (f g : ℕ → ℕ) (xs : List ℕ) → ((j : ℕ) → j < length xs → f (get_or xs j 0) ≡ g (get_or xs j 0)) → map f xs ≡ map g xs
map_same f g [] h = refl
map_same f g (x ∷ xs) h =
    ap (λ (y : ℕ). y ∷ map f xs) (h 0 (omega arith))
    ∙ ap (λ (ys : List ℕ). g x ∷ ys) (map_same f g xs (λ j l. h (suc j) (omega arith)))

-- ---- bounds

one_low : (v x : ℕ) → one v x ≤ 1
one_low v x = ⊎_elim (λ (e : v ≡ x). let a = one_same v x e in omega arith) (λ (ne : v ≡ x → ⊥). let a = one_other v x ne in omega arith) (cases_eq v x)

bit_low : (b : Bool) → (if b then 1 else 0) ≤ 1
bit_low true = omega arith
bit_low false = omega arith

pub distance_low : (d : Device) (a b : ℕ) → 0 < d.cols → d.cols ≤ 4 → a < 32 → b < 32 → distance d a b ≤ 40
distance_low d a b pos few la lb =
    let x = div-le_self a d.cols in
    let y = div-le_self b d.cols in
    let u = mod-lt a {m = d.cols} pos in
    let v = mod-lt b {m = d.cols} pos in omega arith

width_low : (g : Graph) (e : ℕ) → e < streams g → width g e ≤ 65
width_low g e l = (g.widths e l).1

product_low : (a b w : ℕ) → a ≤ 2 → w ≤ 65 → a * w ≤ 130
product_low a b w l lw = let x = mul-le a w 2 65 l lw in omega arith

ones_low : (v x u y : ℕ) → one v x * one u y ≤ 1
ones_low v x u y = let a = mul-le (one v x) (one u y) 1 1 (one_low v x) (one_low u y) in omega arith

pub between_low : (g : Graph) (v u : ℕ) → between g v u ≤ 133120
between_low g v u =
    let a = total_le (streams g) (λ e. (one v (tail g e) * one u (head g e) + one u (tail g e) * one v (head g e)) * width g e) (λ e. 130)
    (λ e l.
    let x = ones_low v (tail g e) u (head g e) in
    let y = ones_low u (tail g e) v (head g e) in
    product_low (one v (tail g e) * one u (head g e) + one u (tail g e) * one v (head g e)) 0 (width g e) (omega arith) (width_low g e l)) in
    let b = total_const (streams g) 130 in
    let c = g.few_streams in omega arith

end_low : (o m D : ℕ) → o ≤ 1 → m ≤ 1 → ((m ≡ 0) ⊎ (D ≤ 40)) → o * m * D ≤ 40
end_low o m D lo lm h =
    ⊎_elim
    (λ (e : m ≡ 0). let a = ap (λ (x : ℕ). o * x * D) e in omega arith)
    (λ (l : D ≤ 40).
    let a = mul-le o m 1 1 lo lm in
    let b = mul-le (o * m) D 1 40 (omega arith) l in omega arith)
    h

abbrev bit : Bool → ℕ
bit b = if b then 1 else 0

near_by : (a : Bool) (D : ℕ) → (a ≡ true → D ≤ 40) → (bit a ≡ 0) ⊎ (D ≤ 40)
near_by true D h = inr (h refl)
near_by false D h = inl refl

pub beside_pins_low : (g : Graph) (d : Device) (b : List ℕ) (v s : ℕ) → 0 < d.cols → d.cols ≤ 4 → s < 32 → ((x : ℕ) → x < g.groups → is_pinned d x ≡ true → get_or b x 0 < 32) → beside_pins g d b v s ≤ 5324800
beside_pins_low g d b v s pos few ls h =
    let near : (x : ℕ) → x < g.groups → (pin d x ≡ 0) ⊎ (distance d s (get_or b x 0) ≤ 40) =
    (λ x lx. near_by (is_pinned d x) (distance d s (get_or b x 0)) (λ e. distance_low d s (get_or b x 0) pos few ls (h x lx e))) in
    let a = total_le (streams g) (λ e.
    (one v (tail g e) * pin d (head g e) * distance d s (get_or b (head g e) 0) + one v (head g e) * pin d (tail g e) * distance d s (get_or b (tail g e) 0)) * width g e) (λ e. 5200)
    (λ e l.
    let x = end_low (one v (tail g e)) (pin d (head g e)) (distance d s (get_or b (head g e) 0)) (one_low v (tail g e)) (bit_low (is_pinned d (head g e))) (near (head g e) (heads_inside g e l)) in
    let y = end_low (one v (head g e)) (pin d (tail g e)) (distance d s (get_or b (tail g e) 0)) (one_low v (head g e)) (bit_low (is_pinned d (tail g e))) (near (tail g e) (tails_inside g e l)) in
    let z = mul-le (one v (tail g e) * pin d (head g e) * distance d s (get_or b (head g e) 0) + one v (head g e) * pin d (tail g e) * distance d s (get_or b (tail g e) 0)) (width g e) 80 65 (omega arith) (width_low g e l) in
    omega arith) in
    let c = total_const (streams g) 5200 in
    let k = g.few_streams in omega arith

index_low : (n : ℕ) (test : ℕ → Bool) (xs : List ℕ) (i : ℕ) → AreThose n test xs → i < length xs → i ≤ get_or xs i 0
index_low n test xs zero h l = omega arith
index_low n test xs (suc i) h l =
    let a = index_low n test xs i h (omega arith) in
    let b = h.rising i (suc i) (omega arith) l in omega arith

few_in : (n : ℕ) (test : ℕ → Bool) (xs : List ℕ) (m : ℕ) → AreThose n test xs → length xs ≡ m → m ≤ n
few_in n test xs zero h e = omega arith
few_in n test xs (suc m) h e =
    let a = index_low n test xs m h (omega arith) in
    let b = h.inside m (omega arith) in omega arith

pub few_those : (n : ℕ) (test : ℕ → Bool) (xs : List ℕ) → AreThose n test xs → length xs ≤ n
few_those n test xs h = few_in n test xs (length xs) h refl

-- pinned groups have slots below 32
pub fixed_by : (g : Graph) (d : Device) (needs : List Use) (b : Placing) → IsGrid g d → AreNeeds g d needs → ArePlaced d needs false (length needs) b → AreFixed g d b
fixed_by g d needs b device needed placed = record {
  long = placed.long ∙ needed.long;
  low = λ v l e.
      let a = (pinned_may d needs b v placed (let y = needed.long in omega arith) e).inside in
      let f = few_slots g d device in omega arith;
}

-- open slots are below 32
pub places_low : (g : Graph) (d : Device) (c : Choice) → IsGrid g d → AreChoices g d c → (y : ℕ) → y < length c.places.items → get_or c.places.items y 0 < 32
places_low g d c device choice y l = let a = choice.places.inside y l in let slots = few_slots g d device in omega arith

pub tables_low : (g : Graph) (d : Device) (needs : List Use) (b : Placing) (c : Choice) (r : Regions) (t : Tables) → IsGrid g d → AreParts g d needs b c r t → g.groups ≤ 512 → AreTables t
tables_low g d needs b c r t device parts few =
    let free = c.items.items in
    let opens = c.places.items in
    let h = parts.tables in
    let slots = few_slots g d device in
    let fixed = fixed_by g d needs b device parts.needed parts.placed in
    let open_low = places_low g d c device parts.chosen in
    let n = h.needs_long in
    let m = h.room_long in
    record {
      few_items = (let a = few_those g.groups (is_unpinned d) free parts.chosen.items in omega arith);
      few_places = (let a = few_those (length d.slots.items) (is_open d) opens parts.chosen.places in omega arith);
      homes = ap length h.homes ∙ (length-map free (λ v. get_or r.homes.items v 0) ∙ sym n);
      regions = ap length h.regions ∙ (length-map opens (λ v. get_or r.slots.items v 0) ∙ sym m);
      alone = ap length h.alone ∙ (length_table (beside_pins g d b.slots.items) free opens ∙ (ap (λ (x : ℕ). x * length opens) (sym n) ∙ ap (λ (x : ℕ). items t * x) (sym m)));
      joint = ap length h.joint ∙ (length_table (between g) free free ∙ (ap (λ (x : ℕ). x * length free) (sym n) ∙ ap (λ (x : ℕ). items t * x) (sym n)));
      distance = ap length h.distance ∙ (length_table (distance d) opens opens ∙ (ap (λ (x : ℕ). x * length opens) (sym m) ∙ ap (λ (x : ℕ). places t * x) (sym m)));
      low_alone = λ i. (
          let a = table_low (beside_pins g d b.slots.items) free opens 5324800 i
          (λ i j li lj. beside_pins_low g d b.slots.items (get_or free i 0) (get_or opens j 0) device.some_cols device.few_cols (open_low j lj) fixed.low) in
          let e = ap (λ (xs : List ℕ). get_or xs i 0) h.alone in omega arith);
      low_joint = λ k. (
          let a = table_low (between g) free free 133120 k (λ i j li lj. between_low g (get_or free i 0) (get_or free j 0)) in
          let e = ap (λ (xs : List ℕ). get_or xs k 0) h.joint in omega arith);
      low_distance = λ k. (
          let a = table_low (distance d) opens opens 40 k (λ i j li lj. distance_low d (get_or opens i 0) (get_or opens j 0) device.some_cols device.few_cols (open_low i li) (open_low j lj)) in
          let e = ap (λ (xs : List ℕ). get_or xs k 0) h.distance in omega arith);
      low_needs = h.small;
    }

-- ---- slots written beside pinned ones are a merged plan

pub merged_by : (g : Graph) (d : Device) (b : Placing) (c : Choice) (layout p : List ℕ) → AreChoices g d c → length p ≡ g.groups
    → ((j : ℕ) → j < length c.items.items → get_or p (get_or c.items.items j 0) 0 ≡ get_or c.places.items (get_or layout j 0) 0)
    → ((v : ℕ) → ((j : ℕ) → j < length c.items.items → get_or c.items.items j 0 ≡ v → ⊥) → get_or p v 0 ≡ get_or b.slots.items v 0)
    → IsMerged g d b c layout p
merged_by g d b c layout p choice long at others = record {
  long = long;
  pinned = λ v l e. others v (λ j lj q. false≢true (ap not (sym e ∙ ap (is_pinned d) (sym q)) ∙ choice.items.pass j lj));
  items = at;
}

-- a list that was written through a slice of the same length
pub written_back : (n : ℕ) (new old : List ℕ) → n ≡ length new → take n (new ++ drop (length new) old) ≡ new
written_back n new old e = let h : n ≤ length new = omega arith in rw take-append-le (take_all n new (omega arith))

-- ---- stream by stream

abbrev pub both_ends : Graph → ℕ → ℕ → ℕ → ℕ
both_ends g v u e = (one v (tail g e) * one u (head g e) + one u (tail g e) * one v (head g e)) * width g e

pub widths_more : (g : Graph) (v e : ℕ) (xs ys zs : List ℕ) (t h w : ℕ) → t ≡ tail g e → h ≡ head g e → w ≡ width g e
    → ((u : ℕ) → get_or xs u 0 ≡ total e (both_ends g v u))
    → ((u : ℕ) → get_or ys u 0 ≡ get_or xs u 0 + one v t * one u h * w)
    → ((u : ℕ) → get_or zs u 0 ≡ get_or ys u 0 + one v h * one u t * w)
    → (u : ℕ) → get_or zs u 0 ≡ total (e + 1) (both_ends g v u)
widths_more g v e xs ys zs t h w et eh ew a b c u =
    let s : total (e + 1) (both_ends g v u) ≡ total e (both_ends g v u) + both_ends g v u e = rw add-one refl in
    let x : both_ends g v u e ≡ (one v t * one u h + one u t * one v h) * w =
    ap (λ (z : ℕ). (one v z * one u (head g e) + one u z * one v (head g e)) * width g e) (sym et)
    ∙ (ap (λ (z : ℕ). (one v t * one u z + one u t * one v z) * width g e) (sym eh)
    ∙ ap (λ (z : ℕ). (one v t * one u h + one u t * one v h) * z) (sym ew)) in
    let p = a u in
    let q = b u in
    let r = c u in
    omega arith

pub widths_low : (v e : ℕ) (xs ys zs : List ℕ) (t h w : ℕ) → w ≤ 65
    → ((u : ℕ) → get_or xs u 0 ≤ e * 130)
    → ((u : ℕ) → get_or ys u 0 ≡ get_or xs u 0 + one v t * one u h * w)
    → ((u : ℕ) → get_or zs u 0 ≡ get_or ys u 0 + one v h * one u t * w)
    → (u : ℕ) → get_or zs u 0 ≤ (e + 1) * 130
widths_low v e xs ys zs t h w low a b c u =
    let p = a u in
    let q = b u in
    let r = c u in
    let x = mul-le (one v t * one u h) w 1 65 (ones_low v t u h) low in
    let y = mul-le (one v h * one u t) w 1 65 (ones_low v h u t) low in
    omega arith

abbrev pub pinned_link : Graph → Device → List ℕ → ℕ → ℕ → ℕ → ℕ
pinned_link g d b v s e =
    (one v (tail g e) * pin d (head g e) * distance d s (get_or b (head g e) 0) + one v (head g e) * pin d (tail g e) * distance d s (get_or b (tail g e) 0)) * width g e

pub pins_more : (g : Graph) (d : Device) (b : List ℕ) (v s e sum x y w t h : ℕ) → t ≡ tail g e → h ≡ head g e → w ≡ width g e
    → x ≡ one v t * pin d h * distance d s (get_or b h 0) → y ≡ one v h * pin d t * distance d s (get_or b t 0)
    → sum ≡ total e (pinned_link g d b v s) → sum + (x + y) * w ≡ total (e + 1) (pinned_link g d b v s)
pins_more g d b v s e sum x y w t h et eh ew ex ey a =
    let k : total (e + 1) (pinned_link g d b v s) ≡ total e (pinned_link g d b v s) + pinned_link g d b v s e = rw add-one refl in
    let z : pinned_link g d b v s e ≡ (x + y) * w =
    ap (λ (i : ℕ). (one v i * pin d (head g e) * distance d s (get_or b (head g e) 0) + one v (head g e) * pin d i * distance d s (get_or b i 0)) * width g e) (sym et)
    ∙ (ap (λ (i : ℕ). (one v t * pin d i * distance d s (get_or b i 0) + one v i * pin d t * distance d s (get_or b t 0)) * width g e) (sym eh)
    ∙ (ap (λ (i : ℕ). (i + one v h * pin d t * distance d s (get_or b t 0)) * width g e) (sym ex)
    ∙ (ap (λ (i : ℕ). (x + i) * width g e) (sym ey) ∙ ap (λ (i : ℕ). (x + y) * i) (sym ew)))) in
    omega arith

pub pins_low : (e sum x y w : ℕ) → x ≤ 40 → y ≤ 40 → w ≤ 65 → sum ≤ e * 5200 → sum + (x + y) * w ≤ (e + 1) * 5200
pins_low e sum x y w lx ly lw l = let a = mul-le (x + y) w 80 65 (omega arith) lw in omega arith
