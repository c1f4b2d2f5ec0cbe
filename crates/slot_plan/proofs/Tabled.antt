-- What the tables of a choice say of the plan of a layout.
use Rattle.std.proofs.Common.{◌≡◌, ℕ, ◌+◌, ◌*◌, ◌<◌, ◌⊎◌, inl, inr, Bool, true, false, List, length, get_or, sym, ap, ◌∙◌, arith, ⊎_elim}
use Rattle.std.specs.Prelude.{if◌then◌else◌, not}
use Rattle.std.proofs.lemmas.Bool.{cases_eq, cases_Bool}
use Rattle.std.proofs.lemmas.List.{get_or-map}
use Rattle.task_graph.specs.declared.Graph.{Graph}
use Rattle.task_graph.specs.declared.Use.{Use}
use Rattle.task_graph.specs.Arcs.{streams, tail, head, width, total}
use Rattle.plan_device.specs.declared.device.Device.{Device}
use Rattle.slot_plan.specs.declared.fit.Placing.{Placing}
use Rattle.slot_plan.specs.declared.tables.Tables.{Tables}
use Rattle.slot_plan.specs.declared.tables.Choice.{Choice}
use Rattle.slot_plan.specs.declared.tables.Regions.{Regions}
use Rattle.slot_plan.specs.FirstFit.{is_pinned}
use Rattle.slot_plan.specs.Merging.{AreThose, is_unpinned, one, pin, between, beside_pins, AreChoices, AreTablesOf, IsMerged}
use Rattle.slot_plan.specs.Placing.{ArePlaced}
use Rattle.slot_plan.specs.Plan.{distance, link_cost, cost, AreNeeds}
use Rattle.slot_plan.specs.Tables.{alone_at, joint_at, distance_at, step_cost, cost_of}
use Rattle.slot_plan.proofs.Cells.{cell_table}
use Rattle.slot_plan.proofs.Parts.{one_other, unless_zero, reached, upto, meets, upto_all, upto_whole}
use Rattle.flow_cert.proofs.Duality.{heads_inside, tails_inside}
use Rattle.flow_cert.proofs.Sums.{total_same}
use Rattle.slot_plan.proofs.Those.{those_count, those_count_none}

-- pinned groups in their slots, and the tables of a choice beside them
pub record AreParts (g : Graph) (d : Device) (needs : List Use) (b : Placing) (c : Choice) (r : Regions) (t : Tables) : Type 0 where
  pub needed : AreNeeds g d needs
  pub placed : ArePlaced d needs false (length needs) b
  pub chosen : AreChoices g d c
  pub tables : AreTablesOf g d needs b c r t

pin_yes : (d : Device) (x : ℕ) → is_pinned d x ≡ true → pin d x ≡ 1
pin_yes d x e = ap (λ (b : Bool). if b then 1 else 0) e

pin_no : (d : Device) (x : ℕ) → is_pinned d x ≡ false → pin d x ≡ 0
pin_no d x e = ap (λ (b : Bool). if b then 1 else 0) e

pub distance_self : (d : Device) (x : ℕ) → distance d x x ≡ 0
distance_self d x = omega arith

pub distance_swap : (d : Device) (x y : ℕ) → distance d x y ≡ distance d y x
distance_swap d x y = omega arith

-- each group is pinned, or is one item
pub reached_one : (g : Graph) (d : Device) (free : List ℕ) (x : ℕ) → AreThose g.groups (is_unpinned d) free → x < g.groups → reached (pin d) (λ j. get_or free j 0) (length free) x ≡ 1
reached_one g d free x h l =
    ⊎_elim
    (λ (e : is_pinned d x ≡ true).
    let a = pin_yes d x e in
    let b = those_count_none g.groups (is_unpinned d) free x h (ap not e) in omega arith)
    (λ (e : is_pinned d x ≡ false).
    let a = pin_no d x e in
    let b = those_count g.groups (is_unpinned d) free x h l (ap not e) in omega arith)
    (cases_Bool (is_pinned d x))

-- ---- costs

pin_or : (d : Device) (p b : ℕ → ℕ) (x : ℕ) → (is_pinned d x ≡ true → p x ≡ b x) → (pin d x ≡ 0) ⊎ (p x ≡ b x)
pin_or d p b x h = ⊎_elim (λ (e : is_pinned d x ≡ true). inr (h e)) (λ (e : is_pinned d x ≡ false). inl (pin_no d x e)) (cases_Bool (is_pinned d x))

-- what the streams among pinned groups cost
abbrev pub base : Graph → Device → List ℕ → ℕ
base g d b = total (streams g) (λ e. pin d (tail g e) * pin d (head g e) * (width g e * distance d (get_or b (tail g e) 0) (get_or b (head g e) 0)))

pinned_ends : (D : ℕ → ℕ → ℕ) (m n w x y x' y' : ℕ) → ((m ≡ 0) ⊎ (x ≡ x')) → ((n ≡ 0) ⊎ (y ≡ y')) → m * n * (w * D x y) ≡ m * n * (w * D x' y')
pinned_ends D m n w x y x' y' h k =
    unless_zero m n (w * D x y) (w * D x' y')
    (⊎_elim
    (λ (e : m ≡ 0). inl e)
    (λ (e : x ≡ x'). ⊎_elim
    (λ (f : n ≡ 0). inr (inl f))
    (λ (f : y ≡ y'). inr (inr (ap (λ (z : ℕ). w * D z y) e ∙ ap (λ (z : ℕ). w * D x' z) f)))
    k)
    h)

plus_none : (a b c : ℕ) → (a + 0) * (b + 0) * c ≡ a * b * c
plus_none a b c = omega arith

base_same : (g : Graph) (d : Device) (b p : List ℕ) (item : ℕ → ℕ) → ((v : ℕ) → v < g.groups → is_pinned d v ≡ true → get_or p v 0 ≡ get_or b v 0) → upto (streams g) (tail g) (head g) (link_cost g d p) (pin d) item 0 ≡ base g d b
base_same g d b p item h =
    total_same (streams g) _ _ (λ e l.
    plus_none (pin d (tail g e)) (pin d (head g e)) (link_cost g d p e)
    ∙ pinned_ends (distance d) (pin d (tail g e)) (pin d (head g e)) (width g e) (get_or p (tail g e) 0) (get_or p (head g e) 0) (get_or b (tail g e) 0) (get_or b (head g e) 0)
    (pin_or d (λ x. get_or p x 0) (λ x. get_or b x 0) (tail g e) (h (tail g e) (tails_inside g e l)))
    (pin_or d (λ x. get_or p x 0) (λ x. get_or b x 0) (head g e) (h (head g e) (heads_inside g e l))))

pin_end : (D : ℕ → ℕ → ℕ) (m v x w s px y y' : ℕ) → (v ≡ x → px ≡ s) → ((m ≡ 0) ⊎ (y ≡ y')) → one v x * m * (w * D px y) ≡ one v x * m * (w * D s y')
pin_end D m v x w s px y y' h k =
    unless_zero (one v x) m (w * D px y) (w * D s y')
    (⊎_elim
    (λ (e : v ≡ x). ⊎_elim
    (λ (f : m ≡ 0). inr (inl f))
    (λ (f : y ≡ y'). inr (inr (ap (λ (z : ℕ). w * D z y) (h e) ∙ ap (λ (z : ℕ). w * D s z) f)))
    k)
    (λ (ne : v ≡ x → ⊥). inl (one_other v x ne))
    (cases_eq v x))

meet_algebra : (ot oh nt nh w L L' A B : ℕ) → L' ≡ L → ot * nh * L ≡ ot * nh * (w * A) → oh * nt * L' ≡ oh * nt * (w * B) → (ot * (nh + 0) + (nt + 0) * oh) * L ≡ (ot * nh * A + oh * nt * B) * w
meet_algebra ot oh nt nh w L L' A B e f f' =
    let a : (ot * (nh + 0) + (nt + 0) * oh) * L ≡ ot * nh * L + oh * nt * L = omega arith in
    let b : oh * nt * L' ≡ oh * nt * L = ap (λ (x : ℕ). oh * nt * x) e in
    let c : (ot * nh * A + oh * nt * B) * w ≡ ot * nh * (w * A) + oh * nt * (w * B) = omega arith in
    omega arith

-- an item beside the pinned groups
meets_pins : (g : Graph) (d : Device) (b p : List ℕ) (item : ℕ → ℕ) (v s : ℕ) → get_or p v 0 ≡ s → ((u : ℕ) → u < g.groups → is_pinned d u ≡ true → get_or p u 0 ≡ get_or b u 0) → meets (streams g) (tail g) (head g) (link_cost g d p) (pin d) item v 0 ≡ beside_pins g d b v s
meets_pins g d b p item v s is h =
    total_same (streams g) _ _ (λ e l.
    let x = tail g e in
    let y = head g e in
    let w = width g e in
    meet_algebra (one v x) (one v y) (pin d x) (pin d y) w (w * distance d (get_or p x 0) (get_or p y 0)) (w * distance d (get_or p y 0) (get_or p x 0)) (distance d s (get_or b y 0)) (distance d s (get_or b x 0))
    (ap (λ (z : ℕ). w * z) (distance_swap d (get_or p y 0) (get_or p x 0)))
    (pin_end (distance d) (pin d y) v x w s (get_or p x 0) (get_or p y 0) (get_or b y 0) (λ q. ap (λ (z : ℕ). get_or p z 0) (sym q) ∙ is)
    (pin_or d (λ z. get_or p z 0) (λ z. get_or b z 0) y (h y (heads_inside g e l))))
    (pin_end (distance d) (pin d x) v y w s (get_or p y 0) (get_or p x 0) (get_or b x 0) (λ q. ap (λ (z : ℕ). get_or p z 0) (sym q) ∙ is)
    (pin_or d (λ z. get_or p z 0) (λ z. get_or b z 0) x (h x (tails_inside g e l)))))

-- what the search looks up
module _ (g : Graph) (d : Device) (needs : List Use) (b : Placing) (c : Choice) (r : Regions) (t : Tables) (h : AreTablesOf g d needs b c r t) where
  open c use {items.{items as free}, places.{items as opens}}

  alone_is : (j y : ℕ) → j < length free → y < length opens → alone_at t j y ≡ beside_pins g d b.slots.items (get_or free j 0) (get_or opens y 0)
  alone_is j y l ly =
      ap (λ (w : ℕ). get_or t.alone.items (j * w + y) 0) h.room_long
      ∙ (ap (λ (xs : List ℕ). get_or xs (j * length opens + y) 0) h.alone ∙ cell_table (beside_pins g d b.slots.items) free opens j y l ly)

  joint_is : (i j : ℕ) → i < length free → j < length free → joint_at t i j ≡ between g (get_or free i 0) (get_or free j 0)
  joint_is i j l lj =
      ap (λ (w : ℕ). get_or t.joint.items (i * w + j) 0) h.needs_long
      ∙ (ap (λ (xs : List ℕ). get_or xs (i * length free + j) 0) h.joint ∙ cell_table (between g) free free i j l lj)

  distance_is : (x y : ℕ) → x < length opens → y < length opens → distance_at t x y ≡ distance d (get_or opens x 0) (get_or opens y 0)
  distance_is x y l ly =
      ap (λ (w : ℕ). get_or t.distance.items (x * w + y) 0) h.room_long
      ∙ (ap (λ (xs : List ℕ). get_or xs (x * length opens + y) 0) h.distance ∙ cell_table (distance d) opens opens x y l ly)

  pub home_is : (j : ℕ) → j < length free → get_or t.homes.items j 0 ≡ get_or r.homes.items (get_or free j 0) 0
  home_is j l = ap (λ (xs : List ℕ). get_or xs j 0) h.homes ∙ get_or-map (λ v. get_or r.homes.items v 0) free j 0 0 l

  pub region_is : (y : ℕ) → y < length opens → get_or t.regions.items y 0 ≡ get_or r.slots.items (get_or opens y 0) 0
  region_is y l = ap (λ (xs : List ℕ). get_or xs y 0) h.regions ∙ get_or-map (λ v. get_or r.slots.items v 0) opens y 0 0 l

times : (c c' e e' : ℕ) → c ≡ c' → e ≡ e' → c * e ≡ c' * e'
times c c' e e' q r = ap (λ (x : ℕ). x * e) q ∙ ap (λ (x : ℕ). c' * x) r

-- the cost of the plan of a layout
pub cost_merged : (g : Graph) (d : Device) (needs : List Use) (b : Placing) (c : Choice) (r : Regions) (t : Tables) (parts : AreParts g d needs b c r t) (f p : List ℕ)
    → length f ≡ length c.items.items → ((j : ℕ) → j < length f → get_or f j 0 < length c.places.items) → IsMerged g d b c f p → cost g d p ≡ base g d b.slots.items + cost_of t f
cost_merged g d needs b c r t parts f p long inside merged =
    let free = c.items.items in
    let opens = c.places.items in
    let m = streams g in
    let n = length free in
    let item : ℕ → ℕ = λ j. get_or free j 0 in
    let L : ℕ → ℕ = link_cost g d p in
    let a : upto m (tail g) (head g) L (pin d) item n ≡ cost g d p =
    upto_whole m (tail g) (head g) L (pin d) item n
    (λ e l. reached_one g d free (tail g e) parts.chosen.items (tails_inside g e l))
    (λ e l. reached_one g d free (head g e) parts.chosen.items (heads_inside g e l)) in
    let o = upto_all m (tail g) (head g) (width g) (distance d) (λ x. get_or p x 0) (pin d) item n (distance_self d) (distance_swap d) in
    let e = base_same g d b.slots.items p item merged.pinned in
    let k : total n (λ j. meets m (tail g) (head g) L (pin d) item (item j) 0 + total j (λ i. between g (item i) (item j) * distance d (get_or p (item i) 0) (get_or p (item j) 0))) ≡ total n (step_cost t f) =
    total_same n _ _ (λ j l.
    let lf : j < length f = omega arith in
    let x : meets m (tail g) (head g) L (pin d) item (item j) 0 ≡ alone_at t j (get_or f j 0) =
    meets_pins g d b.slots.items p item (item j) (get_or opens (get_or f j 0) 0) (merged.items j l) merged.pinned
    ∙ sym (alone_is g d needs b c r t parts.tables j (get_or f j 0) l (inside j lf)) in
    let y : total j (λ i. between g (item i) (item j) * distance d (get_or p (item i) 0) (get_or p (item j) 0)) ≡ total j (λ i. joint_at t i j * distance_at t (get_or f i 0) (get_or f j 0)) =
    total_same j _ _ (λ i li.
    times (between g (item i) (item j)) (joint_at t i j) (distance d (get_or p (item i) 0) (get_or p (item j) 0)) (distance_at t (get_or f i 0) (get_or f j 0))
    (sym (joint_is g d needs b c r t parts.tables i j (omega arith) l))
    (ap (λ (z : ℕ). distance d z (get_or p (item j) 0)) (merged.items i (omega arith))
    ∙ (ap (λ (z : ℕ). distance d (get_or opens (get_or f i 0) 0) z) (merged.items j l)
    ∙ sym (distance_is g d needs b c r t parts.tables (get_or f i 0) (get_or f j 0) (inside i (omega arith)) (inside j lf))))) in
    omega arith) in
    let z = ap (λ (z : ℕ). total z (step_cost t f)) long in
    omega arith
