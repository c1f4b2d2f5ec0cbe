-- Beginnings of layouts: what they load and cost.
use Rattle.std.proofs.Common.{◌≡◌, ℕ, suc, ◌+◌, ◌*◌, ◌<◌, ◌≤◌, inl, inr, Bool, true, false, cond, List, [], ◌∷◌, ◌++◌, length, get_or, refl, sym, ap, ◌∙◌, arith, ⊎_elim, length-append, append_assoc, append-nil}
use Rattle.std.specs.Prelude.{if◌then◌else◌, ◌==◌, nat_lt}
use Rattle.std.proofs.lemmas.Bool.{cases_lt}
use Rattle.std.proofs.lemmas.Bool.Decides.{nat_tests}
use Rattle.std.proofs.lemmas.List.{get_or_append_left, get_or_push}
use Rattle.task_graph.specs.declared.Use.{Use}
use Rattle.task_graph.specs.Streams.{amount_at}
use Rattle.task_graph.specs.Arcs.{total}
use Rattle.slot_plan.specs.declared.tables.Tables.{Tables}
use Rattle.slot_plan.specs.Least.{NotAfter}
use Rattle.slot_plan.specs.Plan.{load}
use Rattle.slot_plan.specs.Search.{Begins, IsBelowRest}
use Rattle.slot_plan.specs.Tables.{items, alone_at, joint_at, distance_at, beside, step_cost, cost_of, IsLayout}
use Rattle.flow_cert.proofs.Sums.{total_same}
use Rattle.slot_plan.proofs.Sums.{total_more, total_split}
use Rattle.task_graph.proofs.Sizes.{total_le}

pub not_after_refl : (p : List ℕ) → NotAfter p p
not_after_refl [] = tt
not_after_refl (x ∷ xs) = inr (refl, not_after_refl xs)

-- lists with one beginning, of which the first goes on with a smaller number
pub not_after_fork : (p r t : List ℕ) (x y : ℕ) → x < y → NotAfter (p ++ (x ∷ r)) (p ++ (y ∷ t))
not_after_fork [] r t x y l = inl l
not_after_fork (z ∷ zs) r t x y l = inr (refl, not_after_fork zs r t x y l)

-- a place of a beginning is that of the whole list
pub push_long : (p : List ℕ) (s : ℕ) → length (p ++ s ∷ []) ≡ suc (length p)
push_long p s = let y = length-append p (s ∷ []) in omega arith

-- what is joined with a list's first n items is joined with those of its beginning
front_joined : (t : Tables) (p rest : List ℕ) (n j y : ℕ) → n ≤ length p → total n (λ i. joint_at t i j * distance_at t (get_or (p ++ rest) i 0) y) ≡ total n (λ i. joint_at t i j * distance_at t (get_or p i 0) y)
front_joined t p rest n j y l = total_same n _ _ (λ i li. ap (λ (x : ℕ). joint_at t i j * distance_at t x y) (get_or_append_left p rest 0 i (omega arith)))

pub front_step : (t : Tables) (p rest : List ℕ) (j : ℕ) → j < length p → step_cost t (p ++ rest) j ≡ step_cost t p j
front_step t p rest j l =
    let e = get_or_append_left p rest 0 j l in
    let a = front_joined t p rest j j (get_or (p ++ rest) j 0) (omega arith) in
    let b = ap (λ (y : ℕ). alone_at t j y + total j (λ i. joint_at t i j * distance_at t (get_or p i 0) y)) e in
    omega arith

-- an item beside one more
pub beside_push : (t : Tables) (p : List ℕ) (s j y : ℕ) → beside t (p ++ s ∷ []) j y ≡ beside t p j y + joint_at t (length p) j * distance_at t s y
beside_push t p s j y =
    let q = p ++ s ∷ [] in
    let a = ap (λ (n : ℕ). total n (λ i. joint_at t i j * distance_at t (get_or q i 0) y)) (push_long p s) in
    let b = front_joined t p (s ∷ []) (length p) j y (omega arith) in
    let c = ap (λ (x : ℕ). joint_at t (length p) j * distance_at t x y) (get_or_push p s 0 (length p) refl) in
    omega arith

-- one more item
pub cost_push : (t : Tables) (p : List ℕ) (s : ℕ) → cost_of t (p ++ s ∷ []) ≡ cost_of t p + beside t p (length p) s
cost_push t p s =
    let q = p ++ s ∷ [] in
    let a = ap (λ (n : ℕ). total n (step_cost t q)) (push_long p s) in
    let b : total (length p) (step_cost t q) ≡ total (length p) (step_cost t p) = total_same (length p) _ _ (λ j l. front_step t p (s ∷ []) j l) in
    let c = front_joined t p (s ∷ []) (length p) (length p) (get_or q (length p) 0) (omega arith) in
    let e = ap (λ (y : ℕ). beside t p (length p) y) (get_or_push p s 0 (length p) refl) in
    omega arith

-- an item of a whole list costs at least what it costs beside a beginning
step_at_least : (t : Tables) (p q : List ℕ) (j : ℕ) → Begins p q → length p ≤ j → beside t p j (get_or q j 0) ≤ step_cost t q j
step_at_least t p q j (rest, is) l =
    let y = get_or q j 0 in
    let a : total (length p) (λ i. joint_at t i j * distance_at t (get_or q i 0) y) ≡ total (length p) (λ i. joint_at t i j * distance_at t (get_or p i 0) y) =
    total_same (length p) _ _ (λ i li. ap (λ (x : ℕ). joint_at t i j * distance_at t x y) (ap (λ (x : List ℕ). get_or x i 0) is ∙ get_or_append_left p rest 0 i li)) in
    let b = total_more (length p) j (λ i. joint_at t i j * distance_at t (get_or q i 0) y) l in
    omega arith

after_test : (j m x y : ℕ) → (m ≤ j → x ≤ y) → (if nat_lt j m then 0 else x) ≤ (if nat_lt j m then 0 else y)
after_test j m x y h =
    ⊎_elim
    (λ (l : j < m). let e : nat_lt j m ≡ true = grind (arith, nat_tests) in let a = ap (λ (c : Bool). cond c 0 x) e in omega arith)
    (λ (l : m ≤ j).
    let e : nat_lt j m ≡ false = grind (arith, nat_tests) in
    let a = ap (λ (c : Bool). cond c 0 x) e in
    let b = ap (λ (c : Bool). cond c 0 y) e in
    let k = h l in omega arith)
    (cases_lt j m)

-- a layout costs at least what a beginning costs, and what the rest costs at least
pub low_at_most : (t : Tables) (p q : List ℕ) (low : ℕ) → IsLayout t q → Begins p q → length p ≤ items t → IsBelowRest t p low → cost_of t p + low ≤ cost_of t q
low_at_most t p q low whole (rest, is) short h =
    let n = items t in
    let a = h (λ j. get_or q j 0) (λ j l. let k : j < length q = (let e = whole.whole in omega arith) in (whole.rooms.inside j k, whole.rooms.home j k)) in
    let b = total_le n (λ j. if nat_lt j (length p) then 0 else beside t p j (get_or q j 0)) (λ j. if nat_lt j (length p) then 0 else step_cost t q j)
    (λ j l. after_test j (length p) (beside t p j (get_or q j 0)) (step_cost t q j) (λ k. step_at_least t p q j (rest, is) k)) in
    let c = total_split n (length p) (step_cost t q) short in
    let e : total (length p) (step_cost t p) ≡ total (length p) (step_cost t q) =
    total_same (length p) _ _ (λ j l. sym (front_step t p rest j l) ∙ ap (λ (x : List ℕ). step_cost t x j) (sym is)) in
    let f = ap (λ (m : ℕ). total m (step_cost t q)) whole.whole in
    omega arith

pub none_below : (t : Tables) (p : List ℕ) → IsBelowRest t p 0
none_below t p at inside = omega arith

-- what a place has of a kind, in a beginning and in a layout
pub load_at_most : (needs : List Use) (p q : List ℕ) (s k : ℕ) → Begins p q → load needs p s k ≤ load needs q s k
load_at_most needs p q s k (rest, is) =
    let a : total (length p) (λ v. if get_or p v 0 == s then amount_at needs v k else 0) ≡ total (length p) (λ v. if get_or q v 0 == s then amount_at needs v k else 0) =
    total_same (length p) _ _ (λ v l. ap (λ (x : ℕ). if x == s then amount_at needs v k else 0) (sym (ap (λ (x : List ℕ). get_or x v 0) is ∙ get_or_append_left p rest 0 v l))) in
    let n : length p ≤ length q = (let x = ap length is in let y = length-append p rest in omega arith) in
    let m = total_more (length p) (length q) (λ v. if get_or q v 0 == s then amount_at needs v k else 0) n in
    omega arith

pub load_push : (needs : List Use) (p : List ℕ) (t s k : ℕ) → load needs (p ++ t ∷ []) s k ≡ load needs p s k + (if t == s then amount_at needs (length p) k else 0)
load_push needs p t s k =
    let q = p ++ t ∷ [] in
    let a : total (length p) (λ v. if get_or q v 0 == s then amount_at needs v k else 0) ≡ total (length p) (λ v. if get_or p v 0 == s then amount_at needs v k else 0) =
    total_same (length p) _ _ (λ v l. ap (λ (x : ℕ). if x == s then amount_at needs v k else 0) (get_or_append_left p (t ∷ []) 0 v l)) in
    let e = ap (λ (j : ℕ). total j (λ v. if get_or q v 0 == s then amount_at needs v k else 0)) (push_long p t) in
    let f = ap (λ (x : ℕ). if x == s then amount_at needs (length p) k else 0) (get_or_push p t 0 (length p) refl) in
    omega arith

-- a list that begins with p and goes on
pub begins_push : (p q : List ℕ) (t : ℕ) → Begins (p ++ t ∷ []) q → Begins p q
begins_push p q t (rest, is) = (t ∷ rest, is ∙ append_assoc p (t ∷ []) rest)

pub place_of_begin : (p q : List ℕ) (t : ℕ) → Begins (p ++ t ∷ []) q → get_or q (length p) 0 ≡ t
place_of_begin p q t (rest, is) = ap (λ (x : List ℕ). get_or x (length p) 0) is ∙ (get_or_append_left (p ++ t ∷ []) rest 0 (length p) (let y = length-append p (t ∷ []) in omega arith) ∙ get_or_push p t 0 (length p) refl)

-- a longer list goes on with some place
pub goes_on : (p q : List ℕ) → length p < length q → Begins p q → (t : ℕ) × Begins (p ++ t ∷ []) q
goes_on p q l ([], is) = absurd (let x = ap length is in let y = length-append p [] in omega arith)
goes_on p q l (t ∷ rest, is) = (t, (rest, is ∙ sym (append_assoc p (t ∷ []) rest)))

pub begins_all : (p q : List ℕ) → length p ≡ length q → Begins p q → q ≡ p
begins_all p q l ([], is) = is ∙ append-nil p
begins_all p q l (t ∷ rest, is) = absurd (let x = ap length is in let y = length-append p (t ∷ rest) in omega arith)
