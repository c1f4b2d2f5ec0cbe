-- The search for the least layout.
use Rattle.std.proofs.Common.{◌≡◌, ℕ, ◌+◌, ◌*◌, ◌<◌, ◌≤◌, ◌⊎◌, inl, inr, true, false, List, [], ◌∷◌, ◌++◌, length, get_or, set, refl, sym, ap, subst, ◌∙◌, arith, ⊎_elim, length-set, append_assoc, append-nil, Option, None, Some}
use Rattle.std.specs.Prelude.{MatchOption, IsTrue, ◌↔◌}
use Rattle.std.proofs.lemmas.Bool.{cases_lt, false≢true}
use Rattle.std.proofs.lemmas.Nat.{mul-le}
use Rattle.std.proofs.lemmas.List.{get_or_append_left, get_or_push}
use Rattle.task_graph.specs.declared.Use.{Use}
use Rattle.task_graph.specs.Streams.{amount, amount_at}
use Rattle.slot_plan.specs.declared.search.Best.{Best}
use Rattle.slot_plan.specs.declared.tables.Tables.{Tables}
use Rattle.slot_plan.specs.Least.{NotAfter}
use Rattle.slot_plan.specs.Plan.{load}
use Rattle.slot_plan.specs.Search.{IsAnswer, Begins, IsSound, Covers, IsEarlier, IsFrom, Explored, ExploredBelow, IsBelowRest, IsAt, IsAtPlace}
use Rattle.slot_plan.specs.Tables.{items, places, joint_at, distance_at, beside, cost_of, Suits, IsLayout, AreTables}
use Rattle.flow_cert.proofs.Sums.{total_const}
use Rattle.slot_plan.proofs.Sums.{pick_same, pick_other}
use Rattle.slot_plan.proofs.Uses.{amount_set}
use Rattle.slot_plan.proofs.Beginnings.{goes_on, begins_all, cost_push, load_push, load_at_most, low_at_most, none_below, not_after_fork, not_after_refl, place_of_begin, begins_push, push_long}
use Rattle.task_graph.proofs.Sizes.{total_le}

-- all layouts that begin so cost at least a number, and the best no more than that
pub explored_prune : (t : Tables) (p : List ℕ) (bound : ℕ) (b : Best) → IsSound t (Some b) → ((q : List ℕ) → Begins p q → IsEarlier (Some b) q) → ((q : List ℕ) → IsLayout t q → Begins p q → bound ≤ cost_of t q) → b.cost ≤ bound → Explored t p (Some b) (Some b)
explored_prune t p bound b sound earlier least le = record {
  sound = sound;
  kept = λ q c. c;
  covered = λ q layout begins. record {
    cheap = (let a = least q layout begins in let s = sound.1 in omega arith);
    first = λ same. earlier q begins;
  };
  from = inl refl;
}

pub prune_any : (t : Tables) (p : List ℕ) (bound : ℕ) (best : Option Best) → IsSound t best → ((q : List ℕ) → Begins p q → IsEarlier best q) → ((q : List ℕ) → IsLayout t q → Begins p q → bound ≤ cost_of t q) → MatchOption best (true ≡ false) (λ b. IsTrue true ↔ (b.cost ≤ bound)) → Explored t p best best
prune_any t p bound None sound earlier least h = absurd (false≢true (sym h))
prune_any t p bound (Some b) sound earlier least h = explored_prune t p bound b sound earlier least (h.0 refl)

-- at a beginning, with a number that the rest costs at least
pub prune_low : (t : Tables) (p : List ℕ) (left : List Use) (spent low : ℕ) (best : Option Best) → IsAt t p left spent best → IsBelowRest t p low → MatchOption best (true ≡ false) (λ b. IsTrue true ↔ (b.cost ≤ spent + low)) → Explored t p best best
prune_low t p left spent low best at below h =
    prune_any t p (spent + low) best at.sound at.earlier
    (λ q layout begins. (let a = low_at_most t p q low layout begins at.short below in let b = at.spent_is in omega arith))
    h

-- the best so far costs more
abbrev pub IsDear : Option Best → ℕ → Type 0
IsDear None bound = Unit {0}
IsDear (Some b) bound = bound < b.cost

pub dear_any : (bound : ℕ) (best : Option Best) → MatchOption best (false ≡ false) (λ b. IsTrue false ↔ (b.cost ≤ bound)) → IsDear best bound
dear_any bound None h = tt
dear_any bound (Some b) h = ⊎_elim (λ (l : bound < b.cost). l) (λ (l : b.cost ≤ bound). absurd (false≢true (h.1 l))) (cases_lt bound b.cost)

leaf_kept : (t : Tables) (p : List ℕ) (spent low : ℕ) (old : Option Best) (new : Best) → IsSound t old → IsDear old (spent + low) → spent ≡ cost_of t p → new.places.items ≡ p → (q : List ℕ) → Covers t old q → Covers t (Some new) q
leaf_kept t p spent low None new s dear is np q c = absurd c
leaf_kept t p spent low (Some b) new s dear is np q c =
    let e = ap (cost_of t) np in
    let a = c.cheap in
    let m = s.1 in
    record {
      cheap = omega arith;
      first = λ same. absurd (omega arith);
    }

-- a whole layout that costs less is the best
pub explored_leaf : (t : Tables) (p : List ℕ) (left : List Use) (spent low : ℕ) (old : Option Best) (new : Best) → IsAt t p left spent old → length p ≡ items t → IsDear old (spent + low) → new.places.items ≡ p → new.cost ≡ spent → Explored t p old (Some new)
explored_leaf t p left spent low old new at whole dear np nc =
    let layout : IsLayout t p = record { whole = whole; rooms = at.rooms } in
    record {
      sound = (subst (IsLayout t) (sym np) layout, nc ∙ (at.spent_is ∙ ap (cost_of t) (sym np)));
      kept = leaf_kept t p spent low old new at.sound dear at.spent_is np;
      covered = λ q ql begins. (let e = begins_all p q (whole ∙ sym ql.whole) begins in let s : new.places.items ≡ q = np ∙ sym e in
          record {
            cheap = (let c = ap (cost_of t) s in omega arith);
            first = λ same. subst (NotAfter new.places.items) s (not_after_refl new.places.items);
          });
      from = inr ([], np ∙ sym (append-nil p));
    }

pub below_none : (t : Tables) (p : List ℕ) (best : Option Best) → IsSound t best → ExploredBelow t p 0 best best
below_none t p best s = record {
  sound = s;
  kept = λ q c. c;
  covered = λ q y l. absurd (omega arith);
  from = inl refl;
}

from_more : (p : List ℕ) (s : ℕ) (old mid new : Option Best) → ((mid ≡ old) ⊎ ((y : ℕ) × (y < s) × IsFrom mid (p ++ y ∷ []))) → ((new ≡ mid) ⊎ IsFrom new (p ++ s ∷ [])) → (new ≡ old) ⊎ ((y : ℕ) × (y < s + 1) × IsFrom new (p ++ y ∷ []))
from_more p s old mid new a b =
    ⊎_elim
    (λ (e : new ≡ mid). ⊎_elim
    (λ (f : mid ≡ old). inl (e ∙ f))
    (λ (w : (y : ℕ) × (y < s) × IsFrom mid (p ++ y ∷ [])). inr (w.0, let l = w.1 in omega arith, subst (λ o. IsFrom o (p ++ w.0 ∷ [])) (sym e) w.2))
    a)
    (λ (f : IsFrom new (p ++ s ∷ [])). inr (s, omega arith, f))
    b

pub below_more : (t : Tables) (p : List ℕ) (s : ℕ) (old mid new : Option Best) → ExploredBelow t p s old mid → Explored t (p ++ s ∷ []) mid new → ExploredBelow t p (s + 1) old new
below_more t p s old mid new h e = record {
  sound = e.sound;
  kept = λ q c. e.kept q (h.kept q c);
  covered = λ q y l layout begins. ⊎_elim
      (λ (lt : y < s). e.kept q (h.covered q y lt layout begins))
      (λ (le : s ≤ y). let is : y ≡ s = omega arith in e.covered q layout (subst (λ u. Begins (p ++ u ∷ []) q) is begins))
      (cases_lt y s);
  from = from_more p s old mid new h.from e.from;
}

from_whole : (p : List ℕ) (s : ℕ) (new : Option Best) → (y : ℕ) × (y < s) × IsFrom new (p ++ y ∷ []) → IsFrom new p
from_whole p s None w = w.2
from_whole p s (Some b) w = begins_push p b.places.items w.0 w.2

-- each layout goes on with some place
pub below_all : (t : Tables) (p : List ℕ) (old new : Option Best) → length p < items t → ExploredBelow t p (places t) old new → Explored t p old new
below_all t p old new l h = record {
  sound = h.sound;
  kept = h.kept;
  covered = λ q layout begins. (
      let long : length p < length q = (let w = layout.whole in omega arith) in
      let next = goes_on p q long begins in
      let is = place_of_begin p q next.0 next.1 in
      let inside = layout.rooms.inside (length p) long in
      h.covered q next.0 (omega arith) layout next.1);
  from = ⊎_elim (λ e. inl e) (λ w. inr (from_whole p (places t) new w)) h.from;
}

-- what was found before a child is earlier than all layouts of the child
earlier_child : (p : List ℕ) (s : ℕ) (old mid : Option Best) → ((q : List ℕ) → Begins p q → IsEarlier old q) → ((mid ≡ old) ⊎ ((y : ℕ) × (y < s) × IsFrom mid (p ++ y ∷ []))) → (q : List ℕ) → Begins (p ++ s ∷ []) q → IsEarlier mid q
earlier_child p s old None prior a q b = tt
earlier_child p s old (Some m) prior a q b =
    ⊎_elim
    (λ (e : Some m ≡ old). subst (λ o. IsEarlier o q) (sym e) (prior q (begins_push p q s b)))
    (λ (w : (y : ℕ) × (y < s) × IsFrom (Some m) (p ++ y ∷ [])).
    let fork = not_after_fork p w.2.0 b.0 w.0 s w.1 in
    let left : m.places.items ≡ p ++ (w.0 ∷ w.2.0) = w.2.1 ∙ append_assoc p (w.0 ∷ []) w.2.0 in
    let right : q ≡ p ++ (s ∷ b.0) = b.1 ∙ append_assoc p (s ∷ []) b.0 in
    subst (λ x. NotAfter x q) (sym left) (subst (NotAfter (p ++ (w.0 ∷ w.2.0))) (sym right) fork))
    a

-- a place that has no room: no layout begins so
pub explored_none : (t : Tables) (p : List ℕ) (best : Option Best) → IsSound t best → ((q : List ℕ) → IsLayout t q → Begins p q → ⊥) → Explored t p best best
explored_none t p best s none = record {
  sound = s;
  kept = λ q c. c;
  covered = λ q layout begins. absurd (none q layout begins);
  from = inl refl;
}

pub load_here : (needs : List Use) (p : List ℕ) (s k : ℕ) → load needs (p ++ s ∷ []) s k ≡ load needs p s k + amount_at needs (length p) k
load_here needs p s k = let a = load_push needs p s s k in let b = pick_same s s (amount_at needs (length p) k) refl in omega arith

pub too_much : (t : Tables) (p : List ℕ) (left : List Use) (spent s : ℕ) (best : Option Best) → IsAtPlace t p left spent best s → (((k : ℕ) → amount_at t.needs.items (length p) k ≤ amount_at left s k) → ⊥) → Explored t (p ++ s ∷ []) best best
too_much t p left spent s best at over =
    explored_none t (p ++ s ∷ []) best at.sound
    (λ q layout begins. over (λ k.
    (let a = layout.rooms.within s k at.place in
    let b = load_at_most t.needs.items (p ++ s ∷ []) q s k begins in
    let c = load_here t.needs.items p s k in
    let e = at.left_is.value s k at.place in omega arith)))

-- a place that does not suit the item
pub unsuited : (t : Tables) (p : List ℕ) (left : List Use) (spent s : ℕ) (best : Option Best) → IsAtPlace t p left spent best s → (Suits t (length p) s → ⊥) → Explored t (p ++ s ∷ []) best best
unsuited t p left spent s best at apart =
    explored_none t (p ++ s ∷ []) best at.sound
    (λ q layout begins.
    let long : length p < length q = (let a = layout.whole in let b = at.more in omega arith) in
    apart (subst (Suits t (length p)) (place_of_begin p q s begins) (layout.rooms.home (length p) long)))

-- a place at which all layouts cost at least as much as the best
pub prune_place : (t : Tables) (p : List ℕ) (left : List Use) (spent cost s : ℕ) (best : Option Best) → IsAtPlace t p left spent best s → cost ≡ spent + beside t p (length p) s → MatchOption best (true ≡ false) (λ b. IsTrue true ↔ (b.cost ≤ cost)) → Explored t (p ++ s ∷ []) best best
prune_place t p left spent cost s best at is h =
    let n = push_long p s in
    prune_any t (p ++ s ∷ []) cost best at.sound at.earlier
    (λ q layout begins.
    (let a = low_at_most t (p ++ s ∷ []) q 0 layout begins (let m = at.more in omega arith) (none_below t (p ++ s ∷ [])) in
    let b = at.spent_is in
    let c = cost_push t p s in omega arith))
    h

-- at the next place of a beginning
pub at_place : (t : Tables) (p : List ℕ) (left : List Use) (spent s : ℕ) (old mid : Option Best) → IsAt t p left spent old → length p < items t → s < places t → ExploredBelow t p s old mid → IsAtPlace t p left spent mid s
at_place t p left spent s old mid at l ls h = record {
  more = l;
  place = ls;
  rooms = at.rooms;
  left_is = at.left_is;
  spent_is = at.spent_is;
  bounded = at.bounded;
  sound = h.sound;
  earlier = earlier_child p s old mid at.earlier h.from;
}

-- the item stands at the place
pub at_child : (t : Tables) (p : List ℕ) (left : List Use) (spent : ℕ) (best : Option Best) (s : ℕ) (after : Use) (more : ℕ) → IsAtPlace t p left spent best s → Suits t (length p) s → ((k : ℕ) → amount after k + amount_at t.needs.items (length p) k ≡ amount_at left s k) → more ≡ beside t p (length p) s → more ≤ 2731622400 → IsAt t (p ++ s ∷ []) (set left s after) (spent + more) best
at_child t p left spent best s after more at suits is m low =
    let q = p ++ s ∷ [] in
    let needs = t.needs.items in
    let n = push_long p s in
    let ul : s < length left = (let a = at.left_is.long in let b = at.place in omega arith) in
    let value : (y k : ℕ) → y < places t → amount_at (set left s after) y k + load needs q y k ≡ amount_at t.room.items y k =
    (λ y k l.
    (let a = load_push needs p s y k in
    let c = at.left_is.value y k l in
    ⊎_elim
    (λ w.
    let b = pick_same s y (amount_at needs (length p) k) (sym w.0) in
    let e = is k in
    let z = ap (λ (u : ℕ). amount_at left u k) w.0 in
    let v = w.1 in omega arith)
    (λ w.
    let b = pick_other s y (amount_at needs (length p) k) (λ e. w.0 (sym e)) in
    let v = w.1 in omega arith)
    (amount_set left s y k after ul))) in
    record {
      short = (let a = at.more in omega arith);
      rooms = record {
        inside = λ j l. ⊎_elim
            (λ (k : j < length p). let e = get_or_append_left p (s ∷ []) 0 j k in let a = at.rooms.inside j k in omega arith)
            (λ (k : length p ≤ j).
            let e : length p ≡ j = omega arith in
            let a = ap (λ (u : ℕ). get_or q u 0) e in
            let b = get_or_push p s 0 (length p) refl in
            let c = at.place in omega arith)
            (cases_lt j (length p));
        home = λ j l. ⊎_elim
            (λ (k : j < length p). subst (Suits t j) (sym (get_or_append_left p (s ∷ []) 0 j k)) (at.rooms.home j k))
            (λ (k : length p ≤ j).
            let e : length p ≡ j = omega arith in
            subst (λ (i : ℕ). Suits t i (get_or q i 0)) e (subst (Suits t (length p)) (sym (get_or_push p s 0 (length p) refl)) suits))
            (cases_lt j (length p));
        within = λ y k l. (let a = value y k l in omega arith);
      };
      left_is = record { long = length-set left s after ∙ at.left_is.long; value = value };
      spent_is = (let a = cost_push t p s in let b = at.spent_is in omega arith);
      bounded = (let a = at.bounded in omega arith);
      sound = at.sound;
      earlier = at.earlier;
    }

pub at_start : (t : Tables) (left : List Use) → left ≡ t.room.items → IsAt t [] left 0 None
at_start t left e = record {
  short = omega arith;
  rooms = record {
    inside = λ j l. absurd (omega arith);
    home = λ j l. absurd (omega arith);
    within = λ s k l. omega arith;
  };
  left_is = record {
    long = ap length e;
    value = λ s k l. (let a = ap (λ (x : List Use). amount_at x s k) e in omega arith);
  };
  spent_is = refl;
  bounded = omega arith;
  sound = tt;
  earlier = λ q b. tt;
}

pub answered : (t : Tables) (new : Option Best) → Explored t [] None new → IsAnswer t new
answered t None h = λ q layout. h.covered q layout (q, refl)
answered t (Some b) h = record { layout = h.sound.0; least = λ q layout. h.covered q layout (q, refl) }

-- ---- bounds

joint_term : (t : Tables) (i j x y : ℕ) → AreTables t → joint_at t i j * distance_at t x y ≤ 5324800
joint_term t i j x y h =
    let a = mul-le (joint_at t i j) (distance_at t x y) 133120 40 (h.low_joint (i * items t + j)) (h.low_distance (x * places t + y)) in omega arith

pub beside_low : (t : Tables) (p : List ℕ) (j y : ℕ) → AreTables t → beside t p j y ≤ 5324800 + length p * 5324800
beside_low t p j y h =
    let a = h.low_alone (j * places t + y) in
    let b = total_le (length p) (λ i. joint_at t i j * distance_at t (get_or p i 0) y) (λ i. 5324800) (λ i l. joint_term t i j (get_or p i 0) y h) in
    let c = total_const (length p) 5324800 in omega arith
