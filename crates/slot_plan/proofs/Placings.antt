-- What first fit has placed.
use Rattle.std.proofs.Common.{◌≡◌, ℕ, ◌+◌, ◌*◌, ◌<◌, Bool, true, false, List, length, get_or, set, refl, sym, ap, subst, ◌∙◌, arith, ⊎_elim, length-set}
use Rattle.std.specs.Prelude.{if◌then◌else◌, ◌==◌, ◌&&◌, nat_lt, not}
use mathlib.Core.Bool.{beq}
use Rattle.std.proofs.lemmas.Bool.{cases_eq, false≢true, lt-ltb}
use Rattle.std.proofs.lemmas.Bool.Decides.{nat_tests}
use Rattle.std.proofs.lemmas.List.{get_or-set_same, get_or-set_other}
use Rattle.task_graph.specs.declared.Graph.{Graph}
use Rattle.task_graph.specs.declared.Use.{Use}
use Rattle.task_graph.specs.Streams.{amount_at}
use Rattle.task_graph.specs.Arcs.{total}
use Rattle.plan_device.specs.declared.device.Device.{Device}
use Rattle.slot_plan.specs.declared.fit.Placing.{Placing}
use Rattle.slot_plan.specs.Plan.{need_of, used_in, AreNeeds, IsPlanOf}
use Rattle.slot_plan.specs.FirstFit.{is_pinned, comes_before, used_before, HasRoom, StandsFirst, FindsNone, IsFirstFit}
use Rattle.slot_plan.specs.Placing.{is_placed, placed_in, CanPlace, HasSpace, IsFirstSpace, ArePlaced, IsStuck}
use Rattle.flow_cert.proofs.Sums.{total_same, total_zero}
use Rattle.slot_plan.proofs.Sums.{total_but, pick_same, pick_other}
use Rattle.slot_plan.proofs.Uses.{amount_set}

-- ---- which groups are placed

less_other : (u v : ℕ) → (u ≡ v → ⊥) → nat_lt u (v + 1) ≡ nat_lt u v
less_other u v ne = grind (arith, nat_tests)

less_self : (v : ℕ) → nat_lt v v ≡ false
less_self v = grind (arith, nat_tests)

less_next : (v : ℕ) → nat_lt v (v + 1) ≡ true
less_next v = grind (arith, nat_tests)

less_zero : (v : ℕ) → nat_lt v 0 ≡ false
less_zero v = grind (arith, nat_tests)

less_not : (u v : ℕ) → nat_lt u v ≡ true → nat_lt v u ≡ false
less_not u v e = grind (arith, nat_tests)

-- whether a group is placed, by its kind and by whether its number is smaller
abbrev placed_bit : Bool → Bool → Bool → Bool
placed_bit free a b = if a then (if free then true else b) else (if free then b else false)

own_kind : (free a b : Bool) → a ≡ not free → placed_bit free a b ≡ b
own_kind true true b e = absurd (false≢true (sym e))
own_kind true false b e = refl
own_kind false true b e = refl
own_kind false false b e = absurd (false≢true e)

other_kind : (free a b : Bool) → a ≡ free → placed_bit free a b ≡ free
other_kind true true b e = refl
other_kind true false b e = absurd (false≢true e)
other_kind false true b e = absurd (false≢true (sym e))
other_kind false false b e = refl

placed_other : (d : Device) (free : Bool) (v u : ℕ) → (u ≡ v → ⊥) → is_placed d free (v + 1) u ≡ is_placed d free v u
placed_other d free v u ne = ap (placed_bit free (is_pinned d u)) (less_other u v ne)

placed_here : (d : Device) (free : Bool) (v : ℕ) → is_pinned d v ≡ not free → is_placed d free (v + 1) v ≡ true
placed_here d free v e = own_kind free (is_pinned d v) (nat_lt v (v + 1)) e ∙ less_next v

placed_not : (d : Device) (free : Bool) (v : ℕ) → is_pinned d v ≡ not free → is_placed d free v v ≡ false
placed_not d free v e = own_kind free (is_pinned d v) (nat_lt v v) e ∙ less_self v

placed_skip : (d : Device) (free : Bool) (v u : ℕ) → is_pinned d v ≡ free → is_placed d free (v + 1) u ≡ is_placed d free v u
placed_skip d free v u h =
    ⊎_elim
    (λ (e : u ≡ v).
    let k : is_pinned d u ≡ free = ap (is_pinned d) e ∙ h in
    other_kind free (is_pinned d u) (nat_lt u (v + 1)) k ∙ sym (other_kind free (is_pinned d u) (nat_lt u v) k))
    (λ (ne : u ≡ v → ⊥). placed_other d free v u ne)
    (cases_eq u v)

-- the groups that were placed when v's turn comes are those before v
same_before : (d : Device) (free : Bool) (v u : ℕ) → is_pinned d v ≡ not free → comes_before d u v ≡ is_placed d free v u
same_before d true v u e = ap (λ (b : Bool). if is_pinned d u then (if b then nat_lt u v else true) else (if b then false else nat_lt u v)) e
same_before d false v u e = ap (λ (b : Bool). if is_pinned d u then (if b then nat_lt u v else true) else (if b then false else nat_lt u v)) e

not_after_bits : (free a : Bool) (v u : ℕ) → placed_bit free a (nat_lt u v) ≡ true → (if not free then (if a then nat_lt v u else true) else (if a then false else nat_lt v u)) ≡ false
not_after_bits true true v u h = refl
not_after_bits true false v u h = less_not u v h
not_after_bits false true v u h = less_not u v h
not_after_bits false false v u h = absurd (false≢true h)

not_before : (d : Device) (free : Bool) (v u : ℕ) → is_pinned d v ≡ not free → is_placed d free v u ≡ true → comes_before d v u ≡ false
not_before d free v u e h =
    ap (λ (b : Bool). if b then (if is_pinned d u then nat_lt v u else true) else (if is_pinned d u then false else nat_lt v u)) e
    ∙ not_after_bits free (is_pinned d u) v u h

pub not_self : (d : Device) (free : Bool) (v : ℕ) → is_pinned d v ≡ not free → comes_before d v v ≡ false
not_self d free v e = same_before d free v v e ∙ placed_not d free v e

-- ---- sums over placed groups

no_term : (a b : Bool) (x : ℕ) → a ≡ false → (if a && b then x else 0) ≡ 0
no_term a b x e = ap (λ (c : Bool). if c && b then x else 0) e

one_term : (a b : Bool) (x : ℕ) → a ≡ true → (if a && b then x else 0) ≡ (if b then x else 0)
one_term a b x e = ap (λ (c : Bool). if c && b then x else 0) e

used_before_same : (n : ℕ) (need : ℕ → ℕ → ℕ) (d : Device) (p : List ℕ) (v s u t k : ℕ) → comes_before d v u ≡ false → used_before n need d (set p v s) u t k ≡ used_before n need d p u t k
used_before_same n need d p v s u t k c =
    total_same n _ _ (λ w l. ⊎_elim
    (λ (e : w ≡ v).
    let f : comes_before d w u ≡ false = ap (λ (x : ℕ). comes_before d x u) e ∙ c in
    no_term (comes_before d w u) (get_or (set p v s) w 0 == t) (need w k) f ∙ sym (no_term (comes_before d w u) (get_or p w 0 == t) (need w k) f))
    (λ (ne : w ≡ v → ⊥). ap (λ (x : ℕ). if comes_before d w u && (x == t) then need w k else 0) (get_or-set_other p v w s 0 ne))
    (cases_eq w v))

before_is_placed : (d : Device) (needs : List Use) (free : Bool) (v : ℕ) (p : List ℕ) (s k : ℕ) → is_pinned d v ≡ not free → used_before (length needs) (amount_at needs) d p v s k ≡ placed_in d needs free v p s k
before_is_placed d needs free v p s k e =
    total_same (length needs) _ _ (λ u l. ap (λ (b : Bool). if b && (get_or p u 0 == s) then amount_at needs u k else 0) (same_before d free v u e))

-- ---- rooms

room_set : (n : ℕ) (need : ℕ → ℕ → ℕ) (d : Device) (p : List ℕ) (v s u t : ℕ) → comes_before d v u ≡ false → HasRoom n need d p u t → HasRoom n need d (set p v s) u t
room_set n need d p v s u t c h = record {
  may = h.may;
  room = λ k. (let a = h.room k in let b = used_before_same n need d p v s u t k c in omega arith);
}

room_unset : (n : ℕ) (need : ℕ → ℕ → ℕ) (d : Device) (p : List ℕ) (v s u t : ℕ) → comes_before d v u ≡ false → HasRoom n need d (set p v s) u t → HasRoom n need d p u t
room_unset n need d p v s u t c h = record {
  may = h.may;
  room = λ k. (let a = h.room k in let b = used_before_same n need d p v s u t k c in omega arith);
}

stands_set : (n : ℕ) (need : ℕ → ℕ → ℕ) (d : Device) (p : List ℕ) (v s u : ℕ) → comes_before d v u ≡ false → (u ≡ v → ⊥) → StandsFirst n need d p u → StandsFirst n need d (set p v s) u
stands_set n need d p v s u c ne h =
    let e : get_or (set p v s) u 0 ≡ get_or p u 0 = get_or-set_other p v u s 0 ne in
    record {
      room = subst (HasRoom n need d (set p v s) u) (sym e) (room_set n need d p v s u (get_or p u 0) c h.room);
      first = λ t l r. h.first t (omega arith) (room_unset n need d p v s u t c r);
    }

placed_more : (d : Device) (needs : List Use) (free : Bool) (v : ℕ) (p : List ℕ) (s t k : ℕ) → v < length needs → length p ≡ length needs → is_pinned d v ≡ not free → placed_in d needs free (v + 1) (set p v s) t k ≡ placed_in d needs free v p t k + (if s == t then amount_at needs v k else 0)
placed_more d needs free v p s t k l long e =
    let q = set p v s in
    total_but (length needs) v (if s == t then amount_at needs v k else 0)
    (λ u. if is_placed d free v u && (get_or p u 0 == t) then amount_at needs u k else 0)
    (λ u. if is_placed d free (v + 1) u && (get_or q u 0 == t) then amount_at needs u k else 0)
    l
    (λ u lu ne.
    ap (λ (b : Bool). if b && (get_or q u 0 == t) then amount_at needs u k else 0) (placed_other d free v u ne)
    ∙ ap (λ (x : ℕ). if is_placed d free v u && (x == t) then amount_at needs u k else 0) (get_or-set_other p v u s 0 ne))
    (let a : (if is_placed d free (v + 1) v && (get_or q v 0 == t) then amount_at needs v k else 0) ≡ (if s == t then amount_at needs v k else 0) =
    one_term (is_placed d free (v + 1) v) (get_or q v 0 == t) (amount_at needs v k) (placed_here d free v e)
    ∙ ap (λ (x : ℕ). if x == t then amount_at needs v k else 0) (get_or-set_same p v s 0 (omega arith)) in
    let b = no_term (is_placed d free v v) (get_or p v 0 == t) (amount_at needs v k) (placed_not d free v e) in omega arith)

-- ---- the turn of group v

module _ (d : Device) (needs : List Use) (free : Bool) (v : ℕ) (b : Placing) (h : ArePlaced d needs free v b) where
  open b use {slots.{items as p}, used.{items as used}}

  pub placed_past : is_pinned d v ≡ free → ArePlaced d needs free (v + 1) b
  placed_past e = record {
    long = h.long;
    loads = h.loads;
    used_is = λ s k l. h.used_is s k l ∙ total_same (length needs) _ _ (λ u lu. ap (λ (b : Bool). if b && (get_or p u 0 == s) then amount_at needs u k else 0) (sym (placed_skip d free v u e)));
    each = λ u l pl. h.each u l (sym (placed_skip d free v u e) ∙ pl);
  }

  module _ (l : v < length needs) (e : is_pinned d v ≡ not free) where
    room_of_space : (s : ℕ) → HasSpace d needs used v s → HasRoom (length needs) (amount_at needs) d p v s
    room_of_space s space = record {
      may = space.may;
      room = λ k. (
          let a = space.room k in
          let b = before_is_placed d needs free v p s k e in
          let c = h.used_is s k space.may.inside in omega arith);
    }

    space_of_room : (s : ℕ) → HasRoom (length needs) (amount_at needs) d p v s → HasSpace d needs used v s
    space_of_room s room = record {
      may = room.may;
      room = λ k. (
          let a = room.room k in
          let b = before_is_placed d needs free v p s k e in
          let c = h.used_is s k room.may.inside in omega arith);
    }

    pub stuck_at : ((s : ℕ) → HasSpace d needs used v s → ⊥) → IsStuck d needs free p v
    stuck_at never = record {
      kind = e;
      none = record {
        inside = l;
        before = λ u lu c. h.each u lu (sym (same_before d free v u e) ∙ c);
        none = λ s r. never s (space_of_room s r);
      };
    }

    module _ (s : ℕ) (after : Use) (f : IsFirstSpace d needs used v s after) where
      stands_here : StandsFirst (length needs) (amount_at needs) d (set p v s) v
      stands_here =
          let n = length needs in
          let need = amount_at needs in
          let same : get_or (set p v s) v 0 ≡ s = get_or-set_same p v s 0 (let a = h.long in omega arith) in
          let c = not_self d free v e in
          record {
            room = subst (HasRoom n need d (set p v s) v) (sym same) (room_set n need d p v s v s c (room_of_space s f.space));
            first = λ t lt r. f.first t (omega arith) (space_of_room t (room_unset n need d p v s v t c r));
          }

      -- it is placed in the first slot that has room for it
      pub placed_push : (b' : Placing) → b'.slots.items ≡ set p v s → b'.used.items ≡ set used s after → ArePlaced d needs free (v + 1) b'
      placed_push b' ep eu =
          let us : s < length used = (let a = h.loads.long in let b = f.space.may.inside in omega arith) in
          let now : (t k : ℕ) → amount_at b'.used.items t k ≡ amount_at (set used s after) t k = λ t k. ap (λ (xs : List Use). amount_at xs t k) eu in
          record {
            long = ap length ep ∙ length-set p v s ∙ h.long;
            loads = record {
              can = h.loads.can;
              long = ap length eu ∙ length-set used s after ∙ h.loads.long;
              within = λ t k lt. (
                  let n = now t k in
                  ⊎_elim
                  (λ w.
                  let a = f.space.room k in
                  let b = f.sum k in
                  let c = ap (λ (x : ℕ). amount_at d.slots.items x k * d.percent) w.0 in
                  let y = w.1 in omega arith)
                  (λ w. let a = h.loads.within t k lt in let y = w.1 in omega arith)
                  (amount_set used s t k after us));
            };
            used_is = λ t k lt. (
                let n = now t k in
                let m = placed_more d needs free v p s t k l h.long e in
                let o = h.used_is t k lt in
                let q = ap (λ (xs : List ℕ). placed_in d needs free (v + 1) xs t k) ep in
                ⊎_elim
                (λ w.
                let b = f.sum k in
                let c = pick_same s t (amount_at needs v k) (sym w.0) in
                let z = ap (λ (x : ℕ). amount_at used x k) w.0 in
                let y = w.1 in omega arith)
                (λ w.
                let c = pick_other s t (amount_at needs v k) (λ q. w.0 (sym q)) in
                let y = w.1 in omega arith)
                (amount_set used s t k after us));
            each = λ u lu pl. subst (λ (xs : List ℕ). StandsFirst (length needs) (amount_at needs) d xs u) (sym ep) (⊎_elim
                (λ (q : u ≡ v). subst (StandsFirst (length needs) (amount_at needs) d (set p v s)) (sym q) stands_here)
                (λ (ne : u ≡ v → ⊥).
                let was = sym (placed_other d free v u ne) ∙ pl in
                stands_set (length needs) (amount_at needs) d p v s u (not_before d free v u e was) ne (h.each u lu was))
                (cases_eq u v));
          }

-- ---- nothing is placed, all pinned groups are, all groups are

none_bit : (a : Bool) (u : ℕ) → placed_bit false a (nat_lt u 0) ≡ false
none_bit true u = less_zero u
none_bit false u = refl

pub placed_none : (d : Device) (needs : List Use) (b : Placing) → CanPlace d needs → length b.slots.items ≡ length needs → length b.used.items ≡ length d.slots.items → ((s k : ℕ) → amount_at b.used.items s k ≡ 0) → ArePlaced d needs false 0 b
placed_none d needs b can long used_long zeros = record {
  long = long;
  loads = record {
    can = can;
    long = used_long;
    within = λ s k l. (let z = zeros s k in omega arith);
  };
  used_is = λ s k l.
      zeros s k
      ∙ sym (total_same (length needs) _ _ (λ u lu. no_term (is_placed d false 0 u) (get_or b.slots.items u 0 == s) (amount_at needs u k) (none_bit (is_pinned d u) u)) ∙ total_zero (length needs));
  each = λ u l pl. absurd (false≢true (sym (none_bit (is_pinned d u) u) ∙ pl));
}

turned : (a : Bool) (u n : ℕ) → u < n → placed_bit true a (nat_lt u 0) ≡ placed_bit false a (nat_lt u n)
turned true u n l = sym (lt-ltb u n l)
turned false u n l = less_zero u

-- the turn of the free groups
pub placed_turn : (d : Device) (needs : List Use) (b : Placing) → ArePlaced d needs false (length needs) b → ArePlaced d needs true 0 b
placed_turn d needs b h = record {
  long = h.long;
  loads = h.loads;
  used_is = λ s k l. h.used_is s k l ∙ total_same (length needs) _ _ (λ u lu. ap (λ (x : Bool). if x && (get_or b.slots.items u 0 == s) then amount_at needs u k else 0) (sym (turned (is_pinned d u) u (length needs) lu)));
  each = λ u l pl. h.each u l (sym (turned (is_pinned d u) u (length needs) l) ∙ pl);
}

all_bit : (a : Bool) (u n : ℕ) → u < n → placed_bit true a (nat_lt u n) ≡ true
all_bit true u n l = refl
all_bit false u n l = lt-ltb u n l

-- ---- the plan

pub fit_plan : (g : Graph) (d : Device) (needs : List Use) (b : Placing) → AreNeeds g d needs → ArePlaced d needs true (length needs) b → IsPlanOf g d b.slots.items
fit_plan g d needs b needed h = record {
  whole = h.long ∙ needed.long;
  each = λ v l. (let lv : v < length needs = (let a = h.long in omega arith) in (h.each v lv (all_bit (is_pinned d v) v (length needs) lv)).room.may);
  within = λ s k l. (
      let a = h.loads.within s k l in
      let o = h.used_is s k l in
      let c : placed_in d needs true (length needs) p s k ≡ used_in g d p s k =
      total_same (length needs) _ _ (λ u lu.
      one_term (is_placed d true (length needs) u) (get_or p u 0 == s) (amount_at needs u k) (all_bit (is_pinned d u) u (length needs) lu)
      ∙ ap (λ (x : ℕ). if get_or p u 0 == s then x else 0) (needed.value u k (let y = needed.long in omega arith)))
      ∙ ap (λ (m : ℕ). total m (λ u. if get_or p u 0 == s then need_of g d u k else 0)) (sym h.long) in
      omega arith);
}
  where
    open b use {slots.{items as p}}

used_by_needs : (g : Graph) (d : Device) (needs : List Use) (p : List ℕ) (v s k : ℕ) → AreNeeds g d needs → used_before (length needs) (amount_at needs) d p v s k ≡ used_before g.groups (need_of g d) d p v s k
used_by_needs g d needs p v s k needed =
    total_same (length needs) _ _ (λ u l. ap (λ (x : ℕ). if comes_before d u v && (get_or p u 0 == s) then x else 0) (needed.value u k (let y = needed.long in omega arith)))
    ∙ ap (λ (m : ℕ). total m (λ u. if comes_before d u v && (get_or p u 0 == s) then need_of g d u k else 0)) needed.long

room_by : (g : Graph) (d : Device) (needs : List Use) (p : List ℕ) (v s : ℕ) → AreNeeds g d needs → v < g.groups → HasRoom (length needs) (amount_at needs) d p v s → HasRoom g.groups (need_of g d) d p v s
room_by g d needs p v s needed l h = record {
  may = h.may;
  room = λ k. (let a = used_by_needs g d needs p v s k needed in let b = needed.value v k l in let c = h.room k in omega arith);
}

room_from : (g : Graph) (d : Device) (needs : List Use) (p : List ℕ) (v s : ℕ) → AreNeeds g d needs → v < g.groups → HasRoom g.groups (need_of g d) d p v s → HasRoom (length needs) (amount_at needs) d p v s
room_from g d needs p v s needed l h = record {
  may = h.may;
  room = λ k. (let a = used_by_needs g d needs p v s k needed in let b = needed.value v k l in let c = h.room k in omega arith);
}

stands_by : (g : Graph) (d : Device) (needs : List Use) (p : List ℕ) (v : ℕ) → AreNeeds g d needs → v < g.groups → StandsFirst (length needs) (amount_at needs) d p v → StandsFirst g.groups (need_of g d) d p v
stands_by g d needs p v needed l h = record {
  room = room_by g d needs p v (get_or p v 0) needed l h.room;
  first = λ s ls r. h.first s ls (room_from g d needs p v s needed l r);
}

pub fit_first : (g : Graph) (d : Device) (needs : List Use) (b : Placing) → AreNeeds g d needs → ArePlaced d needs true (length needs) b → IsFirstFit g d b.slots.items
fit_first g d needs b needed h = record {
  whole = h.long ∙ needed.long;
  each = λ v l. (let lv : v < length needs = (let a = needed.long in omega arith) in
      stands_by g d needs b.slots.items v needed l (h.each v lv (all_bit (is_pinned d v) v (length needs) lv)));
}

pub fit_none : (g : Graph) (d : Device) (needs : List Use) (p : List ℕ) (v : ℕ) → AreNeeds g d needs → FindsNone (length needs) (amount_at needs) d p v → FindsNone g.groups (need_of g d) d p v
fit_none g d needs p v needed h =
    let l : v < g.groups = (let a = h.inside in let b = needed.long in omega arith) in
    record {
      inside = l;
      before = λ u lu c. stands_by g d needs p u needed lu (h.before u (let b = needed.long in omega arith) c);
      none = λ s r. h.none s (room_from g d needs p v s needed l r);
    }

-- what a group's kind is by the test of it
pub kind_past : (a free r : Bool) → r ≡ not a → not (beq r free) ≡ true → a ≡ free
kind_past true true r e h = refl
kind_past true false r e h = absurd (false≢true (sym (ap (λ (x : Bool). not (beq x false)) e) ∙ h))
kind_past false true r e h = absurd (false≢true (sym (ap (λ (x : Bool). not (beq x true)) e) ∙ h))
kind_past false false r e h = refl

pub kind_own : (a free r : Bool) → r ≡ not a → not (beq r free) ≡ false → a ≡ not free
kind_own true true r e h = absurd (false≢true (sym h ∙ ap (λ (x : Bool). not (beq x true)) e))
kind_own true false r e h = refl
kind_own false true r e h = refl
kind_own false false r e h = absurd (false≢true (sym h ∙ ap (λ (x : Bool). not (beq x false)) e))
