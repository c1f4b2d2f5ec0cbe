-- First fit gives one plan, or blames one group.
use Rattle.std.proofs.Common.{◌≡◌, ℕ, zero, suc, ◌+◌, ◌*◌, ◌<◌, ◌≤◌, ◌⊎◌, inl, inr, Bool, true, false, List, get_or, refl, sym, ap, subst, ◌∙◌, arith, ⊎_elim}
use Rattle.std.specs.Prelude.{if◌then◌else◌, ◌==◌, ◌&&◌, nat_lt, slice_index}
use Rattle.std.proofs.lemmas.Bool.{cases_lt}
use Rattle.std.proofs.lemmas.Bool.Decides.{nat_tests}
use Rattle.task_graph.specs.Streams.{amount_at}
use Rattle.plan_device.specs.declared.device.Device.{Device}
use Rattle.flow_cert.proofs.Sums.{total_same}
use Rattle.slot_plan.specs.FirstFit.{is_pinned, comes_before, used_before, HasRoom, StandsFirst, FindsNone}
use Rattle.tapa_base.proofs.Tests.{bool_cases}

-- ---- the order of groups as numbers: pinned groups come before the free ones

abbrev place_by : ℕ → Bool → ℕ → ℕ
place_by n pinned v = if pinned then v else n + v

abbrev place : ℕ → Device → ℕ → ℕ
place n d v = place_by n (is_pinned d v) v

before_by : (n u v : ℕ) (a b : Bool) → u < n → v < n → (if a then (if b then nat_lt u v else true) else (if b then false else nat_lt u v)) ≡ true → place_by n a u < place_by n b v
before_by n u v true true lu lv h = grind (arith, nat_tests)
before_by n u v true false lu lv h = omega arith
before_by n u v false true lu lv h = absurd (let no : false ≡ true = h in cc)
before_by n u v false false lu lv h = let l : u < v = grind (arith, nat_tests) in omega arith

place_before : (n : ℕ) (d : Device) (u v : ℕ) → u < n → v < n → comes_before d u v ≡ true → place n d u < place n d v
place_before n d u v lu lv h = before_by n u v (is_pinned d u) (is_pinned d v) lu lv h

by_place : (n u v : ℕ) (a b : Bool) → u < n → v < n → place_by n a u < place_by n b v → (if a then (if b then nat_lt u v else true) else (if b then false else nat_lt u v)) ≡ true
by_place n u v true true lu lv h = grind (arith, nat_tests)
by_place n u v true false lu lv h = refl
by_place n u v false true lu lv h = absurd (let no : ⊥ = omega arith in no)
by_place n u v false false lu lv h = let l : u < v = omega arith in grind (arith, nat_tests)

before_place : (n : ℕ) (d : Device) (u v : ℕ) → u < n → v < n → place n d u < place n d v → comes_before d u v ≡ true
before_place n d u v lu lv h = by_place n u v (is_pinned d u) (is_pinned d v) lu lv h

one_by : (n u v : ℕ) (a b : Bool) → u < n → v < n → place_by n a u ≡ place_by n b v → u ≡ v
one_by n u v true true lu lv h = h
one_by n u v true false lu lv h = absurd (let no : ⊥ = omega arith in no)
one_by n u v false true lu lv h = absurd (let no : ⊥ = omega arith in no)
one_by n u v false false lu lv h = omega arith

one_place : (n : ℕ) (d : Device) (u v : ℕ) → u < n → v < n → place n d u ≡ place n d v → u ≡ v
one_place n d u v lu lv h = one_by n u v (is_pinned d u) (is_pinned d v) lu lv h

module _ (n : ℕ) (need : ℕ → ℕ → ℕ) (d : Device) where
  -- two lists have the same slots for the groups before v
  abbrev Agree : List ℕ → List ℕ → ℕ → Type 0
  Agree p q v = (u : ℕ) → u < n → comes_before d u v ≡ true → slice_index p u ≡ slice_index q u

  -- the groups before a place stand in the first slots that have room for them
  abbrev StandBelow : List ℕ → ℕ → Type 0
  StandBelow p r = (u : ℕ) → u < n → place n d u < r → StandsFirst n need d p u

  used_same : (p q : List ℕ) (v s k : ℕ) → Agree p q v → used_before n need d p v s k ≡ used_before n need d q v s k
  used_same p q v s k same =
      total_same n _ _ (λ u l.
      ⊎_elim
      (λ (e : comes_before d u v ≡ true). ap (λ (x : ℕ). if comes_before d u v && (x == s) then need u k else 0) (same u l e))
      (λ (e : comes_before d u v ≡ false).
      ap (λ (b : Bool). if b && (get_or p u 0 == s) then need u k else 0) e ∙ sym (ap (λ (b : Bool). if b && (get_or q u 0 == s) then need u k else 0) e))
      (bool_cases (comes_before d u v)))

  room_same : (p q : List ℕ) (v s : ℕ) → Agree p q v → HasRoom n need d p v s → HasRoom n need d q v s
  room_same p q v s same has = record {
    may = has.may;
    room = λ k. (let a = used_same p q v s k same in let b = has.room k in subst (λ (x : ℕ). (x + need v k) * 100 ≤ amount_at d.slots.items s k * d.percent) a b);
  }

  swapped : (p q : List ℕ) (v : ℕ) → Agree p q v → Agree q p v
  swapped p q v same u l e = sym (same u l e)

  one_slot : (p q : List ℕ) (v : ℕ) → Agree p q v → StandsFirst n need d p v → StandsFirst n need d q v → slice_index p v ≡ slice_index q v
  one_slot p q v same a b =
      ⊎_elim
      (λ (l : slice_index p v < slice_index q v). absurd (b.first (slice_index p v) l (room_same p q v (slice_index p v) same a.room)))
      (λ (l : slice_index q v ≤ slice_index p v). ⊎_elim
      (λ (m : slice_index q v < slice_index p v). absurd (a.first (slice_index q v) m (room_same q p v (slice_index q v) (swapped p q v same) b.room)))
      (λ (m : slice_index p v ≤ slice_index q v). let e : slice_index p v ≡ slice_index q v = omega arith in e)
      (cases_lt (slice_index q v) (slice_index p v)))
      (cases_lt (slice_index p v) (slice_index q v))

  pub one_first_fit : (r : ℕ) (p q : List ℕ) → StandBelow p r → StandBelow q r → (u : ℕ) → u < n → place n d u < r → slice_index p u ≡ slice_index q u
  one_first_fit zero p q a b u l low = absurd (let no : ⊥ = omega arith in no)
  one_first_fit (suc r) p q a b u l low =
      one_slot p q u
      (λ w lw h.
      let less = place_before n d w u lw l h in
      one_first_fit r p q (λ x lx k. a x lx (omega arith)) (λ x lx k. b x lx (omega arith)) w lw (omega arith))
      (a u l low) (b u l low)

  below_none : (p : List ℕ) (v : ℕ) → FindsNone n need d p v → StandBelow p (place n d v)
  below_none p v none u l less = none.before u l (before_place n d u v l none.inside less)

  -- a group that stands where those before it are as in a list in which it finds no slot
  no_slot : (p q : List ℕ) (v : ℕ) → FindsNone n need d p v → StandBelow q (place n d v) → StandsFirst n need d q v → ⊥
  no_slot p q v none stand here =
      none.none (slice_index q v)
      (room_same q p v (slice_index q v)
      (λ u l h. one_first_fit (place n d v) q p stand (below_none p v none) u l (place_before n d u v l none.inside h))
      here.room)

  -- in a list in which all groups stand each finds a slot
  pub never_blamed : (p q : List ℕ) (v : ℕ) → FindsNone n need d p v → ((u : ℕ) → u < n → StandsFirst n need d q u) → ⊥
  never_blamed p q v none all = no_slot p q v none (λ u l less. all u l) (all v none.inside)

  not_sooner : (p q : List ℕ) (v w : ℕ) → FindsNone n need d p v → FindsNone n need d q w → place n d v < place n d w → ⊥
  not_sooner p q v w a b less =
      no_slot p q v a (λ u l low. below_none q w b u l (omega arith)) (below_none q w b v a.inside less)

  pub one_blamed : (p q : List ℕ) (v w : ℕ) → FindsNone n need d p v → FindsNone n need d q w → v ≡ w
  one_blamed p q v w a b =
      ⊎_elim
      (λ (l : place n d v < place n d w). absurd (not_sooner p q v w a b l))
      (λ (l : place n d w ≤ place n d v). ⊎_elim
      (λ (m : place n d w < place n d v). absurd (not_sooner q p w v b a m))
      (λ (m : place n d v ≤ place n d w). one_place n d v w a.inside b.inside (omega arith))
      (cases_lt (place n d w) (place n d v)))
      (cases_lt (place n d v) (place n d w))

  -- the slots of all groups
  pub one_by_all : (p q : List ℕ) → ((u : ℕ) → u < n → StandsFirst n need d p u) → ((u : ℕ) → u < n → StandsFirst n need d q u) → (u : ℕ) → u < n → slice_index p u ≡ slice_index q u
  one_by_all p q a b u l = one_first_fit (suc (place n d u)) p q (λ x lx k. a x lx) (λ x lx k. b x lx) u l (omega arith)
