-- What is bound to one instance alone is bound at one place of it.
use Rattle.std.proofs.Common.{◌≡◌, ◌+◌, ◌⊎◌, inl, inr, ℕ, zero, suc, List, [], ◌∷◌, ◌++◌, map, Bool, true, false, not, ◌&&◌, Some, refl, sym, ap, subst, ◌∙◌, arith}
use Rattle.std.specs.Prelude.{slice_get, ◌==◌, if◌then◌else◌}
use Rattle.std.proofs.lemmas.Bool.{eqb-true, eq-eqb, and_from as and_true}
use Rattle.tapa_syntax.specs.declared.program.End.{End}
use Rattle.tapa_syntax.specs.LeafKinds.{writes_of}
use Rattle.tapa_syntax.specs.Flat.{FlatInstance}
use Rattle.check_upper.specs.Tasks.{Task}
use Rattle.check_scope.specs.One.{is_one, the_one}
use Rattle.stream_check.specs.Programs.{is_end, bound_ends, ends_of, instances_at, bound_memories, instances_with}
use Rattle.stream_check.proofs.WellLists.{nothing}
use Rattle.tapa_base.proofs.Tests.{not_so, both_true as both}
use Rattle.tapa_base.proofs.Got.{the_same, map_append}

-- a place that is bound: the number of an instance, and the position in it
pub record Spot : Type 0 where
  pub instance : ℕ
  pub position : ℕ

abbrev spot : ℕ → ℕ → Spot
spot i p = record { instance = i; position = p }

abbrev Member : {A : Type 0} → A → List A → Type 0
Member x [] = ⊥
Member x (y ∷ ys) = (x ≡ y) ⊎ Member x ys

member_left : {A : Type 0} (x : A) (xs ys : List A) → Member x xs → Member x (xs ++ ys)
member_left x [] ys m = absurd m
member_left x (y ∷ xs) ys (inl e) = inl e
member_left x (y ∷ xs) ys (inr m) = inr (member_left x xs ys m)

member_right : {A : Type 0} (x : A) (xs ys : List A) → Member x ys → Member x (xs ++ ys)
member_right x [] ys m = m
member_right x (y ∷ xs) ys m = inr (member_right x xs ys m)

member_append : {A : Type 0} (x : A) (xs ys : List A) → Member x (xs ++ ys) → Member x xs ⊎ Member x ys
member_append x [] ys m = inr m
member_append x (y ∷ xs) ys (inl e) = inl (inl e)
member_append x (y ∷ xs) ys (inr m) = elim (member_append x xs ys m) [ inl l ↦ inl (inr l) | inr r ↦ inr r ]

-- the spots of an instance, where these positions of it are bound
abbrev spots_in : ℕ → ℕ → List Bool → List Spot
spots_in i p [] = []
spots_in i p (b ∷ rest) = (if b then spot i p ∷ [] else []) ++ spots_in i (p + 1) rest

abbrev spots_from : (FlatInstance → List Bool) → ℕ → List FlatInstance → List Spot
spots_from f i [] = []
spots_from f i (x ∷ rest) = spots_in i 0 (f x) ++ spots_from f (i + 1) rest

abbrev number_of : Spot → ℕ
number_of s = s.instance

shifted : (k p : ℕ) → k + 1 + p ≡ k + suc p
shifted k p = omega arith

is_spot : (i k : ℕ) (bs : List Bool) (p : ℕ) → slice_get bs p ≡ Some true → Member (spot i (k + p)) (spots_in i k bs)
is_spot i k [] p h = absurd (nothing true h)
is_spot i k (b ∷ rest) zero h =
    let e : k ≡ k + 0 = omega arith in
    subst (λ c. Member (spot i (k + 0)) ((if c then spot i k ∷ [] else []) ++ spots_in i (k + 1) rest)) (sym (the_same b true h)) (inl (ap (spot i) (sym e)))
is_spot i k (b ∷ rest) (suc p) h = member_right (spot i (k + suc p)) (if b then spot i k ∷ [] else []) (spots_in i (k + 1) rest) (subst (λ n. Member (spot i n) (spots_in i (k + 1) rest)) (shifted k p) (is_spot i (k + 1) rest p h))

pub is_spot_from : (f : FlatInstance → List Bool) (k : ℕ) (xs : List FlatInstance) (i p : ℕ) (x : FlatInstance) → slice_get xs i ≡ Some x → slice_get (f x) p ≡ Some true → Member (spot (k + i) p) (spots_from f k xs)
is_spot_from f k [] i p x h a = absurd (nothing x h)
is_spot_from f k (y ∷ rest) zero p x h a =
    let m = is_spot k 0 (f x) p a in
    let n = subst (λ (z : FlatInstance). Member (spot k (0 + p)) (spots_in k 0 (f z))) (sym (the_same y x h)) m in
    let z : k ≡ k + 0 = omega arith in
    let w : 0 + p ≡ p = omega arith in
    member_left (spot (k + 0) p) (spots_in k 0 (f y)) (spots_from f (k + 1) rest) (subst (λ (s : Spot). Member s (spots_in k 0 (f y))) (ap (spot k) w ∙ ap (λ n. spot n p) z) n)
is_spot_from f k (y ∷ rest) (suc i) p x h a = member_right (spot (k + suc i) p) (spots_in k 0 (f y)) (spots_from f (k + 1) rest) (subst (λ n. Member (spot n p) (spots_from f (k + 1) rest)) (shifted k i) (is_spot_from f (k + 1) rest i p x h a))

-- where a spot comes from
record SpotIn (i k : ℕ) (bs : List Bool) (s : Spot) : Type 0 where
  pub at : ℕ
  pub instance : s.instance ≡ i
  pub position : s.position ≡ k + at
  pub bound : slice_get bs at ≡ Some true

first_spot : (i k : ℕ) (b : Bool) (rest : List Bool) (s : Spot) → Member s (if b then spot i k ∷ [] else []) → SpotIn i k (b ∷ rest) s
first_spot i k true rest s (inl e) = record { at = 0; instance = ap (λ (t : Spot). t.instance) e; position = ap (λ (t : Spot). t.position) e ∙ omega arith; bound = refl }
first_spot i k true rest s (inr m) = absurd m
first_spot i k false rest s m = absurd m

of_spots : (i k : ℕ) (bs : List Bool) (s : Spot) → Member s (spots_in i k bs) → SpotIn i k bs s
of_spots i k [] s m = absurd m
of_spots i k (b ∷ rest) s m = elim (member_append s (if b then spot i k ∷ [] else []) (spots_in i (k + 1) rest) m) [
  | inl l ↦ first_spot i k b rest s l
  | inr r ↦ let q = of_spots i (k + 1) rest s r in record { at = suc q.at; instance = q.instance; position = q.position ∙ shifted k q.at; bound = q.bound }
]

pub record SpotFrom (f : FlatInstance → List Bool) (k : ℕ) (xs : List FlatInstance) (s : Spot) : Type 0 where
  pub number : ℕ
  pub is : s.instance ≡ k + number
  pub instance : FlatInstance
  pub there : slice_get xs number ≡ Some instance
  pub bound : slice_get (f instance) s.position ≡ Some true

first_from : (f : FlatInstance → List Bool) (k : ℕ) (x : FlatInstance) (rest : List FlatInstance) (s : Spot) → SpotIn k 0 (f x) s → SpotFrom f k (x ∷ rest) s
first_from f k x rest s r =
    let e : r.at ≡ s.position = let p = r.position in omega arith in
    let n : s.instance ≡ k + 0 = let q = r.instance in omega arith in
    record { number = 0; is = n; instance = x; there = refl; bound = subst (λ p. slice_get (f x) p ≡ Some true) e r.bound }

later_from : (f : FlatInstance → List Bool) (k : ℕ) (x : FlatInstance) (rest : List FlatInstance) (s : Spot) → SpotFrom f (k + 1) rest s → SpotFrom f k (x ∷ rest) s
later_from f k x rest s r = record { number = suc r.number; is = r.is ∙ shifted k r.number; instance = r.instance; there = r.there; bound = r.bound }

of_spots_from : (f : FlatInstance → List Bool) (k : ℕ) (xs : List FlatInstance) (s : Spot) → Member s (spots_from f k xs) → SpotFrom f k xs s
of_spots_from f k [] s m = absurd m
of_spots_from f k (x ∷ rest) s m = elim (member_append s (spots_in k 0 (f x)) (spots_from f (k + 1) rest) m) [
  | inl l ↦ first_from f k x rest s (of_spots k 0 (f x) s l)
  | inr r ↦ later_from f k x rest s (of_spots_from f (k + 1) rest s r)
]

-- ---- the one spot

pub record TheSpot (f : FlatInstance → List Bool) (xs : List FlatInstance) (n : ℕ) : Type 0 where
  pub instance : FlatInstance
  pub there : slice_get xs n ≡ Some instance
  pub position : ℕ
  pub bound : slice_get (f instance) position ≡ Some true
  pub alone : (i p : ℕ) (x : FlatInstance) → slice_get xs i ≡ Some x → slice_get (f x) p ≡ Some true → (i ≡ n) × (p ≡ position)

in_one : {A : Type 0} (x y : A) → Member x (y ∷ []) → x ≡ y
in_one x y (inl e) = e
in_one x y (inr m) = absurd m

spot_zero : (n k : ℕ) → n ≡ 0 + k → k ≡ n
spot_zero n k e = omega arith

alone_is : (f : FlatInstance → List Bool) (xs : List FlatInstance) (s : Spot) → spots_from f 0 xs ≡ s ∷ [] → TheSpot f xs s.instance
alone_is f xs s e =
    let r = of_spots_from f 0 xs s (subst (λ ss. Member s ss) (sym e) (inl refl)) in
    record {
      instance = r.instance;
      there = subst (λ n. slice_get xs n ≡ Some r.instance) (spot_zero s.instance r.number r.is) r.there;
      position = s.position;
      bound = r.bound;
      alone = λ i p x h a.
          let m = in_one (spot (0 + i) p) s (subst (λ ss. Member (spot (0 + i) p) ss) e (is_spot_from f 0 xs i p x h a)) in
          let e : 0 + i ≡ s.instance = ap (λ (t : Spot). t.instance) m in
          (omega arith, ap (λ (t : Spot). t.position) m);
    }

one_spot : (f : FlatInstance → List Bool) (xs : List FlatInstance) (ss : List Spot) → spots_from f 0 xs ≡ ss → is_one (map number_of ss) ≡ true → TheSpot f xs (the_one (map number_of ss))
one_spot f xs [] e h = absurd (cc)
one_spot f xs (s ∷ []) e h = alone_is f xs s e
one_spot f xs (s ∷ t ∷ rest) e h = absurd (cc)

the_spot : (f : FlatInstance → List Bool) (xs : List FlatInstance) (numbers : List ℕ) → map number_of (spots_from f 0 xs) ≡ numbers → is_one numbers ≡ true → TheSpot f xs (the_one numbers)
the_spot f xs numbers e h = subst (λ ns. TheSpot f xs (the_one ns)) e (one_spot f xs (spots_from f 0 xs) refl (ap is_one e ∙ h))

-- ---- ends of streams

abbrev pub are_ends : ℕ → Bool → List ℕ → List End → List Bool
are_ends s w [] ends = []
are_ends s w (r ∷ streams) [] = []
are_ends s w (r ∷ streams) (e ∷ ends) = is_end s w r e ∷ are_ends s w streams ends

if_one : (b : Bool) (i p : ℕ) → map number_of (if b then spot i p ∷ [] else []) ≡ (if b then i ∷ [] else [])
if_one true i p = refl
if_one false i p = refl

ends_in_spots : (i s : ℕ) (w : Bool) (k : ℕ) (streams : List ℕ) (ends : List End) → map number_of (spots_in i k (are_ends s w streams ends)) ≡ bound_ends i s w streams ends
ends_in_spots i s w k [] ends = refl
ends_in_spots i s w k (r ∷ streams) [] = refl
ends_in_spots i s w k (r ∷ streams) (e ∷ ends) =
    map_append number_of (if is_end s w r e then spot i k ∷ [] else []) (spots_in i (k + 1) (are_ends s w streams ends))
    ∙ ap (λ xs. xs ++ map number_of (spots_in i (k + 1) (are_ends s w streams ends))) (if_one (is_end s w r e) i k)
    ∙ ap (λ xs. (if is_end s w r e then i ∷ [] else []) ++ xs) (ends_in_spots i s w (k + 1) streams ends)

abbrev pub ends_at : List Task → ℕ → Bool → FlatInstance → List Bool
ends_at tasks s w x = are_ends s w x.streams (ends_of (slice_get tasks x.body))

ends_from_spots : (tasks : List Task) (s : ℕ) (w : Bool) (i : ℕ) (xs : List FlatInstance) → map number_of (spots_from (ends_at tasks s w) i xs) ≡ instances_at tasks s w i xs
ends_from_spots tasks s w i [] = refl
ends_from_spots tasks s w i (x ∷ rest) =
    map_append number_of (spots_in i 0 (ends_at tasks s w x)) (spots_from (ends_at tasks s w) (i + 1) rest)
    ∙ ap (λ ns. ns ++ map number_of (spots_from (ends_at tasks s w) (i + 1) rest)) (ends_in_spots i s w 0 x.streams (ends_of (slice_get tasks x.body)))
    ∙ ap (λ ns. bound_ends i s w x.streams (ends_of (slice_get tasks x.body)) ++ ns) (ends_from_spots tasks s w (i + 1) rest)

pub the_end : (tasks : List Task) (s : ℕ) (w : Bool) (xs : List FlatInstance) → is_one (instances_at tasks s w 0 xs) ≡ true → TheSpot (ends_at tasks s w) xs (the_one (instances_at tasks s w 0 xs))
the_end tasks s w xs h = the_spot (ends_at tasks s w) xs (instances_at tasks s w 0 xs) (ends_from_spots tasks s w 0 xs) h

end_so : (s : ℕ) (w : Bool) (r : ℕ) (e : End) → r ≡ s → e.writes ≡ w → is_end s w r e ≡ true
end_so s true r e a b = and_true (r == s) e.writes (eq-eqb r s a) b
end_so s false r e a b = and_true (r == s) (not e.writes) (eq-eqb r s a) (ap not b)

so_end : (s : ℕ) (w : Bool) (r : ℕ) (e : End) → is_end s w r e ≡ true → (r ≡ s) × (e.writes ≡ w)
so_end s true r e h = let a = both (r == s) e.writes h in (eqb-true r s a.0, a.1)
so_end s false r e h = let a = both (r == s) (not e.writes) h in (eqb-true r s a.0, not_so e.writes a.1)

pub end_there : (s : ℕ) (w : Bool) (streams : List ℕ) (ends : List End) (p : ℕ) → slice_get streams p ≡ Some s → writes_of ends p ≡ Some w → slice_get (are_ends s w streams ends) p ≡ Some true
end_there s w [] ends p a b = absurd (nothing s a)
end_there s w (r ∷ streams) [] p a b = absurd (nothing w b)
end_there s w (r ∷ streams) (e ∷ ends) zero a b = ap Some (end_so s w r e (the_same r s a) (the_same e.writes w b))
end_there s w (r ∷ streams) (e ∷ ends) (suc p) a b = end_there s w streams ends p a b

pub there_end : (s : ℕ) (w : Bool) (streams : List ℕ) (ends : List End) (p : ℕ) → slice_get (are_ends s w streams ends) p ≡ Some true → (slice_get streams p ≡ Some s) × (writes_of ends p ≡ Some w)
there_end s w [] ends p h = absurd (nothing true h)
there_end s w (r ∷ streams) [] p h = absurd (nothing true h)
there_end s w (r ∷ streams) (e ∷ ends) zero h = let k = so_end s w r e (the_same (is_end s w r e) true h) in (ap Some k.0, ap Some k.1)
there_end s w (r ∷ streams) (e ∷ ends) (suc p) h = there_end s w streams ends p h

-- ---- memories

abbrev pub are_memory : ℕ → List ℕ → List Bool
are_memory m [] = []
are_memory m (n ∷ rest) = (n == m) ∷ are_memory m rest

memories_in_spots : (i m k : ℕ) (ns : List ℕ) → map number_of (spots_in i k (are_memory m ns)) ≡ bound_memories i m ns
memories_in_spots i m k [] = refl
memories_in_spots i m k (n ∷ rest) =
    map_append number_of (if n == m then spot i k ∷ [] else []) (spots_in i (k + 1) (are_memory m rest))
    ∙ ap (λ xs. xs ++ map number_of (spots_in i (k + 1) (are_memory m rest))) (if_one (n == m) i k)
    ∙ ap (λ xs. (if n == m then i ∷ [] else []) ++ xs) (memories_in_spots i m (k + 1) rest)

abbrev pub memory_at : ℕ → FlatInstance → List Bool
memory_at m x = are_memory m x.memories

memories_from_spots : (m i : ℕ) (xs : List FlatInstance) → map number_of (spots_from (memory_at m) i xs) ≡ instances_with m i xs
memories_from_spots m i [] = refl
memories_from_spots m i (x ∷ rest) =
    map_append number_of (spots_in i 0 (memory_at m x)) (spots_from (memory_at m) (i + 1) rest)
    ∙ ap (λ ns. ns ++ map number_of (spots_from (memory_at m) (i + 1) rest)) (memories_in_spots i m 0 x.memories)
    ∙ ap (λ ns. bound_memories i m x.memories ++ ns) (memories_from_spots m (i + 1) rest)

pub the_owner : (m : ℕ) (xs : List FlatInstance) → is_one (instances_with m 0 xs) ≡ true → TheSpot (memory_at m) xs (the_one (instances_with m 0 xs))
the_owner m xs h = the_spot (memory_at m) xs (instances_with m 0 xs) (memories_from_spots m 0 xs) h

pub memory_there : (m : ℕ) (ns : List ℕ) (p : ℕ) → slice_get ns p ≡ Some m → slice_get (are_memory m ns) p ≡ Some true
memory_there m [] p h = absurd (nothing m h)
memory_there m (n ∷ rest) zero h = ap Some (eq-eqb n m (the_same n m h))
memory_there m (n ∷ rest) (suc p) h = memory_there m rest p h

pub there_memory : (m : ℕ) (ns : List ℕ) (p : ℕ) → slice_get (are_memory m ns) p ≡ Some true → slice_get ns p ≡ Some m
there_memory m [] p h = absurd (nothing true h)
there_memory m (n ∷ rest) zero h = ap Some (eqb-true n m (the_same (n == m) true h))
there_memory m (n ∷ rest) (suc p) h = there_memory m rest p h
