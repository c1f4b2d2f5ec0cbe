-- Ports after ticks.
use Rattle.std.proofs.Common.{◌≡◌, ℕ, zero, suc, ◌+◌, ◌<◌, List, [], ◌∷◌, ◌++◌, length, map, drop, Option, Some, None, refl, sym, ap, ◌∙◌, subst, ⊎_elim, arith, length-append, append_assoc}
use Rattle.std.specs.Prelude.{◌≤◌, replicate, vec_capacity, slice_get, slice_set, flat_map, true, false, ◌==◌, if◌then◌else◌}
use Rattle.std.proofs.lemmas.Bool.Decides.{nat_tests}
use Rattle.std.proofs.lemmas.List.{append-nil, drop-drop, length-map, length-set}
use Rattle.std.proofs.lemmas.Option.{slice_get_within}
use Rattle.std.proofs.lemmas.Grind.{flat_map-append}
use Rattle.tapa_base.specs.declared.token.Token.{Token}
use Rattle.kahn_model.specs.declared.tick.Tick.{Tick}
use Rattle.kahn_model.specs.declared.tick.Tick.TheVariants.{Did, Take}
use Rattle.kahn_model.specs.declared.tick.Action.TheVariants.{Put}
use Rattle.kahn_model.specs.Network.{put_on, take_from}
use Rattle.net_core.specs.declared.port.Port.{Port}
use Rattle.net_core.specs.declared.ports.Ports.{Ports}
use Rattle.net_core.specs.Ports.{waiting_in, carried_in, room_in, held_in, space_in, waiting, carried, room_at, space_at, port_count, ends_of, Moved, Adjusted, ends_by, carried_by, waiting_by, room_by, ends_in, carried_of, IsReloaded}
use Rattle.std.proofs.lemmas.Bool.{cases_eq}
use Rattle.net_core.proofs.Cases.{at_or}

pub drop_sum : {A : Type 0} (m n q : ℕ) (xs : List A) → q ≡ m + n → drop n (drop m xs) ≡ drop q xs
drop_sum m n q xs e = drop-drop n m xs ∙ ap (λ k. drop k xs) (sym e)

pub moved_none : (a b : Ports) → a ≡ b → Moved a [] b
moved_none a b e = subst (Moved a []) e (record { ends = refl; waits = λ p. refl; puts = λ p. sym (append-nil (carried a p)); rooms = λ p. omega arith; spaces = λ p. omega arith })

pub moved_append : (a b c : Ports) (xs ys : List Tick) → Moved a xs b → Moved b ys c → Moved a (xs ++ ys) c
moved_append a b c xs ys h k = record {
  ends = k.ends ∙ h.ends;
  waits = λ p.
      k.waits p ∙ ap (drop (length (flat_map (take_from p) ys))) (h.waits p)
      ∙ drop_sum (length (flat_map (take_from p) xs)) (length (flat_map (take_from p) ys)) (length (flat_map (take_from p) (xs ++ ys))) (waiting a p) (ap length (flat_map-append (take_from p) xs ys) ∙ length-append (flat_map (take_from p) xs) (flat_map (take_from p) ys));
  puts = λ p.
      k.puts p ∙ ap (λ l. l ++ flat_map (put_on p) ys) (h.puts p)
      ∙ append_assoc (carried a p) (flat_map (put_on p) xs) (flat_map (put_on p) ys)
      ∙ ap (λ l. carried a p ++ l) (sym (flat_map-append (put_on p) xs ys));
  rooms = λ p.
      let e = ap length (flat_map-append (put_on p) xs ys) in
      let l = length-append (flat_map (put_on p) xs) (flat_map (put_on p) ys) in
      let a = h.rooms p in
      let b = k.rooms p in
      omega arith;
  spaces = λ p. let a = h.spaces p in let b = k.spaces p in omega arith;
}

pub moved_still : (a b : Ports) (t : Tick) → ((p : ℕ) → take_from p t ≡ []) → ((p : ℕ) → put_on p t ≡ []) → Moved a [] b → Moved a (t ∷ []) b
moved_still a b t ht hp h = record {
  ends = h.ends;
  waits = λ p. h.waits p ∙ ap (λ l. drop (length (l ++ [])) (waiting a p)) (sym (ht p));
  puts = λ p. h.puts p ∙ ap (λ l. carried a p ++ (l ++ [])) (sym (hp p));
  rooms = λ p. let e = ap (λ (l : List Token). length (l ++ [])) (hp p) in let r = h.rooms p in omega arith;
  spaces = h.spaces;
}

pub get_set_same : {A : Type 0} (xs : List A) (i : ℕ) (y : A) → i < length xs → slice_get (slice_set xs i y) i ≡ Some y
get_set_same [] i y h = absurd (omega arith)
get_set_same (x ∷ xs) zero y h = refl
get_set_same (x ∷ xs) (suc i) y h = get_set_same xs i y (omega arith)

pub get_set_other : {A : Type 0} (xs : List A) (i j : ℕ) (y : A) → (i ≡ j → ⊥) → slice_get (slice_set xs i y) j ≡ slice_get xs j
get_set_other [] i j y h = refl
get_set_other (x ∷ xs) zero zero y h = absurd (h refl)
get_set_other (x ∷ xs) zero (suc j) y h = refl
get_set_other (x ∷ xs) (suc i) zero y h = refl
get_set_other (x ∷ xs) (suc i) (suc j) y h = get_set_other xs i j y (λ e. h (ap suc e))

-- what is in a list after some value was written there
pub set_same : {A : Type 0} (xs : List A) (i j : ℕ) (y z : A) → slice_get (slice_set xs i y) j ≡ Some z → j ≡ i → y ≡ z
set_same xs i j y z e q =
    let l = length-set xs i y in
    let w = slice_get_within (slice_set xs i y) j z e in
    let at : slice_get (slice_set xs i y) j ≡ Some y = ap (slice_get (slice_set xs i y)) q ∙ get_set_same xs i y (omega arith) in
    cc

pub set_some : {A : Type 0} (P : ℕ → A → Type 0) (xs : List (Option A)) (i j : ℕ) (y z : A) → P i y → ((j ≡ i → ⊥) → slice_get xs j ≡ Some (Some z) → P j z) → slice_get (slice_set xs i (Some y)) j ≡ Some (Some z) → P j z
set_some P xs i j y z here other e =
    ⊎_elim
    (λ (q : j ≡ i). let some = set_same xs i j (Some y) (Some z) e q in let same : y ≡ z = cc in subst (λ n. P n z) (sym q) (subst (P i) same here))
    (λ (d : j ≡ i → ⊥). other d (sym (get_set_other xs i j (Some y) (λ q. d (sym q))) ∙ e))
    (cases_eq j i)

pub set_none : {A : Type 0} (xs : List (Option A)) (i j : ℕ) (y : A) → slice_get (slice_set xs i (Some y)) j ≡ Some None → (j ≡ i → ⊥) × (slice_get xs j ≡ Some None)
set_none xs i j y e =
    let d : j ≡ i → ⊥ = λ q. let some = set_same xs i j (Some y) None e q in cc in
    (d, sym (get_set_other xs i j (Some y) (λ q. d (sym q))) ∙ e)

pub replicated : {A : Type 0} (n i : ℕ) (x y : A) → slice_get (replicate n x) i ≡ Some y → x ≡ y
replicated zero i x y e = cc
replicated (suc n) zero x y e = cc
replicated (suc n) (suc i) x y e = replicated n i x y e

pub test_true : (s p : ℕ) → s ≡ p → (s == p) ≡ true
test_true s p e = grind (arith, nat_tests)

pub test_false : (s p : ℕ) → (s ≡ p → ⊥) → (s == p) ≡ false
test_false s p e = grind (arith, nat_tests)

took_same : (s : ℕ) (t : Token) → flat_map (take_from s) (Take s t ∷ []) ≡ t ∷ []
took_same s t = ap (λ b. (if b then t ∷ [] else []) ++ []) (test_true s s refl)

took_other : (s p : ℕ) (t : Token) → (s ≡ p → ⊥) → flat_map (take_from p) (Take s t ∷ []) ≡ []
took_other s p t h = ap (λ b. (if b then t ∷ [] else []) ++ []) (test_false s p h)

put_same : (s : ℕ) (t : Token) → flat_map (put_on s) (Did (Put s t) ∷ []) ≡ t ∷ []
put_same s t = ap (λ b. (if b then t ∷ [] else []) ++ []) (test_true s s refl)

put_other : (s p : ℕ) (t : Token) → (s ≡ p → ⊥) → flat_map (put_on p) (Did (Put s t) ∷ []) ≡ []
put_other s p t h = ap (λ b. (if b then t ∷ [] else []) ++ []) (test_false s p h)

-- a change of one element that its image does not see
pub map_set : {A B : Type 0} (f : A → B) (xs : List A) (s : ℕ) (q r : A) → slice_get xs s ≡ Some q → f r ≡ f q → map f (slice_set xs s r) ≡ map f xs
map_set f [] s q r e h = refl
map_set f (x ∷ xs) zero q r e h = let w : x ≡ q = cc in ap (λ y. y ∷ map f xs) (h ∙ ap f (sym w))
map_set f (x ∷ xs) (suc s) q r e h = ap (λ l. f x ∷ l) (map_set f xs s q r e h)

-- the space of the ports after a change of one that keeps its queue
space_kept : (a b : Ports) (s : ℕ) (q r : Port) → slice_get a.ports.items s ≡ Some q → b.ports.items ≡ slice_set a.ports.items s r → r.tokens ≡ q.tokens → (p : ℕ) → space_at a p ≤ space_at b p
space_kept a b s q r eq eb et p =
    let same : space_at b p ≡ space_at a p =
    at_or (λ x. space_at b x ≡ space_at a x) s p
    (ap space_in (ap (λ l. slice_get l s) eb ∙ get_set_same a.ports.items s r (slice_get_within a.ports.items s q eq)) ∙ ap vec_capacity et ∙ ap space_in (sym eq))
    (λ d. ap space_in (ap (λ l. slice_get l p) eb ∙ get_set_other a.ports.items s p r d))
    in
    omega arith

-- what one port's change does to all
pub moved_take : (a b : Ports) (s : ℕ) (t : Token) (q r : Port) → slice_get a.ports.items s ≡ Some q → b.ports.items ≡ slice_set a.ports.items s r → r.end ≡ q.end → r.tokens ≡ q.tokens → r.head ≡ q.head + 1 → r.carried ≡ q.carried → r.room ≡ q.room → Moved a (Take s t ∷ []) b
moved_take a b s t q r eq eb ee et eh ec er = record {
  ends = ap (map (λ (p : Port). p.end)) eb ∙ map_set (λ (p : Port). p.end) a.ports.items s q r eq ee;
  waits = λ p.
      at_or (λ x. waiting b x ≡ drop (length (flat_map (take_from x) (Take s t ∷ []))) (waiting a x)) s p
      (ap waiting_in (ap (λ l. slice_get l s) eb ∙ get_set_same a.ports.items s r there)
      ∙ ap (λ x. drop r.head x.items) et ∙ ap (λ n. drop n q.tokens.items) eh
      ∙ sym (drop_sum q.head 1 (q.head + 1) q.tokens.items refl)
      ∙ ap (λ o. drop 1 (waiting_in o)) (sym eq)
      ∙ ap (λ (l : List Token). drop (length l) (waiting a s)) (sym (took_same s t)))
      (λ d.
      ap waiting_in (ap (λ l. slice_get l p) eb ∙ get_set_other a.ports.items s p r d)
      ∙ ap (λ (l : List Token). drop (length l) (waiting a p)) (sym (took_other s p t d)));
  puts = λ p.
      at_or (λ x. carried b x ≡ carried a x ++ []) s p
      (ap carried_in (ap (λ l. slice_get l s) eb ∙ get_set_same a.ports.items s r there)
      ∙ ap (λ x. x.items) ec ∙ ap carried_in (sym eq) ∙ sym (append-nil (carried a s)))
      (λ d.
      ap carried_in (ap (λ l. slice_get l p) eb ∙ get_set_other a.ports.items s p r d) ∙ sym (append-nil (carried a p)));
  rooms = λ p.
      let h : room_at b p ≡ room_at a p =
      at_or (λ x. room_at b x ≡ room_at a x) s p
      (ap room_in (ap (λ l. slice_get l s) eb ∙ get_set_same a.ports.items s r there) ∙ er ∙ ap room_in (sym eq))
      (λ d. ap room_in (ap (λ l. slice_get l p) eb ∙ get_set_other a.ports.items s p r d))
      in
      omega arith;
  spaces = space_kept a b s q r eq eb et;
}
  where
    there : s < length a.ports.items
    there = slice_get_within a.ports.items s q eq

pub moved_put : (a b : Ports) (s : ℕ) (t : Token) (q r : Port) → slice_get a.ports.items s ≡ Some q → b.ports.items ≡ slice_set a.ports.items s r → r.end ≡ q.end → r.tokens ≡ q.tokens → r.head ≡ q.head → r.carried.items ≡ q.carried.items ++ t ∷ [] → r.room + 1 ≡ q.room → Moved a (Did (Put s t) ∷ []) b
moved_put a b s t q r eq eb ee et eh ec er = record {
  ends = ap (map (λ (p : Port). p.end)) eb ∙ map_set (λ (p : Port). p.end) a.ports.items s q r eq ee;
  waits = λ p.
      at_or (λ x. waiting b x ≡ waiting a x) s p
      (ap waiting_in (ap (λ l. slice_get l s) eb ∙ get_set_same a.ports.items s r there)
      ∙ ap (λ x. drop r.head x.items) et ∙ ap (λ n. drop n q.tokens.items) eh ∙ ap waiting_in (sym eq))
      (λ d. ap waiting_in (ap (λ l. slice_get l p) eb ∙ get_set_other a.ports.items s p r d));
  puts = λ p.
      at_or (λ x. carried b x ≡ carried a x ++ flat_map (put_on x) (Did (Put s t) ∷ [])) s p
      (ap carried_in (ap (λ l. slice_get l s) eb ∙ get_set_same a.ports.items s r there)
      ∙ ec ∙ ap (λ o. carried_in o ++ t ∷ []) (sym eq) ∙ ap (λ l. carried a s ++ l) (sym (put_same s t)))
      (λ d.
      ap carried_in (ap (λ l. slice_get l p) eb ∙ get_set_other a.ports.items s p r d)
      ∙ sym (append-nil (carried a p)) ∙ ap (λ l. carried a p ++ l) (sym (put_other s p t d)));
  rooms = λ p.
      at_or (λ x. room_at b x + length (flat_map (put_on x) (Did (Put s t) ∷ [])) ≡ room_at a x) s p
      (let x : room_at b s ≡ r.room = ap room_in (ap (λ l. slice_get l s) eb ∙ get_set_same a.ports.items s r there) in
      let y : room_at a s ≡ q.room = ap room_in eq in
      let z = ap length (put_same s t) in
      omega arith)
      (λ d.
      let x : room_at b p ≡ room_at a p = ap room_in (ap (λ l. slice_get l p) eb ∙ get_set_other a.ports.items s p r d) in
      let z = ap length (put_other s p t d) in
      omega arith);
  spaces = space_kept a b s q r eq eb et;
}
  where
    there : s < length a.ports.items
    there = slice_get_within a.ports.items s q eq

pub adjust : (a b : Ports) (s : ℕ) (q r : Port) → slice_get a.ports.items s ≡ Some q → b.ports.items ≡ slice_set a.ports.items s r → r.end ≡ q.end → r.carried.items ≡ q.carried.items → Adjusted a s b
adjust a b s q r eq eb ee ec = record {
  ends = ap (map (λ (p : Port). p.end)) eb ∙ map_set (λ (p : Port). p.end) a.ports.items s q r eq ee;
  carries = λ p.
      at_or (λ x. carried b x ≡ carried a x) s p
      (ap carried_in (ap (λ l. slice_get l s) eb ∙ get_set_same a.ports.items s r (slice_get_within a.ports.items s q eq)) ∙ ec ∙ ap carried_in (sym eq))
      (λ d. ap carried_in (ap (λ l. slice_get l p) eb ∙ get_set_other a.ports.items s p r d));
  waits = λ p d. ap waiting_in (ap (λ l. slice_get l p) eb ∙ get_set_other a.ports.items s p r (λ e. d (sym e)));
  rooms = λ p d. ap room_in (ap (λ l. slice_get l p) eb ∙ get_set_other a.ports.items s p r (λ e. d (sym e)));
  spaces = λ p d. let same = ap space_in (ap (λ l. slice_get l p) eb ∙ get_set_other a.ports.items s p r (λ e. d (sym e))) in omega arith;
}

pub adjusted_twice : (a b c : Ports) (s : ℕ) → Adjusted a s b → Adjusted b s c → Adjusted a s c
adjusted_twice a b c s h k = record {
  ends = k.ends ∙ h.ends;
  carries = λ p. k.carries p ∙ h.carries p;
  waits = λ p d. k.waits p d ∙ h.waits p d;
  rooms = λ p d. k.rooms p d ∙ h.rooms p d;
  spaces = λ p d. let x = h.spaces p d in let y = k.spaces p d in omega arith;
}

-- a port that is replaced has as much space, where its queue has, and holds as few tokens
pub space_grows : (items : List Port) (s : ℕ) (q r : Port) → slice_get items s ≡ Some q → vec_capacity q.tokens ≤ vec_capacity r.tokens → space_in (slice_get items s) ≤ space_in (slice_get (slice_set items s r) s)
space_grows items s q r eq le =
    let x = ap space_in (get_set_same items s r (slice_get_within items s q eq)) in
    let y = ap space_in eq in
    omega arith

pub space_at_least : (items : List Port) (s : ℕ) (q r : Port) (n : ℕ) → slice_get items s ≡ Some q → n ≤ vec_capacity r.tokens → n ≤ space_in (slice_get (slice_set items s r) s)
space_at_least items s q r n eq le = let x = ap space_in (get_set_same items s r (slice_get_within items s q eq)) in omega arith

pub held_few : (items : List Port) (s : ℕ) (q r : Port) (n : ℕ) → slice_get items s ≡ Some q → length r.tokens.items ≤ n → held_in (slice_get (slice_set items s r) s) ≤ n
held_few items s q r n eq le = let x = ap held_in (get_set_same items s r (slice_get_within items s q eq)) in omega arith

pub grown_twice : (a b c : ℕ) → a ≤ b → b ≤ c → a ≤ c
grown_twice a b c h k = omega arith

pub adjust_at : (a b : Ports) (s : ℕ) (r : Port) → s < length a.ports.items → b.ports.items ≡ slice_set a.ports.items s r → slice_get b.ports.items s ≡ Some r
adjust_at a b s r h eb = ap (λ l. slice_get l s) eb ∙ get_set_same a.ports.items s r h

-- one instance's ports among all
pub reloaded : (all new : List Ports) (i p : ℕ) (x y : Ports) → slice_get all i ≡ Some x → new ≡ slice_set all i y → Adjusted x p y → IsReloaded all i p new
reloaded all new i p x y e en a = record {
  len = ap length en ∙ length-set all i y;
  ends = λ j.
      at_or (λ z. ends_in new z ≡ ends_in all z) i j
      (ap ends_by here ∙ a.ends ∙ ap ends_by (sym e))
      (λ d. ap ends_by (other j d));
  carries = λ j q.
      at_or (λ z. carried_of new z q ≡ carried_of all z q) i j
      (ap (λ o. carried_by o q) here ∙ a.carries q ∙ ap (λ o. carried_by o q) (sym e))
      (λ d. ap (λ o. carried_by o q) (other j d));
  waits = λ q d. ap (λ o. waiting_by o q) here ∙ a.waits q d ∙ ap (λ o. waiting_by o q) (sym e);
  rooms = λ q d. ap (λ o. room_by o q) here ∙ a.rooms q d ∙ ap (λ o. room_by o q) (sym e);
  others_wait = λ j q d. ap (λ o. waiting_by o q) (other j (λ w. d (sym w)));
}
  where
    here : slice_get new i ≡ Some y
    here = ap (λ l. slice_get l i) en ∙ get_set_same all i y (slice_get_within all i x e)

    other : (j : ℕ) → (i ≡ j → ⊥) → slice_get new j ≡ slice_get all j
    other j d = ap (λ l. slice_get l j) en ∙ get_set_other all i j y d

pub reloaded_none : (a : List Ports) (i p : ℕ) → IsReloaded a i p a
reloaded_none a i p = record { len = refl; ends = λ j. refl; carries = λ j q. refl; waits = λ q d. refl; rooms = λ q d. refl; others_wait = λ j q d. refl }

pub reloaded_twice : (a b c : List Ports) (i p : ℕ) → IsReloaded a i p b → IsReloaded b i p c → IsReloaded a i p c
reloaded_twice a b c i p r s = record {
  len = s.len ∙ r.len;
  ends = λ j. s.ends j ∙ r.ends j;
  carries = λ j q. s.carries j q ∙ r.carries j q;
  waits = λ q d. s.waits q d ∙ r.waits q d;
  rooms = λ q d. s.rooms q d ∙ r.rooms q d;
  others_wait = λ j q d. s.others_wait j q d ∙ r.others_wait j q d;
}

-- as many ports as streams
pub port_count_is : (x : Ports) → port_count x ≡ length (ends_of x)
port_count_is x = sym (length-map x.ports.items (λ (p : Port). p.end))
