-- What a call leaves: instances that rest as they did, and counts within the budget.
use Rattle.std.proofs.Common.{◌≡◌, ℕ, zero, suc, ◌+◌, ◌-◌, ◌*◌, ◌<◌, ◌≤◌, ◌⊎◌, List, [], ◌∷◌, length, Bool, true, false, Some, refl, sym, ap, ◌∙◌, subst, inl, inr, ⊎_elim, arith}
use Rattle.std.specs.Prelude.{slice_get, MatchBool, if◌then◌else◌}
use Rattle.std.proofs.Math.Path.{fun_ext}
use Rattle.std.proofs.lemmas.Bool.{cases_eq}
use Rattle.std.proofs.lemmas.Bool.Decides.{nat_tests}
use Rattle.tapa_syntax.specs.declared.program.Program.{Program}
use Rattle.kahn_model.specs.Network.{Network}
use Rattle.kahn_model.specs.Counts.{total, written, taken, IsAllowed}
use Rattle.kahn_model.specs.Outcome.{IsJoined, joined_part, joined_ticks}
use Rattle.kahn_model.proofs.Count.{IsBelow, step_stays}
use Rattle.kahn_model.proofs.Ends.{total_cap}
use Rattle.kahn_model.proofs.Joined.{part_is, joined_has, joined_same}
use Rattle.net_core.specs.declared.body.Pause.{Pause}
use Rattle.net_core.specs.declared.body.Pause.TheVariants.{Fuel}
use Rattle.net_core.specs.declared.input.Input.{Input}
use Rattle.net_core.specs.declared.net_state.NetState.{NetState}
use Rattle.net_core.specs.Bindings.{IsFedBySelf, stream_at, Reads, Writes, producer_of, consumer_of}
use Rattle.net_core.specs.Bounded.{network_on}
use Rattle.net_core.specs.Waits.{HoldsPause}
use Rattle.net_core.specs.Load.{IsIn, AreWoken}
use Rattle.net_core.specs.State.{network, count, total_ticks, joined_total, IsValid, HasResumed, IsWithin, HasResumedWithin}
use Rattle.net_core.specs.Settle.{IsQuiet, IsSpent, IsAtRest, ticks_ahead, Visited}
use Rattle.net_core.proofs.Moves.{get_set_same, get_set_other}
use Rattle.net_core.proofs.Chunk.{plus, plus_same, plus_other, total_plus}
use Rattle.net_core.proofs.Stepped.{plus_above}
use Rattle.net_core.proofs.Lasting.{decide_fuel}
use Rattle.tapa_base.proofs.Tests.{bool_cases as decide_detached}

pub decide_in : (x : ℕ) (xs : List ℕ) → IsIn x xs ⊎ (IsIn x xs → ⊥)
decide_in x [] = inr (λ h. let e = h.1 in cc)
decide_in x (y ∷ xs) =
    ⊎_elim
    (λ (e : y ≡ x). inl (0, ap Some e))
    (λ (d : y ≡ x → ⊥).
    ⊎_elim
    (λ (h : IsIn x xs). inl (suc h.0, h.1))
    (λ (n : IsIn x xs → ⊥). inr (λ h. no d n h.0 h.1))
    (decide_in x xs))
    (cases_eq y x)
  where
    no : (y ≡ x → ⊥) → (IsIn x xs → ⊥) → (m : ℕ) → slice_get (y ∷ xs) m ≡ Some x → ⊥
    no d n zero e = d (cc)
    no d n (suc m) e = n (m, e)

-- what is left after more ticks
pub less_by : (room room' ticks ticks' made : ℕ) → room' ≡ room → ticks' ≡ ticks + made → room' - ticks' ≤ room - ticks
less_by room room' ticks ticks' made e f = omega arith

pub fewer_by : (room room' ticks ticks' made : ℕ) → room' ≡ room → ticks' ≡ ticks + made → 0 < made → ticks' ≤ room' → room' - ticks' < room - ticks
fewer_by room room' ticks ticks' made e f some few = omega arith

-- an instance that may go on within the budget is on the list; who is not told so and answered so is a detached one that has made as many
-- ticks as the budget
pub listed_again : (new : NetState) (i : ℕ) (pause : Pause) (budget : ℕ) (again : Bool) (later : List ℕ) → MatchBool again (pause ≡ Fuel) (pause ≡ Fuel → ((network new).detached i ≡ true) × (budget ≤ count new i)) → (again ≡ true → IsIn i later) → (IsIn i later) ⊎ (pause ≡ Fuel → ((network new).detached i ≡ true) × (budget ≤ count new i))
listed_again new i pause budget true later h there = inl (there refl)
listed_again new i pause budget false later h there = inr h

-- the ticks of the joined instances after ticks of one of them, or of a detached one
module _ (net : Network) (k m : ℕ → ℕ) (i made : ℕ) (own : m i ≡ k i + made) (others : (j : ℕ) → (j ≡ i → ⊥) → m j ≡ k j) where
  part_plus : IsJoined net i → (j : ℕ) → joined_part net m j ≡ plus i made (joined_part net k) j
  part_plus joined j =
      ⊎_elim
      (λ (e : j ≡ i).
      let x = part_is net m i joined in
      let y = part_is net k i joined in
      let w = plus_same i made (joined_part net k) in
      subst (λ (n : ℕ). joined_part net m n ≡ plus i made (joined_part net k) n) (sym e) (omega arith))
      (λ (d : j ≡ i → ⊥). ap (λ (n : ℕ). if net.detached j then 0 else n) (others j d) ∙ sym (plus_other i made j (joined_part net k) d))
      (cases_eq j i)

  pub joined_plus : IsJoined net i → i < net.size → joined_ticks net m ≡ joined_ticks net k + made
  joined_plus joined l = ap (total net.size) (fun_ext (part_plus joined)) ∙ total_plus net.size i made (joined_part net k) l

  not_one : (j : ℕ) → net.detached i ≡ true → IsJoined net j → j ≡ i → ⊥
  not_one j d joined e = let both : net.detached i ≡ false = subst (IsJoined net) e joined in cc

  pub detached_plus : net.detached i ≡ true → joined_ticks net m ≡ joined_ticks net k
  detached_plus d = joined_same net m k (λ j l joined. others j (not_one j d joined))

module _ (old new : NetState) (i budget left left' : ℕ) (pause : Pause) (made : ℕ) (r : HasResumedWithin old new i budget left left' pause made) (v : IsValid old) (inside : i < length old.program.instances.items) (within : IsWithin old budget left) where
  abbrev P : Program
  P = old.program

  abbrev N : Network
  N = network old

  abbrev c : HasResumed old new i r.fuel pause made
  c = r.resumed

  counted : count new ≡ plus i made (count old)
  counted = fun_ext c.counts

  size_in : i < N.size
  size_in = let e = v.size in omega arith

  same_network : network new ≡ N
  same_network = ap (λ (g : Program × Input). network_on g.0 g.1) c.given

  count_own : count new i ≡ count old i + made
  count_own = ap (λ (k : ℕ → ℕ). k i) counted ∙ plus_same i made (count old)

  count_other : (j : ℕ) → (j ≡ i → ⊥) → count new j ≡ count old j
  count_other j d = ap (λ (k : ℕ → ℕ). k j) counted ∙ plus_other i made j (count old) d

  above : IsBelow (count old) (count new)
  above = subst (IsBelow (count old)) (sym counted) (plus_above i made (count old))

  -- ---- the count stays within the budget

  total_after : total_ticks new ≡ total_ticks old + made
  total_after =
      ap (λ (net : Network). total net.size (count new)) same_network ∙ ap (total N.size) counted ∙ total_plus N.size i made (count old) size_in

  own_capped : count old i + made ≤ budget
  own_capped =
      let few = c.within in
      ⊎_elim
      (λ (d : N.detached i ≡ true). let e = (r.detached d).0 in omega arith)
      (λ (j : N.detached i ≡ false).
      let e = (r.joined j).0 in
      let has = joined_has N (count old) i size_in j in
      let sum = within.joined in
      omega arith)
      (decide_detached (N.detached i))

  capped : (j : ℕ) → count new j ≤ budget
  capped j =
      ⊎_elim
      (λ (e : j ≡ i). subst (λ (n : ℕ). count new n ≤ budget) (sym e) (let a = own_capped in let b = count_own in omega arith))
      (λ (d : j ≡ i → ⊥). let a = within.capped j in let b = count_other j d in omega arith)
      (cases_eq j i)

  joined_after : joined_total new + left' ≡ budget
  joined_after =
      let sum = within.joined in
      let same : joined_total new ≡ joined_ticks N (plus i made (count old)) = ap (λ (net : Network). joined_ticks net (count new)) same_network ∙ ap (joined_ticks N) counted in
      ⊎_elim
      (λ (d : N.detached i ≡ true). let e = (r.detached d).1 in let p = detached_plus N (count old) (plus i made (count old)) i made (plus_same i made (count old)) (λ j o. plus_other i made j (count old) o) d in omega arith)
      (λ (j : N.detached i ≡ false). let e = (r.joined j).1 in let p = joined_plus N (count old) (plus i made (count old)) i made (plus_same i made (count old)) (λ n o. plus_other i made n (count old) o) j size_in in omega arith)
      (decide_detached (N.detached i))

  pub within_after : IsWithin new budget left'
  within_after = record { capped = capped; joined = joined_after }

  same_room : (network new).size * budget ≡ N.size * budget
  same_room = ap (λ (net : Network). net.size * budget) same_network

  less : ticks_ahead new budget ≤ ticks_ahead old budget
  unfolding ticks_ahead
  less = less_by (N.size * budget) ((network new).size * budget) (total_ticks old) (total_ticks new) made same_room total_after

  fewer : 0 < made → ticks_ahead new budget < ticks_ahead old budget
  unfolding ticks_ahead
  fewer some =
      fewer_by (N.size * budget) ((network new).size * budget) (total_ticks old) (total_ticks new) made same_room total_after some (total_cap (network new).size budget (count new) capped)

  -- ---- how the instances stand

  own_last : slice_get new.pauses i ≡ Some (Some c.told)
  own_last = let l = v.pauses_len in ap (λ l. slice_get l i) c.pauses ∙ get_set_same old.pauses i (Some c.told) (omega arith)

  other_pause : (j : ℕ) → (j ≡ i → ⊥) → slice_get new.pauses j ≡ slice_get old.pauses j
  other_pause j d = ap (λ l. slice_get l j) c.pauses ∙ get_set_other old.pauses i j (Some c.told) (λ e. d (sym e))

  none_made : made ≡ 0 → count new ≡ count old
  none_made e = fun_ext (λ j. c.counts j ∙ grind (arith, nat_tests))

  now_holds : (j : ℕ) (x : Pause) → HoldsPause N (count new) j (stream_at P j) x → HoldsPause (network new) (count new) j (stream_at new.program j) x
  now_holds j x h = subst (λ (g : Program × Input). HoldsPause (network_on g.0 g.1) (count new) j (stream_at g.0 j) x) (sym c.given) h

  now_detached : (j : ℕ) → N.detached j ≡ true → (network new).detached j ≡ true
  now_detached j d = subst (λ (net : Network). net.detached j ≡ true) (sym same_network) d

  now_allowed : (j : ℕ) → IsAllowed N (count new) j → IsAllowed (network new) (count new) j
  now_allowed j a = subst (λ (net : Network). IsAllowed net (count new) j) (sym same_network) a

  quiet_own : (pause ≡ Fuel → ⊥) → c.told ≡ pause → ((p : ℕ) → Reads P i p → written N (count new) (stream_at P i p) ≡ written N (count old) (stream_at P i p)) → ((p : ℕ) → Writes P i p → taken N (count new) (stream_at P i p) ≡ taken N (count old) (stream_at P i p)) → IsQuiet new i
  quiet_own stopped e w t = record { pause = pause; last = own_last ∙ ap (λ x. Some (Some x)) e; stopped = stopped; holds = now_holds i pause (c.own stopped w t) }

  told_fuel : pause ≡ Fuel → c.told ≡ Fuel
  told_fuel p =
      ⊎_elim
      (λ (q : c.told ≡ pause). q ∙ p)
      (λ (o : IsFedBySelf P i × (0 < made) × (c.told ≡ Fuel)). o.2)
      c.is_told.cases

  spent_own : pause ≡ Fuel → N.detached i ≡ true → budget ≤ count new i → IsSpent new budget i
  spent_own p d s =
      let f = c.fuel_spent p in
      let m = capped i in
      record {
        detached = now_detached i d;
        last = own_last ∙ ap (λ x. Some (Some x)) (told_fuel p);
        spent = omega arith;
        allowed = now_allowed i f.1;
      }

  quiet_other : (j : ℕ) → (j ≡ i → ⊥) → j < length P.instances.items → ((s : ℕ) → consumer_of P s ≡ j → written N (count new) s ≡ written N (count old) s) → ((s : ℕ) → producer_of P s ≡ j → taken N (count new) s ≡ taken N (count old) s) → IsQuiet old j → IsQuiet new j
  quiet_other j d l w t q = record { pause = q.pause; last = other_pause j d ∙ q.last; stopped = q.stopped; holds = now_holds j q.pause (c.others j q.pause d l w t q.stopped q.holds) }

  spent_other : (j : ℕ) → (j ≡ i → ⊥) → IsSpent old budget j → IsSpent new budget j
  spent_other j d q =
      let same = count_other j d in
      record {
        detached = now_detached j q.detached;
        last = other_pause j d ∙ q.last;
        spent = same ∙ q.spent;
        allowed = now_allowed j (step_stays N v.is_network (count old) (count new) above j (sym same) q.allowed);
      }

  rest_other : (j : ℕ) → (j ≡ i → ⊥) → j < length P.instances.items → ((s : ℕ) → consumer_of P s ≡ j → written N (count new) s ≡ written N (count old) s) → ((s : ℕ) → producer_of P s ≡ j → taken N (count new) s ≡ taken N (count old) s) → IsAtRest old budget j → IsAtRest new budget j
  rest_other j d l w t h =
      ⊎_elim (λ (q : IsQuiet old j). inl (quiet_other j d l w t q)) (λ (q : IsSpent old budget j). inr (spent_other j d q)) h

  -- nothing is left to the joined instances, and this one may go on
  pub visited_limit : pause ≡ Fuel → IsJoined (network new) i → left' ≡ 0 → (later : List ℕ) → Visited old new i budget left' later later false
  visited_limit p j none later =
      let f = c.fuel_spent p in
      record {
        given = c.given;
        within = within_after;
        limit = λ x. record {
          none = none;
          instance = i;
          joined = j;
          allowed = now_allowed i f.1;
        };
        rest = λ x. absurd (cc);
        less = less;
        progress = λ h. inl h;
      }

  -- it is at rest where it may go on: a detached one that has made as many ticks as the budget
  abbrev Passes : Type 0
  Passes = pause ≡ Fuel → ((network new).detached i ≡ true) × (budget ≤ count new i)

  rest_own : Passes → ((pause ≡ Fuel → ⊥) → IsQuiet new i) → IsAtRest new budget i
  rest_own passes quiet =
      ⊎_elim
      (λ (p : pause ≡ Fuel). let q = passes p in inr (spent_own p (subst (λ (net : Network). net.detached i ≡ true) same_network q.0) q.1))
      (λ (d : pause ≡ Fuel → ⊥). inl (quiet d))
      (decide_fuel pause)

  module _ (past : pause ≡ Fuel → IsJoined (network new) i → 0 < left') where
    passes_none : made ≡ 0 → Passes
    passes_none m p =
        let f = (c.fuel_spent p).0 in
        let n = count_own in
        ⊎_elim
        (λ (d : N.detached i ≡ true). let e = (r.detached d).2 (omega arith) in (now_detached i d, omega arith))
        (λ (j : N.detached i ≡ false).
        let e = (r.joined j).2 (omega arith) in
        let l = (r.joined j).1 in
        let q = past p (subst (λ (net : Network). IsJoined net i) (sym same_network) j) in
        absurd (omega arith))
        (decide_detached (N.detached i))

    rest_none : made ≡ 0 → (later : List ℕ) (j : ℕ) → j < length P.instances.items → (j ≡ i) ⊎ (IsAtRest old budget j ⊎ IsIn j later) → IsAtRest new budget j ⊎ IsIn j later
    rest_none e later j l h =
        ⊎_elim
        (λ (q : j ≡ i).
        inl (subst (IsAtRest new budget) (sym q)
        (rest_own (passes_none e) (λ stopped. quiet_own stopped told_none (λ p d. ap (λ m. written N m (stream_at P i p)) same) (λ p d. ap (λ m. taken N m (stream_at P i p)) same)))))
        (λ (d : j ≡ i → ⊥).
        ⊎_elim
        (λ (q : j ≡ i). absurd (d q))
        (λ (g : IsAtRest old budget j ⊎ IsIn j later).
        ⊎_elim
        (λ (q : IsAtRest old budget j). inl (rest_other j d l (λ s x. ap (λ m. written N m s) same) (λ s x. ap (λ m. taken N m s) same) q))
        (λ (n : IsIn j later). inr n)
        g)
        h)
        (cases_eq j i)
      where
        same : count new ≡ count old
        same = none_made e

        told_none : c.told ≡ pause
        told_none = ⊎_elim (λ (q : c.told ≡ pause). q) (λ (q : IsFedBySelf P i × (0 < made) × (c.told ≡ Fuel)). let z = q.1 in absurd (omega arith)) c.is_told.cases

    rest_woken : (later later' : List ℕ) → (IsIn i later') ⊎ Passes → ((x : ℕ) → IsIn x later → IsIn x later') → ((p : ℕ) → AreWoken P i p later') → (j : ℕ) → j < length P.instances.items → (j ≡ i) ⊎ (IsAtRest old budget j ⊎ IsIn j later) → IsAtRest new budget j ⊎ IsIn j later'
    rest_woken later later' again kept woken j l h =
        ⊎_elim
        (λ (n : IsIn j later'). inr n)
        (λ (no : IsIn j later' → ⊥).
        ⊎_elim
        (λ (q : j ≡ i).
        let no' : IsIn i later' → ⊥ = subst (λ z. IsIn z later' → ⊥) q no in
        inl (subst (IsAtRest new budget) (sym q)
        (rest_own (⊎_elim (λ (n : IsIn i later'). absurd (no' n)) (λ (q : Passes). q) again) (λ stopped.
        quiet_own stopped
        (⊎_elim (λ (q : c.told ≡ pause). q)
        (λ (o : IsFedBySelf P i × (0 < made) × (c.told ≡ Fuel)).
        let d = o.0.writes in
        absurd (no' (subst (λ z. IsIn z later') (ap (consumer_of P) o.0.same ∙ v.connected.reader i o.0.reads_at o.0.reads) ((woken o.0.writes_at).reader d))))
        c.is_told.cases)
        (λ p d. c.written_else (stream_at P i p) (λ r w e. no' (subst (λ z. IsIn z later') (ap (producer_of P) (sym e) ∙ v.connected.writer i r w) ((woken p).writer d))))
        (λ p d. c.taken_else (stream_at P i p) (λ r w e. no' (subst (λ z. IsIn z later') (ap (consumer_of P) (sym e) ∙ v.connected.reader i r w) ((woken p).reader d))))))))
        (λ (d : j ≡ i → ⊥).
        ⊎_elim
        (λ (q : j ≡ i). absurd (d q))
        (λ (g : IsAtRest old budget j ⊎ IsIn j later).
        ⊎_elim
        (λ (q : IsAtRest old budget j).
        inl (rest_other j d l
        (λ s x. c.written_else s (λ r w e. no (subst (λ z. IsIn z later') (ap (consumer_of P) e ∙ x) ((woken r).reader w))))
        (λ s x. c.taken_else s (λ r w e. no (subst (λ z. IsIn z later') (ap (producer_of P) e ∙ x) ((woken r).writer w)))) q))
        (λ (n : IsIn j later). absurd (no (kept j n)))
        g)
        h)
        (cases_eq j i))
        (decide_in j later')

    pub visited_none : made ≡ 0 → (later : List ℕ) → Visited old new i budget left' later later true
    visited_none m later = record {
      given = c.given;
      within = within_after;
      limit = λ x. absurd (cc);
      rest = λ x. rest_none m later;
      less = less;
      progress = λ h. inl h;
    }

    pub visited_woken : 0 < made → (later later' : List ℕ) → (IsIn i later') ⊎ Passes → ((x : ℕ) → IsIn x later → IsIn x later') → ((p : ℕ) → AreWoken new.program i p later') → Visited old new i budget left' later later' true
    visited_woken m later later' again kept woken = record {
      given = c.given;
      within = within_after;
      limit = λ x. absurd (cc);
      rest = λ x. rest_woken later later' again kept (subst (λ (g : Program × Input). (q : ℕ) → AreWoken g.0 i q later') c.given woken);
      less = less;
      progress = λ h. inr (fewer m);
    }
