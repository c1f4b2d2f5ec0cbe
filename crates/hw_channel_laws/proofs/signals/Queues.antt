-- The FIFO keeps its tokens in order.
use Rattle.std.proofs.Common.{◌≡◌, ℕ, zero, suc, ◌+◌, ◌-◌, ◌<◌, ◌≤◌, Bool, true, false, ◌&&◌, cond, eqb, ltb, List, [], ◌∷◌, ◌++◌, length, Some, refl, sym, ap, ◌∙◌, arith, ⊎_elim}
use Rattle.std.specs.Prelude.{slice_get}
use Rattle.std.proofs.lemmas.Bool.{lt-ltb, ltb-true, eq-eqb, ne_eqb, eqb-true, and_parts, cases_lt, cond-true}
use Rattle.tapa_base.specs.Operators.{bit}
use Rattle.hw_channel_laws.specs.signals.Signals.{Signal, Resets}
use Rattle.hw_channel_laws.specs.signals.Fifo.{FifoPorts, FifoSizes, SizesFit, IsFifo, next_place, next_count, puts, pops, entered, gone, HasRoom, KeepsOrder}
use Rattle.hw_channel_laws.proofs.signals.Places.{wrap, wrap_lt, apart}
use Rattle.hw_channel_laws.proofs.signals.Pointers.{told, some_left, fewer_than, low_stays, high_stays, pointer_goes, count_goes}
use Rattle.hw_channel_laws.proofs.signals.Tokens.{get_front, get_last, length_with, no_less}

module _ (s : FifoSizes) (fits : SizesFit s) (rst : Signal) (reset : Resets rst) (f : FifoPorts) (h : IsFifo s rst f) where
  some : 0 < s.places
  some = omega (arith, fits.some, fits.within)

  -- the registers and cells, by the tokens that came in and how many went out
  record Stands (n : ℕ) : Type 0 where
    low : gone f n ≤ length (entered f n)
    high : length (entered f n) ≤ gone f n + s.places
    count_is : h.count n ≡ length (entered f n) - gone f n
    head_is : h.head n ≡ wrap s.places (gone f n)
    tail_is : h.tail n ≡ wrap s.places (length (entered f n))
    cells : (i : ℕ) → gone f n ≤ i → i < length (entered f n) → slice_get (entered f n) i ≡ Some (h.cells n (wrap s.places i))

  offers : (n : ℕ) → Stands n → f.has n ≡ bit (ltb (gone f n) (length (entered f n)))
  offers n at = h.has_is n ∙ ap (λ c. bit (cond (eqb c 0) false true)) at.count_is ∙ some_left (length (entered f n)) (gone f n)

  module _ (k : ℕ) (at : Stands (suc k)) (room : HasRoom s.places f (suc k)) where
    abbrev n : ℕ
    n = suc k

    abbrev e : List ℕ
    e = entered f n

    abbrev r : ℕ
    r = gone f n

    runs : eqb (rst n) 1 ≡ false
    runs = ap (λ x. eqb x 1) (reset.later k)

    has_place : puts f n ≡ true → length e < r + s.places
    has_place t = room (eqb-true (f.put n) 1 t)

    has_token : pops f n ≡ true → r < length e
    has_token t =
        let one : f.has n ≡ 1 = eqb-true (f.has n) 1 (and_parts (eqb (f.take n) 1) (eqb (f.has n) 1) t).1 in
        ltb-true r (length e) (told (ltb r (length e)) (f.has n) (offers n at) one)

    long : length (entered f (suc n)) ≡ cond (puts f n) (length e + 1) (length e)
    long = length_with (puts f n) e (f.din n)

    -- the cells after the cycle
    stored : (b : Bool) → puts f n ≡ b → (i : ℕ) → r ≤ i → i < length (cond b (e ++ f.din n ∷ []) e) → slice_get (cond b (e ++ f.din n ∷ []) e) i ≡ Some (h.cells (suc n) (wrap s.places i))
    stored false t i lo hi =
        at.cells i lo hi ∙ ap Some (sym (h.cells_go n (wrap s.places i) (wrap_lt s.places i some) ∙ ap (λ b. cond (b && eqb (wrap s.places i) (h.tail n)) (f.din n) (h.cells n (wrap s.places i))) t))
    stored true t i lo hi =
        let here : h.cells (suc n) (wrap s.places i) ≡ cond (eqb (wrap s.places i) (wrap s.places (length e))) (f.din n) (h.cells n (wrap s.places i)) =
        h.cells_go n (wrap s.places i) (wrap_lt s.places i some)
        ∙ ap (λ b. cond (b && eqb (wrap s.places i) (h.tail n)) (f.din n) (h.cells n (wrap s.places i))) t
        ∙ ap (λ p. cond (eqb (wrap s.places i) p) (f.din n) (h.cells n (wrap s.places i))) at.tail_is in
        let fit = has_place t in
        ⊎_elim
        (λ l.
        let off = ne_eqb (wrap s.places i) (wrap s.places (length e)) (apart s.places i (length e) l (omega (arith, lo, fit))) in
        get_front e (f.din n ∷ []) i l ∙ at.cells i lo l ∙ ap Some (sym (here ∙ ap (λ b. cond b (f.din n) (h.cells n (wrap s.places i))) off)))
        (λ l.
        let last : i ≡ length e = omega (arith, l, hi, length_with true e (f.din n)) in
        let on = eq-eqb (wrap s.places i) (wrap s.places (length e)) (ap (wrap s.places) last) in
        ap (λ j. slice_get (e ++ f.din n ∷ []) j) last ∙ get_last e (f.din n) ∙ ap Some (sym (here ∙ ap (λ b. cond b (f.din n) (h.cells n (wrap s.places i))) on)))
        (cases_lt i (length e))

    stays : gone f (suc n) ≤ length (entered f (suc n))
    stays = omega (arith, low_stays (puts f n) (pops f n) (length e) r at.low has_token, long)

    rises : r ≤ gone f (suc n)
    rises = no_less (pops f n) r

    next : Stands (suc n)
    next = record {
      low = stays;
      high = omega (arith, high_stays (puts f n) (pops f n) (length e) r s.places at.high has_place, long);
      count_is = h.count_goes n ∙ ap (λ b. cond b 0 (next_count s (puts f n) (pops f n) (h.count n))) runs
          ∙ count_goes s fits (puts f n) (pops f n) (h.count n) (length e) r at.count_is at.low at.high has_place has_token
          ∙ sym (ap (λ x. x - gone f (suc n)) long);
      head_is = h.head_goes n ∙ ap (λ b. cond b 0 (cond (pops f n) (next_place s (h.head n)) (h.head n))) runs
          ∙ pointer_goes s fits (pops f n) (h.head n) r at.head_is;
      tail_is = h.tail_goes n ∙ ap (λ b. cond b 0 (cond (puts f n) (next_place s (h.tail n)) (h.tail n))) runs
          ∙ pointer_goes s fits (puts f n) (h.tail n) (length e) at.tail_is ∙ sym (ap (wrap s.places) long);
      cells = λ i lo hi. stored (puts f n) refl i (omega (arith, rises, lo)) hi;
    }

  -- the reset, whatever the other signals are
  first : Stands 1
  first = record {
    low = omega arith;
    high = omega arith;
    count_is = h.count_goes 0 ∙ ap (λ x. cond (eqb x 1) 0 (next_count s (puts f 0) (pops f 0) (h.count 0))) reset.first;
    head_is = h.head_goes 0 ∙ ap (λ x. cond (eqb x 1) 0 (cond (pops f 0) (next_place s (h.head 0)) (h.head 0))) reset.first;
    tail_is = h.tail_goes 0 ∙ ap (λ x. cond (eqb x 1) 0 (cond (puts f 0) (next_place s (h.tail 0)) (h.tail 0))) reset.first;
    cells = λ i lo hi. absurd (omega arith);
  }

  stands : (k : ℕ) → ((m : ℕ) → 0 < m → m < suc k → HasRoom s.places f m) → Stands (suc k)
  stands zero room = first
  stands (suc k) room = next k (stands k (λ m some less. room m some (omega (arith, less)))) (room (suc k) (omega arith) (omega arith))

  pub keeps_order : (n : ℕ) → 0 < n → ((m : ℕ) → 0 < m → m < n → HasRoom s.places f m) → KeepsOrder s.depth f n
  keeps_order zero z room = absurd (omega arith)
  keeps_order (suc k) z room =
      let at = stands k room in
      let head = at.head_is in
      let within : ltb (h.head (suc k)) s.places ≡ true = lt-ltb (h.head (suc k)) s.places (omega (arith, head, wrap_lt s.places (gone f (suc k)) some)) in
      record {
        order = at.low;
        ready = h.rdy_is (suc k) ∙ ap (λ c. bit (ltb c s.depth)) at.count_is ∙ ap bit (fewer_than (length (entered f (suc k))) (gone f (suc k)) s.depth at.low);
        offer = offers (suc k) at;
        token = λ lt. at.cells (gone f (suc k)) (omega arith) lt
            ∙ ap Some (ap (h.cells (suc k)) (sym head) ∙ sym (h.dout_is (suc k) ∙ cond-true (ltb (h.head (suc k)) s.places) (h.cells (suc k) (h.head (suc k))) 0 within));
      }
