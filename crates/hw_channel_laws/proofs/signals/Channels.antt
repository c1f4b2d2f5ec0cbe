-- A FIFO behind delays of both sides meets the channel contract.
use Rattle.std.proofs.Common.{◌≡◌, ℕ, zero, suc, ◌+◌, ◌-◌, ◌*◌, ◌<◌, ◌≤◌, Bool, true, false, ◌&&◌, cond, eqb, ltb, List, [], ◌∷◌, ◌++◌, length, Some, refl, sym, ap, ◌∙◌, subst, arith, ⊎_elim}
use Rattle.std.specs.Prelude.{slice_get}
use Rattle.std.proofs.lemmas.Bool.{lt-ltb, le-ltb, ltb-true, eqb-true, and_parts, cases_lt, cases_Bool, cond-true, cond-false}
use Rattle.tapa_base.specs.Operators.{bit}
use Rattle.hw_channel_laws.specs.signals.Signals.{both, ones}
use Rattle.hw_channel_laws.specs.signals.Contract.{ChannelPorts, written, taken, MeetsContract}
use Rattle.hw_channel_laws.specs.signals.Fifo.{FifoPorts, puts, pops, entered, gone, HasRoom, KeepsOrder}
use Rattle.hw_channel_laws.proofs.signals.Pointers.{told, bit_is}
use Rattle.hw_channel_laws.proofs.signals.Tokens.{carried_none, carried_next, longer, grows_to, keeps_to, rises_to, times_same, ones_few, ones_first}
use Rattle.hw_channel_laws.proofs.signals.Relays.{Late}

-- where a token is put in, its number is all that matters
put_in : (b : Bool) (xs : List ℕ) (x y : ℕ) → (b ≡ true → x ≡ y) → cond b (xs ++ x ∷ []) xs ≡ cond b (xs ++ y ∷ []) xs
put_in true xs x y e = ap (λ z. xs ++ z ∷ []) (e refl)
put_in false xs x y e = refl

-- what the wires and the relay say of a channel and its FIFO
pub record Linked (late : ℕ) (c : ChannelPorts) (f : FifoPorts) : Type 0 where
  pub put : Late late (λ n. bit (both c.wr c.rdy n)) f.put
  pub din : (n : ℕ) → late < n → both c.wr c.rdy (n - late) ≡ true → f.din n ≡ c.din (n - late)
  pub rdy : Late late f.rdy c.rdy
  pub has : (n : ℕ) → c.has n ≡ f.has n
  pub dout : (n : ℕ) → c.dout n ≡ f.dout n
  pub take : (n : ℕ) → f.take n ≡ c.take n

module _ (depth late places : ℕ) (fits : depth + 2 * late ≤ places) (c : ChannelPorts) (f : FifoPorts) (l : Linked late c f) (keeps : (n : ℕ) → 0 < n → ((m : ℕ) → 0 < m → m < n → HasRoom places f m) → KeepsOrder depth f n) where
  abbrev w : ℕ → List ℕ
  w n = written c n

  w_none : (n : ℕ) → n ≤ 1 → w n ≡ []
  w_none n h = carried_none (both c.wr c.rdy) c.din n h

  gone_is : (n : ℕ) → gone f n ≡ taken c n
  gone_is n = times_same (pops f) (both c.take c.has) (λ m. ap (λ x. eqb x 1 && eqb (f.has m) 1) (l.take m) ∙ ap (λ x. eqb (c.take m) 1 && eqb x 1) (sym (l.has m))) n

  arrives : (n : ℕ) → entered f n ≡ w (n - late)
  arrives zero = sym (w_none (0 - late) (omega arith))
  arrives (suc zero) = sym (w_none (1 - late) (omega arith))
  arrives (suc (suc k)) =
      let n = suc k in
      let was : entered f n ≡ w (n - late) = arrives (suc k) in
      ⊎_elim
      (λ lt.
      let m = n - late in
      let some : 0 < m = omega (arith, lt) in
      let z : suc n - late ≡ suc m = omega (arith, lt) in
      let put : puts f n ≡ both c.wr c.rdy m =
      ap (λ x. eqb x 1) (l.put n (omega arith) ∙ cond-true (ltb late n) (bit (both c.wr c.rdy m)) 0 (lt-ltb late n lt)) ∙ bit_is (both c.wr c.rdy m) in
      ap (λ b. cond b (entered f n ++ f.din n ∷ []) (entered f n)) put
      ∙ put_in (both c.wr c.rdy m) (entered f n) (f.din n) (c.din m) (l.din n lt)
      ∙ ap (λ xs. cond (both c.wr c.rdy m) (xs ++ c.din m ∷ []) xs) was
      ∙ sym (carried_next (both c.wr c.rdy) c.din m some) ∙ ap w (sym z))
      (λ le.
      let put : puts f n ≡ false = ap (λ x. eqb x 1) (l.put n (omega arith) ∙ cond-false (ltb late n) (bit (both c.wr c.rdy (n - late))) 0 (le-ltb late n le)) in
      ap (λ b. cond b (entered f n ++ f.din n ∷ []) (entered f n)) put ∙ was ∙ w_none (n - late) (omega (arith, le)) ∙ sym (w_none (suc n - late) (omega (arith, le))))
      (cases_lt late n)

  -- there was room up to a cycle
  abbrev Safe : ℕ → Type 0
  Safe n = (m : ℕ) → 0 < m → m < n → HasRoom places f m

  ready : (n m : ℕ) → Safe n → 0 < m → m ≤ n + late → c.rdy m ≡ bit (ltb late m && ltb (length (w (m - 2 * late))) (taken c (m - late) + depth))
  ready n m safe some near =
      ⊎_elim
      (λ lt.
      let k = m - late in
      let z : k - late ≡ m - 2 * late = omega arith in
      l.rdy m some ∙ cond-true (ltb late m) (f.rdy k) 0 (lt-ltb late m lt)
      ∙ (keeps k (omega (arith, lt)) (λ j a b. safe j a (omega (arith, b, near, lt)))).ready
      ∙ ap (λ xs. bit (ltb (length xs) (gone f k + depth))) (arrives k ∙ ap w z)
      ∙ ap (λ r. bit (ltb (length (w (m - 2 * late))) (r + depth))) (gone_is k)
      ∙ sym (ap (λ b. bit (b && ltb (length (w (m - 2 * late))) (taken c k + depth))) (lt-ltb late m lt)))
      (λ le.
      l.rdy m some ∙ cond-false (ltb late m) (f.rdy (m - late)) 0 (le-ltb late m le)
      ∙ sym (ap (λ b. bit (b && ltb (length (w (m - 2 * late))) (taken c (m - late) + depth))) (le-ltb late m le)))
      (cases_lt late m)

  -- the tokens that are written and not taken, and the ready answers of the k cycles from n on
  abbrev Bounded : ℕ → ℕ → Type 0
  Bounded n k = length (w n) + ones c.rdy n k ≤ taken c n + depth + 2 * late

  -- a ready answer in cycle n + k
  answered : (n k : ℕ) → Safe n → 0 < n → k ≤ late → c.rdy (n + k) ≡ 1 → length (w n) + (k + 1) ≤ taken c n + depth + 2 * late
  answered n k safe some near one =
      let m = n + k in
      let say = ready n m safe (omega (arith, some)) (omega (arith, near)) in
      let t = told (ltb late m && ltb (length (w (m - 2 * late))) (taken c (m - late) + depth)) (c.rdy m) say one in
      let parts = and_parts (ltb late m) (ltb (length (w (m - 2 * late))) (taken c (m - late) + depth)) t in
      let lt : late < m = ltb-true late m parts.0 in
      let room : length (w (m - 2 * late)) < taken c (m - late) + depth = ltb-true (length (w (m - 2 * late))) (taken c (m - late) + depth) parts.1 in
      let grown = grows_to (both c.wr c.rdy) c.din (m - 2 * late) n (omega (arith, near)) in
      let more : taken c (m - late) ≤ taken c n = rises_to (both c.take c.has) c.din (m - late) n (omega (arith, near)) in
      ⊎_elim
      (λ short.
      let none : length (w (m - 2 * late)) ≡ 0 = ap length (w_none (m - 2 * late) (omega (arith, short))) in
      omega (arith, none, grown, short))
      (λ far. omega (arith, room, grown, more, far))
      (cases_lt m (2 * late))

  bounded : (n : ℕ) → Safe n → 0 < n → length (w n) ≤ taken c n + depth + 2 * late → (k : ℕ) → k ≤ late + 1 → Bounded n k
  bounded n safe some start zero near = omega (arith, start)
  bounded n safe some start (suc k) near =
      ⊎_elim
      (λ t.
      let one = answered n k safe some (omega (arith, near)) (eqb-true (c.rdy (n + k)) 1 t) in
      omega (arith, one, ones_few c.rdy n k, cond-true (eqb (c.rdy (n + k)) 1) (ones c.rdy n k + 1) (ones c.rdy n k) t))
      (λ t. omega (arith, bounded n safe some start k (omega (arith, near)), cond-false (eqb (c.rdy (n + k)) 1) (ones c.rdy n k + 1) (ones c.rdy n k) t))
      (cases_Bool (eqb (c.rdy (n + k)) 1))

  -- after a cycle, by the ready answer that the producer sees in it
  start_next : (n : ℕ) → 0 < n → Bounded n (late + 1) → length (w (suc n)) ≤ taken c (suc n) + depth + 2 * late
  start_next n some b =
      let long = longer (both c.wr c.rdy) c.din n some in
      let more : taken c n ≤ taken c (suc n) = rises_to (both c.take c.has) c.din n (suc n) (omega arith) in
      let z : late + 1 ≡ suc late = omega arith in
      ⊎_elim
      (λ t.
      let one = ones_first c.rdy n late (eqb-true (c.rdy n) 1 (and_parts (eqb (c.wr n) 1) (eqb (c.rdy n) 1) t).1) in
      omega (arith, one, b, ap (ones c.rdy n) z, more, long, cond-true (both c.wr c.rdy n) (length (w n) + 1) (length (w n)) t))
      (λ t. omega (arith, b, more, long, cond-false (both c.wr c.rdy n) (length (w n) + 1) (length (w n)) t))
      (cases_Bool (both c.wr c.rdy n))

  -- what comes in was allowed `late` cycles ago
  has_room : (n : ℕ) → 0 < n → ((m : ℕ) → 0 < m → m ≤ n → Bounded m (late + 1)) → HasRoom places f n
  has_room n some b put =
      ⊎_elim
      (λ lt.
      let m = n - late in
      let wrote : both c.wr c.rdy m ≡ true = told (both c.wr c.rdy m) (f.put n) (l.put n some ∙ cond-true (ltb late n) (bit (both c.wr c.rdy m)) 0 (lt-ltb late n lt)) put in
      let one = ones_first c.rdy m late (eqb-true (c.rdy m) 1 (and_parts (eqb (c.wr m) 1) (eqb (c.rdy m) 1) wrote).1) in
      let z : late + 1 ≡ suc late = omega arith in
      let limit = b m (omega (arith, lt)) (omega arith) in
      let more : taken c m ≤ taken c n = rises_to (both c.take c.has) c.din m n (omega arith) in
      omega (arith, one, limit, ap (ones c.rdy m) z, more, fits, ap length (arrives n), gone_is n))
      (λ le. let none : ◌≡◌ {A = ℕ} 0 1 = sym (l.put n some ∙ cond-false (ltb late n) (bit (both c.wr c.rdy (n - late))) 0 (le-ltb late n le)) ∙ put in absurd (omega (arith, none)))
      (cases_lt late n)

  record Up (n : ℕ) : Type 0 where
    safe : Safe (suc n)
    room : (m : ℕ) → 0 < m → m ≤ n → Bounded m (late + 1)

  start : (n : ℕ) → Up n → length (w (suc n)) ≤ taken c (suc n) + depth + 2 * late
  start zero up = omega arith
  start (suc n) up = start_next (suc n) (omega arith) (up.room (suc n) (omega arith) (omega arith))

  up_to : (n : ℕ) → Up n
  up_to zero = record { safe = λ m a b. absurd (omega (arith, a, b)); room = λ m a b. absurd (omega (arith, a, b)) }
  up_to (suc n) =
      let up = up_to n in
      let here : Bounded (suc n) (late + 1) = bounded (suc n) up.safe (omega arith) (start n up) (late + 1) (omega arith) in
      let room : (m : ℕ) → 0 < m → m ≤ suc n → Bounded m (late + 1) = λ m a b.
      ⊎_elim (λ lt. up.room m a (omega (arith, lt))) (λ le. let z : suc n ≡ m = omega (arith, le, b) in subst (λ k. Bounded k (late + 1)) z here) (cases_lt m (suc n)) in
      let now = has_room (suc n) (omega arith) room in
      record {
        safe = λ m a b. ⊎_elim (λ lt. up.safe m a lt) (λ le. let z : suc n ≡ m = omega (arith, le, b) in subst (λ k. HasRoom places f k) z now) (cases_lt m (suc n));
        room = room;
      }

  pub always_room : (n : ℕ) → 0 < n → HasRoom places f n
  always_room n some = (up_to n).safe n some (omega arith)

  pub meets : MeetsContract depth late c
  meets = record {
    order = λ n some. let low = (keeps n some (λ m a b. always_room m a)).order in omega (arith, low, gone_is n, ap length (arrives n));
    ready = λ n some. ready n n (λ m a b. always_room m a) some (omega arith);
    offer = λ n some. l.has n ∙ (keeps n some (λ m a b. always_room m a)).offer
        ∙ ap (λ xs. bit (ltb (gone f n) (length xs))) (arrives n) ∙ ap (λ r. bit (ltb r (length (w (n - late))))) (gone_is n);
    token = λ n some lt.
        let same = gone_is n in
        let long = ap length (arrives n) in
        keeps_to (both c.wr c.rdy) c.din (n - late) n (taken c n) (omega arith) lt
        ∙ ap (slice_get (w (n - late))) (sym same) ∙ ap (λ xs. slice_get xs (gone f n)) (sym (arrives n))
        ∙ (keeps n some (λ m a b. always_room m a)).token (omega (arith, lt, same, long)) ∙ ap Some (sym (l.dout n));
    room = λ n some. (up_to n).room n some (omega arith);
  }
