-- A channel, by the numbers of its registers from one cycle to the next.
use Rattle.std.proofs.Common.{◌≡◌, ℕ, zero, suc, ◌+◌, ◌*◌, ◌<◌, ◌≤◌, Bool, true, false, ◌&&◌, cond, eqb, ltb, refl, ap, arith}
use Rattle.std.proofs.lemmas.Bool.{eq-eqb, ne_eqb, cond-true, cond-false}
use Rattle.tapa_base.specs.Operators.{bit}
use Rattle.hw_channel_laws.specs.signals.Signals.{Signal}
use Rattle.hw_channel_laws.specs.signals.Contract.{ChannelPorts}
use Rattle.hw_channel_laws.specs.signals.Fifo.{FifoPorts, FifoSizes, SizesFit, IsFifo, next_place, next_count}
use Rattle.hw_channel_laws.specs.signals.Relay.{RelayPorts, IsStep, IsRelay, Straight, Step, Row}
use Rattle.hw_channel_laws.specs.signals.Channel.{IsChannel, HasChannel}

-- the registers of the FIFO, and those of step i of the relay
record Registers : Type 0 where
  head : ℕ
  tail : ℕ
  count : ℕ
  cells : ℕ → ℕ
  full : ℕ → ℕ
  token : ℕ → ℕ
  room : ℕ → ℕ

module _ (s : FifoSizes) (late : ℕ) (rst wr din take : Signal) where
  -- the nets before step i
  abbrev rdy_at : Registers → ℕ → ℕ
  rdy_at t i = cond (eqb i late) (bit (ltb t.count s.depth)) (t.room i)

  abbrev put_at : ℕ → Registers → ℕ → ℕ
  put_at n t zero = bit (eqb (wr n) 1 && eqb (rdy_at t 0) 1)
  put_at n t (suc i) = t.full i

  abbrev din_at : ℕ → Registers → ℕ → ℕ
  din_at n t zero = din n
  din_at n t (suc i) = t.token i

  abbrev some : Registers → ℕ
  some t = bit (cond (eqb t.count 0) false true)

  abbrev puts_now : ℕ → Registers → Bool
  puts_now n t = eqb (put_at n t late) 1

  abbrev pops_now : ℕ → Registers → Bool
  pops_now n t = eqb (take n) 1 && eqb (some t) 1

  abbrev state : ℕ → Registers
  state zero = record { head = 0; tail = 0; count = 0; cells = λ a. 0; full = λ i. 0; token = λ i. 0; room = λ i. 0 }
  state (suc n) =
      let t = state n in
      record {
        head = cond (eqb (rst n) 1) 0 (cond (pops_now n t) (next_place s t.head) t.head);
        tail = cond (eqb (rst n) 1) 0 (cond (puts_now n t) (next_place s t.tail) t.tail);
        count = cond (eqb (rst n) 1) 0 (next_count s (puts_now n t) (pops_now n t) t.count);
        cells = λ a. cond (puts_now n t && eqb a t.tail) (din_at n t late) (t.cells a);
        full = λ i. cond (eqb (rst n) 1) 0 (put_at n t i);
        token = λ i. cond (eqb (put_at n t i) 1) (din_at n t i) (t.token i);
        room = λ i. cond (eqb (rst n) 1) 0 (rdy_at t (suc i));
      }

  -- the steps from i on before step j
  abbrev between : ℕ → ℕ → RelayPorts
  between i j = record {
    put = λ n. put_at n (state n) i;
    din = λ n. din_at n (state n) i;
    rdy = λ n. rdy_at (state n) i;
    put_late = λ n. put_at n (state n) j;
    din_late = λ n. din_at n (state n) j;
    rdy_early = λ n. rdy_at (state n) j;
  }

  one : (i : ℕ) → i < late → IsStep rst (between i (suc i))
  one i h = record {
    put_goes = λ n. refl;
    din_goes = λ n. refl;
    rdy_goes = λ n. cond-false (eqb i late) (bit (ltb (state (suc n)).count s.depth)) ((state (suc n)).room i) (ne_eqb i late (λ e. omega (arith, e, h)));
  }

  relay : (k i j : ℕ) → i + k ≡ j → j ≤ late → IsRelay rst k (between i j)
  relay zero i j e h =
      let z : i ≡ j = omega (arith, e) in
      Straight 0 (between i j) refl (record {
        put_is = λ n. let back : j ≡ i = omega (arith, z) in ap (put_at n (state n)) back;
        din_is = λ n. let back : j ≡ i = omega (arith, z) in ap (din_at n (state n)) back;
        rdy_is = λ n. ap (rdy_at (state n)) z;
      })
  relay (suc k) i j e h =
      Row (suc k) (between i j) 1 k (between i (suc i)) (between (suc i) j) (omega arith) (record {
        put_first = λ n. refl;
        put_second = λ n. refl;
        put_last = λ n. refl;
        din_first = λ n. refl;
        din_second = λ n. refl;
        din_last = λ n. refl;
        rdy_first = λ n. refl;
        rdy_second = λ n. refl;
        rdy_last = λ n. refl;
      }) (Step 1 (between i (suc i)) refl (one i (omega (arith, e, h)))) (relay k (suc i) j (omega (arith, e)) h)

  abbrev outside : ChannelPorts
  outside = record {
    din = din;
    wr = wr;
    rdy = λ n. rdy_at (state n) 0;
    has = λ n. some (state n);
    dout = λ n. cond (ltb (state n).head s.places) ((state n).cells (state n).head) 0;
    take = take;
  }

  abbrev behind : FifoPorts
  behind = record {
    put = λ n. put_at n (state n) late;
    din = λ n. din_at n (state n) late;
    rdy = λ n. bit (ltb (state n).count s.depth);
    has = λ n. some (state n);
    dout = λ n. cond (ltb (state n).head s.places) ((state n).cells (state n).head) 0;
    take = take;
  }

  fifo : IsFifo s rst behind
  fifo = record {
    head = λ n. (state n).head;
    tail = λ n. (state n).tail;
    count = λ n. (state n).count;
    cells = λ n. (state n).cells;
    rdy_is = λ n. refl;
    has_is = λ n. refl;
    dout_is = λ n. refl;
    head_goes = λ n. refl;
    tail_goes = λ n. refl;
    count_goes = λ n. refl;
    cells_go = λ n a h. refl;
  }

  is_channel : SizesFit s → s.places ≡ s.depth + 2 * late → IsChannel s.depth late rst outside (between 0 late) behind
  is_channel fits e = record {
    sizes = s;
    fits = fits;
    depth_is = refl;
    places_are = e;
    relay = relay late 0 late (omega arith) (omega arith);
    fifo = fifo;
    joined = record {
      put_is = λ n. refl;
      din_is = λ n. refl;
      rdy_is = λ n. refl;
      put_late = λ n. refl;
      din_late = λ n. refl;
      rdy_early = λ n. cond-true (eqb late late) (bit (ltb (state n).count s.depth)) ((state n).room late) (eq-eqb late late refl);
      has_is = λ n. refl;
      dout_is = λ n. refl;
      take_is = λ n. refl;
    };
  }

pub exists : (s : FifoSizes) (late : ℕ) → SizesFit s → s.places ≡ s.depth + 2 * late → (rst wr din take : Signal) → HasChannel s.depth late rst wr din take
exists s late fits e rst wr din take = record {
  c = outside s late rst wr din take;
  p = between s late rst wr din take 0 late;
  f = behind s late rst wr din take;
  is = is_channel s late rst wr din take fits e;
  wr_is = λ n. refl;
  din_is = λ n. refl;
  take_is = λ n. refl;
}
