-- The laws of whole channels.
use Rattle.std.proofs.Common.{◌≡◌, ℕ, ◌+◌, ◌-◌, ◌*◌, ◌<◌, refl, sym, ap, ◌∙◌, subst, arith}
use Rattle.tapa_base.specs.Operators.{bit}
use Rattle.hw_channel_laws.specs.signals.Signals.{Signal, both, Resets}
use Rattle.hw_channel_laws.specs.signals.Contract.{ChannelPorts, MeetsContract}
use Rattle.hw_channel_laws.specs.signals.Fifo.{FifoPorts, FifoSizes, SizesFit, IsFifo, HasRoom, KeepsOrder}
use Rattle.hw_channel_laws.specs.signals.Relay.{RelayPorts}
use Rattle.hw_channel_laws.specs.signals.Channel.{IsPlain, IsChannel}
use Rattle.hw_channel_laws.proofs.signals.Queues.{keeps_order}
use Rattle.hw_channel_laws.proofs.signals.Relays.{late_none, late_same, delays}
use Rattle.hw_channel_laws.proofs.signals.Channels.{Linked, meets, always_room}

plain_linked : (c : ChannelPorts) (f : FifoPorts) → IsPlain c f → Linked 0 c f
plain_linked c f h = record {
  put = late_none (λ n. bit (both c.wr c.rdy n)) f.put 0 refl h.put_is;
  din = λ n le wrote. let z : n ≡ n - 0 = omega arith in h.din_is n ∙ ap c.din z;
  rdy = late_none f.rdy c.rdy 0 refl h.rdy_is;
  has = h.has_is;
  dout = h.dout_is;
  take = h.take_is;
}

pub plain : (s : FifoSizes) → SizesFit s → (rst : Signal) → Resets rst → (c : ChannelPorts) (f : FifoPorts) → IsPlain c f → IsFifo s rst f → MeetsContract s.depth 0 c
plain s fits rst reset c f h fifo = meets s.depth 0 s.places (omega (arith, fits.within)) c f (plain_linked c f h) (keeps_order s fits rst reset f fifo)

module _ (depth late : ℕ) (rst : Signal) (reset : Resets rst) (c : ChannelPorts) (p : RelayPorts) (f : FifoPorts) (h : IsChannel depth late rst c p f) where
  linked : Linked late c f
  linked =
      let d = delays rst reset late p h.relay in
      let j = h.joined in
      record {
        put = late_same p.put p.put_late (λ n. bit (both c.wr c.rdy n)) f.put late j.put_is j.put_late d.put_late;
        din = λ n le wrote. j.din_late n ∙ d.din_late n le (j.put_is (n - late) ∙ ap bit wrote) ∙ j.din_is (n - late);
        rdy = late_same p.rdy_early p.rdy f.rdy c.rdy late j.rdy_early j.rdy_is d.rdy;
        has = j.has_is;
        dout = j.dout_is;
        take = j.take_is;
      }

  keeps : (n : ℕ) → 0 < n → ((m : ℕ) → 0 < m → m < n → HasRoom (depth + 2 * late) f m) → KeepsOrder depth f n
  keeps n some room = subst (λ d. KeepsOrder d f n) h.depth_is (keeps_order h.sizes h.fits rst reset f h.fifo n some (λ m a b. subst (λ x. HasRoom x f m) (sym h.places_are) (room m a b)))

  pub channel : MeetsContract depth late c
  channel = meets depth late (depth + 2 * late) (omega arith) c f linked keeps

  pub room : (n : ℕ) → 0 < n → HasRoom (depth + 2 * late) f n
  room = always_room depth late (depth + 2 * late) (omega arith) c f linked keeps
