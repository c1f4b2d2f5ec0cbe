-- What a state waits for is what its step waits for.
use Rattle.std.proofs.Common.{◌≡◌, ℕ, zero, suc, ◌+◌, ◌-◌, ◌*◌, ◌/◌, ◌%◌, ◌^◌, ◌<◌, ◌≤◌, Bool, true, false, cond, eqb, not, ◌&&◌, List, [], ◌∷◌, length, Option, Some, None, inl, inr, refl, sym, ap, subst, ◌∙◌, arith, ⊎_elim, option_map}
use Rattle.std.specs.Prelude.{nat_le, nat_lt, bit_and, slice_get}
use Rattle.std.proofs.Math.Pow.{pow-add}
use Rattle.std.proofs.lemmas.Bool.{cases_lt, lt-ltb, le-ltb, lt-leb, le-leb}
use Rattle.std.proofs.lemmas.Option.{same_Some}
use Rattle.tapa_base.specs.declared.token.Token.TheVariants.{Datum as DatumToken, Eot as EotToken}
use Rattle.tapa_base.specs.Kinds.{bits_of}
use Rattle.tapa_syntax.specs.declared.program.End.{End}
use Rattle.tapa_syntax.specs.LeafKinds.{writes_of}
use Rattle.kahn_model.specs.declared.tick.StreamOperation.{StreamOperation}
use Rattle.kahn_model.specs.declared.tick.StreamOperation.TheVariants.{Read, Peek, TestEot, Open}
use Rattle.kahn_model.specs.Behavior.{Offer, on_offer}
use Rattle.kahn_model.specs.Trace.{State}
use Rattle.vlog_tree.specs.declared.tree.BinaryOp.TheVariants.{And}
use Rattle.vlog_tree.specs.declared.tree.Value.TheVariants.{Invert, Binary}
use Rattle.tapa_base.specs.Lists.{Has}
use Rattle.vlog_tree.specs.Table.{Name, one_if}
use Rattle.vlog_tree.specs.Cycle.{Cycle, Follows, atom_value}
use Rattle.hw_build.specs.Elements.{Wire, built}
use Rattle.hw_build.proofs.Driven.{wire_driven}
use Rattle.hw_build.specs.Fits.{IsAmong}
use Rattle.task_fsm.specs.Machine.{StateForm, SetAt, CellAt, TestAt, ReadAt, WriteAt, PeekAt, EotAt, OpenAt, CloseAt, LoadAt, StoreAt, ClearAt, EndAt, TrapAt}
use Rattle.task_fsm.specs.Ranges.{IsInRange}
use Rattle.task_fsm.specs.Run.{step, is_last, clear_step}
use Rattle.hw_lines.specs.declared.nets.Net.{Net}
use Rattle.hw_lines.specs.declared.nets.Net.TheVariants.{Has as HasNet, Dout, Plain as PlainNet, Datum as DatumNet, Eot as EotNet, Rdy, Ack, At, Go}
use Rattle.hw_lines.specs.Nets.{name}
use Rattle.hw_lines.specs.Shape.{Shape, stream_kind, form_at}
use Rattle.hw_lines.specs.States.{net, awaited, needs_go, go_of}
use Rattle.hw_lines.specs.Effects.{eot_of}
use Rattle.hw_lines.specs.Texts.{by_end, is_written, offers, task_elements}
use Rattle.hw_lines.specs.Signals.{Streams}
use Rattle.hw_lines.specs.Machine.{offered, offer_in}
use Rattle.hw_lines.specs.Runs.{number_at, bit_at, streams_at, StandsAround}
use Rattle.hw_lines.proofs.Members.{all, offer_in as offers_in, go_in}
use Rattle.hw_lines.proofs.Decodes.{at_here}
use Rattle.hw_task_laws.proofs.wires.Shown.{high_bit}
use Rattle.hw_task_laws.specs.steps.Steps.{ranges_in, allowed, halts, IsAt, AwaitedIsAllowed, OthersAreAllowed, GoIsAllowed}
use Rattle.tapa_base.proofs.Got.{got_low}

-- ---- bits

pub as_bit : (h : ℕ) → h < 2 → h ≡ one_if (eqb h 1)
as_bit zero l = refl
as_bit (suc zero) l = refl
as_bit (suc (suc h)) l = absurd (omega (arith, l))

pub bit_back : (b : Bool) → eqb (one_if b) 1 ≡ b
bit_back true = refl
bit_back false = refl

pub one_and : (b : Bool) → bit_and 1 (one_if b) ≡ one_if b
one_and true = refl
one_and false = refl

datum_bits : (a b : Bool) → bit_and (one_if a) (1 - one_if (not b)) ≡ one_if (a && b)
datum_bits true true = refl
datum_bits true false = refl
datum_bits false true = refl
datum_bits false false = refl

end_bits : (a b : Bool) → bit_and (one_if a) (one_if (not b)) ≡ one_if (a && not b)
end_bits true true = refl
end_bits true false = refl
end_bits false true = refl
end_bits false false = refl

above_bit : (u v : ℕ) → cond (nat_le u v) 1 0 % 2 ≡ one_if (not (nat_lt v u))
above_bit u v =
    ⊎_elim (λ (l : v < u). ap (λ b. cond b 1 0 % 2) (lt-leb u v l) ∙ ap (λ b. one_if (not b)) (sym (lt-ltb v u l)))
    (λ (l : u ≤ v). ap (λ b. cond b 1 0 % 2) (le-leb u v l) ∙ ap (λ b. one_if (not b)) (sym (le-ltb v u l)))
    (cases_lt v u)

-- the highest of w + 1 bits
pub top_bit : (v w : ℕ) → v < 2 ^ (w + 1) → (v / 2 ^ w) % 2 ^ (w + 1 - w) ≡ one_if (not (nat_lt v (2 ^ w)))
top_bit v w h =
    let one : w + 1 - w ≡ 1 = omega arith in
    let t : 2 ^ (w + 1) ≡ 2 ^ w * 2 = pow-add 2 w 1 in
    let low : v < 2 ^ w + 2 ^ w = omega (arith, h, t) in
    ap (λ z. (v / 2 ^ w) % 2 ^ z) one ∙ ap (λ z. z % 2) (high_bit (2 ^ w) v low) ∙ above_bit (2 ^ w) v

-- ---- what an operation finds where a token may be there

read_offer : (a b : Bool) (v : ℕ) → on_offer (offered a Read (cond b (DatumToken v) EotToken)) false false (λ t x. true) ≡ (a && b)
read_offer true true v = refl
read_offer true false v = refl
read_offer false b v = refl

peek_offer : (a b : Bool) (v : ℕ) → on_offer (offered a Peek (cond b (DatumToken v) EotToken)) false false (λ t x. true) ≡ (a && b)
peek_offer true true v = refl
peek_offer true false v = refl
peek_offer false b v = refl

test_offer : (a b : Bool) (v : ℕ) → on_offer (offered a TestEot (cond b (DatumToken v) EotToken)) false false (λ t x. true) ≡ a
test_offer true true v = refl
test_offer true false v = refl
test_offer false b v = refl

open_offer : (a b : Bool) (v : ℕ) → on_offer (offered a Open (cond b (DatumToken v) EotToken)) false false (λ t x. true) ≡ (a && not b)
open_offer true true v = refl
open_offer true false v = refl
open_offer false b v = refl

-- ---- streams by their directions

pub stream_there : (ends : List End) (s : ℕ) (b : Bool) → writes_of ends s ≡ Some b → s < length ends
stream_there ends s b h = here (slice_get ends s) refl h where
  here : (o : Option End) → slice_get ends s ≡ o → option_map (λ (e : End). e.writes) o ≡ Some b → s < length ends
  here None e k = cc
  here (Some x) e k = got_low ends s x e

pub side_is : (o : Option End) (b : Bool) → option_map (λ (e : End). e.writes) o ≡ Some b → is_written o ≡ b
side_is None b h = cc
side_is (Some x) b h = same_Some x.writes b h

module _ (S : Shape) (title : Name) (run : ℕ → Cycle) (f : Follows (built title (task_elements S)) run) (cells : ℕ → List (List ℕ)) (around : StandsAround S run cells) (n : ℕ) where
  abbrev W : Streams
  W = streams_at S run

  -- the reader's end of a stream
  module _ (s : ℕ) (reads : writes_of S.streams s ≡ Some false) where
    abbrev bits : ℕ
    bits = bits_of (stream_kind S s)

    abbrev v : ℕ
    v = number_at run (Dout s) n

    abbrev has : Bool
    has = bit_at run (HasNet s) n

    abbrev datum : Bool
    datum = nat_lt v (2 ^ bits)

    offers_among : IsAmong (offers S s) (all S)
    offers_among e h = offers_in S s (stream_there S.streams s false reads) e (subst (λ b. Has (by_end [] (offers S s) b) e) (sym (side_is (slice_get S.streams s) false reads)) h)

    pub has_is : (run n).net (name (HasNet s)) ≡ one_if has
    has_is = as_bit ((run n).net (name (HasNet s))) (around.has n s reads)

    pub eot_is : atom_value (run n) (eot_of S s) ≡ one_if (not datum)
    eot_is = top_bit v bits (around.dout n s reads)

    plain_is : (run n).net (name (PlainNet s)) ≡ 1 - one_if (not datum)
    plain_is =
        wire_driven title (task_elements S) run f 1 (name (PlainNet s)) (Invert (eot_of S s)) (offers_among (Wire 1 (name (PlainNet s)) (Invert (eot_of S s))) (inl refl)) n
        ∙ ap (λ z. 1 - z) eot_is

    datum_is : (run n).net (name (DatumNet s)) ≡ one_if (has && datum)
    datum_is =
        wire_driven title (task_elements S) run f 1 (name (DatumNet s)) (Binary (net (HasNet s)) And (net (PlainNet s)))
        (offers_among (Wire 1 (name (DatumNet s)) (Binary (net (HasNet s)) And (net (PlainNet s)))) (inr (inl refl))) n
        ∙ ap (λ z. bit_and z ((run n).net (name (PlainNet s)))) has_is ∙ ap (bit_and (one_if has)) plain_is ∙ datum_bits has datum

    end_is : (run n).net (name (EotNet s)) ≡ one_if (has && not datum)
    end_is =
        wire_driven title (task_elements S) run f 1 (name (EotNet s)) (Binary (net (HasNet s)) And (eot_of S s))
        (offers_among (Wire 1 (name (EotNet s)) (Binary (net (HasNet s)) And (eot_of S s))) (inr (inr (inl refl)))) n
        ∙ ap (λ z. bit_and z (atom_value (run n) (eot_of S s))) has_is ∙ ap (bit_and (one_if has)) eot_is ∙ end_bits has datum

    pub token_is : W.dout s n ≡ cond datum (DatumToken v) EotToken
    token_is = let e : bits + 1 - 1 ≡ bits = omega arith in ap (λ z. cond (nat_lt v (2 ^ z)) (DatumToken v) EotToken) e

    pub offer_is : (how : StreamOperation) → offer_in W n s how ≡ offered has how (cond datum (DatumToken v) EotToken)
    offer_is how = ap (offered has how) token_is

    -- whether it has the token that an operation waits for
    abbrev right : StreamOperation → Bool
    right how = on_offer (offer_in W n s how) false false (λ t x. true)

    right_is : (how : StreamOperation) (b : Bool) → on_offer (offered has how (cond datum (DatumToken v) EotToken)) false false (λ t x. true) ≡ b → right how ≡ b
    right_is how b e = ap (λ (o : Offer). on_offer o false false (λ t x. true)) (offer_is how) ∙ e

    pub read_right : right Read ≡ (has && datum)
    read_right = right_is Read (has && datum) (read_offer has datum v)

    pub peek_right : right Peek ≡ (has && datum)
    peek_right = right_is Peek (has && datum) (peek_offer has datum v)

    pub test_right : right TestEot ≡ has
    test_right = right_is TestEot has (test_offer has datum v)

    pub open_right : right Open ≡ (has && not datum)
    open_right = right_is Open (has && not datum) (open_offer has datum v)

    read_net : (run n).net (name (DatumNet s)) ≡ one_if (right Read)
    read_net = datum_is ∙ ap one_if (sym read_right)

    peek_net : (run n).net (name (DatumNet s)) ≡ one_if (right Peek)
    peek_net = datum_is ∙ ap one_if (sym peek_right)

    test_net : (run n).net (name (HasNet s)) ≡ one_if (right TestEot)
    test_net = has_is ∙ ap one_if (sym test_right)

    open_net : (run n).net (name (EotNet s)) ≡ one_if (right Open)
    open_net = end_is ∙ ap one_if (sym open_right)

-- ---- the net that a state waits for

module _ (S : Shape) (title : Name) (run : ℕ → Cycle) (f : Follows (built title (task_elements S)) run) (cells : ℕ → List (List ℕ)) (n k : ℕ) (σ : State) (is : IsAt S run f.sizes cells n k σ) where
  ranged : (g : StateForm) → form_at S k ≡ g → IsInRange (ranges_in S) g
  ranged g same = subst (IsInRange (ranges_in S)) same is.shows.ranged

  named : (x w : Net) (b : Bool) → Some x ≡ Some w → (run n).net (name x) ≡ one_if b → (run n).net (name w) ≡ one_if b
  named x w b e h = subst (λ z. (run n).net (name z) ≡ one_if b) (same_Some x w e) h

  pub awaits_is : (g : StateForm) → form_at S k ≡ g → (w : Net) → awaited g ≡ Some w → (run n).net (name w) ≡ one_if (allowed S run n (step g k σ))
  awaits_is (ReadAt s into next) same w h =
      named (DatumNet s) w (allowed S run n (step (ReadAt s into next) k σ)) h (read_net S title run f cells is.around n s (ranged (ReadAt s into next) same).0)
  awaits_is (WriteAt s e next) same w h = named (Rdy s) w (bit_at run (Rdy s) n) h (as_bit ((run n).net (name (Rdy s))) (is.around.rdy n s (ranged (WriteAt s e next) same).0))
  awaits_is (PeekAt s into next) same w h =
      named (DatumNet s) w (allowed S run n (step (PeekAt s into next) k σ)) h (peek_net S title run f cells is.around n s (ranged (PeekAt s into next) same).0)
  awaits_is (EotAt s into next) same w h =
      named (HasNet s) w (allowed S run n (step (EotAt s into next) k σ)) h (test_net S title run f cells is.around n s (ranged (EotAt s into next) same).0)
  awaits_is (OpenAt s next) same w h = named (EotNet s) w (allowed S run n (step (OpenAt s next) k σ)) h (open_net S title run f cells is.around n s (ranged (OpenAt s next) same).0)
  awaits_is (CloseAt s next) same w h = named (Rdy s) w (bit_at run (Rdy s) n) h (as_bit ((run n).net (name (Rdy s))) (is.around.rdy n s (ranged (CloseAt s next) same).0))
  awaits_is (LoadAt m i into next) same w h = named (Ack m) w (bit_at run (Ack m) n) h (as_bit ((run n).net (name (Ack m))) (is.around.ack n m (ranged (LoadAt m i into next) same).0))
  awaits_is (StoreAt m i e next) same w h = named (Ack m) w (bit_at run (Ack m) n) h (as_bit ((run n).net (name (Ack m))) (is.around.ack n m (ranged (StoreAt m i e next) same).0))
  awaits_is _ same w h = cc

  go_there : (g : StateForm) → form_at S k ≡ g → (w : Net) → awaited g ≡ Some w → needs_go g ≡ true → Has (all S) (Wire 1 (name (Go k)) (Binary (net (At k)) And (net w)))
  go_there g same w e l =
      let there : go_of k (awaited (form_at S k)) (needs_go (form_at S k)) ≡ Wire 1 (name (Go k)) (Binary (net (At k)) And (net w)) ∷ [] =
      ap (λ z. go_of k (awaited z) (needs_go z)) same ∙ ap (λ o. go_of k o (needs_go g)) e ∙ ap (go_of k (Some w)) l in
      go_in S k is.shows.low (Wire 1 (name (Go k)) (Binary (net (At k)) And (net w))) (subst (λ es. Has es (Wire 1 (name (Go k)) (Binary (net (At k)) And (net w)))) (sym there) (inl refl))

  pub go_is : (g : StateForm) → form_at S k ≡ g → (w : Net) → awaited g ≡ Some w → needs_go g ≡ true → (run n).net (name (Go k)) ≡ one_if (allowed S run n (step g k σ))
  go_is g same w e l =
      wire_driven title (task_elements S) run f 1 (name (Go k)) (Binary (net (At k)) And (net w)) (go_there g same w e l) n
      ∙ ap (λ z. bit_and z ((run n).net (name w))) (at_here S title run f n k is.shows.low is.shows.here) ∙ ap (bit_and 1) (awaits_is g same w e) ∙ one_and (allowed S run n (step g k σ))

pub awaited_is_allowed : AwaitedIsAllowed
awaited_is_allowed S title run f cells n k σ is w h = awaits_is S title run f cells n k σ is (form_at S k) refl w h

pub go_is_allowed : GoIsAllowed
go_is_allowed S title run f cells n k σ is w h l = go_is S title run f cells n k σ is (form_at S k) refl w h l

-- ---- states that wait for nothing

clear_allowed : (S : Shape) (run : ℕ → Cycle) (n k a c next : ℕ) (σ : State) (b : Bool) → allowed S run n (clear_step b a c k next σ) ≡ not (halts (clear_step b a c k next σ))
clear_allowed S run n k a c next σ true = refl
clear_allowed S run n k a c next σ false = refl

others : (S : Shape) (run : ℕ → Cycle) (n k : ℕ) (σ : State) (g : StateForm) → awaited g ≡ None → allowed S run n (step g k σ) ≡ not (halts (step g k σ))
others S run n k σ (SetAt r e next) h = refl
others S run n k σ (CellAt a i e next) h = refl
others S run n k σ (TestAt e y m) h = refl
others S run n k σ (ClearAt a c next) h = clear_allowed S run n k a c next σ (is_last σ a c)
others S run n k σ EndAt h = refl
others S run n k σ TrapAt h = refl
others S run n k σ _ h = cc

pub others_are_allowed : OthersAreAllowed
others_are_allowed S run n k σ h = others S run n k σ (form_at S k) h
