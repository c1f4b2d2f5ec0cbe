-- What a task module does: from cycle 1 on its machine makes its next step in each cycle whose inputs allow it.
use Rattle.std.specs.Prelude.{◌≡◌, ℕ, zero, suc, List, [], ◌∷◌, Bool, true, false, ◌&&◌, ◌==◌, not, nat_lt, if◌then◌else◌, slice_get}
use Rattle.tapa_base.specs.declared.token.Token.{Token}
use Rattle.kahn_model.specs.declared.tick.Action.{Action}
use Rattle.kahn_model.specs.declared.tick.Action.TheVariants.{Local, Put, Load, Store}
use Rattle.kahn_model.specs.declared.tick.StreamOperation.{StreamOperation}
use Rattle.kahn_model.specs.Behavior.{Offer, NoToken, judge_token, on_offer, takes}
use Rattle.task_fsm.specs.Run.{StateStep, Performs, Awaits, Completes, Halts, step_at}
use Rattle.hw_lines.specs.After.{at_after, held_after, ends_by}
use Rattle.hw_lines.specs.Signals.{Streams, History, Part}

-- what an operation finds at the reader's end of a stream
abbrev pub offered : Bool → StreamOperation → Token → Offer
offered false how t = NoToken
offered true how t = judge_token how t

abbrev pub offer_in : Streams → ℕ → ℕ → StreamOperation → Offer
offer_in S n s how = offered (S.has s n) how (S.dout s n)

-- the inputs of cycle n allow the step: room for a Put, an answer for a Load or a Store, the right token for an
-- operation. A bad token never does
abbrev pub allows_act : Streams → (ℕ → ℕ → Bool) → (ℕ → ℕ) → ℕ → Action → Bool
allows_act S answers bound n Local = true
allows_act S answers bound n (Put p t) = S.rdy (bound p) n
allows_act S answers bound n (Load m i) = answers m n
allows_act S answers bound n (Store m i v) = answers m n

abbrev pub allows : Streams → (ℕ → ℕ → Bool) → (ℕ → ℕ) → ℕ → StateStep → Bool
allows S answers bound n (Performs a pc σ) = allows_act S answers bound n a
allows S answers bound n (Awaits p how pc into) = on_offer (offer_in S n (bound p) how) false false (λ t v. true)
allows S answers bound n Completes = true
allows S answers bound n Halts = false

-- the value of the token that a step waits for
abbrev pub found : Streams → (ℕ → ℕ) → ℕ → StateStep → ℕ
found S bound n (Performs a pc σ) = 0
found S bound n (Awaits p how pc into) = on_offer (offer_in S n (bound p) how) 0 0 (λ t v. v)
found S bound n Completes = 0
found S bound n Halts = 0

-- whether a step takes a token of stream s, and the tokens that it puts there
abbrev pub takes_of : (ℕ → ℕ) → ℕ → StateStep → Bool
takes_of bound s (Performs a pc σ) = false
takes_of bound s (Awaits p how pc into) = takes how && bound p == s
takes_of bound s Completes = false
takes_of bound s Halts = false

abbrev pub puts_by : (ℕ → ℕ) → ℕ → Action → List Token
puts_by bound s Local = []
puts_by bound s (Put p t) = if bound p == s then t ∷ [] else []
puts_by bound s (Load m i) = []
puts_by bound s (Store m i v) = []

abbrev pub puts_of : (ℕ → ℕ) → ℕ → StateStep → List Token
puts_of bound s (Performs a pc σ) = puts_by bound s a
puts_of bound s (Awaits p how pc into) = []
puts_of bound s Completes = []
puts_of bound s Halts = []

abbrev pub step_in : Part → History → ℕ → StateStep
step_in part h n = step_at (slice_get part.places (h.at n)) (h.at n) (h.holds n)

-- the machine makes its step in cycle n
abbrev pub steps : Part → Streams → (ℕ → ℕ → Bool) → History → ℕ → Bool
steps part S answers h n = not (h.ended n) && allows S answers part.bound n (step_in part h n)

-- and the number of the cycles from 1 to before n in which it does
abbrev pub steps_before : Part → Streams → (ℕ → ℕ → Bool) → History → ℕ → ℕ
steps_before part S answers h zero = 0
steps_before part S answers h (suc n) = if nat_lt 0 n && steps part S answers h n then suc (steps_before part S answers h n) else steps_before part S answers h n

-- the token that is put in a cycle
abbrev pub put_in : Streams → ℕ → ℕ → List Token
put_in S s n = if S.wr s n && S.rdy s n then S.din s n ∷ [] else []

-- cycle 0 is the reset. In each cycle from 1 on the machine makes its step where the inputs allow it, and else keeps what
-- it holds; it takes and puts only by its steps. It speaks for the reader's end of some streams, and for the writer's
-- end of others
pub record RunsMachine (part : Part) (S : Streams) (answers : ℕ → ℕ → Bool) (Reads Writes : ℕ → Type 0) (h : History) : Type 0 where
  pub at_first : h.at 1 ≡ 0
  pub holds_first : h.holds 1 ≡ part.first
  pub not_ended : h.ended 1 ≡ false
  pub at : (n : ℕ) → h.at (suc (suc n)) ≡ (if steps part S answers h (suc n) then at_after (step_in part h (suc n)) (h.at (suc n)) else h.at (suc n))
  pub holds :
      (n : ℕ) → h.holds (suc (suc n)) ≡ (if steps part S answers h (suc n) then held_after (step_in part h (suc n)) (h.holds (suc n))
      (found S part.bound (suc n) (step_in part h (suc n))) else h.holds (suc n))
  pub ended : (n : ℕ) → h.ended (suc (suc n)) ≡ (if steps part S answers h (suc n) then ends_by (step_in part h (suc n)) else h.ended (suc n))
  pub take : (s n : ℕ) → Reads s → S.take s (suc n) ≡ (steps part S answers h (suc n) && takes_of part.bound s (step_in part h (suc n)))
  pub put : (s n : ℕ) → Writes s → put_in S s (suc n) ≡ (if steps part S answers h (suc n) then puts_of part.bound s (step_in part h (suc n)) else [])
