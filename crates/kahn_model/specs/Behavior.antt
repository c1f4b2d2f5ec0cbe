-- What a task does: a tree of its acts and of what it awaits, with a branch for each answer of its streams (an
-- interaction tree: Xia et al., POPL 2020), and its ticks on whole lists of tokens (Kahn, The semantics of a simple
-- language for parallel programming, 1974).
use Rattle.std.specs.Prelude.{◌≡◌, ℕ, pred, List, [], ◌∷◌, Bool, true, false, ◌&&◌, ◌==◌, if◌then◌else◌, drop}
pub use Rattle.kahn_model.specs.declared.tick.Action.{Action}
pub use Rattle.kahn_model.specs.declared.tick.Action.TheVariants.{Local, Put, Load, Store}
pub use Rattle.kahn_model.specs.declared.tick.Tick.{Tick}
pub use Rattle.kahn_model.specs.declared.tick.Tick.TheVariants.{Did, Take, See, End}
pub use Rattle.kahn_model.specs.declared.tick.TraceEnd.{TraceEnd}
pub use Rattle.kahn_model.specs.declared.tick.TraceEnd.TheVariants.{Ended, Needs, Bad, Turns}
pub use Rattle.kahn_model.specs.declared.tick.StreamOperation.{StreamOperation}
pub use Rattle.kahn_model.specs.declared.tick.StreamOperation.TheVariants.{Read, Peek, TestEot, Open}
use Rattle.tapa_base.specs.declared.token.Token.{Token}
use Rattle.tapa_base.specs.declared.token.Token.TheVariants.{Datum, Eot}

-- each path has its acts in order, and a path that would make more tests of a loop than are allowed ends in OutOfTurns
pub data Behavior : Type 0 where
  Finished : Behavior
  OutOfTurns : Behavior
  Act : (a : Action) (rest : Behavior) → Behavior
  Await : (s : ℕ) (how : StreamOperation) (rest : ℕ → Behavior) → Behavior

-- what an operation gets from a list: nothing, a token that it may not have, or a token with the value that it gives (TAPA:
-- read and peek are for data, open is for the end of a transaction, eot says which of them is next)
pub data Offer : Type 0 where
  NoToken : Offer
  WrongToken : Offer
  Answer : (t : Token) (v : ℕ) → Offer

abbrev pub judge_token : StreamOperation → Token → Offer
judge_token Read (Datum v) = Answer (Datum v) v
judge_token Read Eot = WrongToken
judge_token Peek (Datum v) = Answer (Datum v) v
judge_token Peek Eot = WrongToken
judge_token TestEot (Datum v) = Answer (Datum v) 0
judge_token TestEot Eot = Answer Eot 1
judge_token Open (Datum v) = WrongToken
judge_token Open Eot = Answer Eot 0

abbrev pub first_offer : StreamOperation → List Token → Offer
first_offer how [] = NoToken
first_offer how (t ∷ rest) = judge_token how t

abbrev pub takes : StreamOperation → Bool
takes Read = true
takes Peek = false
takes TestEot = false
takes Open = true

abbrev pub tick_of : StreamOperation → ℕ → Token → Tick
tick_of Read s t = Take s t
tick_of Peek s t = See s t
tick_of TestEot s t = See s t
tick_of Open s t = Take s t

-- the lists after an operation on stream s
abbrev pub lists_after : StreamOperation → ℕ → (ℕ → List Token) → ℕ → List Token
lists_after how s ins p = if takes how && s == p then drop 1 (ins p) else ins p

abbrev pub on_offer : {A : Type 0} → Offer → A → A → (Token → ℕ → A) → A
on_offer NoToken a b f = a
on_offer WrongToken a b f = b
on_offer (Answer t v) a b f = f t v

-- the ticks of a behavior on whole lists
abbrev pub ticks : Behavior → (ℕ → List Token) → List Tick
ticks Finished ins = End ∷ []
ticks OutOfTurns ins = []
ticks (Act a rest) ins = Did a ∷ ticks rest ins
ticks (Await s how rest) ins =
    on_offer (first_offer how (ins s)) [] [] (λ t v. tick_of how s t ∷ ticks (rest v) (lists_after how s ins))

-- the end of a behavior on whole lists
abbrev pub trace_end : Behavior → (ℕ → List Token) → TraceEnd
trace_end Finished ins = Ended
trace_end OutOfTurns ins = Turns
trace_end (Act a rest) ins = trace_end rest ins
trace_end (Await s how rest) ins =
    on_offer (first_offer how (ins s)) (Needs s) (Bad s) (λ t v. trace_end (rest v) (lists_after how s ins))

-- the second tree is the first, where the first is not out of turns
abbrev pub Extends : Behavior → Behavior → Type 0
Extends Finished b = b ≡ Finished
Extends OutOfTurns b = Unit {0}
Extends (Act a rest) b = (rest' : Behavior) × (b ≡ Act a rest') × Extends rest rest'
Extends (Await s how rest) b = (rest' : ℕ → Behavior) × (b ≡ Await s how rest') × ((v : ℕ) → Extends (rest v) (rest' v))

-- a path that is out of turns has at least n ticks before
abbrev pub Lasts : Behavior → ℕ → Type 0
Lasts Finished n = Unit {0}
Lasts OutOfTurns n = n ≡ 0
Lasts (Act a rest) n = Lasts rest (pred n)
Lasts (Await s how rest) n = (v : ℕ) → Lasts (rest v) (pred n)
