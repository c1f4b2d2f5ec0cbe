-- The rest of a job after ticks: how an implementation of a body says what it denotes.
use Rattle.std.specs.Prelude.{◌≡◌, ℕ, List, [], ◌++◌, length, drop, flat_map, Some, slice_get}
use Rattle.tapa_base.specs.declared.token.Token.{Token}
use Rattle.kahn_model.specs.declared.tick.Tick.{Tick}
use Rattle.kahn_model.specs.declared.tick.Tick.TheVariants.{Did}
use Rattle.kahn_model.specs.declared.tick.Action.TheVariants.{Put}
use Rattle.kahn_model.specs.declared.tick.TraceEnd.{TraceEnd}
use Rattle.kahn_model.specs.declared.tick.TraceEnd.TheVariants.{Ended}
use Rattle.kahn_model.specs.declared.tick.StreamOperation.{StreamOperation}
use Rattle.kahn_model.specs.Prefix.{IsPrefixOf}
use Rattle.kahn_model.specs.Behavior.{Behavior, Finished, OutOfTurns, Act, Await, WrongToken, Answer, judge_token, ticks, trace_end}
use Rattle.kahn_model.specs.Network.{take_from}
use Rattle.net_core.specs.declared.ports.Ports.{Ports}
use Rattle.net_core.specs.declared.body.Pause.{Pause}
use Rattle.net_core.specs.declared.body.Pause.TheVariants.{Ended as HasEnded, WantsRead, WantsWrite, BadToken, Fuel}
use Rattle.net_core.specs.Ports.{waiting, room_at, Moved}
use Rattle.net_core.specs.Resume.{lists_at, HasRoomAt}

-- the rest of a job, or nothing after End
pub data Rest : Type 0 where
  Over : Rest
  Still : (a : Behavior) → Rest

abbrev pub ticks_left : Rest → (ℕ → List Token) → List Tick
ticks_left Over ins = []
ticks_left (Still a) ins = ticks a ins

abbrev pub trace_end_left : Rest → (ℕ → List Token) → TraceEnd
trace_end_left Over ins = Ended
trace_end_left (Still a) ins = trace_end a ins

-- the lists without what the ticks took
abbrev pub left : List Tick → (ℕ → List Token) → ℕ → List Token
left ts ins p = drop (length (flat_map (take_from p) ts)) (ins p)

-- wherever the job makes these ticks, the rest is what it makes then
abbrev pub Follows : (ℕ → Behavior) → List Tick → (ℕ → Rest) → Type 0
Follows job ts rest =
    (n : ℕ) (ins : ℕ → List Token) → IsPrefixOf ts (ticks (job n) ins)
    → (ticks (job n) ins ≡ ts ++ ticks_left (rest n) (left ts ins)) × (trace_end (job n) ins ≡ trace_end_left (rest n) (left ts ins))

-- a call that has made these ticks so far
pub record Going (job : ℕ → Behavior) (ts : List Tick) (before : Ports) (made : List Tick) (after : Ports) (rest : ℕ → Rest) : Type 0 where
  pub follows : Follows job (ts ++ made) rest
  pub moved : Moved before made after
  pub tests : ℕ
  pub runs : IsPrefixOf (ts ++ made) (ticks (job tests) (lists_at ts before))

-- how the rest goes on at these ports
abbrev pub IsReady : Rest → Ports → Type 0
IsReady Over ports = ⊥
IsReady (Still Finished) ports = Unit {0}
IsReady (Still OutOfTurns) ports = ⊥
IsReady (Still (Act a r)) ports = HasRoomAt ports (Did a)
IsReady (Still (Await p how k)) ports = (t : Token) × (v : ℕ) × (slice_get (waiting ports p) 0 ≡ Some t) × (judge_token how t ≡ Answer t v)

abbrev pub IsLook : Rest → Ports → Pause → Type 0
IsLook rest ports HasEnded = rest ≡ Over
IsLook rest ports (WantsRead p) = (how : StreamOperation) × (k : ℕ → Behavior) × (rest ≡ Still (Await p how k)) × (waiting ports p ≡ [])
IsLook rest ports (BadToken p) = (how : StreamOperation) × (k : ℕ → Behavior) × (t : Token) × (rest ≡ Still (Await p how k))
    × (slice_get (waiting ports p) 0 ≡ Some t) × (judge_token how t ≡ WrongToken)
IsLook rest ports (WantsWrite p) = (t : Token) × (r : Behavior) × (rest ≡ Still (Act (Put p t) r)) × (room_at ports p ≡ 0)
IsLook rest ports Fuel = IsReady rest ports
