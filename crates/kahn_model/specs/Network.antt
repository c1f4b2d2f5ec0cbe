-- Networks of tasks and Kahn's rounds: from streams without a token, what the tasks give on what they gave before (Kahn
-- 1974).
use Rattle.std.specs.Prelude.{◌≡◌, ℕ, zero, suc, ◌≤◌, List, [], ◌∷◌, Bool, ◌==◌, if◌then◌else◌, flat_map}
use Rattle.tapa_base.specs.declared.token.Token.{Token}
use Rattle.kahn_model.specs.Behavior.{Action, Put, Tick, Did, Take, Behavior, Finished, OutOfTurns, Act, Await, ticks, Extends, Lasts}

-- a network: for each instance a job, which has a behavior for each number of tests that a run of a loop may make, and
-- whether it is not waited for (TAPA: `invoke<tapa::detach>`); and for each stream its producer, its consumer and its depth
pub record Network : Type 0 where
  pub size : ℕ
  pub job : ℕ → ℕ → Behavior
  pub detached : ℕ → Bool
  pub producer : ℕ → ℕ
  pub consumer : ℕ → ℕ
  pub depth : ℕ → ℕ

-- a behavior puts on no stream and awaits no stream but its own
abbrev pub OwnAct : (ℕ → ℕ) → ℕ → Action → Type 0
OwnAct producer i (Put s t) = producer s ≡ i
OwnAct producer i _ = Unit {0}

abbrev pub Owns : (ℕ → ℕ) → (ℕ → ℕ) → ℕ → Behavior → Type 0
Owns producer consumer i Finished = Unit {0}
Owns producer consumer i OutOfTurns = Unit {0}
Owns producer consumer i (Act a rest) = OwnAct producer i a × Owns producer consumer i rest
Owns producer consumer i (Await s how rest) = (consumer s ≡ i) × ((v : ℕ) → Owns producer consumer i (rest v))

pub record IsNetwork (net : Network) : Type 0 where
  pub grows : (i n m : ℕ) → n ≤ m → Extends (net.job i n) (net.job i m)
  pub lasts : (i n : ℕ) → Lasts (net.job i n) n
  pub owns : (i n : ℕ) → Owns net.producer net.consumer i (net.job i n)

-- the tokens that a tick puts on stream s, and those that it takes from it
abbrev pub put_on : ℕ → Tick → List Token
put_on s (Did (Put r t)) = if r == s then t ∷ [] else []
put_on s _ = []

abbrev pub take_from : ℕ → Tick → List Token
take_from s (Take r t) = if r == s then t ∷ [] else []
take_from s _ = []

-- Kahn's rounds: no stream has a token, and then each job runs on what the round before it gave
abbrev pub stream : Network → ℕ → ℕ → List Token
stream net zero s = []
stream net (suc n) s = flat_map (put_on s) (ticks (net.job (net.producer s) (suc n)) (stream net n))

abbrev pub round : Network → ℕ → ℕ → List Tick
round net zero i = []
round net (suc n) i = ticks (net.job i (suc n)) (stream net n)
